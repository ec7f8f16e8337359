-- The rules of a reading hold of items with other ranges, if the items touch alike inside paths.
use Rattle.std.proofs.Common.{◌≡◌, ℕ, ◌≤◌, Bool, true, List, [], ◌∷◌, ◌++◌, Option, Some, None, refl, ap, sym, ◌∙◌, subst, if◌then◌else◌, ◌&&◌, ◌||◌, nat_le}
use Rattle.{std.specs.List.list_all, rnix_kinds.{specs.declared.kinds.SyntaxKind.{SyntaxKind, TheVariants.NODE_INTERPOL}, proofs.AllKinds.{all_kinds, every}}}
use Rattle.{rnix_green.specs.{Range.Extent, Equality.same_kind}, rnix_grammar.specs.{UnwantedRun.run_of, AnnotatedForest.{Token, Note, Stray, Unwanted, Extra}}}
use Rattle.rnix_grammar.specs.{AnnotatedForest.{DoubleBind, TooDeep, AnnotatedForest, blank, one_fault, row_of, tokens_in, head_kind}, OperandStarts.first_kind}
use Rattle.rnix_grammar.specs.{FirstKinds.{BeginsAs, IsOperandOf}, Operands.{first_tree, follows, is_continued}, TreeLevels.row_level, Rules.{Row, after, level_at}}
use Rattle.rnix_grammar.specs.{OperandStarts.second_kind, Levels.binding_power, Reads.IsWrong, TokenKinds.is_path_piece}
use Rattle.{rnix_proof_lemmas.proofs.ReachableRows.{IsKnown, every_known}, rnix_proof_layout.proofs.MovedItems.{moved, past, later, moved_trees, moved_two}}
use Rattle.rnix_proof_layout.proofs.{MovedItems.{tokens_after, row_moved, head_moved, second_moved, length_moved, some_moved, run_moved}, Unplaced.unplaced}
use Rattle.rnix_proof_layout.proofs.{Unplaced.{unplaced_moved, alike, row_level_same, first_same, follows_same, asked_same}, Touch.asks_touch}

-- whether the next item continues a tree does not depend on ranges
goes_same : (level : ℕ) (x y : AnnotatedForest) (ts : List Token) (ps : List Extent) → unplaced x ≡ unplaced y
    → is_continued level x ts ≡ is_continued level y (moved ts ps)
goes_same level x y [] ps e = refl
goes_same level x y (t ∷ ts) ps e = ap (λ w. w && nat_le level (binding_power t.kind)) (alike (follows t.kind) (follows_same t.kind) x y e)

begins_same : (level : ℕ) (x y : AnnotatedForest) (ts : List Token) (ps : List Extent) → unplaced x ≡ unplaced y → BeginsAs level x ts
    → BeginsAs level y (moved ts ps)
begins_same level x y [] ps e h = h
begins_same level x y (t ∷ ts) ps e h =
    ap (λ next. first_kind level t.kind t.text next (second_kind (moved ts (later ps)))) (head_moved ts (later ps))
    ∙ ap (λ third. first_kind level t.kind t.text (head_kind ts) third) (second_moved ts (later ps)) ∙ h ∙ alike first_tree first_same x y e

-- whether a tree is an operand before some items does not depend on ranges
operand_same : (asked : Option ℕ) (x : AnnotatedForest) (us : List Token) (ps : List Extent) → IsOperandOf asked x us
    → IsOperandOf asked (moved_trees x ps) (moved us (past (tokens_in x) ps))
operand_same None x us ps h = tt
operand_same (Some level) x us ps h = (
  subst (λ n. level ≤ n) (alike row_level row_level_same x (moved_trees x ps) (sym (unplaced_moved x ps))) h.0,
  subst (BeginsAs level (moved_trees x ps)) (tokens_after x us ps)
      (begins_same level x (moved_trees x ps) (tokens_in x ++ us) ps (sym (unplaced_moved x ps)) h.1),
  sym (goes_same level x (moved_trees x ps) us (past (tokens_in x) ps) (sym (unplaced_moved x ps))) ∙ h.2,
)

-- the same at a position of a row
pub operand_at : (q : Row) (x : AnnotatedForest) (us : List Token) (ps : List Extent) → IsOperandOf (level_at q x) x us
    → IsOperandOf (level_at q (moved_trees x ps)) (moved_trees x ps) (moved us (past (tokens_in x) ps))
operand_at q x us ps h =
    subst (λ asked. IsOperandOf asked (moved_trees x ps) (moved us (past (tokens_in x) ps)))
    (alike (level_at q) (asked_same q) x (moved_trees x ps) (sym (unplaced_moved x ps)))
    (operand_same (level_at q x) x us ps h)

-- the rules for error nodes do not depend on ranges
pub wrong_same : (note : Note) (d : ℕ) (q r : Row) (ts us : List Token) (ps : List Extent) → IsWrong note d q r ts us
    → IsWrong note d q r (moved ts ps) (moved us (past ts ps))
wrong_same Stray d q r ts us ps h = (
  length_moved ts ps ∙ h.0,
  h.1,
  subst (λ x. IsOperandOf (level_at q blank) (one_fault Stray x) (moved us (past ts ps))) (row_moved ts ps)
      (subst (λ xs. IsOperandOf (level_at q blank) (one_fault Stray (moved_trees (row_of ts) ps)) (moved us (past xs ps))) (stray_tokens ts)
      (operand_same (level_at q blank) (one_fault Stray (row_of ts)) us ps h.2)),
  h.3,
)
  where
    stray_tokens : (ts : List Token) → tokens_in (row_of ts) ++ [] ≡ ts
    stray_tokens [] = refl
    stray_tokens (t ∷ ts) = ap (λ xs. t ∷ xs) (stray_tokens ts)
wrong_same (Unwanted until) d q r ts us ps h =
    (some_moved ts ps ∙ h.0, ap (λ xs. moved xs ps) h.1 ∙ sym (run_moved until (ts ++ us) ps) ∙ ap (run_of until) (moved_two ts us ps), h.2)
wrong_same Extra d q r ts us ps h = (some_moved ts ps ∙ h.0, ap (λ xs. moved xs (past ts ps)) h.1, h.2, h.3)
wrong_same DoubleBind d q r ts us ps h = absurd h
wrong_same TooDeep d q r ts us ps h = (ap (λ xs. moved xs (past ts ps)) h.0, h.1, h.2, h.3)

-- a row to which it matters whether an item touches begins after a piece of a path, or after an interpolation
abbrev is_joined : SyntaxKind → Row → Bool
is_joined i q = list_all (λ k. if asks_touch (after q k) then is_path_piece k || same_kind NODE_INTERPOL k else true) all_kinds

pub joined : (i : SyntaxKind) (q : Row) → IsKnown i q → (k : SyntaxKind) → asks_touch (after q k) ≡ true → (is_path_piece k || same_kind NODE_INTERPOL k) ≡ true
joined i q known k a =
    subst (λ w. (if w then is_path_piece k || same_kind NODE_INTERPOL k else true) ≡ true) a
    (every (λ k. if asks_touch (after q k) then is_path_piece k || same_kind NODE_INTERPOL k else true) (every_known is_joined (λ i. refl) refl i q known) k)
