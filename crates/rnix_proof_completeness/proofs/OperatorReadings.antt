-- Rows that begin with an operand: operations, calls and selections.
use Rattle.std.{specs.List.list_all, proofs.Common.{◌≡◌, ℕ, Bool, true, false, List, [], ◌∷◌, ◌++◌, Some, None, refl, ap, sym, ◌∙◌, subst, arith, ◌≤◌, ◌&&◌}}
use Rattle.{std.proofs.Common.{◌||◌, if◌then◌else◌, nat_eq, nat_le}, rnix_kinds.specs.declared.kinds.SyntaxKind.{SyntaxKind, TheVariants.TOKEN_CUR_POS}}
use Rattle.rnix_kinds.specs.declared.kinds.SyntaxKind.TheVariants.{TOKEN_DOT, TOKEN_IDENT, TOKEN_OR, TOKEN_QUESTION, NODE_APPLY, NODE_BIN_OP, NODE_HAS_ATTR}
use Rattle.rnix_kinds.{specs.{declared.kinds.SyntaxKind.TheVariants.{NODE_IDENT, NODE_SELECT}, SyntaxKind.is_fn_arg}, proofs.AllKinds.{all_kinds, implied}}
use Rattle.{rnix_green.specs.Forest.{Forest, empty, leaf, node}, rnix_grammar.specs.declared.rules.Part.TheVariants.{Argument, Attrpath, Binary, EndOr}}
use Rattle.rnix_grammar.specs.{declared.rules.Part.TheVariants.{Operand, Suffix}, AnnotatedForest.{Token, AnnotatedForest, one_branch, tokens_in, head_kind}}
use Rattle.rnix_grammar.specs.{AnnotatedForest.leaf_kind_as, FirstKinds.IsOperandOf, Yield.kind_of_token, Grammar.name, Tables.is_or}
use Rattle.rnix_grammar.specs.{TokenKinds.{is_or as is_or_token}, Operands.follows, Levels.{binding_power, max_bp_of, left_of, right_of}, NodeClasses.{fits, is_infix}}
use Rattle.rnix_grammar.specs.{TreeLevels.{calls_or, is_atom_row, level_of, row_level}, Rules.{Row, done, ◌·◌, only, may_end, IsExpected}}
use Rattle.rnix_proof_lemmas.proofs.{Basics.{true_is_not_false, not_if, choice}, EveryKind.{at_most as most_of}, KindsOfNodes.{fits_expression, keeps_kind}}
use Rattle.rnix_proof_lemmas.proofs.{KindsOfNodes.unreported, LevelLemmas.{operates, at_most, at_most_true, atom_fits, atom_simple, fits_looser}}
use Rattle.{rnix_proof_lemmas.proofs.{PlainTables.{binds_at_most, below}, TokenEnds.left_least}, rnix_proof_completeness.proofs.OverTokens.{Over, over_leaf}}
use Rattle.rnix_proof_completeness.proofs.{OverTokens.{over_node, over_nothing, stands_so, expected_so}, PartReads.{Follow, Before, room, Rest, Any, Node}}
use Rattle.rnix_proof_completeness.proofs.PartReads.{node_of, Next, next_leaf, next_end, next_any, anything, finish, finished, leaf_on, item, Placed, node_on}
use Rattle.rnix_proof_completeness.proofs.GoodOperands.{Good, GoodAtom, good_atom, good_before, good_follows, agree, takes_left, operand_level}
use Rattle.rnix_proof_completeness.proofs.GoodOperands.{binds_at_most_more, wide, next_node, argument_opens, operand_on, argument_on, first_on, begins_first}

-- a row ends where it may, if no item that may follow is expected
pub ends : {p : SyntaxKind} {q : Row} {G : Before} {F : Follow} → may_end q ≡ true → ((n : ℕ) → IsExpected q n [] false)
    → ((b : Bool) → list_all (λ i. if F (Some i) then stands_so q b i false else true) all_kinds ≡ true) → Rest p q G F empty
ends {q = q} {F = F} e none some = finish e over
  where
    over : (n : ℕ) (us : List Token) → F (head_kind us) ≡ true → IsExpected q n us false
    over n [] z = none n
    over n (t ∷ ts) z = expected_so q n t ts false (implied (λ i. F (Some i)) (λ i. stands_so q (nat_eq t.start n) i false) (some (nat_eq t.start n)) t.kind z)

-- the kinds of leaves that may have another kind than their token
abbrev is_name : SyntaxKind → Bool
is_name TOKEN_IDENT = true
is_name TOKEN_CUR_POS = true
is_name k = false

-- any other leaf has its token's kind
pub keeps_token_kind : (test : SyntaxKind → Bool) → list_all (λ i. if test i then (if is_name i then false else true) else true) all_kinds ≡ true
    → (k : SyntaxKind) (s : List ℕ) → test k ≡ true → kind_of_token k s ≡ k
keeps_token_kind test h k s e = by k (not_if (is_name k) (implied test (λ i. if is_name i then false else true) h k e))
  where
    by : (k : SyntaxKind) → is_name k ≡ false → kind_of_token k s ≡ k
    by TOKEN_IDENT h = absurd (true_is_not_false h)
    by TOKEN_CUR_POS h = absurd (true_is_not_false h)
    by _ h = refl

-- `a.b` and `a.b or c` are read
pub select_good : {k : SyntaxKind} {a t : Forest} {s : List ℕ} → GoodAtom k a
    → Rest NODE_SELECT (Attrpath · EndOr TOKEN_OR · Operand 16 false · done) Any (binds_at_most 15) t
    → Good 16 NODE_SELECT (node k a (leaf TOKEN_DOT s t))
select_good {k} a r = record {
  level = 16;
  max_bp = 15;
  min_bp = omega arith;
  agrees = refl;
  fit = refl;
  node = node_of refl refl (first_on {H = λ g. is_atom_row g ≡ true} (ap
      (λ w. only w (Suffix TOKEN_DOT · Attrpath · EndOr TOKEN_OR · Operand 16 false · done)) a.atom) refl (λ m ts w. tt)
      (λ g b. unreported k g b (fits_expression 16 k (atom_fits 16 k a.atom))) (λ b o. a.atom) a.node (next_leaf refl)
      (leaf_on refl (λ b. refl) (λ g c. c) (λ g x c. tt) r));
  tight = λ b o. refl;
  begins = begins_first 16 NODE_SELECT (λ b f e. refl) (omega arith) (good_atom a) (next_leaf refl);
}

-- `a ? b` is read
pub has_attr_good : {k : SyntaxKind} {a t : Forest} {s : List ℕ} → Good 13 k a → Rest NODE_HAS_ATTR (Attrpath · done) Any (binds_at_most 13) t
    → Good 13 NODE_HAS_ATTR (node k a (leaf TOKEN_QUESTION s t))
has_attr_good {k} g r = record {
  level = 13;
  max_bp = 13;
  min_bp = omega arith;
  agrees = refl;
  fit = refl;
  node = node_of refl refl (first_on {H = λ g. follows TOKEN_QUESTION g ≡ true} (ap (λ w. only w (Suffix TOKEN_QUESTION · Attrpath · done)) g.fit) refl
      (λ m ts w. tt) (λ x b. unreported k x b (fits_expression 13 k g.fit))
      (good_follows g TOKEN_QUESTION refl (at_most _ 13 refl)) g.node (next_leaf (good_before g TOKEN_QUESTION refl (at_most _ 13 refl)))
      (leaf_on refl (λ b. refl) (λ g c. c) (λ g x c. tt) r));
  tight = λ b o. refl;
  begins = begins_first 13 NODE_HAS_ATTR (λ b f e. refl) (omega arith) g (next_leaf refl);
}

-- an operation of a binary operator is read
pub binary_good : {o j k : SyntaxKind} {a c : Forest} {s : List ℕ} → is_infix o ≡ true → Good (left_of o) j a → Good (right_of o) k c
    → Good (binding_power o) NODE_BIN_OP (node j a (leaf o s (node k c empty)))
binary_good {o} {j} {k} {a} {c} {s} e g h = record {
  level = binding_power o;
  max_bp = max_bp_of o;
  min_bp = omega arith;
  agrees = implied is_infix (λ i. agree (binding_power i) (max_bp_of i)) refl o e;
  fit = implied is_infix (λ i. fits (binding_power i) NODE_BIN_OP) refl o e;
  node = node_of refl refl (first_on {H = λ g. follows o g ≡ true} (ap (λ w. only w (Binary · done)) operand) refl (λ m ts w. tt)
      (λ x b. unreported j x b (fits_expression (left_of o) j g.fit))
      (good_follows g o takes level) g.node (next_leaf (ap (λ i. binds_at_most g.max_bp (Some i)) kind_kept ∙ good_before g o takes level))
      (leaf_on (sym (keeps_kind NODE_BIN_OP (kind_of_token o s) refl ∙ kind_kept)) (λ b. refl) (λ g c. c) (λ g x c. tt)
      (subst (λ w. Rest NODE_BIN_OP (only w (Operand (right_of o) false · done)) Any (binds_at_most (max_bp_of o)) (node k c empty)) (sym e)
      (operand_on h refl (next_end (λ i z. binds_at_most_more (max_bp_of o) (below (right_of o)) i
      (most_of is_infix max_bp_of (λ i. below (right_of i)) refl o e) z)) finished))));
  tight = tight;
  begins = begins_first (binding_power o) NODE_BIN_OP (λ b f e. refl) (left_least o e) g
      (next_leaf (ap (λ i. binds_at_most 16 (Some i)) kind_kept ∙ implied is_infix (λ i. binds_at_most 16 (Some i)) refl o e));
}
  where
    kind_kept : kind_of_token o s ≡ o
    kind_kept = keeps_token_kind is_infix refl o s e

    takes : takes_left o ≡ true
    takes = implied is_infix takes_left refl o e

    level : operand_level o ≤ left_of o
    level = most_of is_infix operand_level left_of refl o e

    operand : fits 12 j ≡ true
    operand = let w = (operates o e).positive in let v = left_least o e in fits_looser 1 (left_of o) j (omega (arith, w, v)) g.fit

    tight : (b : AnnotatedForest) → Over (node j a (leaf o s (node k c empty))) b → nat_le (binding_power o) (level_of NODE_BIN_OP b) ≡ true
    tight b (over_node u (over_leaf w i v)) = at_most_true (binding_power o) (binding_power o) (omega arith)

-- `a b` is read
pub apply_good : {j k : SyntaxKind} {a b : Forest} → Good 15 j a → Good 16 k b → Good 15 NODE_APPLY (node j a (node k b empty))
apply_good {j} {k} {a} {b} g h = record {
  level = 15;
  max_bp = 15;
  min_bp = omega arith;
  agrees = refl;
  fit = refl;
  node = node_of refl refl (first_on {H = λ g. nat_le 15 (row_level g) ≡ true} (ap (λ w. only w (Argument · done)) g.fit) refl (λ m ts w. tt)
      (λ x b. unreported j x b (fits_expression 15 j g.fit))
      tight g.node (next_node is_fn_arg (λ i t. good_before g i (implied is_fn_arg takes_left refl i t) (most_of is_fn_arg operand_level (λ i. 15) refl i t))
      (argument_opens h)
      (next_end (wide 15))) (argument_on h (next_end (λ o z. z)) finished));
  tight = λ b o. choice (λ l. nat_le 15 l ≡ true) (calls_or b) refl refl;
  begins = begins_first 15 NODE_APPLY (λ b f e. refl) (omega arith) g (next_node is_fn_arg (implied is_fn_arg (λ i. binds_at_most 16 (Some i)) refl)
      (argument_opens h) (next_end (λ o z. z)));
}
  where
    tight : (c : AnnotatedForest) → Over a c → nat_le 15 (level_of j c) ≡ true
    tight c o = let x = g.min_bp in let y = at_most g.level (level_of j c) (g.tight c o) in at_most_true 15 (level_of j c) (omega (arith, x, y))

or_kind : (s : List ℕ) → is_or s ≡ true → kind_of_token TOKEN_IDENT s ≡ TOKEN_OR
or_kind s h = ap (λ w. if w then TOKEN_OR else TOKEN_IDENT) h

-- the node of a name is read
pub name_node : {F : Follow} {s : List ℕ} → Node F NODE_IDENT (leaf TOKEN_IDENT s empty)
name_node {s = s} = node_of {G = Any} refl tt (item (choice (λ k. TOKEN_IDENT ≡ leaf_kind_as NODE_IDENT k) (is_or s) refl refl) (λ b. refl) (λ g. tt) finished)

-- a call of an atom with the name `or` is read
pub apply_or_good : {k : SyntaxKind} {a : Forest} {t : List ℕ} → GoodAtom k a → is_or t ≡ true → Good 16 NODE_APPLY (node k a (name t empty))
apply_or_good {k} {a} {t} g h = record {
  level = 16;
  max_bp = 15;
  min_bp = omega arith;
  agrees = refl;
  fit = refl;
  node = node_of refl refl (first_on {H = λ g. is_atom_row g ≡ true} (ap (λ w. only w (Argument · done)) (atom_simple k g.atom)) refl (λ m ts w. tt)
      (λ x b. unreported k x b (fits_expression 16 k (atom_fits 16 k g.atom))) (λ b o. g.atom) g.node (before _ _ refl)
      (node_on {H = Any} {N = anything} refl (λ d m. (
        λ y. absurd (true_is_not_false (sym y)),
        (room NODE_APPLY NODE_IDENT (leaf TOKEN_IDENT t empty) empty d m).0,
      )) placed (λ x b o w. tt) name_node next_any finished));
  tight = tight;
  begins = begins_first 16 NODE_APPLY (λ b f e. refl) (omega arith) (good_atom g) (before _ _ refl);
}
  where
    placed : (m : ℕ) (x b : AnnotatedForest) (vs : List Token) → Over (leaf TOKEN_IDENT t empty) b → is_atom_row x ≡ true → anything (head_kind vs) ≡ true
        → Placed (Argument · done) m x NODE_IDENT b vs
    placed m x b vs (over_leaf {x = y} e i over_nothing) w z = (
      refl,
      subst (λ j. ((is_fn_arg j || is_or_token j) && follows j x) ≡ true) (sym (e ∙ or_kind t h)) w,
      subst (λ j. IsOperandOf (if is_or_token j then None else Some 16) (one_branch NODE_IDENT b) vs) (sym (e ∙ or_kind t h)) tt,
      refl,
    )

    before : (l : ℕ) (F : Follow) → binds_at_most l (Some TOKEN_OR) ≡ true → Next (binds_at_most l) F (name t empty)
    before l F e = record { next = first }
      where
        first : (f : AnnotatedForest) (us : List Token) → Over (name t empty) f → F (head_kind us) ≡ true
            → binds_at_most l (head_kind (tokens_in f ++ us)) ≡ true
        first f us (over_node (over_leaf w i over_nothing) v) z = ap (λ j. binds_at_most l (Some j)) (w ∙ or_kind t h) ∙ e

    tight : (b : AnnotatedForest) → Over (node k a (name t empty)) b → nat_le 16 (level_of NODE_APPLY b) ≡ true
    tight b (over_node o (over_node (over_leaf w i over_nothing) v)) = ap (λ j. nat_le 16 (if is_or_token j then 16 else 15)) (w ∙ or_kind t h)
