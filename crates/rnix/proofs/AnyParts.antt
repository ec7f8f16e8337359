-- Each element of a tree without errors has its parts. An element that is no node has the kind of a token, which needs no parts.
use Rattle.std.proofs.Common.{◌≡◌, ℕ, ◌+◌, ◌<◌, Bool, true, false, ◌||◌, List, [], Option, Some, None, refl, ap, sym, ◌∙◌, subst, inl, inr, length}
use Rattle.std.{proofs.lemmas.{Bool.{and_parts, cases_lt}, List.{get_or_past, Folds.list_all-append, Sums.AllPass-from_list_all}}, specs.List.list_all}
use Rattle.{rnix_kinds.specs.{declared.kinds.SyntaxKind.SyntaxKind, SyntaxKind.is_token, Lexical.Tokens.Lexeme}, rnix_green.specs.Equality.same_kind-decides}
use Rattle.rnix_green.specs.{Forest.{Forest, empty, leaf, node, text_of, element_count}, Tree.{Item, Located, IsNodeAt, items_from, items_of, no_item, item_of}}
use Rattle.{rnix_green.specs.Tree.forest_of, rnix_base.specs.Select.HasKind, rnix_grammar.specs.{Shape.item_kinds, Derivation.has_tokens_alone}}
use Rattle.{rnix_grammar.specs.Parsed.IsParsed, rnix_proof_lemmas.proofs.{SpelledLemmas.AreRuled, EntryNames.both_true}, rnix_proof_rows.proofs.PartRows.HasRows}
use Rattle.{rnix_proof_rows.proofs.PartRows.{HasTokens, shaped_rows, parsed_tokens}, rnix.{specs.Whole.HasParts, proofs.{ChildKinds.{node_in, sees}, KindParts.parts}}}
use Rattle.rnix_kinds.specs.declared.kinds.SyntaxKind.TheVariants as k

-- a node has its parts, in a tree whose nodes have their rows
node_parts : (n : Located) → HasRows (forest_of n.tree) → HasTokens (forest_of n.tree) → IsNodeAt n → HasParts (item_of n).kind n
node_parts n r w there =
    let h = node_in n r w there in
    subst (λ (kind : SyntaxKind). HasParts kind n) (sym h.is) (parts h.kind (record { kinds = item_kinds h.children; sees = sees n h; row = h.row }))

-- an element is a node, or has the kind of a token
abbrev is_sound : Item → Bool
is_sound i = i.is_node || is_token i.kind

items_sound : (n s : ℕ) (p : Option ℕ) (f : Forest) → HasTokens f → list_all is_sound (items_from n s p f) ≡ true
items_sound n s p empty h = refl
items_sound n s p (leaf k t f) h =
    let both = and_parts (is_token k) (has_tokens_alone f) h in
    both_true (is_token k) _ both.0 (items_sound (n + 1) (s + length t) p f both.1)
items_sound n s p (node k c f) h =
    let both = and_parts (has_tokens_alone c) (has_tokens_alone f) h in
    list_all-append is_sound (items_from (n + 1) s (Some n) c) (items_from (n + 1 + element_count c) (s + length (text_of c)) p f)
    ∙ both_true _ _ (items_sound (n + 1) s (Some n) c both.0) (items_sound (n + 1 + element_count c) (s + length (text_of c)) p f both.1)

-- a token needs no parts
token_parts : (kind : SyntaxKind) (n : Located) → is_token kind ≡ true → HasParts kind n
token_parts k.NODE_ROOT n e = absurd (cc)
token_parts _ n e = first_of (assumption, cc)

absent_parts : (n : Located) → item_of n ≡ no_item → HasParts (item_of n).kind n
absent_parts n e = subst (λ (i : Item). HasParts i.kind n) (sym e) tt

present_parts : (n : Located) (b : Bool) → (item_of n).is_node ≡ b → HasRows (forest_of n.tree) → HasTokens (forest_of n.tree) →
    n.number < length (items_of n.tree) → is_sound (item_of n) ≡ true → HasParts (item_of n).kind n
present_parts n true e r w there sound = node_parts n r w (record { is_there = there; is_node = e })
present_parts n false e r w there sound = token_parts (item_of n).kind n (sym (ap (λ b. b || is_token (item_of n).kind) e) ∙ sound)

-- any element has its parts, in a tree whose nodes have their rows
any_parts : (n : Located) → HasRows (forest_of n.tree) → HasTokens (forest_of n.tree) → HasParts (item_of n).kind n
any_parts n r w =
    elim (cases_lt n.number (length (items_of n.tree))) [
      | inl there ↦ present_parts n (item_of n).is_node refl r w there
          (AllPass-from_list_all is_sound (items_of n.tree) (items_sound 0 0 None (forest_of n.tree) w) n.number no_item there)
      | inr past ↦ absent_parts n (get_or_past (items_of n.tree) n.number no_item past)
    ]

-- the same for an element of a given kind
pub kind_parts : (kind : SyntaxKind) (n : Located) → HasRows (forest_of n.tree) → HasTokens (forest_of n.tree) → HasKind kind n → HasParts kind n
kind_parts kind n r w is = subst (λ (j : SyntaxKind). HasParts j n) (sym ((same_kind-decides kind (item_of n).kind).0 is)) (any_parts n r w)

-- the same in a tree that is read without errors
pub read_parts : (tokens : List Lexeme) → AreRuled tokens → (kind : SyntaxKind) (n : Located) → IsParsed tokens n.tree [] → HasKind kind n → HasParts kind n
read_parts tokens ruled kind n h is = kind_parts kind n (shaped_rows n.tree (h.shaped.0 refl).0) (parsed_tokens tokens n.tree [] ruled h) is
