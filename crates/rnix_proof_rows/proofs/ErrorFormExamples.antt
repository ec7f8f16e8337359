-- Error nodes of small trees: which errors they may be of, and which not.
use Rattle.std.proofs.Common.{◌≡◌, zero, suc, ◌∷◌, [], refl, ap, ◌∙◌, arith}
use Rattle.{std.specs.Prelude.codes, rnix_green.specs.{Forest.{empty, leaf, node}, Range.Extent}}
use Rattle.rnix_green.specs.Tree.{Tree, item}
use Rattle.rnix_grammar.specs.{Fault.{extra, unwanted, double_bind}, Tables.operand_kinds, Ranges.{HasFormOf, HasOtherTokens}}
use Rattle.rnix_proof_lemmas.proofs.Basics.{true_is_not_false, some_same}
use Rattle.rnix_kinds.specs.declared.kinds.SyntaxKind.TheVariants as k

-- `[)]` with an error node over its second token
abbrev list : Tree
list = record {
  kind = k.NODE_ROOT;
  children = node k.NODE_LIST (leaf k.TOKEN_L_BRACK (codes "[") (node k.NODE_ERROR (leaf k.TOKEN_R_PAREN (codes ")") empty)
      (leaf k.TOKEN_R_BRACK (codes "]") empty))) empty;
}

-- its child is a token that begins no operand, so the error may be an unexpected item
bracket_stray : (range : Extent) → HasFormOf list (unwanted k.TOKEN_R_PAREN range operand_kinds) 3
bracket_stray range = (record { token = record { is_there = omega arith; is_token = refl }; parent = refl; kind_is = refl }, by, λ e. refl)
  where
    by : HasOtherTokens list 3 operand_kinds
    by zero h = absurd (let e = h.parent in cc)
    by (suc zero) h = absurd (let e = h.parent in cc)
    by (suc (suc zero)) h = absurd (let e = h.parent in cc)
    by (suc (suc (suc zero))) h = absurd (let e = h.parent in cc)
    by (suc (suc (suc (suc zero)))) h = (record { is_there = omega arith; is_token = refl }, refl)
    by (suc (suc (suc (suc (suc zero))))) h = absurd (let e = h.parent in cc)
    by (suc (suc (suc (suc (suc (suc n)))))) h = absurd (omega (arith, h.is_there))

-- it is no error that lists `)`, since this would have ended the run
wanted_token : (range : Extent) → HasFormOf list (unwanted k.TOKEN_R_PAREN range (k.TOKEN_R_PAREN ∷ [])) 3 → ⊥
wanted_token range h = true_is_not_false (h.1 4 (record { is_there = omega arith; parent = refl })).1

-- it is no error about items after the root's expression, and none about a second name
inside_list : (range : Extent) → HasFormOf list (extra range) 3 → ⊥
inside_list range h = cc

no_pattern : (range : Extent) → HasFormOf list (double_bind range) 3 → ⊥
no_pattern range h =
    let same : 1 ≡ h.parent = some_same 1 h.parent h.is_parent in
    let kind : k.NODE_LIST ≡ k.NODE_PATTERN = ap (λ n. (item list n).kind) same ∙ h.kind_is in
    cc

-- `[a]` with an error node over the name, as a node
abbrev list_of_name : Tree
list_of_name = record {
  kind = k.NODE_ROOT;
  children = node k.NODE_LIST (leaf k.TOKEN_L_BRACK (codes "[") (node k.NODE_ERROR (node k.NODE_IDENT (leaf k.TOKEN_IDENT (codes "a") empty) empty)
      (leaf k.TOKEN_R_BRACK (codes "]") empty))) empty;
}

-- it is no error about unexpected items, since its child is no token
node_inside : (range : Extent) → HasFormOf list_of_name (unwanted k.TOKEN_IDENT range []) 3 → ⊥
node_inside range h = true_is_not_false (h.1 4 (record { is_there = omega arith; parent = refl })).0.is_token

-- `a@{}@b` with an error node over the second name
abbrev pattern : Tree
pattern = record {
  kind = k.NODE_ROOT;
  children = node k.NODE_PATTERN (node k.NODE_PAT_BIND (node k.NODE_IDENT (leaf k.TOKEN_IDENT (codes "a") empty) (leaf k.TOKEN_AT (codes "@") empty))
      (leaf k.TOKEN_L_BRACE (codes "{") (leaf k.TOKEN_R_BRACE (codes "}") (node k.NODE_ERROR (leaf k.TOKEN_AT (codes "@")
      (node k.NODE_IDENT (leaf k.TOKEN_IDENT (codes "b") empty) empty)) empty)))) empty;
}

-- the error node is in the pattern, so the error may be a second name
second_name : (range : Extent) → HasFormOf pattern (double_bind range) 8
second_name range = record { parent = 1; is_parent = refl; kind_is = refl }

not_extra : (range : Extent) → HasFormOf pattern (extra range) 8 → ⊥
not_extra range h = cc
