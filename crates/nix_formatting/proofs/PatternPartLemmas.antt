-- Commas change no other part of a pattern.
use Rattle.std.proofs.Common.{◌≡◌, ℕ, Bool, true, false, List, refl, ap, sym, ◌∙◌}
use Rattle.std.proofs.lemmas.Bool.{false≢true}
use Rattle.std.specs.Prelude.{not}
use Rattle.rnix_kinds.specs.declared.kinds.SyntaxKind.{SyntaxKind}
use Rattle.rnix_kinds.specs.declared.kinds.SyntaxKind.TheVariants.{NODE_PAT_ENTRY, TOKEN_COMMA, TOKEN_R_BRACE, TOKEN_STRING_CONTENT, TOKEN_WHITESPACE}
use Rattle.rnix_green.specs.Equality.{same_kind, same_kind-decides}
use Rattle.rnix_green.specs.Forest.{Forest, empty, leaf, node}
use Rattle.rnix_grammar.specs.Grammar.{Formals, formals_end, last_entry, entry_comma}
use Rattle.rnix_parser.specs.Significant.{leaf_unless}
use Rattle.nix_formatting.specs.Outline.{outline, text_unless}
use Rattle.nix_formatting.specs.WithoutCommas.{kept_text, without_commas}
use Rattle.nix_formatting.specs.PatternParts.{node_if, trees_of, IsOfParts, KeepsParts, AllowsLastComma}

-- a kind that is selected is none of those that are not
not_selected : (kinds : SyntaxKind → Bool) (k l : SyntaxKind) → kinds l ≡ false → kinds k ≡ true → same_kind k l ≡ false
not_selected kinds k l none is = elim (same_kind k l) as (λ b. same_kind k l ≡ b → b ≡ false) [
  | true ↦ λ e. absurd (false≢true (sym none ∙ sym (ap kinds ((same_kind-decides k l).0 e)) ∙ is))
  | false ↦ λ e. refl
] refl

-- a token that is not selected is left out in any case
left_out : (is_space is_comma : Bool) (kinds : SyntaxKind → Bool) (k : SyntaxKind) (t : List ℕ) (f : Forest) → kinds k ≡ false
    → trees_of kinds (without_commas f) ≡ trees_of kinds (without_commas (leaf_unless is_space k t f))
left_out true is_comma kinds k t f none = refl
left_out false is_comma kinds k t f none =
    elim (same_kind k TOKEN_COMMA) as (λ b. trees_of kinds (without_commas f) ≡ trees_of kinds (leaf_unless b k (kept_text k t) (without_commas f))) [
      | true ↦ refl
      | false ↦ sym (ap (λ b. leaf_unless (not b) k (kept_text k t) (trees_of kinds (without_commas f))) none)
    ]

-- a token that is selected stays
stays : (is_space is_comma is_kept : Bool) (kinds : SyntaxKind → Bool) (k : SyntaxKind) (t : List ℕ) (f g : Forest)
    → same_kind k TOKEN_COMMA ≡ is_comma → kinds k ≡ is_kept → is_space ≡ false → is_comma ≡ false → is_kept ≡ true
    → without_commas f ≡ trees_of kinds (without_commas g)
    → without_commas (leaf_unless is_space k t f) ≡ trees_of kinds (without_commas (leaf_unless is_space k t g))
stays true is_comma is_kept kinds k t f g comma kept no_space no_comma is h = absurd (false≢true (sym no_space))
stays false is_comma is_kept kinds k t f g comma kept no_space no_comma is h =
    let none : same_kind k TOKEN_COMMA ≡ false = comma ∙ no_comma in
    let selected : kinds k ≡ true = kept ∙ is in
    ap (λ b. leaf_unless b k (kept_text k t) (without_commas f)) none
    ∙ ap (leaf k (kept_text k t)) h
    ∙ sym (ap (λ b. trees_of kinds (leaf_unless b k (kept_text k t) (without_commas g))) none
    ∙ ap (λ b. leaf_unless (not b) k (kept_text k t) (trees_of kinds (without_commas g))) selected)

-- a token before other trees
token_selected : (is_kept : Bool) (kinds : SyntaxKind → Bool) (k : SyntaxKind) (t : List ℕ) (f : Forest) → IsOfParts kinds → kinds k ≡ is_kept
    → without_commas (outline (trees_of kinds f)) ≡ trees_of kinds (without_commas (outline f))
    → without_commas (outline (leaf_unless (not is_kept) k t (trees_of kinds f)))
    ≡ trees_of kinds (without_commas (leaf_unless (same_kind k TOKEN_WHITESPACE) k (text_unless (same_kind k TOKEN_STRING_CONTENT) t) (outline f)))
token_selected false kinds k t f parts kept h =
    h ∙ left_out (same_kind k TOKEN_WHITESPACE) (same_kind k TOKEN_COMMA) kinds k (text_unless (same_kind k TOKEN_STRING_CONTENT) t) (outline f) kept
token_selected true kinds k t f parts kept h =
    stays (same_kind k TOKEN_WHITESPACE) (same_kind k TOKEN_COMMA) (kinds k) kinds k (text_unless (same_kind k TOKEN_STRING_CONTENT) t)
    (outline (trees_of kinds f)) (outline f) refl refl (not_selected kinds k TOKEN_WHITESPACE parts.no_space kept)
    (not_selected kinds k TOKEN_COMMA parts.no_comma kept) kept h

-- a node before other trees
node_selected : (is_kept : Bool) (kinds : SyntaxKind → Bool) (k : SyntaxKind) (c f : Forest) → kinds k ≡ is_kept
    → without_commas (outline (trees_of kinds f)) ≡ trees_of kinds (without_commas (outline f))
    → without_commas (outline (node_if is_kept k c (trees_of kinds f)))
    ≡ node_if is_kept k (without_commas (outline c)) (trees_of kinds (without_commas (outline f)))
node_selected true kinds k c f kept h = ap (node k (without_commas (outline c))) h
node_selected false kinds k c f kept h = h

-- selecting trees of some kinds, and leaving out commas and white space
selected : (kinds : SyntaxKind → Bool) → IsOfParts kinds → (f : Forest)
    → without_commas (outline (trees_of kinds f)) ≡ trees_of kinds (without_commas (outline f))
selected kinds parts empty = refl
selected kinds parts (leaf k t f) = token_selected (kinds k) kinds k t f parts refl (selected kinds parts f)
selected kinds parts (node k c f) = node_selected (kinds k) kinds k c f refl (selected kinds parts f)

pub keeps_parts : KeepsParts
keeps_parts kinds old new parts same = selected kinds parts new ∙ ap (trees_of kinds) same ∙ sym (selected kinds parts old)

-- a last comma may follow the last argument
with_comma : (bound : Bool) (names : List (List ℕ)) (c f : Forest) (s t : List ℕ) → Formals bound names (node NODE_PAT_ENTRY c (leaf TOKEN_R_BRACE s f))
    → Formals bound names (node NODE_PAT_ENTRY c (leaf TOKEN_COMMA t (leaf TOKEN_R_BRACE s f)))
with_comma bound names c f s t (last_entry new formal end) = entry_comma new formal (formals_end end)

-- and may be left out
without_comma : (bound : Bool) (names : List (List ℕ)) (c f : Forest) (s t : List ℕ)
    → Formals bound names (node NODE_PAT_ENTRY c (leaf TOKEN_COMMA t (leaf TOKEN_R_BRACE s f)))
    → Formals bound names (node NODE_PAT_ENTRY c (leaf TOKEN_R_BRACE s f))
without_comma bound names c f s t (entry_comma new formal (formals_end end)) = last_entry new formal end

pub allows_last_comma : AllowsLastComma
allows_last_comma bound names c f s t = (with_comma bound names c f s t, without_comma bound names c f s t)
