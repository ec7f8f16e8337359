-- With trivia an error node still contains no wanted item. If it has one item and no trivia at its edges, it contains one token.
use Rattle.std.{specs.List.list_all, proofs.Common.{◌≡◌, Bool, true, false, List, [], ◌∷◌, length, suc, ◌<◌, subst, refl, ap, sym, ◌∙◌, arith, if◌then◌else◌}}
use Rattle.rnix_kinds.{specs.{declared.kinds.SyntaxKind.{SyntaxKind, TheVariants.NODE_ERROR}, SyntaxKind.is_trivia}, proofs.AllKinds.{all_kinds, implied}}
use Rattle.rnix_grammar.specs.declared.expected_set.ExpectedSet.{ExpectedSet, TheVariants.RParen}
use Rattle.rnix_grammar.specs.AnnotatedForest.{Token, Note, Stray, Unwanted, AnnotatedForest, blank, token, branch, fault, tokens_in}
use Rattle.rnix_grammar.specs.{AnnotatedForest.{without_trivia, token_if, HaveLeafKinds}, Layout.{items, item_if}, Rules.is_one_of}
use Rattle.rnix_grammar.specs.{Tables.{operand_kinds, wanted_kinds}, Trim.{BeginsWithItem, EndsWithItem, token_kinds, AreFaultsTrimmed}}
use Rattle.rnix_proof_lemmas.proofs.{Basics.not_if, ReportLemmas.without_trivia_tokens}
use Rattle.rnix_proof_rows.proofs.ErrorForms.{AreOthers, IsFormed, AreFormed}

-- no kind of trivia is wanted
not_trivia : (kinds : List SyntaxKind) → list_all (λ k. if is_trivia k then (if is_one_of kinds k then false else true) else true) all_kinds ≡ true
    → (k : SyntaxKind) → is_trivia k ≡ true → is_one_of kinds k ≡ false
not_trivia kinds h k e = not_if (is_one_of kinds k) (implied is_trivia (λ k. if is_one_of kinds k then false else true) h k e)

trivia_unwanted : (until : ExpectedSet) (k : SyntaxKind) → is_trivia k ≡ true → is_one_of (wanted_kinds until) k ≡ false
trivia_unwanted RParen = not_trivia (wanted_kinds RParen) refl
trivia_unwanted until = not_trivia (wanted_kinds until) refl

-- so a forest of tokens that are not wanted is still one with its trivia
others_if : (kinds : List SyntaxKind) → ((k : SyntaxKind) → is_trivia k ≡ true → is_one_of kinds k ≡ false) → (w : Bool) (k : SyntaxKind) (t : Token)
    (f g : AnnotatedForest) → is_trivia t.kind ≡ w → k ≡ t.kind → (AreOthers kinds g → AreOthers kinds f) → AreOthers kinds (token_if w k t g)
    → (is_one_of kinds k ≡ false) × AreOthers kinds f
others_if kinds none true k t f g e o more h = (ap (is_one_of kinds) o ∙ none t.kind e, more h)
others_if kinds none false k t f g e o more h = (h.0, more h.1)

others_with_trivia : (kinds : List SyntaxKind) → ((k : SyntaxKind) → is_trivia k ≡ true → is_one_of kinds k ≡ false) → (c : AnnotatedForest)
    → HaveLeafKinds NODE_ERROR c → AreOthers kinds (without_trivia c) → AreOthers kinds c
others_with_trivia kinds none blank o h = tt
others_with_trivia kinds none (token k t f) o h =
    others_if kinds none (is_trivia t.kind) k t f (without_trivia f) refl o.0 (others_with_trivia kinds none f o.1) h
others_with_trivia kinds none _ o h = absurd h

-- tokens that end with an item contain an item
has_item : (t : Token) (ts : List Token) → EndsWithItem (token_kinds (t ∷ ts)) → 0 < length (items (t ∷ ts))
has_item t [] e = subst (λ w. 0 < length (item_if w t [])) (sym e) (omega arith)
has_item t (u ∷ ts) e = elim (is_trivia t.kind) as (λ w. 0 < length (item_if w t (items (u ∷ ts)))) [ true ↦ has_item u ts e | false ↦ omega arith ]

-- so tokens with one item and no trivia at their edges are one token
one_token : (ts : List Token) → BeginsWithItem (token_kinds ts) → EndsWithItem (token_kinds ts) → length (items ts) ≡ 1 → length ts ≡ 1
one_token [] b e h = h
one_token (t ∷ []) b e h = refl
one_token (t ∷ (u ∷ ts)) b e h =
    let more : suc (length (items (u ∷ ts))) ≡ 1 = sym (ap (λ w. length (item_if w t (items (u ∷ ts)))) b) ∙ h in
    absurd (omega (arith, more, has_item u ts e))

-- an error node has its form with trivia if it has it without
form_with_trivia : (n : Note) (parent : SyntaxKind) (c : AnnotatedForest) → HaveLeafKinds NODE_ERROR c → BeginsWithItem (token_kinds (tokens_in c))
    → EndsWithItem (token_kinds (tokens_in c)) → IsFormed n parent (without_trivia c) → IsFormed n parent c
form_with_trivia Stray parent c o b e h =
    (others_with_trivia operand_kinds (not_trivia operand_kinds refl) c o h.0, one_token (tokens_in c) b e (sym (ap length (without_trivia_tokens c)) ∙ h.1))
form_with_trivia (Unwanted until) parent c o b e h = others_with_trivia (wanted_kinds until) (trivia_unwanted until) c o h
form_with_trivia _ parent c o b e h = h

formed_if : (w : Bool) (parent k : SyntaxKind) (t : Token) (f : AnnotatedForest) → AreFormed parent (token_if w k t f) → AreFormed parent f
formed_if true parent k t f h = h
formed_if false parent k t f h = h

-- this holds for the error nodes of a forest
pub forms_with_trivia : (parent : SyntaxKind) (f : AnnotatedForest) → HaveLeafKinds parent f → AreFaultsTrimmed f → AreFormed parent (without_trivia f)
    → AreFormed parent f
forms_with_trivia parent blank o x h = tt
forms_with_trivia parent (token k t f) o x h = forms_with_trivia parent f o.1 x (formed_if (is_trivia t.kind) parent k t (without_trivia f) h)
forms_with_trivia parent (branch k c f) o x h = (h.0, forms_with_trivia k c o.0 x.0 h.1, forms_with_trivia parent f o.1 x.1 h.2)
forms_with_trivia parent (fault n c f) o x h = (
  form_with_trivia n parent c o.0 x.0 x.1 h.0,
  forms_with_trivia NODE_ERROR c o.0 x.2 h.1,
  forms_with_trivia parent f o.1 x.3 h.2,
)
