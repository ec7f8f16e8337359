-- Trees without trivia and the lexemes determine the trees with trivia.
use Rattle.std.proofs.Common.{◌≡◌, true, false, List, [], ◌∷◌, map, refl, ap, sym, ◌∙◌, if◌then◌else◌}
use Rattle.rnix_kinds.specs.SyntaxKind.{is_trivia}
use Rattle.rnix_kinds.specs.Lexical.Tokens.{Lexeme}
use Rattle.rnix_green.specs.Forest.{Forest, empty, leaf, node, join}
use Rattle.rnix_grammar.specs.AnnotatedForest.{Token, lexeme_of, AnnotatedForest, blank, token, branch, fault, forget}
use Rattle.rnix_grammar.specs.Layout.{from_item, from_item_if, trivia_before, trivia_if, tail_of, remaining_after, with_trivia, with_all_trivia}
use Rattle.rnix_proof_lemmas.proofs.AnnotatedForestLemmas.{forget-⊕}
use Rattle.rnix_proof_rows.proofs.ReadsShapes.{AreErrorFreeRows}

-- the lexemes from the first item on
abbrev item_lexemes : List Lexeme → List Lexeme
item_lexemes [] = []
item_lexemes (l ∷ ls) = if is_trivia l.0 then item_lexemes ls else l ∷ ls

-- the trivia before the first item, as leaves
abbrev trivia_leaves : List Lexeme → Forest
trivia_leaves [] = empty
trivia_leaves (l ∷ ls) = if is_trivia l.0 then leaf l.0 l.1 (trivia_leaves ls) else empty

abbrev later_lexemes : List Lexeme → List Lexeme
later_lexemes [] = []
later_lexemes (l ∷ ls) = ls

-- the lexemes that remain after the items of some trees
abbrev lexemes_after : Forest → List Lexeme → List Lexeme
lexemes_after empty ls = ls
lexemes_after (leaf k t f) ls = lexemes_after f (later_lexemes (item_lexemes ls))
lexemes_after (node k c f) ls = lexemes_after f (lexemes_after c (item_lexemes ls))

-- trees with the trivia that the lexemes have between their items
abbrev dressed : Forest → List Lexeme → Forest
dressed empty ls = empty
dressed (leaf k t f) ls = join (trivia_leaves ls) (leaf k t (dressed f (later_lexemes (item_lexemes ls))))
dressed (node k c f) ls = join (trivia_leaves ls) (node k (dressed c (item_lexemes ls)) (dressed f (lexemes_after c (item_lexemes ls))))

from_lexemes : (ts : List Token) → map lexeme_of (from_item ts) ≡ item_lexemes (map lexeme_of ts)
from_lexemes [] = refl
from_lexemes (t ∷ ts) =
    elim (is_trivia t.kind) as (λ x. map lexeme_of (from_item_if x t ts (from_item ts))
    ≡ (if x then item_lexemes (map lexeme_of ts) else lexeme_of t ∷ map lexeme_of ts)) [ true ↦ from_lexemes ts | false ↦ refl ]

before_lexemes : (ts : List Token) → forget (trivia_before ts) ≡ trivia_leaves (map lexeme_of ts)
before_lexemes [] = refl
before_lexemes (t ∷ ts) =
    elim (is_trivia t.kind) as (λ x. forget (trivia_if x t (trivia_before ts)) ≡ (if x then leaf t.kind t.text (trivia_leaves (map lexeme_of ts)) else empty))
    [ true ↦ ap (leaf t.kind t.text) (before_lexemes ts) | false ↦ refl ]

later_same : (ts : List Token) → map lexeme_of (tail_of ts) ≡ later_lexemes (map lexeme_of ts)
later_same [] = refl
later_same (t ∷ ts) = refl

-- the lexemes after the first item
behind_first : (ts : List Token) → map lexeme_of (tail_of (from_item ts)) ≡ later_lexemes (item_lexemes (map lexeme_of ts))
behind_first ts = later_same (from_item ts) ∙ ap later_lexemes (from_lexemes ts)

remaining_lexemes : (f : AnnotatedForest) → AreErrorFreeRows f → (ts : List Token)
    → map lexeme_of (remaining_after f ts) ≡ lexemes_after (forget f) (map lexeme_of ts)
remaining_lexemes blank h ts = refl
remaining_lexemes (token k t f) h ts = remaining_lexemes f h (tail_of (from_item ts)) ∙ ap (lexemes_after (forget f)) (behind_first ts)
remaining_lexemes (branch k c f) h ts =
    remaining_lexemes f h.3 (remaining_after c (from_item ts))
    ∙ ap (lexemes_after (forget f)) (remaining_lexemes c h.2 (from_item ts) ∙ ap (lexemes_after (forget c)) (from_lexemes ts))
remaining_lexemes (fault n c f) h ts = absurd h

with_lexemes : (f : AnnotatedForest) → AreErrorFreeRows f → (ts : List Token) → forget (with_trivia f ts) ≡ dressed (forget f) (map lexeme_of ts)
with_lexemes blank h ts = refl
with_lexemes (token k t f) h ts =
    forget-⊕ (trivia_before ts) (token k t (with_trivia f (tail_of (from_item ts))))
    ∙ ap (λ z. join z (leaf k t.text (forget (with_trivia f (tail_of (from_item ts)))))) (before_lexemes ts)
    ∙ ap (λ z. join (trivia_leaves (map lexeme_of ts)) (leaf k t.text z))
    (with_lexemes f h (tail_of (from_item ts)) ∙ ap (dressed (forget f)) (behind_first ts))
with_lexemes (branch k c f) h ts =
    let inside : forget (with_trivia c (from_item ts)) ≡ dressed (forget c) (item_lexemes (map lexeme_of ts)) =
    with_lexemes c h.2 (from_item ts) ∙ ap (dressed (forget c)) (from_lexemes ts) in
    let remaining : map lexeme_of (remaining_after c (from_item ts)) ≡ lexemes_after (forget c) (item_lexemes (map lexeme_of ts)) =
    remaining_lexemes c h.2 (from_item ts) ∙ ap (lexemes_after (forget c)) (from_lexemes ts) in
    let behind : forget (with_trivia f (remaining_after c (from_item ts))) ≡ dressed (forget f) (lexemes_after (forget c) (item_lexemes (map lexeme_of ts))) =
    with_lexemes f h.3 (remaining_after c (from_item ts)) ∙ ap (dressed (forget f)) remaining in
    forget-⊕ (trivia_before ts) (branch k (with_trivia c (from_item ts)) (with_trivia f (remaining_after c (from_item ts))))
    ∙ ap (λ z. join z (node k (forget (with_trivia c (from_item ts))) (forget (with_trivia f (remaining_after c (from_item ts)))))) (before_lexemes ts)
    ∙ ap (λ z. join (trivia_leaves (map lexeme_of ts)) (node k z (forget (with_trivia f (remaining_after c (from_item ts)))))) inside
    ∙ ap (λ z. join (trivia_leaves (map lexeme_of ts)) (node k (dressed (forget c) (item_lexemes (map lexeme_of ts))) z)) behind
with_lexemes (fault n c f) h ts = absurd h

all_lexemes : (f : AnnotatedForest) → AreErrorFreeRows f → (ts : List Token)
    → forget (with_all_trivia f ts) ≡ join (dressed (forget f) (map lexeme_of ts)) (trivia_leaves (lexemes_after (forget f) (map lexeme_of ts)))
all_lexemes f h ts =
    forget-⊕ (with_trivia f ts) (trivia_before (remaining_after f ts))
    ∙ ap (λ z. join z (forget (trivia_before (remaining_after f ts)))) (with_lexemes f h ts)
    ∙ ap (join (dressed (forget f) (map lexeme_of ts))) (before_lexemes (remaining_after f ts) ∙ ap trivia_leaves (remaining_lexemes f h ts))

-- so equal trees with the trivia of equal lexemes are equal
pub dressed_same : (f g : AnnotatedForest) → AreErrorFreeRows f → AreErrorFreeRows g → (ts us : List Token) → forget f ≡ forget g
    → map lexeme_of ts ≡ map lexeme_of us → forget (with_all_trivia f ts) ≡ forget (with_all_trivia g us)
dressed_same f g h w ts us e l =
    all_lexemes f h ts
    ∙ ap (λ z. join (dressed z (map lexeme_of ts)) (trivia_leaves (lexemes_after z (map lexeme_of ts)))) e
    ∙ ap (λ z. join (dressed (forget g) z) (trivia_leaves (lexemes_after (forget g) z))) l
    ∙ sym (all_lexemes g w us)
