-- What a reading depends on in the items ahead: the kind and the start of the next one, and what an operand begins with there.
use Rattle.std.proofs.Common.{◌≡◌, ℕ, ◌≤◌, Bool, false, List, [], ◌∷◌, ◌++◌, Option, Some, None, refl, ap, sym, ◌∙◌, subst, if◌then◌else◌, ◌&&◌, nat_eq, nat_le}
use Rattle.std.proofs.Common.{append-nil}
use Rattle.rnix_kinds.specs.declared.kinds.SyntaxKind.{SyntaxKind}
use Rattle.rnix_kinds.specs.declared.kinds.SyntaxKind.TheVariants.{TOKEN_L_BRACE, NODE_ATTR_SET, NODE_ERROR, NODE_PATTERN}
use Rattle.rnix_grammar.specs.AnnotatedForest.{Token, AnnotatedForest, one_branch, tokens_in, head_kind}
use Rattle.rnix_grammar.specs.OperandStarts.{is_pattern, first_kind, second_kind}
use Rattle.rnix_grammar.specs.FirstKinds.{BeginsAs, IsOperandOf}
use Rattle.rnix_grammar.specs.Levels.{binding_power}
use Rattle.rnix_grammar.specs.Operands.{first_tree, follows, is_continued}
use Rattle.rnix_grammar.specs.TreeLevels.{row_level}
use Rattle.rnix_grammar.specs.declared.rules.Part.TheVariants.{Child, Atom, First, Suffix, Binary}
use Rattle.rnix_grammar.specs.Rules.{Row, ◌·◌, ◌or◌, expects_item, expects, IsExpected}
use Rattle.rnix_grammar.specs.Reads.{IsOver}

-- the kind of the first tree of an operand that begins here
abbrev pub start_kind : ℕ → List Token → SyntaxKind
start_kind level [] = NODE_ERROR
start_kind level (t ∷ ts) = first_kind level t.kind t.text (head_kind ts) (second_kind ts)

-- two lists of items look the same to a reading
abbrev pub Sees : List Token → List Token → Type 0
Sees [] [] = Unit {0}
Sees (t ∷ ts) (u ∷ us) =
    (t.kind ≡ u.kind) × (t.start ≡ u.start) × (is_pattern (Some t.kind) (head_kind ts) ≡ is_pattern (Some u.kind) (head_kind us))
    × ((level : ℕ) → start_kind level (t ∷ ts) ≡ start_kind level (u ∷ us))
Sees ts us = ⊥

pub sees_self : (ts : List Token) → Sees ts ts
sees_self [] = tt
sees_self (t ∷ ts) = (refl, refl, refl, λ level. refl)

pub head_seen : (ts us : List Token) → Sees ts us → head_kind ts ≡ head_kind us
head_seen [] [] h = refl
head_seen (t ∷ ts) (u ∷ us) h = ap Some h.0
head_seen [] (u ∷ us) h = absurd h
head_seen (t ∷ ts) [] h = absurd h

pub pattern_seen : (ts us : List Token) → Sees ts us → is_pattern (head_kind ts) (second_kind ts) ≡ is_pattern (head_kind us) (second_kind us)
pattern_seen [] [] h = refl
pattern_seen (t ∷ ts) (u ∷ us) h = h.2
pattern_seen [] (u ∷ us) h = absurd h
pattern_seen (t ∷ ts) [] h = absurd h

-- the third item matters only if the second and it decide about a pattern
third_seen : (level : ℕ) (kind : SyntaxKind) (text : List ℕ) (second third other : Option SyntaxKind) → is_pattern second third ≡ is_pattern second other
    → first_kind level kind text second third ≡ first_kind level kind text second other
third_seen level TOKEN_L_BRACE text second third other e = ap (λ w. if w then NODE_PATTERN else NODE_ATTR_SET) e
third_seen level _ text second third other e = refl

-- lists that look the same still do after one more item
pub sees_cons : (t : Token) (ts us : List Token) → Sees ts us → Sees (t ∷ ts) (t ∷ us)
sees_cons t ts us h =
    let next : head_kind ts ≡ head_kind us = head_seen ts us h in
    let third : is_pattern (head_kind us) (second_kind ts) ≡ is_pattern (head_kind us) (second_kind us) =
    ap (λ s. is_pattern s (second_kind ts)) (sym next) ∙ pattern_seen ts us h in (
      refl,
      refl,
      ap (is_pattern (Some t.kind)) next,
      λ level. ap (λ s. first_kind level t.kind t.text s (second_kind ts)) next
          ∙ third_seen level t.kind t.text (head_kind us) (second_kind ts) (second_kind us) third,
    )

pub sees_more : (xs ts us : List Token) → Sees ts us → Sees (xs ++ ts) (xs ++ us)
sees_more [] ts us h = h
sees_more (x ∷ xs) ts us h = sees_cons x (xs ++ ts) (xs ++ us) (sees_more xs ts us h)

-- whether a row expects the next item is the same for both
expects_seen : (q : Row) (n : ℕ) (ts us : List Token) → Sees ts us → expects q n ts ≡ expects q n us
expects_seen q n [] [] h = refl
expects_seen q n (t ∷ ts) (u ∷ us) h =
    ap (λ k. expects_item q (nat_eq t.start n) k) h.0 ∙ ap (λ z. expects_item q (nat_eq z n) u.kind) h.1
expects_seen q n [] (u ∷ us) h = absurd h
expects_seen q n (t ∷ ts) [] h = absurd h

pub expected_seen : (q : Row) (n : ℕ) (ts us : List Token) (own : Bool) → Sees ts us → IsExpected q n ts own → IsExpected q n us own
expected_seen (Child kind · r) n ts us own h e = tt
expected_seen (Atom · r) n ts us own h e = tt
expected_seen (First level · r) n ts us own h e = tt
expected_seen (Suffix kind · r) n ts us own h e = tt
expected_seen (Binary · r) n ts us own h e = tt
expected_seen (r or s) n ts us own h e = tt
expected_seen q n ts us own h e = sym (expects_seen q n ts us h) ∙ e

pub over_seen : (s : Row) (n : ℕ) (ts us : List Token) → Sees ts us → IsOver s n ts → IsOver s n us
over_seen s n ts us h o = (o.0, expected_seen s n ts us false h o.1)

-- two trees look the same to a reading
pub record AreSeenAlike (x y : AnnotatedForest) : Type 0 where
  pub level : row_level x ≡ row_level y
  pub first : first_tree x ≡ first_tree y
  pub follow : (i : SyntaxKind) → follows i x ≡ follows i y

pub seen_self : (x : AnnotatedForest) → AreSeenAlike x x
seen_self x = record { level = refl; first = refl; follow = λ i. refl }

-- whether an operand is continued is the same for both
continued_seen : (level : ℕ) (x y : AnnotatedForest) → AreSeenAlike x y → (ts us : List Token) → Sees ts us → is_continued level x ts ≡ is_continued level y us
continued_seen level x y a [] [] h = refl
continued_seen level x y a (t ∷ ts) (u ∷ us) h =
    ap (λ i. follows i x && nat_le level (binding_power i)) h.0 ∙ ap (λ w. w && nat_le level (binding_power u.kind)) (a.follow u.kind)
continued_seen level x y a [] (u ∷ us) h = absurd h
continued_seen level x y a (t ∷ ts) [] h = absurd h

begins_seen : (level : ℕ) (x y : AnnotatedForest) → AreSeenAlike x y → (ts us : List Token) → Sees ts us → BeginsAs level x ts → BeginsAs level y us
begins_seen level x y a [] [] h b = b
begins_seen level x y a (t ∷ ts) (u ∷ us) h b = sym (h.3 level) ∙ b ∙ a.first
begins_seen level x y a [] (u ∷ us) h b = absurd h
begins_seen level x y a (t ∷ ts) [] h b = absurd h

pub operand_seen : (asked : Option ℕ) (x y : AnnotatedForest) → AreSeenAlike x y → (ts us : List Token) → Sees ts us
    → Sees (tokens_in x ++ ts) (tokens_in y ++ us) → IsOperandOf asked x ts → IsOperandOf asked y us
operand_seen None x y a ts us h g o = tt
operand_seen (Some level) x y a ts us h g o = (
  subst (λ n. level ≤ n) a.level o.0,
  begins_seen level x y a (tokens_in x ++ ts) (tokens_in y ++ us) g o.1,
  sym (continued_seen level x y a ts us h) ∙ o.2,
)

-- the items of one node look the same if its children's do
pub sees_node : (j : SyntaxKind) (x y : AnnotatedForest) (ts us : List Token) → Sees (tokens_in x ++ ts) (tokens_in y ++ us)
    → Sees (tokens_in (one_branch j x) ++ ts) (tokens_in (one_branch j y) ++ us)
sees_node j x y ts us h =
    let remaining : tokens_in x ≡ tokens_in (one_branch j x) = sym (append-nil (tokens_in x)) in
    let right : tokens_in y ≡ tokens_in (one_branch j y) = sym (append-nil (tokens_in y)) in
    subst (λ z. Sees (tokens_in (one_branch j x) ++ ts) (z ++ us)) right (subst (λ z. Sees (z ++ ts) (tokens_in y ++ us)) remaining h)
