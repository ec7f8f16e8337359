-- It matters whether an item touches the one before it only inside paths.
use Rattle.std.proofs.Common.{◌≡◌, ℕ, Bool, true, false, List, [], ◌∷◌, ◌++◌, Option, Some, refl, ap, sym, ◌∙◌, ◌⊎◌, inl, inr, ◌&&◌, ◌||◌, nat_eq}
use Rattle.{rnix_kinds.specs.declared.kinds.SyntaxKind.SyntaxKind, rnix_green.specs.{Range.Extent, Equality.same_kind}}
use Rattle.rnix_grammar.specs.{declared.rules.Part.TheVariants.{Child, Atom, First, Suffix, Binary, Names, Optional, PathPieces}, TokenKinds.is_piece_start}
use Rattle.rnix_grammar.specs.{AnnotatedForest.{Token, end_from}, Rules.{Row, ◌·◌, ◌or◌, begins_attr, opening, expects_item, expects, IsExpected}}
use Rattle.{rnix_proof_lemmas.proofs.Basics.not_nil, rnix_proof_layout.{proofs.MovedItems.{at, moved, past, later}, specs.AlikeItems.{is_in_path, may_join}}}

-- where it matters, items touch the ones before them with the old ranges exactly if they do with the new ones
abbrev pub Touching : Option SyntaxKind → ℕ → ℕ → List Token → List Extent → Type 0
Touching prev n m [] ps = Unit {0}
Touching prev n m (t ∷ ts) ps = (may_join prev t.kind ≡ true → nat_eq t.start n ≡ nat_eq (at t ps).start m)
    × Touching (Some t.kind) t.end (at t ps).end ts (later ps)

-- the kind of the last item
abbrev pub last_kind : Option SyntaxKind → List Token → Option SyntaxKind
last_kind prev [] = prev
last_kind prev (t ∷ ts) = last_kind (Some t.kind) ts

-- the same from a later item on
pub touching_after : (prev : Option SyntaxKind) (n m : ℕ) (ts us : List Token) (ps : List Extent)
    → Touching prev n m (ts ++ us) ps → Touching (last_kind prev ts) (end_from n ts) (end_from m (moved ts ps)) us (past ts ps)
touching_after prev n m [] us ps h = h
touching_after prev n m (t ∷ ts) us ps h = touching_after (Some t.kind) t.end (at t ps).end ts us (later ps) h.1

pub last_two : (prev : Option SyntaxKind) (ts us : List Token) → last_kind prev (ts ++ us) ≡ last_kind (last_kind prev ts) us
last_two prev [] us = refl
last_two prev (t ∷ ts) us = last_two (Some t.kind) ts us

-- it matters to the row whether the next item touches
abbrev pub asks_touch : Row → Bool
asks_touch (PathPieces · r) = true
asks_touch (Names · r) = asks_touch r
asks_touch (Optional kind · r) = asks_touch r
asks_touch r = false

-- if it matters, a path may continue here, or no item is left
abbrev pub Joins : Row → Option SyntaxKind → List Token → Type 0
Joins q prev ts = (ts ≡ []) ⊎ (asks_touch q ≡ true → is_in_path prev ≡ true)

piece : (a b w : Bool) → (w ≡ true → a ≡ b) → (a && w) ≡ (b && w)
piece a b true h = ap (λ c. c && true) (h refl)
piece true true false h = refl
piece true false false h = refl
piece false true false h = refl
piece false false false h = refl

item_same : (q : Row) (a b : Bool) (k : SyntaxKind) → (asks_touch q ≡ true → is_piece_start k ≡ true → a ≡ b) → expects_item q a k ≡ expects_item q b k
item_same (PathPieces · r) a b k h = piece a b (is_piece_start k) (h refl)
item_same (Names · r) a b k h = ap (λ w. begins_attr k || w) (item_same r a b k h)
item_same (Optional kind · r) a b k h = ap (λ w. same_kind (opening kind) k || w) (item_same r a b k h)
item_same q a b k h = refl

-- so whether the next item is expected does not depend on the ranges
expects_same : (q : Row) (prev : Option SyntaxKind) (n m : ℕ) (ts : List Token) (ps : List Extent) → Joins q prev ts → Touching prev n m ts ps
    → expects q n ts ≡ expects q m (moved ts ps)
expects_same q prev n m [] ps j h = refl
expects_same q prev n m (t ∷ ts) ps (inl e) h = absurd (not_nil e)
expects_same q prev n m (t ∷ ts) ps (inr j) h =
    item_same q (nat_eq t.start n) (nat_eq (at t ps).start m) t.kind (λ a s. h.0 (ap (λ w. w && is_piece_start t.kind) (j a) ∙ s))

pub expected_same : (q : Row) (prev : Option SyntaxKind) (n m : ℕ) (ts : List Token) (ps : List Extent) (own : Bool) → Joins q prev ts → Touching prev n m ts ps
    → IsExpected q n ts own → IsExpected q m (moved ts ps) own
expected_same (Child k · r) prev n m ts ps own j h e = tt
expected_same (Atom · r) prev n m ts ps own j h e = tt
expected_same (First level · r) prev n m ts ps own j h e = tt
expected_same (Suffix k · r) prev n m ts ps own j h e = tt
expected_same (Binary · r) prev n m ts ps own j h e = tt
expected_same (r or s) prev n m ts ps own j h e = tt
expected_same q prev n m ts ps own j h e = sym (expects_same q prev n m ts ps j h) ∙ e
