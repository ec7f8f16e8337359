-- One more token, and the first token that closes nothing.
use Rattle.std.proofs.Common.{◌≡◌, ◌∙◌, Bool, true, false, List, [], ◌∷◌, ◌++◌, reverse, Option, Some, None, ap, sym, refl, arith, if◌then◌else◌}
use Rattle.std.specs.Prelude.{is_some, is_none, not, ◌||◌, option_map}
use Rattle.std.proofs.lemmas.List.{reverse-append}
use Rattle.rnix_kinds.specs.declared.kinds.SyntaxKind.{SyntaxKind}
use Rattle.rnix_kinds.proofs.AllKinds.{implied}
use Rattle.rnix_green.specs.declared.range.TextRange.{TextRange}
use Rattle.rnix_green.specs.Equality.{same_kind}
use Rattle.rnix_green.specs.Range.{Extent, bounds_of}
use Rattle.rnix_green.specs.Tree.{Located, item_of, extent_of}
use Rattle.rnix_green.specs.Walk.{Spot}
use Rattle.nix_diagnostics.specs.Brackets.{opens, closes}
use Rattle.nix_diagnostics.specs.Unmatched.{opener_of, is_open, open_around, closes_none, after_closing, open_after, unmatched_in, unmatched_or}

-- an option without a value is `None`
none_is : {X : Type 0} (o : Option X) → is_none o ≡ true → o ≡ None
none_is None is = refl
none_is (Some x) is = absurd (grind (arith, is))

-- a test whose negation passes is false
not_true : (b : Bool) → not b ≡ true → b ≡ false
not_true true is = absurd (grind (arith, is))
not_true false is = refl

-- a token that neither opens nor closes anything changes nothing
pub passed : (o : Option Extent) (stack : List SyntaxKind) (token : Located) (kind : SyntaxKind) (spots : List Spot) → kind ≡ (item_of token).kind →
    (opens kind || closes kind) ≡ false → unmatched_or o stack ((false, token) ∷ spots) ≡ unmatched_or o stack spots
passed (Some range) stack token kind spots same is = refl
passed None stack token kind spots same is =
    let own = (item_of token).kind in
    let neither : not (opens own || closes own) ≡ true = ap (λ k. not (opens k || closes k)) (sym same) ∙ ap not is in
    let no_opener : opener_of own ≡ None =
    none_is (opener_of own) (implied (λ k. not (opens k || closes k)) (λ k. is_none (opener_of k)) refl own neither) in
    let no_opening : opens own ≡ false =
    not_true (opens own) (implied (λ k. not (opens k || closes k)) (λ k. not (opens k)) refl own neither) in
    (λ i. if closes_none (no_opener i) stack then Some (extent_of token)
    else unmatched_in (if no_opening i then own ∷ after_closing (no_opener i) stack else after_closing (no_opener i) stack) spots)

-- once an unmatched token was found, it stays the result
pub stays : (o : Option TextRange) (stack : List SyntaxKind) (spot : Spot) (spots : List Spot) → is_some o ≡ true →
    unmatched_or (option_map bounds_of o) stack (spot ∷ spots) ≡ unmatched_or (option_map bounds_of o) stack spots
stays None stack spot spots is = absurd (grind (arith, is))
stays (Some range) stack spot spots is = refl

-- a token that closes nothing is the result
pub found_now : (o : Option TextRange) (stack more : List SyntaxKind) (token : Located) (kind : SyntaxKind) (range : TextRange) (spots : List Spot) →
    is_some o ≡ false → kind ≡ (item_of token).kind → closes_none (opener_of kind) stack ≡ true → bounds_of range ≡ extent_of token →
    unmatched_or (option_map bounds_of o) stack ((false, token) ∷ spots) ≡ unmatched_or (Some (bounds_of range)) more spots
found_now (Some r) stack more token kind range spots none kind_is is at = absurd (grind (arith, none))
found_now None stack more token kind range spots none kind_is is at =
    ap (λ b. if b then Some (extent_of token) else unmatched_in (open_after (item_of token).kind stack) spots)
    (ap (λ k. closes_none (opener_of k) stack) (sym kind_is) ∙ is)
    ∙ ap Some (sym at)

-- any other token changes what is open
pub read_on : (o : Option TextRange) (stack more : List SyntaxKind) (token : Located) (kind : SyntaxKind) (spots : List Spot) → is_some o ≡ false →
    kind ≡ (item_of token).kind → closes_none (opener_of kind) stack ≡ false → more ≡ open_after kind stack →
    unmatched_or (option_map bounds_of o) stack ((false, token) ∷ spots) ≡ unmatched_or (option_map bounds_of o) more spots
read_on (Some r) stack more token kind spots none kind_is is after = absurd (grind (arith, none))
read_on None stack more token kind spots none kind_is is after =
    ap (λ b. if b then Some (extent_of token) else unmatched_in (open_after (item_of token).kind stack) spots)
    (ap (λ k. closes_none (opener_of k) stack) (sym kind_is) ∙ is)
    ∙ ap (λ k. unmatched_in (open_after k stack) spots) (sym kind_is)
    ∙ ap (λ remaining. unmatched_in remaining spots) (sym after)

-- what is open after a token that opens something
pub opened : (kind : SyntaxKind) (stack remaining : List SyntaxKind) → opens kind ≡ true → reverse remaining ≡ after_closing (opener_of kind) stack →
    reverse (remaining ++ kind ∷ []) ≡ open_after kind stack
opened kind stack remaining is same =
    reverse-append remaining (kind ∷ []) ∙ ap (λ more. kind ∷ more) same
    ∙ sym (ap (λ b. if b then kind ∷ after_closing (opener_of kind) stack else after_closing (opener_of kind) stack) is)

-- and after one that does not
pub not_opened : (kind : SyntaxKind) (stack remaining : List SyntaxKind) → opens kind ≡ false → reverse remaining ≡ after_closing (opener_of kind) stack →
    reverse remaining ≡ open_after kind stack
not_opened kind stack remaining is same =
    same ∙ sym (ap (λ b. if b then kind ∷ after_closing (opener_of kind) stack else after_closing (opener_of kind) stack) is)

-- at the end of a walk, the result is the token that was found, if any
pub finished : (o : Option TextRange) (stack : List SyntaxKind) → unmatched_or (option_map bounds_of o) stack [] ≡ option_map bounds_of o
finished None stack = refl
finished (Some range) stack = refl

-- an innermost token of another kind does not change whether one of the kind is open
pub is_open_inside : (kind innermost : SyntaxKind) (stack : List SyntaxKind) → same_kind innermost kind ≡ false →
    is_open kind (reverse (stack ++ innermost ∷ [])) ≡ is_open kind (reverse stack)
is_open_inside kind innermost stack other =
    ap (is_open kind) (reverse-append stack (innermost ∷ [])) ∙ ap (λ b. if b then true else is_open kind (reverse stack)) other

-- nor what is open around one
pub around_inside : (kind innermost : SyntaxKind) (stack : List SyntaxKind) → same_kind innermost kind ≡ false →
    open_around kind (reverse (stack ++ innermost ∷ [])) ≡ open_around kind (reverse stack)
around_inside kind innermost stack other =
    ap (open_around kind) (reverse-append stack (innermost ∷ []))
    ∙ ap (λ b. if b then reverse stack else open_around kind (reverse stack)) other

-- if the innermost token is of the kind, one is open
pub is_open_here : (kind innermost : SyntaxKind) (stack : List SyntaxKind) → same_kind innermost kind ≡ true →
    is_open kind (reverse (stack ++ innermost ∷ [])) ≡ true
is_open_here kind innermost stack is =
    ap (is_open kind) (reverse-append stack (innermost ∷ [])) ∙ ap (λ b. if b then true else is_open kind (reverse stack)) is

-- and the other tokens are around it
pub around_here : (kind innermost : SyntaxKind) (stack : List SyntaxKind) → same_kind innermost kind ≡ true →
    open_around kind (reverse (stack ++ innermost ∷ [])) ≡ reverse stack
around_here kind innermost stack is =
    ap (open_around kind) (reverse-append stack (innermost ∷ [])) ∙ ap (λ b. if b then reverse stack else open_around kind (reverse stack)) is
