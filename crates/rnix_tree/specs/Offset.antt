-- The tokens at an offset.
use Rattle.std.specs.Prelude.{◌≡◌, ◌<◌, ◌≤◌, ◌⊎◌, ℕ, List, [], ◌∷◌, Option, Some, None}
use Rattle.rnix_green.specs.Tree.{Located, item}
use Rattle.rnix_green.specs.Relatives.{IsTokenInside}
use Rattle.rnix_tree.specs.declared.offset.TokenAtOffset.{TokenAtOffset}
use Rattle.rnix_tree.specs.declared.offset.TokenAtOffset.TheVariants as at

-- a token inside e that is not empty, and whose closed range contains the offset
pub record IsTouched (e : Located) (offset m : ℕ) : Type 0 where
  pub inside : IsTokenInside e m
  pub some : (item e.tree m).start < (item e.tree m).end
  pub low : (item e.tree m).start ≤ offset
  pub high : offset ≤ (item e.tree m).end

-- the tokens inside e at an offset: none, one, or two, of which the left one comes first
abbrev pub AreTouched : Located → ℕ → TokenAtOffset Located → Type 0
AreTouched e offset at.None = (m : ℕ) → ¬ IsTouched e offset m
AreTouched e offset (at.Single a) = (a.tree ≡ e.tree) × IsTouched e offset a.number × ((m : ℕ) → IsTouched e offset m → m ≡ a.number)
AreTouched e offset (at.Between a b) =
    (a.tree ≡ e.tree) × (b.tree ≡ e.tree) × (a.number < b.number) × IsTouched e offset a.number × IsTouched e offset b.number
    × ((m : ℕ) → IsTouched e offset m → (m ≡ a.number) ⊎ (m ≡ b.number))

-- the token inside e that contains the byte before the offset
pub record IsHolding (e : Located) (offset m : ℕ) : Type 0 where
  pub inside : IsTokenInside e m
  pub low : (item e.tree m).start < offset
  pub high : offset ≤ (item e.tree m).end

-- the left one of two tokens, or the only one
abbrev pub left_of : {T : Type 0} → TokenAtOffset T → Option T
left_of at.None = None
left_of (at.Single a) = Some a
left_of (at.Between a b) = Some a

-- the right one of two tokens, or the only one
abbrev pub right_of : {T : Type 0} → TokenAtOffset T → Option T
right_of at.None = None
right_of (at.Single a) = Some a
right_of (at.Between a b) = Some b

-- the tokens, the left one first
abbrev pub tokens_of : {T : Type 0} → TokenAtOffset T → List T
tokens_of at.None = []
tokens_of (at.Single a) = a ∷ []
tokens_of (at.Between a b) = a ∷ b ∷ []

-- P holds of each token
abbrev pub ForTokens : {T : Type 0} → (T → Type 0) → TokenAtOffset T → Type 0
ForTokens P at.None = Unit {0}
ForTokens P (at.Single a) = P a
ForTokens P (at.Between a b) = P a × P b

-- there is one token, and P holds of it
abbrev pub IsSingle : {T : Type 0} → (T → Type 0) → TokenAtOffset T → Type 0
IsSingle P at.None = ⊥
IsSingle P (at.Single a) = P a
IsSingle P (at.Between a b) = ⊥

-- there are two, P holds of the left one and Q of the right one
abbrev pub IsBetween : {T : Type 0} → (T → Type 0) → (T → Type 0) → TokenAtOffset T → Type 0
IsBetween P Q at.None = ⊥
IsBetween P Q (at.Single a) = ⊥
IsBetween P Q (at.Between a b) = P a × Q b

-- there are as many tokens in both, and the relation holds of each pair
abbrev pub MapsTokens : {T U : Type 0} → (T → U → Type 0) → TokenAtOffset T → TokenAtOffset U → Type 0
MapsTokens makes at.None r = r ≡ at.None
MapsTokens makes (at.Single a) r = IsSingle (makes a) r
MapsTokens makes (at.Between a b) r = IsBetween (makes a) (makes b) r
