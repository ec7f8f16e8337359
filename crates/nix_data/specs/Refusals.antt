-- What the results of the reader say.
use Rattle.std.specs.Prelude.{◌≡◌, Bool, true, false, Result, MatchResult, IfErr, Option, Some, None}
use Rattle.nix_data.specs.declared.scalars.Stop.{Stop}
use Rattle.nix_data.specs.declared.scalars.Stop.TheVariants.{Memory, NoData}

-- whether reading stops because a part of the text is not data, and not for lack of memory
abbrev pub is_refusal : Stop → Bool
is_refusal Memory = false
is_refusal (NoData reason) = true

-- a refusal implies this
abbrev pub Refuses : {T : Type 0} → Result T Stop → Type 0 → Type 0
Refuses result refused = IfErr result (λ error. is_refusal error ≡ true → refused)

-- the result is the wanted value; a refusal implies that there is none
abbrev pub Reads : {T U : Type 0} → Result T Stop → Option U → (T → U) → Type 0
Reads result wanted view = MatchResult result (λ found. wanted ≡ Some (view found)) (λ error. is_refusal error ≡ true → wanted ≡ None)

-- the same, unless the text is read lossily
abbrev pub ReadsUnless : {T U : Type 0} → Bool → Result T Stop → Option U → (T → U) → Type 0
ReadsUnless is_lossy result wanted view =
    MatchResult result (λ found. is_lossy ≡ false → wanted ≡ Some (view found)) (λ error. is_refusal error ≡ true → is_lossy ≡ false → wanted ≡ None)
