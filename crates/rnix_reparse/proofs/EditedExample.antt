-- The edited text of a small text, by computation.
use Rattle.std.proofs.Common.{◌≡◌, refl}
use Rattle.std.specs.Prelude.{codes}
use Rattle.rnix_reparse.specs.EditedRange.{edited}

-- a name is replaced
replaced_name : edited record { start = 2; end = 3 } (codes "b c") (codes "[ a ]") ≡ codes "[ b c ]"
replaced_name = refl

-- an empty range inserts
inserted_name : edited record { start = 2; end = 2 } (codes "b ") (codes "[ a ]") ≡ codes "[ b a ]"
inserted_name = refl
