-- Entries that end between errors, on worked examples.
use Rattle.std.proofs.Common.{◌≡◌, List, [], ◌∷◌, true, false, refl}
use Rattle.nix_diagnostics.specs.declared.semicolons.Semicolon.{Semicolon}
use Rattle.nix_diagnostics.specs.Independence.{since, ends_between}

-- the `;` of `{ a = ); b = { c = 1; }; }`
abbrev semicolons : List Semicolon
semicolons = record { start = 7; set = 0 } ∷ record { start = 20; set = 13 } ∷ record { start = 23; set = 0 } ∷ []

-- after the error at `)` the entry `a` ends
next_entry : ends_between 7 9 (since 7 semicolons) ≡ true
next_entry = refl

-- it does not end before its own `;`
same_entry : ends_between 7 7 (since 7 semicolons) ≡ false
same_entry = refl

-- after an error at 10, the `;` of `c` is inside a set that starts later
inner_entry : ends_between 10 22 (since 10 semicolons) ≡ false
inner_entry = refl

-- and the `;` of `b` is not
outer_entry : ends_between 10 25 (since 10 semicolons) ≡ true
outer_entry = refl
