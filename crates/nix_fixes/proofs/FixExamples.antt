-- Replacements in small texts; by computation.
use Rattle.std.proofs.Common.{◌≡◌, refl, [], codes}
use Rattle.nix_fixes.specs.Fixes.{bytes_between, spliced}

-- a comma is removed from a list
no_comma : spliced (codes "[ 1, 2 ]") 3 4 [] ≡ codes "[ 1 2 ]"
no_comma = refl

-- a semicolon is inserted, before a comment
semicolon : spliced (codes "{ a = 1 # one\n}") 7 7 (codes ";") ≡ codes "{ a = 1; # one\n}"
semicolon = refl

-- at the end of a text, nothing follows the fix
at_end : spliced (codes "{ a = 1;") 8 8 (codes "\n}") ≡ codes "{ a = 1;\n}"
at_end = refl

-- the content of a text in other quotes
quoted : bytes_between 1 4 (codes "'1.0'") ≡ codes "1.0"
quoted = refl
