-- Which tokens Nix reads differently; by computation.
use Rattle.std.proofs.Common.{◌≡◌, ◌++◌, ◌∷◌, [], true, false, refl}
use Rattle.std.specs.Prelude.{codes}
use Rattle.rnix_kinds.specs.declared.kinds.SyntaxKind.TheVariants as k
use Rattle.nix_data.specs.Misread.{is_misread, is_altered}

-- space, tab, carriage return and line feed: read alike
blanks : is_misread k.TOKEN_WHITESPACE (32 ∷ 9 ∷ 13 ∷ 10 ∷ []) ≡ false
blanks = refl

-- a form feed, or a no-break space in UTF-8: read differently
form_feed : is_misread k.TOKEN_WHITESPACE (32 ∷ 12 ∷ []) ≡ true
form_feed = refl

no_break_space : is_misread k.TOKEN_WHITESPACE (194 ∷ 160 ∷ []) ≡ true
no_break_space = refl

-- a comment with only white space after its first carriage return: read alike
line_end : is_misread k.TOKEN_COMMENT (codes "# a" ++ 13 ∷ 32 ∷ 13 ∷ []) ≡ false
line_end = refl

-- a carriage return inside a comment: read differently after `#`, alike after `/*`
inside : is_misread k.TOKEN_COMMENT (codes "# a" ++ 13 ∷ codes " b = 1;") ≡ true
inside = refl

block : is_misread k.TOKEN_COMMENT (codes "/* a" ++ 13 ∷ codes " */") ≡ false
block = refl

-- floats
no_digit : is_misread k.TOKEN_FLOAT (codes "0.") ≡ true
no_digit = refl

no_digit_before_exponent : is_misread k.TOKEN_FLOAT (codes "0.e5") ≡ true
no_digit_before_exponent = refl

digit : is_misread k.TOKEN_FLOAT (codes "0.5") ≡ false
digit = refl

one : is_misread k.TOKEN_FLOAT (codes "1.") ≡ false
one = refl

-- strings: a carriage return between quotes, its escape, one in `''`, and the character 0
return : is_altered (codes "\"a" ++ 13 ∷ codes "b\"") ≡ true
return = refl

escape : is_altered (codes "\"a\\rb\"") ≡ false
escape = refl

return_in_lines : is_altered (codes "''a" ++ 13 ∷ codes "b''") ≡ false
return_in_lines = refl

nul : is_altered (codes "''a" ++ 0 ∷ codes "b''") ≡ true
nul = refl
