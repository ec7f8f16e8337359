-- The names of kinds.
use Rattle.std.{proofs.{Common.{refl}, lemmas.Str.{IsUtf8-from_is_utf8}}, specs.Str.{IsUtf8, is_utf8, chars}}
use Rattle.rnix_kinds.{specs.{declared.kinds.SyntaxKind.{SyntaxKind}, SyntaxKind.{name_of}}, proofs.AllKinds.{every}}
use lib.Utf8.{encode}

-- all of them are UTF-8
pub names_are_utf8 : (kind : SyntaxKind) → IsUtf8 (name_of kind)
unfolding is_utf8 chars encode
names_are_utf8 kind = IsUtf8-from_is_utf8 (name_of kind) (every (λ k. is_utf8 (name_of k)) refl kind)
