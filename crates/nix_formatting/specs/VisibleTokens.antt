-- The tokens other than white space, one after another.
use Rattle.std.specs.Prelude.{◌≡◌, ◌&&◌, Bool, true, false, not, List, [], ◌∷◌, Option, Some, None}
use Rattle.std.specs.Str.{bytes_eq}
use Rattle.rnix_kinds.specs.Lexical.Tokens.{Lexeme}
use Rattle.rnix_green.specs.Equality.{same_kind}
use Rattle.rnix_proof_layout.specs.AlikeItems.{ends_piece}
use Rattle.nix_formatting.specs.SpaceChange.{VisibleToken, visible_tokens_from}
use Rattle.nix_formatting.specs.declared.alike.VisibleToken.{VisibleToken as Taken}
use Rattle.nix_formatting.specs.declared.alike.Step.{Step}
use Rattle.nix_formatting.specs.declared.alike.Step.TheVariants as step

-- a token that `next_visible` returned
abbrev pub visible_of : Taken → VisibleToken
visible_of taken = (taken.kind, taken.text.now, taken.joins)

-- the result is the next token other than white space, or `None` if there is none
abbrev pub IsNextVisible : Bool → List Lexeme → Option Taken → List Lexeme → Type 0
IsNextVisible in_path before None after = visible_tokens_from in_path before ≡ []
IsNextVisible in_path before (Some taken) after = visible_tokens_from in_path before ≡ visible_of taken ∷ visible_tokens_from (ends_piece taken.kind) after

-- two flags are the same
abbrev pub same_flag : Bool → Bool → Bool
same_flag true new = new
same_flag false new = not new

-- two tokens are the same
abbrev pub same_visible : Taken → Taken → Bool
same_visible old new = same_kind old.kind new.kind && (bytes_eq old.text.now new.text.now && same_flag old.joins new.joins)

-- the result of comparing two tokens
abbrev pub AreCompared : Step → Option Taken → Option Taken → Type 0
AreCompared (step.Same kind) (Some old) (Some new) = (visible_of new ≡ visible_of old) × (kind ≡ old.kind)
AreCompared (step.Same kind) old new = ⊥
AreCompared step.Differ old new = Unit {0}
AreCompared step.End None None = Unit {0}
AreCompared step.End old new = ⊥

-- the result of a step: if the tokens after it are the same, so are the tokens before it
abbrev pub IsStep : Bool → List Lexeme → List Lexeme → List Lexeme → List Lexeme → Step → Type 0
IsStep in_path olds news olds_remaining news_remaining (step.Same kind) =
    visible_tokens_from (ends_piece kind) news_remaining ≡ visible_tokens_from (ends_piece kind) olds_remaining
    → visible_tokens_from in_path news ≡ visible_tokens_from in_path olds
IsStep in_path olds news olds_remaining news_remaining step.Differ = Unit {0}
IsStep in_path olds news olds_remaining news_remaining step.End = visible_tokens_from in_path news ≡ visible_tokens_from in_path olds
