-- Comparing the tokens of two texts.
use Rattle.std.proofs.Common.{◌≡◌, ℕ, Bool, true, false, List, ◌∷◌, Option, Some, None, refl, ap, sym, subst, ◌∙◌}
use Rattle.std.proofs.lemmas.{Bool.{and_parts}, Slice.Eq.bytes_eq-Decides}
use Rattle.std.specs.{Prelude.{◌&&◌}, Str.bytes_eq}
use Rattle.rnix_kinds.specs.declared.kinds.SyntaxKind.{SyntaxKind}
use Rattle.rnix_kinds.specs.Lexical.Tokens.{Lexeme}
use Rattle.rnix_green.specs.Equality.{same_kind, same_kind-decides}
use Rattle.rnix_proof_layout.specs.AlikeItems.{ends_piece}
use Rattle.nix_formatting.specs.SpaceChange.{VisibleToken, visible_tokens_from, visible_tokens_of}
use Rattle.nix_formatting.specs.VisibleTokens.{visible_of, IsNextVisible, same_flag, same_visible, AreCompared, IsStep}
use Rattle.nix_formatting.specs.declared.alike.VisibleToken.{VisibleToken as Taken}
use Rattle.nix_formatting.specs.declared.alike.Step.{Step}
use Rattle.nix_formatting.specs.declared.alike.Step.TheVariants as step

flags_same : (a b : Bool) → same_flag a b ≡ true → a ≡ b
flags_same true true h = refl
flags_same true false h = sym h
flags_same false true h = h
flags_same false false h = refl

abbrev visible_with : SyntaxKind → List ℕ → Bool → VisibleToken
visible_with kind text joins = (kind, text, joins)

-- tokens that pass the test are the same
pub visible_tokens_same : (old new : Taken) → same_visible old new ≡ true → visible_of new ≡ visible_of old
visible_tokens_same old new h =
    let kinds_and = and_parts (same_kind old.kind new.kind) (bytes_eq old.text.now new.text.now && same_flag old.joins new.joins) h in
    let texts_and = and_parts (bytes_eq old.text.now new.text.now) (same_flag old.joins new.joins) kinds_and.1 in
    let kinds : old.kind ≡ new.kind = (same_kind-decides old.kind new.kind).0 kinds_and.0 in
    let texts : old.text.now ≡ new.text.now = (bytes_eq-Decides old.text.now new.text.now).0 texts_and.0 in
    let flags : old.joins ≡ new.joins = flags_same old.joins new.joins texts_and.1 in
    sym (ap (λ k. visible_with k old.text.now old.joins) kinds
    ∙ ap (λ t. visible_with new.kind t old.joins) texts ∙ ap (visible_with new.kind new.text.now) flags)

-- if both texts have the same next token and the same tokens after it, they have the same tokens
both_step : (in_path : Bool) (olds news olds_remaining news_remaining : List Lexeme) (old new : Taken) (kind : SyntaxKind)
    → visible_tokens_from in_path olds ≡ visible_of old ∷ visible_tokens_from (ends_piece old.kind) olds_remaining
    → visible_tokens_from in_path news ≡ visible_of new ∷ visible_tokens_from (ends_piece new.kind) news_remaining
    → visible_of new ≡ visible_of old → kind ≡ old.kind
    → visible_tokens_from (ends_piece kind) news_remaining ≡ visible_tokens_from (ends_piece kind) olds_remaining
    → visible_tokens_from in_path news ≡ visible_tokens_from in_path olds
both_step in_path olds news olds_remaining news_remaining old new kind is_old is_new same is_kind rest =
    let kinds : new.kind ≡ kind = ap (λ (s : VisibleToken). s.0) same ∙ sym is_kind in
    is_new
    ∙ ap (λ k. visible_of new ∷ visible_tokens_from (ends_piece k) news_remaining) kinds
    ∙ ap (λ s. s ∷ visible_tokens_from (ends_piece kind) news_remaining) same
    ∙ ap (λ ss. visible_of old ∷ ss) rest
    ∙ ap (λ k. visible_of old ∷ visible_tokens_from (ends_piece k) olds_remaining) is_kind
    ∙ sym is_old

-- a step keeps its contract
pub stepped : (in_path : Bool) (olds news olds_remaining news_remaining : List Lexeme) (old new : Option Taken) (s : Step)
    → IsNextVisible in_path olds old olds_remaining → IsNextVisible in_path news new news_remaining → AreCompared s old new
    → IsStep in_path olds news olds_remaining news_remaining s
stepped in_path olds news olds_remaining news_remaining (Some old) (Some new) (step.Same kind) is_old is_new compared =
    both_step in_path olds news olds_remaining news_remaining old new kind is_old is_new compared.0 compared.1
stepped in_path olds news olds_remaining news_remaining None None (step.Same kind) is_old is_new compared = absurd compared
stepped in_path olds news olds_remaining news_remaining None (Some new) (step.Same kind) is_old is_new compared = absurd compared
stepped in_path olds news olds_remaining news_remaining (Some old) None (step.Same kind) is_old is_new compared = absurd compared
stepped in_path olds news olds_remaining news_remaining old new step.Differ is_old is_new compared = tt
stepped in_path olds news olds_remaining news_remaining None None step.End is_old is_new compared = is_new ∙ sym is_old
stepped in_path olds news olds_remaining news_remaining None (Some new) step.End is_old is_new compared = absurd compared
stepped in_path olds news olds_remaining news_remaining (Some old) None step.End is_old is_new compared = absurd compared
stepped in_path olds news olds_remaining news_remaining (Some old) (Some new) step.End is_old is_new compared = absurd compared

-- equal texts have the same tokens
pub same_text : (old new : List ℕ) → old ≡ new → visible_tokens_of new ≡ visible_tokens_of old
same_text old new same = ap visible_tokens_of (sym same)

-- a step at which both tokens are the same
pub same_step : (in_path : Bool) (olds news olds_remaining news_remaining : List Lexeme) (s : Step) (kind : SyntaxKind)
    → IsStep in_path olds news olds_remaining news_remaining s → s ≡ step.Same kind
    → visible_tokens_from (ends_piece kind) news_remaining ≡ visible_tokens_from (ends_piece kind) olds_remaining
    → visible_tokens_from in_path news ≡ visible_tokens_from in_path olds
same_step in_path olds news olds_remaining news_remaining s kind h is rest =
    let step_on : visible_tokens_from (ends_piece kind) news_remaining ≡ visible_tokens_from (ends_piece kind) olds_remaining
    → visible_tokens_from in_path news ≡ visible_tokens_from in_path olds =
    subst (IsStep in_path olds news olds_remaining news_remaining) is h in
    step_on rest

-- a step at the end of both texts
pub end_step : (in_path : Bool) (olds news olds_remaining news_remaining : List Lexeme) (s : Step)
    → IsStep in_path olds news olds_remaining news_remaining s → s ≡ step.End → visible_tokens_from in_path news ≡ visible_tokens_from in_path olds
end_step in_path olds news olds_remaining news_remaining s h is = subst (IsStep in_path olds news olds_remaining news_remaining) is h
