-- Comparing the events of two walks, apart from commas and the marks of comments.
use Rattle.std.proofs.Common.{◌≡◌, ℕ, true, false, List, [], ◌∷◌, Option, Some, None, ap, sym, subst, ◌∙◌}
use Rattle.rnix_kinds.specs.declared.kinds.SyntaxKind.{SyntaxKind}
use Rattle.rnix_kinds.specs.declared.kinds.SyntaxKind.TheVariants.{TOKEN_COMMENT, TOKEN_STRING_CONTENT}
use Rattle.rnix_green.specs.Equality.{same_kind, same_kind-decides}
use Rattle.rnix_green.specs.Tree.{Located, item_of, text_at}
use Rattle.rnix_green.specs.Walk.{Event}
use Rattle.rnix_tree.specs.Spots.{event_of}
use Rattle.nix_formatting.specs.Outline.{text_unless}
use Rattle.nix_formatting.specs.Comments.{contents_of}
use Rattle.nix_formatting.specs.WalkSteps.{Step, step_of, step_if, steps_of}
use Rattle.nix_formatting.specs.WithoutCommas.{kept_text, kept_step, is_kept, kept_steps}
use Rattle.nix_formatting.specs.Pairs.{ProgramEvent, AreSame}
use Rattle.nix_formatting.specs.KeptPairs.{kept_of, IsNextKept, AreAlike, AreKeptCompared, AreKeptPassed}
use Rattle.nix_formatting.specs.declared.walks.Pair.{Pair}
use Rattle.nix_formatting.specs.declared.walks.Pair.TheVariants as pair

-- events with the same step are alike
pub same_alike : (old new : Event) → AreSame old new → AreAlike old new
same_alike old new same = ap kept_step same

-- a token of this kind that shows this text, as a kept step
abbrev kept_token : SyntaxKind → List ℕ → Step
kept_token k text =
    record { enters = true; is_node = false; kind = k; shown = (kept_text k (text_unless (same_kind k TOKEN_STRING_CONTENT) text), []) }

-- the kept step of a comment shows its contents
comment_kept : (e : Located) → same_kind (item_of e).kind TOKEN_COMMENT ≡ true
    → kept_step (step_of (true, (false, e))) ≡ record { enters = true; is_node = false; kind = TOKEN_COMMENT; shown = (contents_of (text_at e), []) }
comment_kept e is = ap (λ k. kept_token k (text_at e)) ((same_kind-decides (item_of e).kind TOKEN_COMMENT).0 is)

-- comments with the same contents are alike
pub comments_alike : (old new : Located) → same_kind (item_of old).kind TOKEN_COMMENT ≡ true → same_kind (item_of new).kind TOKEN_COMMENT ≡ true
    → contents_of (text_at old) ≡ contents_of (text_at new) → AreAlike (true, (false, old)) (true, (false, new))
comments_alike old new is_old is_new contents =
    comment_kept new is_new
    ∙ ap (λ (text : List ℕ). record { enters = true; is_node = false; kind = TOKEN_COMMENT; shown = (text, []) }) (sym contents)
    ∙ sym (comment_kept old is_old)

-- a step that passes a comma is skipped
pub comma_passed : (all events rest : List Event) (event : Event) → kept_of events ≡ kept_of all → steps_of events ≡ step_of event ∷ steps_of rest
    → is_kept (step_of event) ≡ false → kept_of rest ≡ kept_of all
comma_passed all events rest event so_far next fails =
    sym (ap kept_steps next ∙ ap (λ b. step_if b (kept_step (step_of event)) (kept_of rest)) fails) ∙ so_far

-- another step is the next kept step
pub kept_found : (all events rest : List Event) (event : Event) → kept_of events ≡ kept_of all → steps_of events ≡ step_of event ∷ steps_of rest
    → is_kept (step_of event) ≡ true → kept_of all ≡ kept_step (step_of event) ∷ kept_of rest
kept_found all events rest event so_far next holds =
    sym so_far ∙ ap kept_steps next ∙ ap (λ b. step_if b (kept_step (step_of event)) (kept_of rest)) holds

-- there is no kept step if there is no step
pub none_kept : (all events : List Event) → kept_of events ≡ kept_of all → steps_of events ≡ [] → kept_of all ≡ []
none_kept all events so_far none = sym so_far ∙ ap kept_steps none

-- if both walks have alike next steps and the same kept steps after these, they have the same kept steps
both_pass : (olds news olds_remaining news_remaining : List Event) (old new : Event) → kept_of olds ≡ kept_step (step_of old) ∷ kept_of olds_remaining
    → kept_of news ≡ kept_step (step_of new) ∷ kept_of news_remaining → AreAlike old new → kept_of news_remaining ≡ kept_of olds_remaining
    → kept_of news ≡ kept_of olds
both_pass olds news olds_remaining news_remaining old new is_old is_new same rest =
    is_new ∙ ap (λ s. s ∷ kept_of news_remaining) same ∙ ap (λ ss. kept_step (step_of old) ∷ ss) rest ∙ sym is_old

-- a step of both walks keeps its contract
pub passed : (olds news olds_remaining news_remaining : List Event) (old new : Option ProgramEvent) (p : Pair)
    → IsNextKept olds old olds_remaining → IsNextKept news new news_remaining → AreKeptCompared p old new
    → AreKeptPassed olds news olds_remaining news_remaining p
passed olds news olds_remaining news_remaining (Some old) (Some new) pair.Same is_old is_new compared =
    both_pass olds news olds_remaining news_remaining (event_of old) (event_of new) is_old is_new compared
passed olds news olds_remaining news_remaining None None pair.Same is_old is_new compared = absurd compared
passed olds news olds_remaining news_remaining None (Some new) pair.Same is_old is_new compared = absurd compared
passed olds news olds_remaining news_remaining (Some old) None pair.Same is_old is_new compared = absurd compared
passed olds news olds_remaining news_remaining old new pair.Differ is_old is_new compared = tt
passed olds news olds_remaining news_remaining None None pair.End is_old is_new compared = is_new ∙ sym is_old
passed olds news olds_remaining news_remaining None (Some new) pair.End is_old is_new compared = absurd compared
passed olds news olds_remaining news_remaining (Some old) None pair.End is_old is_new compared = absurd compared
passed olds news olds_remaining news_remaining (Some old) (Some new) pair.End is_old is_new compared = absurd compared

-- both walks take alike steps
pub same_pair : (olds news olds_remaining news_remaining : List Event) (p : Pair) → AreKeptPassed olds news olds_remaining news_remaining p
    → p ≡ pair.Same → kept_of news_remaining ≡ kept_of olds_remaining → kept_of news ≡ kept_of olds
same_pair olds news olds_remaining news_remaining p h is rest =
    let step_on : kept_of news_remaining ≡ kept_of olds_remaining → kept_of news ≡ kept_of olds =
    subst (AreKeptPassed olds news olds_remaining news_remaining) is h in
    step_on rest

-- both walks are at the end
pub end_pair : (olds news olds_remaining news_remaining : List Event) (p : Pair) → AreKeptPassed olds news olds_remaining news_remaining p
    → p ≡ pair.End → kept_of news ≡ kept_of olds
end_pair olds news olds_remaining news_remaining p h is = subst (AreKeptPassed olds news olds_remaining news_remaining) is h
