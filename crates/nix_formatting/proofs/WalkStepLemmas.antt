-- Comparing the events of two walks.
use Rattle.std.proofs.Common.{◌≡◌, ℕ, Bool, true, false, List, [], ◌∷◌, Option, Some, None, refl, ap, sym, subst, ◌∙◌}
use Rattle.std.proofs.lemmas.{Bool.{false≢true, and_parts}, Slice.Eq.bytes_eq-Decides}
use Rattle.std.specs.{Prelude.{◌&&◌, ◌||◌, if◌then◌else◌}, Str.bytes_eq}
use Rattle.rnix_kinds.specs.declared.kinds.SyntaxKind.{SyntaxKind}
use Rattle.rnix_kinds.specs.declared.kinds.SyntaxKind.TheVariants.{NODE_STRING, TOKEN_STRING_CONTENT}
use Rattle.rnix_green.specs.Equality.{same_kind, same_kind-decides}
use Rattle.rnix_green.specs.Tree.{Located, item_of, text_at}
use Rattle.rnix_green.specs.Walk.{Event}
use Rattle.rnix_tree.specs.Spots.{event_of}
use Rattle.nix_formatting.specs.Outline.{text_unless}
use Rattle.nix_formatting.specs.Values.{both_values}
use Rattle.nix_formatting.specs.WalkSteps.{Step, Shown, shown_node, shown_token, step_of, is_step, step_if, steps_of}
use Rattle.nix_formatting.specs.Pairs.{ProgramEvent, IsNextStep, AreSame, same_shown, same_nodes, same_tokens, AreCompared, IsPassed}
use Rattle.nix_formatting.specs.declared.walks.Pair.{Pair}
use Rattle.nix_formatting.specs.declared.walks.Pair.TheVariants as pair

abbrev step_with : Bool → Bool → SyntaxKind → Shown → Step
step_with enters is_node kind shown = record { enters = enters; is_node = is_node; kind = kind; shown = shown }

-- steps with the same kind that show the same are equal
steps_same : (enters is_node : Bool) (k l : SyntaxKind) (xs ys : Shown) → same_kind k l ≡ true → xs ≡ ys
    → step_with enters is_node l ys ≡ step_with enters is_node k xs
steps_same enters is_node k l xs ys kinds shown =
    sym (ap (λ j. step_with enters is_node j xs) ((same_kind-decides k l).0 kinds) ∙ ap (step_with enters is_node l) shown)

-- nodes of different kinds have different steps
pub kinds_differ : (old new : Located) → same_kind (item_of old).kind (item_of new).kind ≡ false → false ≡ same_nodes old new
kinds_differ old new differ = sym (ap (λ b. b && same_shown (shown_node true old) (shown_node true new)) differ)

-- nodes of one kind have the same step exactly if they show the same
pub kinds_same : (old new : Located) (same : Bool) → same_kind (item_of old).kind (item_of new).kind ≡ true
    → same ≡ same_shown (shown_node true old) (shown_node true new) → same ≡ same_nodes old new
kinds_same old new same kinds shown = shown ∙ sym (ap (λ b. b && same_shown (shown_node true old) (shown_node true new)) kinds)

-- of two nodes of one kind, both are strings or neither is
same_strings : (k l : SyntaxKind) → same_kind k l ≡ true → same_kind NODE_STRING k ≡ same_kind NODE_STRING l
same_strings k l kinds = ap (same_kind NODE_STRING) ((same_kind-decides k l).0 kinds)

-- a node that is not a string shows nothing
shows_nothing : (e : Located) → same_kind NODE_STRING (item_of e).kind ≡ false → shown_node true e ≡ ([], [])
shows_nothing e none = ap (λ b. if b then both_values e else ([], [])) none

-- nodes of one kind that are not strings show the same
pub no_strings : (old new : Located) → same_kind (item_of old).kind (item_of new).kind ≡ true → same_kind NODE_STRING (item_of old).kind ≡ false
    → true ≡ same_shown (shown_node true old) (shown_node true new)
no_strings old new kinds none =
    let no_new : same_kind NODE_STRING (item_of new).kind ≡ false = sym (same_strings (item_of old).kind (item_of new).kind kinds) ∙ none in
    sym (ap (λ s. same_shown s (shown_node true new)) (shows_nothing old none) ∙ ap (same_shown ([], [])) (shows_nothing new no_new))

-- two nodes of one kind cannot be a string and another node
pub one_string : (old new : Located) → same_kind (item_of old).kind (item_of new).kind ≡ true → same_kind NODE_STRING (item_of old).kind ≡ true
    → same_kind NODE_STRING (item_of new).kind ≡ false → true ≡ same_shown (shown_node true old) (shown_node true new)
one_string old new kinds is none = absurd (false≢true (sym none ∙ sym (same_strings (item_of old).kind (item_of new).kind kinds) ∙ is))

-- a string shows its values
string_shows : (e : Located) → same_kind NODE_STRING (item_of e).kind ≡ true → shown_node true e ≡ both_values e
string_shows e is = ap (λ b. if b then both_values e else ([], [])) is

-- two strings show the same exactly if they have the same values
pub strings_show : (old new : Located) (same : Bool) → same_kind NODE_STRING (item_of old).kind ≡ true → same_kind NODE_STRING (item_of new).kind ≡ true
    → same ≡ same_shown (both_values old) (both_values new) → same ≡ same_shown (shown_node true old) (shown_node true new)
strings_show old new same is_old is_new values =
    values
    ∙ sym (ap (λ s. same_shown s (shown_node true new)) (string_shows old is_old) ∙ ap (same_shown (both_values old)) (string_shows new is_new))

-- what passes the test is equal
shown_equal : (xs ys : Shown) → same_shown xs ys ≡ true → xs ≡ ys
shown_equal (text, value) (other, made) h =
    let both = and_parts (bytes_eq text other) (bytes_eq value made) h in
    ap (λ t. (t, value)) ((bytes_eq-Decides text other).0 both.0) ∙ ap (λ v. (other, v)) ((bytes_eq-Decides value made).0 both.1)

-- entering two nodes that pass the test is the same step
pub nodes_entered : (old new : Located) → same_nodes old new ≡ true → AreSame (true, (true, old)) (true, (true, new))
nodes_entered old new h =
    let both = and_parts (same_kind (item_of old).kind (item_of new).kind) (same_shown (shown_node true old) (shown_node true new)) h in
    steps_same true true (item_of old).kind (item_of new).kind (shown_node true old) (shown_node true new) both.0
    (shown_equal (shown_node true old) (shown_node true new) both.1)

-- leaving two nodes of one kind is the same step
pub nodes_done : (old new : Located) → same_kind (item_of old).kind (item_of new).kind ≡ true → AreSame (false, (true, old)) (false, (true, new))
nodes_done old new h = steps_same false true (item_of old).kind (item_of new).kind ([], []) ([], []) h refl

-- tokens of one kind show the same if they pass the test
tokens_show : (is_old is_new : Bool) (xs ys : List ℕ) → is_old ≡ is_new → is_old || bytes_eq xs ys ≡ true
    → text_unless is_old xs ≡ text_unless is_new ys
tokens_show true true xs ys same h = refl
tokens_show false false xs ys same h = (bytes_eq-Decides xs ys).0 h
tokens_show true false xs ys same h = absurd (false≢true (sym same))
tokens_show false true xs ys same h = absurd (false≢true same)

-- passing two tokens that pass the test is the same step
pub tokens_passed : (old new : Located) → same_tokens old new ≡ true → AreSame (true, (false, old)) (true, (false, new))
tokens_passed old new h =
    let k : SyntaxKind = (item_of old).kind in
    let l : SyntaxKind = (item_of new).kind in
    let both = and_parts (same_kind k l) (same_kind k TOKEN_STRING_CONTENT || bytes_eq (text_at old) (text_at new)) h in
    steps_same true false k l (shown_token old) (shown_token new) both.0
    (ap (λ t. (t, [])) (tokens_show (same_kind k TOKEN_STRING_CONTENT) (same_kind l TOKEN_STRING_CONTENT) (text_at old) (text_at new)
    (ap (λ j. same_kind j TOKEN_STRING_CONTENT) ((same_kind-decides k l).0 both.0)) both.1))

-- if both walks have the same next step and the same steps after it, they have the same steps
both_pass : (olds news olds_remaining news_remaining : List Event) (old new : Event) → steps_of olds ≡ step_of old ∷ steps_of olds_remaining
    → steps_of news ≡ step_of new ∷ steps_of news_remaining → AreSame old new → steps_of news_remaining ≡ steps_of olds_remaining
    → steps_of news ≡ steps_of olds
both_pass olds news olds_remaining news_remaining old new is_old is_new same rest =
    is_new ∙ ap (λ s. s ∷ steps_of news_remaining) same ∙ ap (λ ss. step_of old ∷ ss) rest ∙ sym is_old

-- a step of both walks keeps its contract
pub passed : (olds news olds_remaining news_remaining : List Event) (old new : Option ProgramEvent) (p : Pair)
    → IsNextStep olds old olds_remaining → IsNextStep news new news_remaining → AreCompared p old new → IsPassed olds news olds_remaining news_remaining p
passed olds news olds_remaining news_remaining (Some old) (Some new) pair.Same is_old is_new compared =
    both_pass olds news olds_remaining news_remaining (event_of old) (event_of new) is_old is_new compared
passed olds news olds_remaining news_remaining None None pair.Same is_old is_new compared = absurd compared
passed olds news olds_remaining news_remaining None (Some new) pair.Same is_old is_new compared = absurd compared
passed olds news olds_remaining news_remaining (Some old) None pair.Same is_old is_new compared = absurd compared
passed olds news olds_remaining news_remaining old new pair.Differ is_old is_new compared = tt
passed olds news olds_remaining news_remaining None None pair.End is_old is_new compared = is_new ∙ sym is_old
passed olds news olds_remaining news_remaining None (Some new) pair.End is_old is_new compared = absurd compared
passed olds news olds_remaining news_remaining (Some old) None pair.End is_old is_new compared = absurd compared
passed olds news olds_remaining news_remaining (Some old) (Some new) pair.End is_old is_new compared = absurd compared

-- both walks take the same step
pub same_pair : (olds news olds_remaining news_remaining : List Event) (p : Pair) → IsPassed olds news olds_remaining news_remaining p → p ≡ pair.Same
    → steps_of news_remaining ≡ steps_of olds_remaining → steps_of news ≡ steps_of olds
same_pair olds news olds_remaining news_remaining p h is rest =
    let step_on : steps_of news_remaining ≡ steps_of olds_remaining → steps_of news ≡ steps_of olds =
    subst (IsPassed olds news olds_remaining news_remaining) is h in
    step_on rest

-- both walks are at the end
pub end_pair : (olds news olds_remaining news_remaining : List Event) (p : Pair) → IsPassed olds news olds_remaining news_remaining p → p ≡ pair.End
    → steps_of news ≡ steps_of olds
end_pair olds news olds_remaining news_remaining p h is = subst (IsPassed olds news olds_remaining news_remaining) is h

-- an event that is not a step is skipped
pub passed_over : (all events rest : List Event) (event : Event) → steps_of events ≡ steps_of all → events ≡ event ∷ rest → is_step event ≡ false
    → steps_of rest ≡ steps_of all
passed_over all events rest event so_far next fails =
    sym (ap steps_of next ∙ ap (λ b. step_if b (step_of event) (steps_of rest)) fails) ∙ so_far

-- an event that is a step is the next step
pub step_found : (all events rest : List Event) (event : Event) → steps_of events ≡ steps_of all → events ≡ event ∷ rest → is_step event ≡ true
    → steps_of all ≡ step_of event ∷ steps_of rest
step_found all events rest event so_far next holds =
    sym so_far ∙ ap steps_of next ∙ ap (λ b. step_if b (step_of event) (steps_of rest)) holds
