-- What the state of a `Folding` says about the errors so far. A token error is one of those in `TokenErrors`.
use Rattle.std.specs.Prelude.{◌≡◌, ℕ, drop, if◌then◌else◌, nat_le, ◌&&◌, ◌||◌, Bool, false, List, [], ◌∷◌, ◌++◌, Option, Some, None, option_map, is_some, is_none}
use Rattle.rnix_green.specs.declared.range.TextRange.{TextRange}
use Rattle.rnix_green.specs.Range.{bounds_of}
use Rattle.rnix_green.specs.Tree.{Located, text_at}
use Rattle.rnix_grammar.specs.Fault.{Fault}
use Rattle.rnix_grammar.specs.Ranges.{range_in}
use Rattle.nix_diagnostics.specs.Locations.{end_of_items, location_of}
use Rattle.nix_diagnostics.specs.Unmatched.{unmatched}
use Rattle.nix_diagnostics.specs.Ends.{last_kind, ends_in_string, ends_closed, lost_from, is_from}
use Rattle.nix_diagnostics.specs.FaultNodes.{are_same_range}
use Rattle.nix_diagnostics.specs.Following.{last_token_error, are_close, group_if, is_lost, has_skipped, follows}
use Rattle.nix_diagnostics.specs.Independence.{since, larger, ends_between, reach, semicolons_of}
use Rattle.nix_diagnostics.specs.declared.folding.Folding.{Folding}
use Rattle.nix_diagnostics.specs.declared.brackets.Matching.{Matching}

-- what a `Matching` says about the tokens of a text
pub record IsMatching (root : Located) (m : Matching) : Type 0 where
  pub end : m.end ≡ end_of_items root
  pub last : m.last ≡ last_kind root
  pub extra : option_map bounds_of m.mismatch.extra ≡ unmatched root

-- the parser loses its way at an error at this location: the error has no range, or ends with the last token that is not trivia or after it, or starts
-- after what is never closed, or its node skips brackets
abbrev pub loses_in : Folding → Fault → Bool → TextRange → Bool
loses_in f fault skips location = is_none (range_in fault) || (nat_le f.end location.end || (is_from f.lost_from location.start || skips))

-- there is another offset, and this one is close after it
abbrev pub is_close_after : List ℕ → Option ℕ → ℕ → Bool
is_close_after text None offset = false
is_close_after text (Some last) offset = are_close text last offset

-- an error at this location is independent of the earlier ones
abbrev pub is_independent_in : Folding → TextRange → Bool
is_independent_in f location = ends_between f.reach location.start (drop f.passed f.semicolons.items)

-- a token error at this location, with this list, pattern or other such node around it, shares the diagnostic of the earlier ones, from which it is
-- not independent: the parser has lost its way, or the last token error has the same node around it, or is close before it
abbrev pub is_joined_in : Located → Folding → Option TextRange → TextRange → Bool
is_joined_in root f group location =
    f.is_lost || (are_same_range (option_map bounds_of group) (option_map bounds_of f.group) || is_close_after (text_at root) f.last location.start)

-- such a token error follows from earlier ones: there are some, and the text ends inside a string; or it is independent of them, brackets were skipped, and
-- it is at the end of a text whose last item closes something; or it is not independent, and shares their diagnostic
abbrev pub follows_in : Located → Folding → Bool → Option TextRange → TextRange → Bool
follows_in root f independent group location =
    is_some f.last
    && (f.in_string || (if independent then f.is_unbalanced && (f.ends_closed && nat_le f.end location.end) else is_joined_in root f group location))

-- the state fits the errors so far
pub record FitsErrors (root : Located) (all before : List Fault) (f : Folding) : Type 0 where
  pub last : f.last ≡ option_map (λ fault. (location_of root fault).end) (last_token_error before)
  pub end : f.end ≡ end_of_items root
  pub extra : option_map bounds_of f.extra ≡ unmatched root
  pub lost_from : f.lost_from ≡ lost_from root all
  pub group : option_map bounds_of f.group ≡ group_if root (last_token_error before)
  pub lost : f.is_lost ≡ is_lost root all before
  pub unbalanced : f.is_unbalanced ≡ has_skipped root before
  pub in_string : f.in_string ≡ ends_in_string root
  pub closed : f.ends_closed ≡ ends_closed root
  pub reaches : f.reach ≡ reach root before
  pub remaining : drop f.passed f.semicolons.items ≡ since f.reach (semicolons_of root)

-- the state records where the last error ends
pub record HasReached (old new : Folding) (end : ℕ) : Type 0 where
  pub reaches : new.reach ≡ larger old.reach end
  pub remaining : drop new.passed new.semicolons.items ≡ since (larger old.reach end) (drop old.passed old.semicolons.items)
  pub is : new ≡ record {
    semicolons = old.semicolons;
    reach = new.reach;
    passed = new.passed;
    in_string = old.in_string;
    ends_closed = old.ends_closed;
    is_unbalanced = old.is_unbalanced;
    lost_from = old.lost_from;
    extra = old.extra;
    end = old.end;
    last = old.last;
    group = old.group;
    is_lost = old.is_lost;
  }

-- the result says whether the error follows from any earlier errors that the old state fits, and the new state fits all of them
abbrev pub IsNextResult : Located → Fault → Folding → Folding → Bool → Type 0
IsNextResult root fault old new result =
    (all before : List Fault) → FitsErrors root all before old → (result ≡ follows root all before fault) × FitsErrors root all (before ++ fault ∷ []) new
