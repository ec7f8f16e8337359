-- Which errors follow from an earlier one, and so share its diagnostic. A token error is one of those in `TokenErrors`.
use Rattle.std.specs.Prelude.{ℕ, ◌+◌, ◌-◌, ◌==◌, Bool, true, false, not, nat_lt, nat_le, ◌||◌, ◌&&◌, List, [], ◌∷◌, ◌++◌, length, take, drop, Option, Some, None}
use Rattle.std.specs.Prelude.{is_some, is_none, if◌then◌else◌}
use Rattle.std.specs.List.{list_any}
use Rattle.rnix_green.specs.Range.{Extent}
use Rattle.rnix_green.specs.Tree.{Located, text_at}
use Rattle.rnix_grammar.specs.Fault.{Fault, extra}
use Rattle.rnix_grammar.specs.Ranges.{range_in}
use Rattle.nix_diagnostics.specs.Locations.{end_of_items, location_of}
use Rattle.nix_diagnostics.specs.Brackets.{skips_brackets}
use Rattle.nix_diagnostics.specs.Unmatched.{unmatched}
use Rattle.nix_diagnostics.specs.TokenErrors.{is_token_error}
use Rattle.nix_diagnostics.specs.Independence.{is_independent}
use Rattle.nix_diagnostics.specs.Ends.{ends_in_string, ends_closed, lost_from, is_from}
use Rattle.nix_diagnostics.specs.FaultNodes.{error_node, group_of, are_same_range}

-- the error is about tokens after the expression
abbrev pub is_extra : Fault → Bool
is_extra (extra range) = true
is_extra fault = false

-- the last of some token errors, or the given error if there is none
abbrev pub last_from : Option Fault → List Fault → Option Fault
last_from before [] = before
last_from before (fault ∷ faults) = last_from (if is_token_error fault then Some fault else before) faults

-- the last token error
abbrev pub last_token_error : List Fault → Option Fault
last_token_error faults = last_from None faults

-- white space
abbrev pub is_blank : ℕ → Bool
is_blank byte = byte == 32 || (byte == 10 || (byte == 9 || byte == 13))

-- how many words start in a text that follows white space, or is inside a word
abbrev pub words : Bool → List ℕ → ℕ
words inside [] = 0
words inside (byte ∷ bytes) = (if is_blank byte || inside then 0 else 1) + words (not (is_blank byte)) bytes

-- a text has no line feed, or at most two words
abbrev pub is_short : List ℕ → Bool
is_short text = not (list_any (λ byte. byte == 10) text) || nat_lt (words false text) 3

-- between two offsets of a text there is no line feed, or at most two words
abbrev pub are_close : List ℕ → ℕ → ℕ → Bool
are_close text from to = is_short (take (to - from) (drop from text))

-- there is another error, and this one starts at its end or close after it
abbrev pub is_near : Located → Option Fault → Fault → Bool
is_near root None fault = false
is_near root (Some last) fault = are_close (text_at root) (location_of root last).end (location_of root fault).start

-- the range of the list, pattern or other such node around an error, if there is an error
abbrev pub group_if : Located → Option Fault → Option Extent
group_if root None = None
group_if root (Some fault) = group_of root fault

-- there is an error node, and it skips brackets
abbrev pub skips_if : Option Extent → Option Located → Bool
skips_if unmatched None = false
skips_if unmatched (Some node) = skips_brackets unmatched node

-- an error's error node skips brackets: its tokens close something around it, or leave something open; the text's first unmatched token is ignored
abbrev pub skips : Located → Fault → Bool
skips root fault = skips_if (unmatched root) (error_node root fault)

-- an error has no range, or ends with the last item or after it, or starts after what is never closed, or its error node skips brackets
abbrev pub loses_at : Located → List Fault → Fault → Bool
loses_at root all fault =
    is_none (range_in fault) || (nat_le (end_of_items root) (location_of root fault).end
    || (is_from (lost_from root all) (location_of root fault).start || skips root fault))

-- the parser loses its way at an error, which is a token error
abbrev pub loses : Located → List Fault → Fault → Bool
loses root all fault = is_token_error fault && loses_at root all fault

-- the parser resynchronizes at an error: it is a token error, and independent of those before it
abbrev pub resynchronizes : Located → List Fault → Fault → Bool
resynchronizes root before fault = is_token_error fault && is_independent root before fault

-- the parser resynchronizes at none of some errors
abbrev pub none_resynchronizes : Located → List Fault → List Fault → Bool
none_resynchronizes root before [] = true
none_resynchronizes root before (fault ∷ faults) = not (resynchronizes root before fault) && none_resynchronizes root (before ++ fault ∷ []) faults

-- the parser loses its way at one of some errors, and resynchronizes at no later one
abbrev pub is_lost_in : Located → List Fault → List Fault → List Fault → Bool
is_lost_in root all before [] = false
is_lost_in root all before (fault ∷ faults) =
    (loses root all fault && none_resynchronizes root (before ++ fault ∷ []) faults) || is_lost_in root all (before ++ fault ∷ []) faults

-- the parser has lost its way after some errors
abbrev pub is_lost : Located → List Fault → List Fault → Bool
is_lost root all before = is_lost_in root all [] before

-- the error node of one of the token errors skips brackets
abbrev pub has_skipped : Located → List Fault → Bool
has_skipped root before = list_any (λ fault. is_token_error fault && skips root fault) before

-- an error at the end of a text follows even if it is independent: the last item closes something, and an earlier token error skipped brackets
abbrev pub is_closing : Located → List Fault → Fault → Bool
is_closing root before fault = has_skipped root before && (ends_closed root && nat_le (end_of_items root) (location_of root fault).end)

-- an error that is not independent of earlier ones shares their diagnostic: the parser has lost its way, or the error is in the list, pattern or other such
-- node of the last token error, or near that token error
abbrev pub is_joined : Located → List Fault → List Fault → Fault → Bool
is_joined root all before fault =
    is_lost root all before || (are_same_range (group_of root fault) (group_if root (last_token_error before)) || is_near root (last_token_error before) fault)

-- an error follows from earlier ones, one of which is a token error: it is about tokens after the expression; or the text ends inside a string; or the error is
-- a token error itself, and shares their diagnostic
abbrev pub follows : Located → List Fault → List Fault → Fault → Bool
follows root all before fault =
    is_some (last_token_error before) && (is_extra fault || (ends_in_string root || (is_token_error fault
    && (if is_independent root before fault then is_closing root before fault else is_joined root all before fault))))

-- the numbers of those among the later errors that follow from no earlier one
abbrev pub firsts_from : Located → List Fault → List Fault → List Fault → List ℕ
firsts_from root all before [] = []
firsts_from root all before (fault ∷ faults) =
    if follows root all before fault then firsts_from root all (before ++ fault ∷ []) faults
    else length before ∷ firsts_from root all (before ++ fault ∷ []) faults

-- the numbers of the errors of a text that follow from no earlier one
abbrev pub firsts : Located → List Fault → List ℕ
firsts root all = firsts_from root all [] all

-- the first of some numbers, or another if there is none
abbrev pub next_or : ℕ → List ℕ → ℕ
next_or end [] = end
next_or end (next ∷ more) = next

-- where runs that begin at some numbers end: each at the next number, the last at a given one
abbrev pub run_ends : ℕ → List ℕ → List ℕ
run_ends end [] = []
run_ends end (first ∷ more) = next_or end more ∷ run_ends end more
