-- Paths.
use Rattle.std.specs.Prelude.{ℕ, ◌+◌, ◌-◌, Bool, not, ◌&&◌, ◌||◌, ◌==◌, if◌then◌else◌, nat_lt, List, take, drop, length, slice_index, codes, Option, Some, None}
use Rattle.std.specs.List.{prefix_len}
use Rattle.rnix_kinds.specs.declared.kinds.SyntaxKind.TheVariants.{TOKEN_DIV, TOKEN_ERROR, TOKEN_INTERPOL_START, TOKEN_LESS, TOKEN_PATH_SEARCH, TOKEN_UPDATE}
use Rattle.rnix_kinds.specs.declared.tokenizer.rule.Cut.{Cut}
use Rattle.rnix_kinds.specs.declared.tokenizer.rule.Change.{Change}
use Rattle.rnix_kinds.specs.declared.tokenizer.rule.Change.TheVariants.{Stay, Open, Close}
use Rattle.rnix_kinds.specs.declared.tokenizer.rule.PathStart.{PathStart}
use Rattle.rnix_kinds.specs.declared.tokenizer.rule.PathStart.TheVariants.{Root, Relative, Home}
use Rattle.rnix_kinds.specs.Lexical.PathKinds.{kind_of_path}
use Rattle.rnix_kinds.specs.declared.tokenizer.rule.Mode.TheVariants.{Interpolation, Path}
use Rattle.rnix_kinds.specs.Lexical.Texts.{begins, occurs_at, run_end, before_pair, begins_space, char_len}
use Rattle.rnix_kinds.specs.Lexical.Plain.{plain}
use Rattle.rnix_kinds.specs.declared.tokenizer.text.Class.TheVariants.{Step, Angle}
use Rattle.rnix_kinds.specs.Lexical.Classes.{class_test, is_path}

-- a segment that ends with `/` or contains `//`
abbrev pub is_broken : List ℕ → Bool
is_broken segment = slice_index segment (length segment - 1) == 47 || nat_lt (before_pair 47 47 segment) (length segment)

-- the part of a path that ends at an index; `going` is how it changes the modes if `${` follows, `ended` how it changes them otherwise
abbrev pub segment_to : PathStart → Change → Change → ℕ → List ℕ → Cut
segment_to start going ended end text =
    if occurs_at (codes "${") end text then record { kind = kind_of_path start; len = end; change = going }
    else record { kind = if is_broken (take end text) then TOKEN_ERROR else kind_of_path start; len = end; change = ended }

abbrev pub segment : PathStart → Change → Change → ℕ → List ℕ → Cut
segment start going ended from text = segment_to start going ended (run_end is_path from text) text

-- a segment that begins a path
abbrev pub first_segment : PathStart → ℕ → List ℕ → Cut
first_segment start = segment start (Open (Path start)) Stay

-- `//`; `/` before a path character or `${` begins an absolute path; any other `/`
abbrev pub slash : List ℕ → Option Cut
slash text =
    if begins (codes "//") text then Some (plain TOKEN_UPDATE 2)
    else (if begins (codes "/${") text || (begins (codes "/") text && is_path (slice_index text 1))
    then Some (first_segment Root 0 text)
    else (if begins (codes "/") text then Some (plain TOKEN_DIV 1) else None))

-- `~/` begins a path; any other `~`, with the next character
abbrev pub home : List ℕ → Option Cut
home text =
    if begins (codes "~/") text then Some (first_segment Home 1 text)
    else (if begins (codes "~") text
    then Some (plain TOKEN_ERROR (if length text == 1 then 1 else 1 + char_len (drop 1 text)))
    else None)

-- after n bytes comes `/` and then a character that is neither `/` nor `*` nor white space
abbrev pub goes_on_as_path : ℕ → List ℕ → Bool
goes_on_as_path n text =
    slice_index text n == 47 && nat_lt (n + 1) (length text) && not (slice_index text (n + 1) == 47)
    && not (slice_index text (n + 1) == 42) && not (begins_space (drop (n + 1) text))

-- path characters other than `/`, and such a `/`
abbrev pub relative : List ℕ → Option Cut
relative text =
    let n = prefix_len (class_test Step) text in
    if nat_lt 0 n && goes_on_as_path n text then Some (first_segment Relative 0 text) else None

-- the token of a `<` after which path characters run up to `end`: an operator if there are none, a search path if `>` comes next, or else an error
abbrev pub search_to : ℕ → List ℕ → Cut
search_to end text =
    if end == 1 then plain TOKEN_LESS 1
    else plain (if slice_index text end == 62 then TOKEN_PATH_SEARCH else TOKEN_ERROR) (end + 1)

-- `<`, if `>` comes right after the run of path characters and `<` that it begins
abbrev pub search_path : List ℕ → Option Cut
search_path text =
    if slice_index text 0 == 60 && slice_index text (prefix_len (class_test Angle) text) == 62
    then Some (search_to (run_end is_path 1 text) text) else None

-- where a path continues after an interpolation
abbrev pub path_goes_on : List ℕ → Bool
path_goes_on text = begins (codes "${") text || is_path (slice_index text 0)

abbrev pub path_cut : PathStart → List ℕ → Cut
path_cut start text =
    if begins (codes "${") text then record { kind = TOKEN_INTERPOL_START; len = 2; change = Open (Interpolation 0) }
    else segment start Stay Close 0 text
