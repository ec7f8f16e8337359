-- Which bytes an edit removes, and where it inserts a new text.
use Rattle.std.specs.Prelude.{ℕ, ◌==◌, nat_lt, ◌&&◌, ◌||◌, List, [], ◌++◌, codes, Option, Some, None, if◌then◌else◌}
use Rattle.rnix_green.specs.Tree.{Located, item_of}
use Rattle.rnix_edit.specs.Blanks.{begins_line, blanks_start, blanks_before, blanks_end, line_break_before, follows_opening}
use Rattle.rnix_edit.specs.Line.{rest_of_line, closing_start}
use Rattle.rnix_edit.specs.declared.cut.Cut.{Cut}
use Rattle.rnix_edit.specs.declared.line.RestOfLine.{RestOfLine}

-- the bytes from start up to end, which contain a number of comments
abbrev pub cut : ℕ → ℕ → ℕ → Cut
cut start end comments = record { start = start; end = end; comments = comments }

-- what is removed with a node that is followed by more than comments on its line: the blanks before it if none follow it; the blanks after it, if there
-- are some before it too or an opening bracket precedes it; otherwise nothing
abbrev pub cut_in_line : List ℕ → ℕ → ℕ → Cut
cut_in_line text start end =
    if blanks_end text end == end then cut (blanks_start text start) end 0
    else (if nat_lt (blanks_start text start) start || follows_opening text start then cut start (blanks_end text end) 0
    else cut start end 0)

-- what is removed with a node that is followed only by comments on its line: the whole line, with its line break, if the node is the first in it;
-- otherwise the blanks before the node, the node and the comments
abbrev pub cut_with_rest : List ℕ → ℕ → RestOfLine → Cut
cut_with_rest text start rest =
    if begins_line text (blanks_start text start) then cut (blanks_start text start) rest.next_line rest.comments
    else cut (blanks_start text start) rest.end rest.comments

-- what is removed with a node, given its range and what follows it on its line
abbrev pub cut_of_range : List ℕ → ℕ → ℕ → Option RestOfLine → Cut
cut_of_range text start end None = cut_in_line text start end
cut_of_range text start end (Some rest) = cut_with_rest text start rest

-- the range that is removed with a node, and the number of comments in it
abbrev pub cut_of : List ℕ → Located → Cut
cut_of text node = cut_of_range text (item_of node).start (item_of node).end (rest_of_line node)

-- a gap for a new text: the bytes from start up to end, what is written there before and after the new text, and the number of
-- comments between a node and the gap
pub record Gap : Type 0 where
  pub start : ℕ
  pub end : ℕ
  pub before : List ℕ
  pub after : List ℕ
  pub comments : ℕ

-- the gap at the end of a node: a space precedes the new text
abbrev pub gap_in_line : ℕ → Gap
gap_in_line end = record { start = end; end = end; before = codes " "; after = []; comments = 0 }

-- the gap at the next line: the new text gets the indentation of the node and a line break
abbrev pub gap_on_next_line : List ℕ → ℕ → RestOfLine → Gap
gap_on_next_line text start rest = record {
  start = rest.next_line;
  end = rest.next_line;
  before = blanks_before text start;
  after = line_break_before text rest.next_line;
  comments = rest.comments;
}

-- the gap after a node, given its range and what follows it on its line: on the next line if the node is the first in its line and only
-- comments follow it there; otherwise at its end
abbrev pub gap_after_range : List ℕ → ℕ → ℕ → Option RestOfLine → Gap
gap_after_range text start end None = gap_in_line end
gap_after_range text start end (Some rest) = if begins_line text (blanks_start text start) then gap_on_next_line text start rest else gap_in_line end

-- the gap after a node
abbrev pub gap_after : List ℕ → Located → Gap
gap_after text node = gap_after_range text (item_of node).start (item_of node).end (rest_of_line node)

-- the gap at the line of a closing bracket: the new text gets that line's indentation, two spaces more, and a line break
abbrev pub gap_above : List ℕ → ℕ → Gap
gap_above text closing = record {
  start = blanks_start text closing;
  end = blanks_start text closing;
  before = blanks_before text closing ++ codes "  ";
  after = line_break_before text (blanks_start text closing);
  comments = 0;
}

-- the gap in place of the blanks before a closing bracket: the new text gets a space on each side
abbrev pub gap_before : List ℕ → ℕ → Gap
gap_before text closing = record { start = blanks_start text closing; end = closing; before = codes " "; after = codes " "; comments = 0 }

-- the gap before the closing bracket of a node: above the bracket's line if the bracket is first in it and the line begins inside the node
abbrev pub gap_at_closing : List ℕ → ℕ → ℕ → Gap
gap_at_closing text start closing =
    if begins_line text (blanks_start text closing) && nat_lt start (blanks_start text closing) then gap_above text closing else gap_before text closing

-- the gap before the closing bracket of a node
abbrev pub gap_inside : List ℕ → Located → Gap
gap_inside text node = gap_at_closing text (item_of node).start (closing_start node)

-- what is written into a gap
abbrev pub put_in : Gap → List ℕ → List ℕ
put_in gap new = gap.before ++ (new ++ gap.after)
