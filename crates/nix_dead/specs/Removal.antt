-- How an unused name is removed: the range that goes, and what is written in its place.
use Rattle.std.specs.Prelude.{ℕ, ◌==◌, nat_lt, ◌&&◌, ◌||◌, Bool, false, List, [], ◌∷◌, codes, find, length, slice_index, slice_range, Option, Some, None, is_none, if◌then◌else◌}
use Rattle.std.specs.List.{list_all, list_any}
use Rattle.std.specs.BTreeSet.{BTreeSet}
use Rattle.rnix_kinds.specs.declared.kinds.SyntaxKind.TheVariants as k
use Rattle.rnix_green.specs.Equality.{same_kind}
use Rattle.rnix_green.specs.Relatives.{parent_of}
use Rattle.rnix_green.specs.Tree.{Located, item_of, extent_of, text_at}
use Rattle.rnix_base.specs.Select.{child_of, nodes_of, token_of}
use Rattle.rnix.specs.NodeKinds.{is_attr, is_entry, is_expr}
use Rattle.rnix_text.specs.Changes.{Change, replacing}
use Rattle.rnix_edit.specs.Blanks.{byte_before}
use Rattle.rnix_edit.specs.EditRanges.{cut_of}
use Rattle.nix_lints.specs.UnusedNames.{has_offset}
use Rattle.nix_dead.specs.declared.removal.Removal.{Removal}

-- the change that a value of the program represents
abbrev pub change_of : Removal → Change
change_of removal = replacing removal.start removal.end removal.new.now

-- where an element begins
abbrev pub start_at : Located → ℕ
start_at e = (extent_of e).start

-- no space is needed after this byte: white space, a semicolon, or an opening bracket
abbrev pub divides_before : ℕ → Bool
divides_before byte =
    byte == 32 || (byte == 9 || (byte == 10 || (byte == 13 || (byte == 59 || (byte == 40 || (byte == 91 || byte == 123))))))

-- no space is needed before this byte: white space, a semicolon, a colon, or a closing bracket
abbrev pub divides_after : ℕ → Bool
divides_after byte =
    byte == 32 || (byte == 9 || (byte == 10 || (byte == 13 || (byte == 59 || (byte == 58 || (byte == 41 || (byte == 93 || byte == 125)))))))

-- no space is needed in place of a range
abbrev pub is_divided : List ℕ → ℕ → ℕ → Bool
is_divided text start end = divides_before (byte_before text start) || divides_after (slice_index text end)

-- a range is removed; a space stays if it is needed
abbrev pub deletion : List ℕ → ℕ → ℕ → Change
deletion text start end = replacing start end (if is_divided text start end then [] else codes " ")

-- a node is removed: an entry or a name
abbrev pub without : List ℕ → Located → Change
without text node = deletion text (cut_of text node).start (cut_of text node).end

-- a name is written at one of the offsets
abbrev pub is_dead : BTreeSet ℕ → Located → Bool
is_dead dead name = has_offset dead (start_at name)

-- the same, if there is a name
abbrev pub is_dead_if : BTreeSet ℕ → Option Located → Bool
is_dead_if dead None = false
is_dead_if dead (Some name) = is_dead dead name

-- the first name of a path is written at one of the offsets
abbrev pub begins_dead : BTreeSet ℕ → Option Located → Bool
begins_dead dead None = false
begins_dead dead (Some path) = is_dead_if dead (child_of is_attr 0 path)

-- the first name of an entry with a value is written at one of the offsets
abbrev pub first_is_dead : BTreeSet ℕ → Located → Bool
first_is_dead dead entry = begins_dead dead (child_of (same_kind k.NODE_ATTRPATH) 0 entry)

-- all names that an entry binds are written at some of the offsets
abbrev pub is_dead_entry : BTreeSet ℕ → Located → Bool
is_dead_entry dead entry =
    if same_kind (item_of entry).kind k.NODE_INHERIT then list_all (is_dead dead) (nodes_of is_attr entry) else first_is_dead dead entry

-- a node begins where another one does, if that is given
abbrev pub is_first : Located → Option Located → Bool
is_first node None = false
is_first node (Some first) = start_at first == start_at node

-- a `let` goes with its entries: all names that they bind are written at some of the offsets, and it has no comments of its own
abbrev pub is_emptied : BTreeSet ℕ → Located → Bool
is_emptied dead binder =
    same_kind (item_of binder).kind k.NODE_LET_IN
    && (is_none (token_of (same_kind k.TOKEN_COMMENT) binder) && list_all (is_dead_entry dead) (nodes_of is_entry binder))

-- all of a `let` that precedes its body is removed
abbrev pub unwrapped_to : List ℕ → Located → Option Located → Option Change
unwrapped_to text binder None = None
unwrapped_to text binder (Some body) = Some (deletion text (start_at binder) (start_at body))

abbrev pub unwrapped : List ℕ → Located → Option Change
unwrapped text binder = unwrapped_to text binder (child_of is_expr 0 binder)

-- an entry is removed, given its `let`; the first one goes with the `let`, if all other entries go, too
abbrev pub entry_removal_in : List ℕ → BTreeSet ℕ → Located → Option Located → Option Change
entry_removal_in text dead entry None = None
entry_removal_in text dead entry (Some binder) =
    if is_first entry (child_of is_entry 0 binder) && is_emptied dead binder then unwrapped text binder else Some (without text entry)

abbrev pub entry_removal : List ℕ → BTreeSet ℕ → Located → Option Change
entry_removal text dead entry = entry_removal_in text dead entry (parent_of entry)

-- a name of an `inherit` is removed; the first one goes with the `inherit`, if all other names go, too
abbrev pub inherit_removal : List ℕ → BTreeSet ℕ → Located → Located → Option Change
inherit_removal text dead name inherit =
    if is_first name (child_of is_attr 0 inherit) && list_all (is_dead dead) (nodes_of is_attr inherit) then entry_removal text dead inherit
    else Some (without text name)

-- an argument that is a plain name is called `_`
abbrev pub hole : Located → Change
hole name = replacing (extent_of name).start (extent_of name).end (codes "_")

-- a text begins with `@`
abbrev pub begins_with_at : List ℕ → Bool
begins_with_at [] = false
begins_with_at (byte ∷ bytes) = byte == 64

-- the name of a whole pattern is removed, with its `@`
abbrev pub bind_removal : List ℕ → Located → Change
bind_removal text bind =
    if begins_with_at (text_at bind) then without text bind else deletion text (extent_of bind).start (extent_of bind).end

-- the entry that begins with a path is removed, given the parent of the path
abbrev pub path_removal : List ℕ → BTreeSet ℕ → Option Located → Option Change
path_removal text dead None = None
path_removal text dead (Some entry) = entry_removal text dead entry

-- the first argument of a pattern that begins after another one
abbrev pub next_entry : Located → Located → Option Located
next_entry pattern entry = find (λ other. nat_lt (start_at entry) (start_at other)) (nodes_of (same_kind k.NODE_PAT_ENTRY) pattern)

-- where an argument or `...` begins
abbrev pub start_or : Option Located → Option Located → Option ℕ
start_or next None = None
start_or None (Some ellipsis) = Some (start_at ellipsis)
start_or (Some next) (Some ellipsis) = Some (start_at next)

-- where the argument after another one begins, or `...` if it is the last one
abbrev pub next_start : Located → Located → Option ℕ
next_start pattern entry = start_or (next_entry pattern entry) (token_of (same_kind k.TOKEN_ELLIPSIS) pattern)

-- each comment has such a byte: `#` or `*`
abbrev pub is_mark : ℕ → Bool
is_mark byte = byte == 35 || byte == 42

-- a range of a text may hold a comment, or is none
abbrev pub may_hold_comment : List ℕ → ℕ → ℕ → Bool
may_hold_comment text start end = nat_lt end start || (nat_lt (length text) end || list_any is_mark (slice_range text start end))

-- an argument is removed, up to the next one or `...`, unless a comment might go with it
abbrev pub argument_to : List ℕ → Located → Option ℕ → Option Change
argument_to text entry None = None
argument_to text entry (Some end) = if may_hold_comment text (start_at entry) end then None else Some (deletion text (start_at entry) end)

-- an argument of a pattern with `...` is removed
abbrev pub argument_removal : List ℕ → Located → Located → Option Change
argument_removal text pattern entry = argument_to text entry (next_start pattern entry)

-- the same, if there is a pattern
abbrev pub argument_removal_in : List ℕ → Option Located → Located → Option Change
argument_removal_in text None entry = None
argument_removal_in text (Some pattern) entry = argument_removal text pattern entry

-- how the name at a node is removed, given its parent
abbrev pub removal_below : List ℕ → BTreeSet ℕ → Bool → Located → Option Located → Option Change
removal_below text dead is_free name None = None
removal_below text dead is_free name (Some parent) =
    if same_kind (item_of parent).kind k.NODE_ATTRPATH then path_removal text dead (parent_of parent)
    else (if same_kind (item_of parent).kind k.NODE_INHERIT then inherit_removal text dead name parent
    else (if same_kind (item_of parent).kind k.NODE_IDENT_PARAM && is_free then Some (hole name)
    else (if same_kind (item_of parent).kind k.NODE_PAT_BIND then Some (bind_removal text parent)
    else (if same_kind (item_of parent).kind k.NODE_PAT_ENTRY then argument_removal_in text (parent_of parent) parent
    else None))))

-- how the unused name at a node is removed, if it is, given the offsets of all names that are to be removed, and whether no name of the text is `_`
abbrev pub removal_of : List ℕ → BTreeSet ℕ → Bool → Located → Option Change
removal_of text dead is_free name = removal_below text dead is_free name (parent_of name)
