-- Unused names that are left out: by the options, or by a comment on the line before.
use Rattle.std.specs.Prelude.{◌≡◌, ◌≤◌, ◌-◌, ℕ, ◌&&◌, ◌||◌, not, Bool, List, length, take, drop, codes}
use Rattle.rnix_kinds.specs.declared.kinds.SyntaxKind.{SyntaxKind}
use Rattle.rnix_kinds.specs.declared.kinds.SyntaxKind.TheVariants as k
use Rattle.rnix_green.specs.Equality.{same_kind}
use Rattle.rnix_green.specs.Relatives.{parent_of}
use Rattle.rnix_green.specs.Tree.{Located}
use Rattle.nix_lints.specs.Found.{is_kind_in}
use Rattle.nix_lints.specs.Ignored.{begins_with_name, has_name, without_blanks, names_of, lines_at}
use Rattle.nix_lints.specs.declared.unused.UnusedName.{UnusedName}
use Rattle.nix_dead.specs.Dead.{start_of}
use Rattle.nix_dead.specs.declared.options.Options.{Options}
use Rattle.nix_dead.specs.declared.place.Place.{Place}

-- a line is the comment `# deadnix: skip`, perhaps with more words
abbrev pub is_skip : List ℕ → Bool
is_skip line = begins_with_name (without_blanks line) (codes "# deadnix: skip")

-- a line leaves out the unused names of the next line
abbrev pub leaves_out : List ℕ → Bool
leaves_out line = is_skip line || has_name (names_of line) (codes "unused-name")

-- the line before that in which a name begins leaves it out
abbrev pub is_left_out : List ℕ → UnusedName → Bool
is_left_out text name = leaves_out (lines_at text (start_of name)).before

-- the parent of a node has this kind
abbrev pub is_below : SyntaxKind → Located → Bool
is_below kind node = is_kind_in (λ own. same_kind own kind) (parent_of node)

-- the options leave out a name at this node
abbrev pub is_skipped : Options → Located → Bool
is_skipped options node = (options.skips_arguments && is_below k.NODE_IDENT_PARAM node) || (options.skips_entries && is_below k.NODE_PAT_ENTRY node)

-- a name is reported if it is unused: neither the options nor the line before leave it out
abbrev pub is_reported : List ℕ → Options → UnusedName → Bool
is_reported text options name = not (is_skipped options name.node) && not (is_left_out text name)

-- the program is at an offset of a text, and knows the line and whether the line before it leaves out names
pub record IsAt (text : List ℕ) (offset : ℕ) (place : Place) : Type 0 where
  pub text_is : place.text.now ≡ text
  pub offset_is : place.offset ≡ offset
  pub within : offset ≤ length text
  pub order : place.start ≤ offset
  pub current : (lines_at text offset).current ≡ take (offset - place.start) (drop place.start text)
  pub mark : place.is_left_out ≡ leaves_out (lines_at text offset).before
