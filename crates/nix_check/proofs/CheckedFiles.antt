-- The output for files, and the counts.
use Rattle.std.proofs.Common.{◌≡◌, ℕ, ◌+◌, ◌<◌, List, [], length, map, take, get_or, Option, Some, sym, subst, inl, inr}
use Rattle.std.proofs.KnownBytes.{Appends-nil, Appends-kept, Appends-trans, Keeps-trans}
use Rattle.std.specs.{Prelude.{string_bytes, String}, Io.KnownBytes.{Keeps}, declared.alloc.Global.Global}
use Rattle.nix_cli.{specs.{KnownTexts.{KnownTexts, Agrees}, MessageLocations.display_name}, proofs.ProcessedLemmas.names_more}
use Rattle.nix_check.specs.declared.{tally.{Tally.Tally, Counts.Counts}, style.Style.Style}
use Rattle.nix_check.specs.{PrintedFindings.IsChecked, Tallies.{TalliedEffect, found_by, AreTallied, one_tallied}, ErrorReport.{IsTextCounted, IsFileCounted}}

-- checking a text, after calls that change no output
pub checked_after : (style : Style) (name text : List ℕ) (earlier : ℕ) (old mid new : Option (List ℕ)) (counts : Counts) → Keeps old mid →
    IsChecked style name text earlier mid new counts → IsChecked style name text earlier old new counts
checked_after style name text earlier old mid new counts kept checked = record {
  tree = checked.tree;
  faults = checked.faults;
  read = checked.read;
  items = checked.items;
  are = checked.are;
  counted = checked.counted;
  bytes = checked.bytes;
  are_printed = checked.are_printed;
  written = Appends-trans old mid new [] checked.bytes (Appends-kept old old mid [] (Appends-nil old) kept) checked.written;
}

-- checking a text, before calls that change no output
pub checked_before : (style : Style) (name text : List ℕ) (earlier : ℕ) (old mid new : Option (List ℕ)) (counts : Counts) →
    IsChecked style name text earlier old mid counts → Keeps mid new → IsChecked style name text earlier old new counts
checked_before style name text earlier old mid new counts checked kept = record {
  tree = checked.tree;
  faults = checked.faults;
  read = checked.read;
  items = checked.items;
  are = checked.are;
  counted = checked.counted;
  bytes = checked.bytes;
  are_printed = checked.are_printed;
  written = Appends-kept old mid new checked.bytes checked.written kept;
}

-- a file that is read is counted
pub file_checked : (style : Style) (texts : KnownTexts) (file name text : List ℕ) (before after : Tally) (old mid new : Option (List ℕ)) →
    Agrees (texts file) (Some text) → Keeps old mid → name ≡ display_name file → IsTextCounted style name text before mid new after →
    IsFileCounted style texts file before old new after
file_checked style texts file name text before after old mid new known kept is counted =
    let shown = subst (λ (n : List ℕ). IsTextCounted style n text before mid new after) is counted in
    inr (text, known, (shown.0, checked_after style (display_name file) text (found_by before) old mid new shown.0 kept shown.1, shown.2))

-- counting a file, before calls that change no output
pub counted_before : (style : Style) (texts : KnownTexts) (file : List ℕ) (before after : Tally) (old mid new : Option (List ℕ)) →
    IsFileCounted style texts file before old mid after → Keeps mid new → IsFileCounted style texts file before old new after
counted_before style texts file before after old mid new (inl unread) kept = inl (unread.0, Keeps-trans old mid new unread.1 kept, unread.2)
counted_before style texts file before after old mid new (inr checked) kept =
    inr (
      checked.0,
      checked.1,
      (checked.2.0, checked_before style (display_name file) checked.0 (found_by before) old mid new checked.2.0 checked.2.1 kept, checked.2.2),
    )

-- one more file is counted
pub one_counted : (Effect : TalliedEffect) (failed : ℕ) (old mid new : Option (List ℕ)) (files : List (String Global)) (i : ℕ) (file : String Global)
    (before after : Tally) → i < length files → file ≡ get_or files i file →
    AreTallied Effect failed old (map string_bytes (take i files)) mid before → Effect (string_bytes file) before mid new after →
    AreTallied Effect failed old (map string_bytes (take (i + 1) files)) new after
one_counted Effect failed old mid new files i file before after within is counted does =
    subst (λ (names : List (List ℕ)). AreTallied Effect failed old names new after) (sym (names_more files i file within is))
    (one_tallied (map string_bytes (take i files)) mid new before after (string_bytes file) counted does)
