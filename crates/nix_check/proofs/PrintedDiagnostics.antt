-- The output for the diagnostics of a text.
use Rattle.std.proofs.Common.{◌≡◌, ◌∙◌, IfSome, ℕ, ◌+◌, ◌-◌, ◌==◌, ◌<◌, nat_lt, min, Bool, false, List, [], ◌∷◌, ◌++◌, length, map, take, get_or, Option, Some, None, sym, ap, subst, arith, refl, inl, inr}
use Rattle.std.specs.Prelude.{slice_get, string_bytes}
use Rattle.std.proofs.{KnownBytes.{Appends-nil, Appends-trans}, lemmas.{List.take_all, Bool.cases_lt, Option.{get_or_from_slice_get}}}
use Rattle.std.specs.Io.KnownBytes.{Appends}
use Rattle.rnix_kinds.specs.Lexical.Tokens.{tokens_of}
use Rattle.rnix_green.specs.Tree.{Tree}
use Rattle.rnix_grammar.specs.{Fault.Fault, Parsed.IsParsed}
use Rattle.nix_diagnostics.specs.declared.diagnostic.Diagnostic.{Diagnostic}
use Rattle.nix_check.specs.declared.style.Style.{Style}
use Rattle.nix_check.specs.declared.style.Format.{Format}
use Rattle.nix_check.specs.declared.style.Format.TheVariants as form
use Rattle.nix_check.specs.declared.tally.Counts.{Counts}
use Rattle.nix_lints.specs.Items.{Item, AreItems, IsWordedAt}
use Rattle.nix_lints.proofs.ReportedLemmas.{some_item}
use Rattle.nix_check.specs.{AsText.IsText, AsJson.json_line, AsSarif.{sarif_result, separator}}
use Rattle.nix_check.specs.Listed.{Prints, none_listed}
use Rattle.nix_check.specs.PrintedFindings.{IsPrintedAs, IsPrinted, IsPrintedItem, AreFormed, ArePrinted, IsChecked, more_line, counts_of}
use Rattle.nix_check.proofs.ListedPieces.{one_printed}

-- printing a diagnostic in the form of the style
pub as_text : (style : Style) (name text : List ℕ) (is_first : Bool) (d : Diagnostic) (old new : Option (List ℕ)) → style.format ≡ form.Text →
    Prints (IsText style.is_colored name text d) old new → Prints (IsPrinted style name text is_first d) old new
as_text style name text is_first d old new is printed =
    (printed.0, subst (λ (f : Format). IsPrintedAs f style.is_colored name text is_first d printed.0) (sym is) printed.1, printed.2)

pub as_json : (style : Style) (name text : List ℕ) (is_first : Bool) (d : Diagnostic) (old new : Option (List ℕ)) → style.format ≡ form.Json →
    Appends old new (json_line name text d) → Prints (IsPrinted style name text is_first d) old new
as_json style name text is_first d old new is written =
    (json_line name text d, subst (λ (f : Format). IsPrintedAs f style.is_colored name text is_first d (json_line name text d)) (sym is) refl, written)

pub as_sarif : (style : Style) (name text : List ℕ) (is_first : Bool) (d : Diagnostic) (old new : Option (List ℕ)) → style.format ≡ form.Sarif →
    Appends old new (separator is_first ++ sarif_result name text d) → Prints (IsPrinted style name text is_first d) old new
as_sarif style name text is_first d old new is written = (
  separator is_first ++ sarif_result name text d,
  subst (λ (f : Format). IsPrintedAs f style.is_colored name text is_first d (separator is_first ++ sarif_result name text d)) (sym is) refl,
  written,
)

-- the first items, as many as are counted up to a limit
pub first_items : (items : List Item) (count limit : ℕ) → count ≡ min (length items) limit → take count items ≡ take limit items
first_items items count limit is = elim (cases_lt limit (length items)) [
  | inl less ↦ (let same : count ≡ limit = omega (arith, is, less) in ap (λ n. take n items) same)
  | inr more ↦ take_all count items (omega (arith, is, more)) ∙ sym (take_all limit items more)
]

-- printing one more item in words
pub item_printed : (style : Style) (name text : List ℕ) (earlier : ℕ) (items : List Item) (i : ℕ) (found : Option Diagnostic) (is_first : Bool)
    (old mid new : Option (List ℕ)) → i < length items → is_first ≡ (earlier + i == 0) → IsWordedAt items i found →
    ((d : Diagnostic) → found ≡ Some d → Prints (IsPrinted style name text is_first d) mid new) →
    Prints (AreFormed style name text earlier (take i items)) old mid → Prints (AreFormed style name text earlier (take (i + 1) items)) old new
item_printed style name text earlier items i None is_first old mid new within first none prints before = absurd (some_item items i within none)
item_printed style name text earlier items i (Some d) is_first old mid new within first worded prints before =
    let item = worded.0 in
    let printed = prints d refl in
    let same : item ≡ get_or items i item = sym (get_or_from_slice_get items i item item worded.1) in
    one_printed (λ (number : ℕ) (item : Item) (piece : List ℕ). IsPrintedItem style name text (number == 0) item piece) earlier items i item old mid new within
    before
    (subst (λ (own : Item). Prints (IsPrintedItem style name text (earlier + i == 0) own) mid new) same
    (printed.0, (d, worded.2, subst (λ (b : Bool). IsPrinted style name text b d printed.0) first printed.1), printed.2))

-- printing the items up to the limit, and the line about the others
pub all_printed : (style : Style) (name text : List ℕ) (earlier : ℕ) (items : List Item) (has_warnings : Bool) (more : ℕ) (old mid new : Option (List ℕ)) →
    has_warnings ≡ nat_lt 0 (counts_of items).warnings → more ≡ length items - style.limit →
    Prints (AreFormed style name text earlier (take style.limit items)) old mid → Appends mid new (more_line name has_warnings more) →
    Prints (ArePrinted style name text earlier items) old new
all_printed style name text earlier items has_warnings more old mid new some remaining shown line = (
  shown.0 ++ more_line name has_warnings more,
  record { shown = shown.0; are_shown = shown.1; whole = (λ k. shown.0 ++ more_line name (some k) (remaining k)) },
  Appends-trans old mid new shown.0 (more_line name has_warnings more) shown.2 line,
)

-- a text is checked
pub text_checked : (style : Style) (name text : List ℕ) (earlier : ℕ) (old new : Option (List ℕ)) (tree : Tree) (faults : List Fault)
    (items : List Item) (counts : Counts) → IsParsed (tokens_of text) tree faults →
    AreItems style.is_each (map string_bytes style.disabled.now) record { tree = tree; number = 0 } faults items → counts ≡ counts_of items →
    Prints (ArePrinted style name text earlier items) old new → IsChecked style name text earlier old new counts
text_checked style name text earlier old new tree faults items counts read are counted printed = record {
  tree = tree;
  faults = faults;
  read = read;
  items = items;
  are = are;
  counted = counted;
  bytes = printed.0;
  are_printed = printed.1;
  written = printed.2;
}

none_printed_of : (style : Style) (name text : List ℕ) (earlier : ℕ) (old : Option (List ℕ)) →
    Prints (AreFormed style name text earlier (take style.limit [])) old old
none_printed_of style name text earlier old =
    subst (λ (items : List Item). Prints (AreFormed style name text earlier items) old old) (sym (take_all style.limit [] (omega arith)))
    ([], none_listed, Appends-nil old)

-- if nothing is reported, nothing is printed
pub nothing_printed : (style : Style) (name text : List ℕ) (earlier : ℕ) (items : List Item) (old : Option (List ℕ)) → length items ≡ 0 →
    Prints (ArePrinted style name text earlier items) old old
nothing_printed style name text earlier [] old none =
    all_printed style name text earlier [] false 0 old old old refl (omega arith) (none_printed_of style name text earlier old) (Appends-nil old)
nothing_printed style name text earlier (item ∷ items) old none = absurd (omega (arith, none))

-- and nothing is counted
pub nothing_counted : (items : List Item) → length items ≡ 0 → record { errors = 0; warnings = 0 } ≡ counts_of items
nothing_counted [] none = refl
nothing_counted (item ∷ items) none = absurd (omega (arith, none))
