-- What is reported of a text, and how much.
use Rattle.std.proofs.Common.{◌≡◌, ◌∙◌, IfSome, cond, ℕ, zero, suc, ◌+◌, ◌<◌, ◌≤◌, Bool, true, false, List, [], ◌∷◌, ◌++◌, length, map, take, get_or, Option, Some, None, if◌then◌else◌, sym, ap, refl, subst, arith}
use Rattle.std.specs.{List.{filter, AllZip, Sorted.IsNonDecreasingBy}, Option.option_to_list, Prelude.{option_map, slice_get}}
use Rattle.std.proofs.lemmas.{List.{map_more, take_more, take_all, get_or-map, length-map, length-append, Elements.filter-append}, Option.{slice_get-map, slice_get-get_or, get_or_from_slice_get}}
use Rattle.rnix_green.specs.Tree.{Located, text_at}
use Rattle.rnix_grammar.specs.Fault.{Fault, unexpected_at, extra, unwanted, double_bind, unexpected_eof, unexpected_eof_wanted, duplicated_args, too_deep}
use Rattle.nix_diagnostics.specs.Codes.{code_of, severity_of}
use Rattle.nix_diagnostics.specs.Described.{Describes, GivesDiagnostic}
use Rattle.nix_diagnostics.specs.Mistakes.{Mistake, mistake_of, mistake_at, fault_at, mistakes_at, mistakes, starts, HasMessage}
use Rattle.nix_diagnostics.specs.declared.{diagnosis.Diagnosis.Diagnosis, diagnostic.Diagnostic.Diagnostic}
use Rattle.nix_diagnostics.proofs.MistakeLemmas.{count_mistakes}
use Rattle.std.specs.Global.{Vec}
use Rattle.nix_diagnostics.specs.Following.{next_or}
use Rattle.nix_lints.specs.declared.finding.Finding.{Finding}
use Rattle.nix_lints.specs.{Found.{Found, found_of}, Lints.AreLints, Words.{said_of, said}}
use Rattle.nix_lints.specs.Items.{Item, mistake, finding, is_error, is_serious, AreItems, is_enabled, IsReported, IsWorded, IsWordedAt, AreAllWorded}
use Rattle.nix_lints.specs.declared.reported.Reported.TheVariants as reported

-- one more value is tested
pub filtered_more : {A B : Type 0} (p : B → Bool) (f : A → B) (xs : List A) (i : ℕ) (x : A) → i < length xs → x ≡ get_or xs i x →
    filter p (map f (take (i + 1) xs)) ≡ filter p (map f (take i xs)) ++ filter p (f x ∷ [])
filtered_more {A} {B} p f xs i x within is =
    ap (filter p) (map_more f xs i x within) ∙ filter-append p (map f (take i xs)) (f (get_or xs i x) ∷ [])
    ∙ ap (λ y. filter p (map f (take i xs)) ++ filter p (f y ∷ [])) (sym is)

-- a place that a finding does not precede
pub start_before : (all : List Finding) (i place : ℕ) (own : Finding) → own ≡ get_or all i own → place ≤ (get_or all i own).range.start →
    place ≤ own.range.start
start_before all i place own is before = subst (λ (f : Finding). place ≤ f.range.start) (sym is) before

-- the next finding does not begin before a finding
pub next_start : (all : List Finding) (i : ℕ) (own d : Finding) → own ≡ get_or all i own →
    IsNonDecreasingBy (λ (f : Found). f.extent.start) (map found_of all) → i + 1 < length all → own.range.start ≤ (get_or all (i + 1) d).range.start
next_start all i own d is up within =
    let one : get_or (map found_of all) i (found_of d) ≡ found_of (get_or all i own) = get_or-map found_of all i own (found_of d) (omega (arith, within)) in
    let other : get_or (map found_of all) (i + 1) (found_of d) ≡ found_of (get_or all (i + 1) d) = get_or-map found_of all (i + 1) d (found_of d) within in
    let up_here = up i (i + 1) (found_of d) (omega arith) (omega (arith, within, length-map all found_of)) in
    subst (λ (f : Finding). f.range.start ≤ (get_or all (i + 1) d).range.start) (sym is)
    (subst (λ (f : Found). (found_of (get_or all i own)).extent.start ≤ f.extent.start) other
    (subst (λ (f : Found). f.extent.start ≤ (get_or (map found_of all) (i + 1) (found_of d)).extent.start) one up_here))

-- one more value is counted
counted_one : {B : Type 0} (p : B → Bool) (y : B) → length (filter p (y ∷ [])) ≡ (if p y then 1 else 0)
counted_one {B} p y = step (p y) where
  step : (b : Bool) → length (cond b (y ∷ []) []) ≡ (if b then 1 else 0)
  step true = refl
  step false = refl

pub counted_more : {A B : Type 0} (p : B → Bool) (f : A → B) (xs : List A) (i n : ℕ) (x : A) → i < length xs → x ≡ get_or xs i x →
    n ≡ length (filter p (map f (take i xs))) → n + (if p (f x) then 1 else 0) ≡ length (filter p (map f (take (i + 1) xs)))
counted_more {A} {B} p f xs i n x within is before =
    (λ k. before k + sym (counted_one p (f x)) k) ∙ sym (length-append (filter p (map f (take i xs))) (filter p (f x ∷ [])))
    ∙ ap length (sym (filtered_more p f xs i x within is))

-- a mistake is an error
mistake_is_error : (fault : Fault) → is_serious (severity_of (code_of fault)) ≡ true
mistake_is_error (unexpected_at range) = refl
mistake_is_error (extra range) = refl
mistake_is_error (unwanted kind range kinds) = refl
mistake_is_error (double_bind range) = refl
mistake_is_error unexpected_eof = refl
mistake_is_error (unexpected_eof_wanted kinds) = refl
mistake_is_error (duplicated_args range name) = refl
mistake_is_error too_deep = refl

-- so all mistakes are
all_errors : (root : Located) (faults : List Fault) (ns : List ℕ) →
    filter is_error (map mistake (mistakes_at root faults ns)) ≡ map mistake (mistakes_at root faults ns)
all_errors root faults [] = refl
all_errors root faults (n ∷ ns) =
    let m = mistake (mistake_at root (fault_at faults n) n (next_or (length faults) ns)) in
    ap (λ b. cond b (m ∷ filter is_error (map mistake (mistakes_at root faults ns))) (filter is_error (map mistake (mistakes_at root faults ns))))
    (mistake_is_error (fault_at faults n))
    ∙ ap (λ items. m ∷ items) (all_errors root faults ns)

-- what is reported of a text with errors
pub mistakes_reported : (is_each : Bool) (disabled : List (List ℕ)) (root : Located) (faults : List Fault) (d : Diagnosis) → (faults ≡ [] → ⊥) →
    Describes root faults (starts is_each root faults) d →
    (items : List Item) × AreItems is_each disabled root faults items × IsReported items (reported.Mistakes d)
mistakes_reported is_each disabled root faults d some are = (
  map mistake (mistakes is_each root faults),
  record { errors = λ _. refl; lints = λ none. absurd (some none) },
  (root, faults, starts is_each root faults, are, refl),
)

-- what is reported of a text without errors
pub findings_reported : (is_each : Bool) (disabled : List (List ℕ)) (root : Located) (faults : List Fault) (all : List Found) (found : Vec Finding) →
    faults ≡ [] → AreLints root all → map found_of found.items ≡ filter (is_enabled (text_at root) disabled) all →
    (items : List Item) × AreItems is_each disabled root faults items × IsReported items (reported.Findings found)
findings_reported is_each disabled root faults all found none are same = (
  map finding (filter (is_enabled (text_at root) disabled) all),
  record { errors = λ some. absurd (some none); lints = λ _. (all, are, refl) },
  ap (map finding) (sym same),
)

-- the number of mistakes
pub count_of_mistakes : (items : List Item) (d : Diagnosis) → IsReported items (reported.Mistakes d) → length d.starts.items ≡ length items
count_of_mistakes items d (root, faults, ns, are, is) =
    ap length are.starts_are ∙ sym (count_mistakes root faults ns) ∙ sym (length-map (mistakes_at root faults ns) mistake) ∙ ap length (sym is)

pub errors_of_mistakes : (items : List Item) (d : Diagnosis) → IsReported items (reported.Mistakes d) →
    length d.starts.items ≡ length (filter is_error items)
errors_of_mistakes items d (root, faults, ns, are, is) =
    count_of_mistakes items d (root, faults, ns, are, is) ∙ ap length is ∙ ap length (sym (all_errors root faults ns))
    ∙ ap (λ i. length (filter is_error i)) (sym is)

-- the number of findings
pub count_of_findings : (items : List Item) (found : Vec Finding) → IsReported items (reported.Findings found) → length found.items ≡ length items
count_of_findings items found is =
    sym (length-map found.items found_of) ∙ sym (length-map (map found_of found.items) finding) ∙ ap length (sym is)

-- the mistake with a number in words
mistake_worded : (items : List Item) (ms : List Mistake) (number : ℕ) (found : Option Diagnostic) → items ≡ map mistake ms →
    option_map mistake_of found ≡ slice_get ms number → IfSome found HasMessage → IsWordedAt items number found
mistake_worded items ms number None is same message =
    ap (λ i. slice_get i number) is ∙ slice_get-map mistake ms number ∙ ap (option_map mistake) (sym same)
mistake_worded items ms number (Some d) is same message = (
  mistake (mistake_of d),
  ap (λ i. slice_get i number) is ∙ slice_get-map mistake ms number ∙ ap (option_map mistake) (sym same),
  (refl, message),
)

pub mistake_given : (items : List Item) (old new : Diagnosis) (number : ℕ) (found : Option Diagnostic) → GivesDiagnostic old new number found →
    IsReported items (reported.Mistakes old) → IsReported items (reported.Mistakes new) × IsWordedAt items number found
mistake_given items old new number found gives (root, faults, ns, are, is) =
    let given = gives root faults ns are in
    ((root, faults, ns, given.0, is), mistake_worded items (mistakes_at root faults ns) number found is given.1.mistake given.1.has_message)

-- the finding with a number, if there is one
at_findings : (found : List Finding) (number : ℕ) →
    slice_get (map finding (map found_of found)) number ≡ option_map (λ f. finding (found_of f)) (slice_get found number)
at_findings [] number = refl
at_findings (f ∷ found) zero = refl
at_findings (f ∷ found) (suc number) = at_findings found number

pub no_finding : (found : List Finding) (number : ℕ) → slice_get found number ≡ None → IsWordedAt (map finding (map found_of found)) number None
no_finding found number none = at_findings found number ∙ ap (option_map (λ f. finding (found_of f))) none

pub finding_worded : (found : List Finding) (number : ℕ) (f : Finding) (d : Diagnostic) → slice_get found number ≡ Some f → said_of d ≡ said (found_of f) →
    IsWordedAt (map finding (map found_of found)) number (Some d)
finding_worded found number f d is words =
    (finding (found_of f), at_findings found number ∙ ap (option_map (λ f. finding (found_of f))) is, words)

-- findings as items
as_items : (found : List Finding) → map (λ f. finding (found_of f)) found ≡ map finding (map found_of found)
as_items [] = refl
as_items (f ∷ found) = ap (λ items. finding (found_of f) ∷ items) (as_items found)

-- all findings were counted
pub all_counted : (found : List Finding) (n count : ℕ) → length found ≤ n →
    count ≡ length (filter is_error (map (λ f. finding (found_of f)) (take n found))) → count ≡ length (filter is_error (map finding (map found_of found)))
all_counted found n count done counted =
    counted ∙ ap (λ all. length (filter is_error (map (λ f. finding (found_of f)) all))) (take_all n found done)
    ∙ ap (λ items. length (filter is_error items)) (as_items found)

-- no item in words
pub none_worded : (items : List Item) (found : List Diagnostic) → found ≡ [] → AreAllWorded (take 0 items) found
none_worded [] found none = subst (λ (ds : List Diagnostic). AreAllWorded [] ds) (sym none) tt
none_worded (item ∷ items) found none = subst (λ (ds : List Diagnostic). AreAllWorded [] ds) (sym none) tt

-- one pair more
pair_more : {A B : Type 0} (R : A → B → Type 0) (xs : List A) (ys : List B) (x : A) (y : B) → AllZip R xs ys → R x y →
    AllZip R (xs ++ x ∷ []) (ys ++ y ∷ [])
pair_more {A} {B} R [] [] x y all own = (own, tt)
pair_more {A} {B} R [] (z ∷ ys) x y all own = absurd all
pair_more {A} {B} R (w ∷ xs) [] x y all own = absurd all
pair_more {A} {B} R (w ∷ xs) (z ∷ ys) x y all own = (all.0, pair_more R xs ys x y all.1 own)

-- there is an item with each number below their count
pub some_item : (items : List Item) (i : ℕ) → i < length items → slice_get items i ≡ None → ⊥
some_item [] i within none = absurd (omega (arith, within))
some_item (m ∷ items) i within none =
    subst (λ (o : Option Item). IfSome o (λ item. ⊥)) (sym none ∙ slice_get-get_or (m ∷ items) i m within) tt

-- one item more in words
pub one_worded : (items : List Item) (old new : List Diagnostic) (i : ℕ) (found : Option Diagnostic) → i < length items →
    AreAllWorded (take i items) old → IsWordedAt items i found → new ≡ old ++ option_to_list found → AreAllWorded (take (i + 1) items) new
one_worded items old new i None within before none added = absurd (some_item items i within none)
one_worded items old new i (Some d) within before worded added =
    let item = worded.0 in
    let same : get_or items i item ≡ item = get_or_from_slice_get items i item item worded.1 in
    let more : take i items ++ item ∷ [] ≡ take (i + 1) items = ap (λ (own : Item). take i items ++ own ∷ []) (sym same) ∙ sym (take_more items i item within) in
    subst (λ (ds : List Diagnostic). AreAllWorded (take (i + 1) items) ds) (sym added)
    (subst (λ (is : List Item). AreAllWorded is (old ++ d ∷ [])) more (pair_more IsWorded (take i items) old item d before worded.2))

-- all items are in words
pub all_items : (items : List Item) (found : List Diagnostic) (n : ℕ) → length items ≤ n → AreAllWorded (take n items) found → AreAllWorded items found
all_items items found n done all = subst (λ (is : List Item). AreAllWorded is found) (take_all n items done) all
