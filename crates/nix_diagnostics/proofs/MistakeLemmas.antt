-- The errors at which runs begin, and the mistakes that begin there.
use Rattle.std.proofs.Common.{◌≡◌, ◌∙◌, ℕ, zero, suc, ◌+◌, ◌<◌, ◌≤◌, min, IfSome, Bool, true, false, if◌then◌else◌, get_or, take, drop, List, [], ◌∷◌, ◌++◌, length, map, sym, ap, subst, arith, refl, inl, inr}
use Rattle.std.specs.{List.{All, range_with_len}, Prelude.{Option, Some, None, option_map, slice_get}}
use Rattle.std.proofs.lemmas.List.{append_assoc, append-nil, length_push, map_more, length-map, length-take-le, take_all, take_more, map_push}
use Rattle.std.proofs.lemmas.{Bool.cases_lt, Option.{slice_get-get_or, get_or_from_slice_get}, List.Elements.All-push}
use Rattle.std.specs.Option.{option_to_list}
use Rattle.nix_diagnostics.specs.declared.diagnostic.Diagnostic.{Diagnostic}
use Rattle.std.proofs.lemmas.List.FromFn.{get_or-range_with_len, length-range_with_len}
use Rattle.rnix_green.specs.Tree.{Located}
use Rattle.rnix_grammar.specs.declared.error.ParseError.{ParseError}
use Rattle.rnix_grammar.specs.Fault.{Fault, fault_of}
use Rattle.nix_diagnostics.specs.Following.{follows, firsts, firsts_from, next_or}
use Rattle.nix_diagnostics.specs.Mistakes.{Mistake, mistake_of, HasMessage, AreWorded, fault_at, mistake_at, mistakes_at, starts}

-- the errors that follow from no earlier one, in two concatenated lists of errors
pub firsts_append : (root : Located) (all before faults more : List Fault) →
    firsts_from root all before (faults ++ more) ≡ firsts_from root all before faults ++ firsts_from root all (before ++ faults) more
firsts_append root all before [] more = ap (λ b. firsts_from root all b more) (sym (append-nil before))
firsts_append root all before (f ∷ faults) more =
    step (follows root all before f) (firsts_append root all (before ++ f ∷ []) faults more
    ∙ ap (λ b. firsts_from root all (before ++ f ∷ []) faults ++ firsts_from root all b more) (append_assoc before (f ∷ []) faults)) where
      step : (b : Bool) →
          firsts_from root all (before ++ f ∷ []) (faults ++ more)
          ≡ firsts_from root all (before ++ f ∷ []) faults ++ firsts_from root all (before ++ f ∷ faults) more →
          (if b then firsts_from root all (before ++ f ∷ []) (faults ++ more) else length before ∷ firsts_from root all (before ++ f ∷ []) (faults ++ more))
          ≡ (if b then firsts_from root all (before ++ f ∷ []) faults else length before ∷ firsts_from root all (before ++ f ∷ []) faults)
          ++ firsts_from root all (before ++ f ∷ faults) more
      step true rest = rest
      step false rest = ap (λ ns. length before ∷ ns) rest

-- one more error, which follows from earlier ones or not
pub first_more : (root : Located) (all before more : List Fault) (fault : Fault) (b : Bool) → follows root all before fault ≡ b → more ≡ before ++ fault ∷ [] →
    firsts_from root all [] more ≡ firsts_from root all [] before ++ (if b then [] else length before ∷ [])
first_more root all before more fault b does is =
    ap (firsts_from root all []) is ∙ firsts_append root all [] before (fault ∷ [])
    ∙ ap (λ d. firsts_from root all [] before ++ (if d then [] else length before ∷ [])) does

-- at the end, all errors were judged
pub all_judged : (root : Located) (errors : List ParseError) (n : ℕ) → length errors ≤ n →
    firsts_from root (map fault_of errors) [] (map fault_of (take n errors)) ≡ firsts root (map fault_of errors)
all_judged root errors n done = ap (λ es. firsts_from root (map fault_of errors) [] (map fault_of es)) (take_all n errors done)

-- i errors come before the error with index i
pub count_before : (errors : List ParseError) (i : ℕ) → i < length errors → i ≡ length (map fault_of (take i errors))
count_before errors i is_there = sym (length-map (take i errors) fault_of ∙ length-take-le i errors (omega (arith, is_there)))

-- the errors up to index i are those before it, and that error
pub up_to : (errors : List ParseError) (i : ℕ) (e : ParseError) → i < length errors → e ≡ get_or errors i e →
    map fault_of (take (i + 1) errors) ≡ map fault_of (take i errors) ++ fault_of e ∷ []
up_to errors i e is_there is =
    map_more fault_of errors i e is_there ∙ ap (λ x. map fault_of (take i errors) ++ fault_of x ∷ []) (sym is)

-- a run begins at an error of the text
pub firsts_within : (root : Located) (all before faults : List Fault) → All (λ n. n < length before + length faults) (firsts_from root all before faults)
firsts_within root all before [] = λ k d less. absurd (omega (arith, less))
firsts_within root all before (f ∷ faults) =
    step (follows root all before f) (subst (λ n. All (λ m. m < n) (firsts_from root all (before ++ f ∷ []) faults))
    (omega (arith, length_push before f)) (firsts_within root all (before ++ f ∷ []) faults)) where
      step : (b : Bool) → All (λ n. n < length before + length (f ∷ faults)) (firsts_from root all (before ++ f ∷ []) faults) →
          All (λ n. n < length before + length (f ∷ faults))
          (if b then firsts_from root all (before ++ f ∷ []) faults else length before ∷ firsts_from root all (before ++ f ∷ []) faults)
      step true rest = rest
      step false rest = at where
        at : All (λ n. n < length before + length (f ∷ faults)) (length before ∷ firsts_from root all (before ++ f ∷ []) faults)
        at zero d less = omega arith
        at (suc k) d less = rest k d (omega (arith, less))

-- so does each run, if it is one error
range_within : (n : ℕ) → All (λ m. m < n) (range_with_len 0 n)
range_within n k d less =
    subst (λ m. m < n) (sym (get_or-range_with_len 0 n k d (omega (arith, less, length-range_with_len 0 n))))
    (omega (arith, less, length-range_with_len 0 n))

pub starts_within : (is_each : Bool) (root : Located) (faults : List Fault) → All (λ n. n < length faults) (starts is_each root faults)
starts_within true root faults = range_within (length faults)
starts_within false root faults =
    subst (λ n. All (λ m. m < n) (firsts root faults)) (omega arith) (firsts_within root faults [] faults)

-- one number more
next_number : (a n : ℕ) → range_with_len a (suc n) ≡ range_with_len a n ++ (a + n) ∷ []
next_number a zero = ap (λ k. k ∷ []) (omega arith)
next_number a (suc n) = ap (λ ns. a ∷ ns) (next_number (a + 1) n ∙ ap (λ k. range_with_len (a + 1) n ++ k ∷ []) (omega arith))

pub one_number : (n : ℕ) → range_with_len 0 (n + 1) ≡ range_with_len 0 n ++ n ∷ []
one_number n =
    let next : n + 1 ≡ suc n = omega arith in
    let same : 0 + n ≡ n = omega arith in
    ap (range_with_len 0) next ∙ next_number 0 n ∙ ap (λ k. range_with_len 0 n ++ k ∷ []) same

-- the mistake with a number, from the error at which it begins
mistake_from : (root : Located) (faults : List Fault) (ns : List ℕ) (i : ℕ) →
    slice_get (mistakes_at root faults ns) i
    ≡ option_map (λ first. mistake_at root (fault_at faults first) first (next_or (length faults) (drop (suc i) ns))) (slice_get ns i)
mistake_from root faults [] i = refl
mistake_from root faults (n ∷ ns) zero = refl
mistake_from root faults (n ∷ ns) (suc i) = mistake_from root faults ns i

pub mistake_with : (root : Located) (faults : List Fault) (ns : List ℕ) (i : ℕ) →
    slice_get (mistakes_at root faults ns) i
    ≡ option_map (λ first. mistake_at root (fault_at faults first) first (next_or (length faults) (drop (i + 1) ns))) (slice_get ns i)
mistake_with root faults ns i =
    let next : suc i ≡ i + 1 = omega arith in
    mistake_from root faults ns i
    ∙ ap (λ k. option_map (λ first. mistake_at root (fault_at faults first) first (next_or (length faults) (drop k ns))) (slice_get ns i)) next

-- there are as many mistakes as errors at which one begins
pub count_mistakes : (root : Located) (faults : List Fault) (ns : List ℕ) → length (mistakes_at root faults ns) ≡ length ns
count_mistakes root faults [] = refl
count_mistakes root faults (n ∷ ns) = ap suc (count_mistakes root faults ns)

-- as many mistakes as there are, and as many up to a limit
pub all_of_them : (root : Located) (faults : List Fault) (starts : List ℕ) (count : ℕ) → count ≡ length starts →
    take count (mistakes_at root faults starts) ≡ mistakes_at root faults starts
all_of_them root faults starts count is =
    take_all count (mistakes_at root faults starts) (omega (arith, count_mistakes root faults starts, is))

pub first_of_them : (root : Located) (faults : List Fault) (starts : List ℕ) (count most : ℕ) → count ≡ min (length starts) most →
    take count (mistakes_at root faults starts) ≡ take most (mistakes_at root faults starts)
first_of_them root faults starts count most is =
    let all = mistakes_at root faults starts in
    elim (cases_lt most (length starts)) [
      | inl less ↦ (let same : count ≡ most = omega (arith, is, less) in ap (λ n. take n all) same)
      | inr more ↦ take_all count all (omega (arith, count_mistakes root faults starts, is, more))
          ∙ sym (take_all most all (omega (arith, count_mistakes root faults starts, more)))
    ]

-- there is a mistake with each number below their count
some_there : (all : List Mistake) (i : ℕ) → i < length all → None ≡ slice_get all i → ⊥
some_there [] i within none = absurd (omega (arith, within))
some_there (m ∷ all) i within none =
    subst (λ (o : Option Mistake). IfSome o (λ mistake. ⊥)) (none ∙ slice_get-get_or (m ∷ all) i m within) tt

-- one more diagnostic
pub one_worded : (all : List Mistake) (old new : List Diagnostic) (i : ℕ) (d : Option Diagnostic) → i < length all → AreWorded (take i all) old →
    option_map mistake_of d ≡ slice_get all i → IfSome d HasMessage → new ≡ old ++ option_to_list d → AreWorded (take (i + 1) all) new
one_worded all old new i None within are is message added = absurd (some_there all i within is)
one_worded all old new i (Some d) within are is message added =
    let m = mistake_of d in
    record {
      are =
          ap (map mistake_of) added ∙ map_push mistake_of old d ∙ ap (λ ms. ms ++ m ∷ []) are.are
          ∙ ap (λ x. take i all ++ x ∷ []) (sym (get_or_from_slice_get all i m m (sym is))) ∙ sym (take_more all i m within);
      messages = subst (All HasMessage) (sym added) (All-push HasMessage old d are.messages message);
    }
