-- Names that a set has twice, while values are added.
use Rattle.std.proofs.Common.{◌≡◌, ◌∙◌, ℕ, zero, suc, ◌+◌, ◌<◌, ◌≤◌, cond, List, [], ◌∷◌, ◌++◌, length, Option, Some, None, ⊎_elim, sym, refl, ap, ap₂, arith, append_assoc}
use Rattle.std.specs.Prelude.{slice_get, option_and_then, if◌then◌else◌}
use Rattle.std.proofs.lemmas.Bool.{cases_Bool, cond-true, cond-false, le-ltb, lt-ltb}
use Rattle.std.proofs.lemmas.List.{length-append}
use Rattle.std.proofs.lemmas.Option.{none-some, same_Some, option_and_then_some, slice_get_within}
use Rattle.nix_values.specs.Contents.{Entry}
use Rattle.nix_values.specs.RepeatedNames.{is_outside, last_outside, is_set_entry, entry_key, entry_keys, HasRepeatedName}
use Rattle.nix_values.proofs.BuiltLemmas.{get_last}

-- ---- values that are followed by others

pub get_front : (xs ys : List Entry) (i : ℕ) → i < length xs → slice_get (xs ++ ys) i ≡ slice_get xs i
get_front [] ys i less = absurd (omega (arith, less))
get_front (x ∷ xs) ys zero less = refl
get_front (x ∷ xs) ys (suc i) less = get_front xs ys i (omega (arith, less))

pub outside_front : (xs ys : List Entry) (i depth : ℕ) → i ≤ length xs → last_outside (xs ++ ys) i depth ≡ last_outside xs i depth
outside_front xs ys zero depth inside = refl
outside_front xs ys (suc i) depth inside =
    ap₂ (λ e (r : Option ℕ). if is_outside e depth then Some i else r) (get_front xs ys i (omega (arith, inside)))
    (outside_front xs ys i depth (omega (arith, inside)))

pub outside_below : (xs : List Entry) (i depth p : ℕ) → last_outside xs i depth ≡ Some p → p < i
outside_below xs zero depth p e = absurd (none-some p e)
outside_below xs (suc i) depth p e =
    ⊎_elim
    (λ is.
    let same : i ≡ p = same_Some i p (sym (cond-true (is_outside (slice_get xs i) depth) (Some i) (last_outside xs i depth) is) ∙ e) in
    omega arith)
    (λ is.
    let less : p < i = outside_below xs i depth p (sym (cond-false (is_outside (slice_get xs i) depth) (Some i) (last_outside xs i depth) is) ∙ e) in
    omega arith)
    (cases_Bool (is_outside (slice_get xs i) depth))

key_front_at : (xs ys : List Entry) (i : ℕ) (entry : Entry) → i ≤ length xs → entry_key (xs ++ ys) i entry ≡ entry_key xs i entry
key_front_at xs ys i entry inside =
    ap (λ o. option_and_then {U = ℕ × List ℕ} (λ p. if is_set_entry (slice_get (xs ++ ys) p) then Some (p, entry.name) else None) o)
    (outside_front xs ys i entry.depth inside)
    ∙ by (last_outside xs i entry.depth) refl
  where
    by : (o : Option ℕ) → last_outside xs i entry.depth ≡ o →
        option_and_then {U = ℕ × List ℕ} (λ p. if is_set_entry (slice_get (xs ++ ys) p) then Some (p, entry.name) else None) o
        ≡ option_and_then {U = ℕ × List ℕ} (λ p. if is_set_entry (slice_get xs p) then Some (p, entry.name) else None) o
    by None is = refl
    by (Some p) is =
        let before : p < i = outside_below xs i entry.depth p is in
        ap (λ e. cond {A = Option (ℕ × List ℕ)} (is_set_entry e) (Some (p, entry.name)) None) (get_front xs ys p (omega arith))

-- adding values does not change which attributes the earlier ones are
pub key_front : (xs ys : List Entry) (i : ℕ) → i < length xs → entry_keys (xs ++ ys) i ≡ entry_keys xs i
key_front xs ys i less =
    ap (option_and_then (entry_key (xs ++ ys) i)) (get_front xs ys i less) ∙ by (slice_get xs i)
  where
    by : (o : Option Entry) → option_and_then (entry_key (xs ++ ys) i) o ≡ option_and_then (entry_key xs i) o
    by None = refl
    by (Some entry) = key_front_at xs ys i entry (omega (arith, less))

-- which attribute the added value is
pub key_added : (xs : List Entry) (entry : Entry) → entry_keys (xs ++ entry ∷ []) (length xs) ≡ entry_key xs (length xs) entry
key_added xs entry =
    ap (option_and_then (entry_key (xs ++ entry ∷ []) (length xs))) (get_last xs entry)
    ∙ key_front_at xs (entry ∷ []) (length xs) entry (omega arith)

pub key_next : (xs ys : List Entry) (entry : Entry) → entry_keys (xs ++ entry ∷ ys) (length xs) ≡ entry_key xs (length xs) entry
key_next xs ys entry =
    let len : length (xs ++ entry ∷ []) ≡ length xs + 1 = length-append xs (entry ∷ []) in
    ap (λ es. entry_keys es (length xs)) (sym (append_assoc xs (entry ∷ []) ys))
    ∙ key_front (xs ++ entry ∷ []) ys (length xs) (omega (arith, len))
    ∙ key_added xs entry

-- adding a value that is the same attribute as an earlier one
pub repeated : (xs ys : List Entry) (entry : Entry) (i s : ℕ) (n : List ℕ) → i < length xs → entry_keys xs i ≡ Some (s, n) →
    entry_key xs (length xs) entry ≡ Some (s, n) → HasRepeatedName (xs ++ entry ∷ ys)
repeated xs ys entry i s n less one other = record {
  first = i;
  second = length xs;
  set = s;
  name = n;
  apart = less;
  one = key_front xs (entry ∷ ys) i less ∙ one;
  other = key_next xs ys entry ∙ other;
}

-- the last value with less depth than an added value
pub outside_same : (xs : List Entry) (entry : Entry) (depth : ℕ) → depth ≤ entry.depth →
    last_outside (xs ++ entry ∷ []) (length xs + 1) depth ≡ last_outside xs (length xs) depth
outside_same xs entry depth deep =
    let count : length xs + 1 ≡ suc (length xs) = omega arith in
    ap (λ n. last_outside (xs ++ entry ∷ []) n depth) count
    ∙ cond-false (is_outside (slice_get (xs ++ entry ∷ []) (length xs)) depth) (Some (length xs)) (last_outside (xs ++ entry ∷ []) (length xs) depth)
    (ap (λ e. is_outside e depth) (get_last xs entry) ∙ le-ltb entry.depth depth deep)
    ∙ outside_front xs (entry ∷ []) (length xs) depth (omega arith)

pub outside_added : (xs : List Entry) (entry : Entry) (depth : ℕ) → entry.depth < depth →
    last_outside (xs ++ entry ∷ []) (length xs + 1) depth ≡ Some (length xs)
outside_added xs entry depth shallow =
    let count : length xs + 1 ≡ suc (length xs) = omega arith in
    ap (λ n. last_outside (xs ++ entry ∷ []) n depth) count
    ∙ cond-true (is_outside (slice_get (xs ++ entry ∷ []) (length xs)) depth) (Some (length xs)) (last_outside (xs ++ entry ∷ []) (length xs) depth)
    (ap (λ e. is_outside e depth) (get_last xs entry) ∙ lt-ltb entry.depth depth shallow)

pub key_within : (xs : List Entry) (i : ℕ) (key : ℕ × List ℕ) → entry_keys xs i ≡ Some key → i < length xs
key_within xs i key e =
    option_and_then_some (entry_key xs i) (slice_get xs i) key e (λ entry is there. slice_get_within xs i entry is)
