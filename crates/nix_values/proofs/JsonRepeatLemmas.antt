-- A name in JSON that its set already has.
use Rattle.std.proofs.Common.{◌≡◌, ◌∙◌, ℕ, ◌+◌, ◌-◌, ◌<◌, true, false, List, [], ◌∷◌, ◌++◌, length, Option, Some, None, sym, refl, ap, subst, arith}
use Rattle.std.specs.Prelude.{nat_lt, option_and_then, option_map}
use Rattle.std.proofs.lemmas.Bool.{cond-true}
use Rattle.std.proofs.lemmas.Option.{none-some, same_Some, cond_some, slice_get_within, get_or_from_slice_get, option_and_then_some}
use Rattle.nix_values.specs.declared.json_reader.TheConstants.{MOST_DEPTH}
use Rattle.nix_values.specs.declared.json_reader.State.{State}
use Rattle.nix_values.specs.declared.json_reader.State.TheVariants as state
use Rattle.nix_values.specs.declared.json_reader.Frame.{Frame}
use Rattle.nix_values.specs.declared.json_reader.Reading.{Reading}
use Rattle.nix_values.specs.Contents.{Plain, text, list, set, Entry}
use Rattle.nix_values.specs.Json.{Token, opening, closing, comma, colon, string, scalar, Part, value, named, Taken, entry, value_from, in_front, parts_from, meaning, tokens_behind, values_of}
use Rattle.nix_values.specs.RepeatedNames.{entry_keys, entry_key, HasRepeatedName}
use Rattle.nix_values.specs.JsonLocations.{last_frame, set_of, in_set}
use Rattle.nix_values.specs.JsonReading.{rest_of, parts_in, name_of, IsInside, IsState, IsSound, is_name_next, entries_in, IsPlacedIn, IsTaken, RepeatsWith}
use Rattle.nix_values.proofs.JsonTokenLemmas.{in_front_some}
use Rattle.nix_values.proofs.JsonStateLemmas.{inside_last, one_sort, name_fits}
use Rattle.nix_values.proofs.RepeatedNameLemmas.{key_within, repeated}
use Rattle.nix_values.proofs.JsonLocationLemmas.{next_key}

-- the first of the values has this depth and name
abbrev Begins : ℕ → List ℕ → List Entry → Type 0
Begins d t more = (p : Plain) × (ys : List Entry) × (more ≡ record { depth = d; name = t; plain = p } ∷ ys)

-- a value adds its entry
value_adds : (d : ℕ) (t : List ℕ) (token : Token) (r : List Part × List Entry) → value_from d t token ≡ Some r → (p : Plain) × (r.1 ≡ entry d t p)
value_adds d t (scalar p) r e = (p, sym (ap (λ x. x.1) (same_Some _ r e)))
value_adds d t (string u) r e = (text u, sym (ap (λ x. x.1) (same_Some _ r e)))
value_adds d t (opening false) r e = (list, sym (ap (λ x. x.1) (cond_some (nat_lt d MOST_DEPTH) _ r e).1))
value_adds d t (opening true) r e = (set, sym (ap (λ x. x.1) (cond_some (nat_lt d MOST_DEPTH) _ r e).1))
value_adds d t (closing b) r e = absurd (none-some r e)
value_adds d t comma r e = absurd (none-some r e)
value_adds d t colon r e = absurd (none-some r e)

-- the parts after a value keep what it adds
parts_add : (ps : List Part) (taken : Taken) (r : List Part × List Entry) → option_map (λ x. (x.0 ++ ps, x.1)) taken ≡ Some r →
    (x : List Part × List Entry) × (taken ≡ Some x) × (x.1 ≡ r.1)
parts_add ps None r e = absurd (none-some r e)
parts_add ps (Some x) r e = (x, refl, ap (λ y. y.1) (same_Some _ r e))

value_begins : (d : ℕ) (t : List ℕ) (ps : List Part) (tokens : List Token) (more : List Entry) → meaning (value d t ∷ ps) tokens ≡ Some more → Begins d t more
unfolding meaning
value_begins d t ps [] more e = absurd (none-some more e)
value_begins d t ps (token ∷ tokens) more e =
    option_and_then_some (λ r. in_front r.1 (meaning r.0 tokens)) (parts_from (value d t ∷ ps) token) more e
    (λ r is there.
    let x = parts_add ps (value_from d t token) r is in
    let adds = value_adds d t token x.0 x.1 in
    let front = in_front_some r.1 more (meaning r.0 tokens) there in
    (adds.0, front.0, sym front.2 ∙ ap (λ es. es ++ front.0) (sym x.2 ∙ adds.1)))

named_begins : (d : ℕ) (t : List ℕ) (ps : List Part) (tokens : List Token) (more : List Entry) → meaning (named d t ∷ ps) tokens ≡ Some more → Begins d t more
unfolding meaning
named_begins d t ps [] more e = absurd (none-some more e)
named_begins d t ps (colon ∷ tokens) more e =
    let front = in_front_some [] more (meaning (value d t ∷ ps) tokens) e in
    subst (Begins d t) front.2 (value_begins d t ps tokens front.0 front.1)
named_begins d t ps (opening b ∷ tokens) more e = absurd (none-some more e)
named_begins d t ps (closing b ∷ tokens) more e = absurd (none-some more e)
named_begins d t ps (comma ∷ tokens) more e = absurd (none-some more e)
named_begins d t ps (string u ∷ tokens) more e = absurd (none-some more e)
named_begins d t ps (scalar p ∷ tokens) more e = absurd (none-some more e)

bytes_begin : (d : ℕ) (t : List ℕ) (ps : List Part) (rest : List ℕ) (more : List Entry) → values_of (named d t ∷ ps) rest ≡ Some more → Begins d t more
bytes_begin d t ps rest more e = by (tokens_behind 0 rest) e
  where
    by : (o : Option (List Token)) → option_and_then (meaning (named d t ∷ ps)) o ≡ Some more → Begins d t more
    by None e = absurd (none-some more e)
    by (Some tokens) e = named_begins d t ps tokens more e

-- a name can come next only in a set
pub name_inside : (s : State) (fs : List Frame) (name : List ℕ) → is_name_next s ≡ true → IsState s fs name → IsInside true fs
name_inside state.Name fs name next h = h.0
name_inside state.NameOrClose fs name next h = h.0
name_inside _ fs name next h = absurd (cc)

pub last_set : (fs : List Frame) (f : Frame) → last_frame fs ≡ Some f → IsInside true fs → f.is_set ≡ true
last_set fs f last inside =
    let some : length fs - 1 < length fs = slice_get_within fs (length fs - 1) f last in
    let len : length fs ≡ length fs - 1 + 1 = omega (arith, some) in
    one_sort f.is_set true fs (inside_last fs (length fs - 1) f len (sym (get_or_from_slice_get fs (length fs - 1) f f last))) inside

pub name_repeats : (old : Reading) (t : List ℕ) (number : ℕ) → IsSound old → is_name_next old.state ≡ true → IsPlacedIn old → IsTaken old number t →
    RepeatsWith old (string t)
name_repeats old t number sound next placed taken rest more e =
    let fs : List Frame = old.frames.items in
    let es : List Entry = entries_in old in
    let frame : Frame = taken.0 in
    let behind : in_front [] (values_of (parts_in state.Colon fs t) rest) ≡ Some more =
    sym (ap (λ r. option_and_then (λ x. in_front x.1 (values_of x.0 rest)) r) (name_fits old.state fs (name_of old.name) t next sound)) ∙ e in
    let front = in_front_some [] more (values_of (parts_in state.Colon fs t) rest) behind in
    let begins = bytes_begin (length fs) t (rest_of fs) rest front.0 front.1 in
    let entry_is : Entry = record { depth = length fs; name = t; plain = begins.0 } in
    let one : entry_keys es number ≡ Some (frame.node, t) = sym (placed.keys number) ∙ taken.2 in
    let is_set : frame.is_set ≡ true = last_set fs frame taken.1 (name_inside old.state fs (name_of old.name) next sound) in
    let other : entry_key es (length es) entry_is ≡ Some (frame.node, t) =
    next_key old.found old.attributes fs entry_is placed refl
    ∙ ap (λ o. in_set (set_of o) t) taken.1
    ∙ ap (λ o. in_set o t) (cond-true frame.is_set (Some frame.node) None is_set) in
    subst (λ ys. HasRepeatedName (es ++ ys)) (sym begins.2 ∙ front.2)
    (repeated es begins.1 entry_is number frame.node t (key_within es number (frame.node, t) one) one other)
