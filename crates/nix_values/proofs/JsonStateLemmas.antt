-- How the states of the reader of JSON handle each token.
use Rattle.std.proofs.Common.{◌≡◌, ◌∙◌, ℕ, suc, ◌+◌, ◌-◌, ◌<◌, true, false, Bool, List, [], ◌∷◌, ◌++◌, length, get_or, take, drop, ap, ap₂, sym, refl, subst, arith, lt-ltb, Some, None}
use Rattle.std.specs.Prelude.{nat_lt, option_map}
use Rattle.std.proofs.Math.Seq.{take-length}
use Rattle.std.proofs.lemmas.List.{take_more, length-append}
use Rattle.std.proofs.lemmas.Bool.{cond-true}
use Rattle.nix_values.specs.declared.json_reader.TheConstants.{MOST_DEPTH}
use Rattle.nix_values.specs.declared.json_reader.State.{State}
use Rattle.nix_values.specs.declared.json_reader.State.TheVariants as state
use Rattle.nix_values.specs.declared.json_reader.Frame.{Frame}
use Rattle.nix_values.specs.Contents.{Plain, text}
use Rattle.nix_values.specs.Json.{Token, opening, closing, comma, colon, string, scalar, Part, value, first_item, more_items, first_member, member, named, Taken, entry, value_from, then_part, parts_from}
use Rattle.nix_values.specs.JsonReading.{more_of, rest_from, rest_of, parts_in, IsInside, IsState, is_value_next, is_name_next, is_close_next, is_comma_next, is_colon_next, is_end, opened, opened_plain, state_behind}

-- ---- the open lists and sets

-- one more frame inside the others
rest_push : (d : ℕ) (fs : List Frame) (f : Frame) (ps : List Part) →
    rest_from d (fs ++ f ∷ []) ps ≡ more_of f.is_set (d + length fs + 1) ∷ rest_from d fs ps
rest_push d [] f ps = let e : d + 1 ≡ d + 0 + 1 = omega arith in ap (λ n. more_of f.is_set n ∷ ps) e
rest_push d (g ∷ gs) f ps =
    let e : d + 1 + length gs + 1 ≡ d + suc (length gs) + 1 = omega arith in
    rest_push (d + 1) gs f (more_of g.is_set (d + 1) ∷ ps)
    ∙ ap (λ n. more_of f.is_set n ∷ rest_from (d + 1) gs (more_of g.is_set (d + 1) ∷ ps)) e

pub rest_last : (fs : List Frame) (f : Frame) → rest_of (fs ++ f ∷ []) ≡ more_of f.is_set (length fs + 1) ∷ rest_of fs
rest_last fs f = let e : 0 + length fs + 1 ≡ length fs + 1 = omega arith in rest_push 0 fs f [] ∙ ap (λ n. more_of f.is_set n ∷ rest_of fs) e

pub length_last : (fs : List Frame) (f : Frame) → length (fs ++ f ∷ []) ≡ length fs + 1
length_last fs f = length-append fs (f ∷ [])

-- the last frame is the innermost
last_of : (fs : List Frame) (n : ℕ) (f : Frame) → length fs ≡ n + 1 → fs ≡ take n fs ++ get_or fs n f ∷ []
last_of fs n f len =
    let there : n < length fs = omega (arith, len) in
    sym (take-length fs) ∙ ap (λ k. take k fs) len ∙ take_more fs n f there

inside_of : (fs front : List Frame) (f : Frame) → fs ≡ front ++ f ∷ [] → rest_of fs ≡ more_of f.is_set (length fs) ∷ rest_of front
inside_of fs front f is =
    ap rest_of is ∙ rest_last front f ∙ ap (λ n. more_of f.is_set n ∷ rest_of front) (sym (ap length is ∙ length_last front f))

pub inside_last : (fs : List Frame) (n : ℕ) (f : Frame) → length fs ≡ n + 1 → f ≡ get_or fs n f → IsInside f.is_set fs
inside_last fs n f len is =
    let e : rest_of fs ≡ more_of f.is_set (length fs) ∷ rest_of (take n fs) =
    inside_of fs (take n fs) f (last_of fs n f len ∙ ap (λ g. take n fs ++ g ∷ []) (sym is)) in
    e ∙ ap (λ ps. more_of f.is_set (length fs) ∷ ps) (sym (ap (drop 1) e))

-- an arbitrary frame
abbrev no_frame : Frame
no_frame = record { node = 0; is_set = false }

-- the frames without the innermost one
pub rest_pop : (fs new : List Frame) → 0 < length fs → new ≡ take (length fs - 1) fs → rest_of new ≡ drop 1 (rest_of fs)
rest_pop fs new some is =
    let n = length fs - 1 in
    let len : length fs ≡ n + 1 = omega arith in
    ap rest_of is ∙ sym (ap (drop 1) (inside_of fs (take n fs) (get_or fs n no_frame) (last_of fs n no_frame len)))

-- if frames are open, the innermost is a list or a set
pub some_inside : (fs : List Frame) → 0 < length fs → (b : Bool) × IsInside b fs
some_inside fs some =
    let n = length fs - 1 in
    let len : length fs ≡ n + 1 = omega arith in
    let f = get_or fs n no_frame in
    let e : rest_of fs ≡ more_of f.is_set (length fs) ∷ rest_of (take n fs) = inside_of fs (take n fs) f (last_of fs n no_frame len) in
    (f.is_set, e ∙ ap (λ ps. more_of f.is_set (length fs) ∷ ps) (sym (ap (drop 1) e)))

-- if no frame is open, there is no innermost one
pub none_inside : (b : Bool) (fs : List Frame) → fs ≡ [] → IsInside b fs → ⊥
none_inside b fs none inside = let e : [] ≡ more_of b (length fs) ∷ drop 1 (rest_of fs) = sym (ap rest_of none) ∙ inside in absurd (cc)

-- the innermost frame is a list or a set, not both
more_sort : (b c : Bool) (d : ℕ) (ps qs : List Part) → more_of b d ∷ ps ≡ more_of c d ∷ qs → b ≡ c
more_sort true true d ps qs e = refl
more_sort false false d ps qs e = refl
more_sort true false d ps qs e = absurd (cc)
more_sort false true d ps qs e = absurd (cc)

pub one_sort : (b c : Bool) (fs : List Frame) → IsInside b fs → IsInside c fs → b ≡ c
one_sort b c fs p q = more_sort b c (length fs) (drop 1 (rest_of fs)) (drop 1 (rest_of fs)) (sym p ∙ q)

-- ---- after a value

pub parts_behind : (fs : List Frame) (name : List ℕ) → parts_in (state_behind fs) fs name ≡ rest_of fs
parts_behind [] name = refl
parts_behind (f ∷ fs) name = refl

pub state_sound : (fs : List Frame) (name : List ℕ) → name ≡ [] → IsState (state_behind fs) fs name
state_sound [] name none = (refl, none)
state_sound (f ∷ fs) name none = (omega arith, none)

-- a token that can only begin a value does not fit after a value
more_scalar : (b : Bool) (d : ℕ) (ps : List Part) (p : Plain) → parts_from (more_of b d ∷ ps) (scalar p) ≡ None
more_scalar true d ps p = refl
more_scalar false d ps p = refl

more_string : (b : Bool) (d : ℕ) (ps : List Part) (t : List ℕ) → parts_from (more_of b d ∷ ps) (string t) ≡ None
more_string true d ps t = refl
more_string false d ps t = refl

more_open : (b c : Bool) (d : ℕ) (ps : List Part) → parts_from (more_of b d ∷ ps) (opening c) ≡ None
more_open true c d ps = refl
more_open false c d ps = refl

more_colon : (b : Bool) (d : ℕ) (ps : List Part) → parts_from (more_of b d ∷ ps) colon ≡ None
more_colon true d ps = refl
more_colon false d ps = refl

-- so a token that fits after no value does not fit what remains after one
behind_wrong : (t : Token) → ((b : Bool) (d : ℕ) (ps : List Part) → parts_from (more_of b d ∷ ps) t ≡ None) → (fs : List Frame) → 0 < length fs →
    parts_from (rest_of fs) t ≡ None
behind_wrong t wrong fs some =
    let inside = some_inside fs some in
    ap (λ ps. parts_from ps t) inside.1 ∙ wrong inside.0 (length fs) (drop 1 (rest_of fs))

end_wrong : (t : Token) (fs : List Frame) → fs ≡ [] → parts_from (rest_of fs) t ≡ None
end_wrong t fs none = ap (λ gs. parts_from (rest_of gs) t) none

-- ---- a value that contains no others

pub scalar_fits : (s : State) (fs : List Frame) (name : List ℕ) (p : Plain) → is_value_next s ≡ true → IsState s fs name →
    parts_from (parts_in s fs name) (scalar p) ≡ Some (rest_of fs, entry (length fs) name p)
scalar_fits state.Value fs name p next h = refl
scalar_fits state.ValueOrClose fs name p next h =
    ap₂ (λ (ps : List Part) (n : List ℕ). Some (ps, entry (length fs) n p)) (sym h.0) (sym h.1)
scalar_fits _ fs name p next h = absurd (cc)

pub scalar_wrong : (s : State) (fs : List Frame) (name : List ℕ) (p : Plain) → is_value_next s ≡ false → IsState s fs name →
    parts_from (parts_in s fs name) (scalar p) ≡ None
scalar_wrong state.Value fs name p next h = absurd (cc)
scalar_wrong state.ValueOrClose fs name p next h = absurd (cc)
scalar_wrong state.Name fs name p next h = refl
scalar_wrong state.NameOrClose fs name p next h = refl
scalar_wrong state.Colon fs name p next h = refl
scalar_wrong state.CommaOrClose fs name p next h = behind_wrong (scalar p) (λ b d ps. more_scalar b d ps p) fs h.0
scalar_wrong state.End fs name p next h = end_wrong (scalar p) fs h.0

-- ---- a string

-- a string is a value unless a name comes next
pub string_scalar : (s : State) (fs : List Frame) (name t : List ℕ) → is_name_next s ≡ false → IsState s fs name →
    parts_from (parts_in s fs name) (scalar (text t)) ≡ parts_from (parts_in s fs name) (string t)
string_scalar state.Value fs name t next h = refl
string_scalar state.ValueOrClose fs name t next h = refl
string_scalar state.Name fs name t next h = absurd (cc)
string_scalar state.NameOrClose fs name t next h = absurd (cc)
string_scalar state.Colon fs name t next h = refl
string_scalar state.CommaOrClose fs name t next h =
    behind_wrong (scalar (text t)) (λ b d ps. more_scalar b d ps (text t)) fs h.0 ∙ sym (behind_wrong (string t) (λ b d ps. more_string b d ps t) fs h.0)
string_scalar state.End fs name t next h = end_wrong (scalar (text t)) fs h.0 ∙ sym (end_wrong (string t) fs h.0)

pub name_fits : (s : State) (fs : List Frame) (name t : List ℕ) → is_name_next s ≡ true → IsState s fs name →
    parts_from (parts_in s fs name) (string t) ≡ Some (parts_in state.Colon fs t, [])
name_fits state.Name fs name t next h = ap (λ (ps : List Part). Some (named (length fs) t ∷ ps, [])) (sym h.0)
name_fits state.NameOrClose fs name t next h = ap (λ (ps : List Part). Some (named (length fs) t ∷ ps, [])) (sym h.0)
name_fits _ fs name t next h = absurd (cc)

-- ---- the beginning of a list or a set

-- what may come next after the opening bracket
abbrev first_of : Bool → ℕ → Part
first_of true d = first_member d
first_of false d = first_item d

value_open : (b : Bool) (d : ℕ) (name : List ℕ) → d < MOST_DEPTH → value_from d name (opening b) ≡ Some (first_of b (d + 1) ∷ [], entry d name (opened_plain b))
value_open true d name room = cond-true (nat_lt d MOST_DEPTH) _ _ (lt-ltb d MOST_DEPTH room)
value_open false d name room = cond-true (nat_lt d MOST_DEPTH) _ _ (lt-ltb d MOST_DEPTH room)

parts_opened : (b : Bool) (fs : List Frame) (f : Frame) (name : List ℕ) →
    first_of b (length fs + 1) ∷ rest_of fs ≡ parts_in (opened b) (fs ++ f ∷ []) name
parts_opened true fs f name =
    ap₂ (λ (d : ℕ) (ps : List Part). first_member d ∷ ps) (sym (length_last fs f)) (sym (ap (drop 1) (rest_last fs f)))
parts_opened false fs f name =
    ap₂ (λ (d : ℕ) (ps : List Part). first_item d ∷ ps) (sym (length_last fs f)) (sym (ap (drop 1) (rest_last fs f)))

-- parts after those that follow a part
abbrev over : List Part → Taken → Taken
over ps taken = option_map (λ r. (r.0 ++ ps, r.1)) taken

pub open_fits : (b : Bool) (s : State) (fs : List Frame) (f : Frame) (name other : List ℕ) → is_value_next s ≡ true → length fs < MOST_DEPTH →
    IsState s fs name → parts_from (parts_in s fs name) (opening b) ≡ Some (parts_in (opened b) (fs ++ f ∷ []) other, entry (length fs) name (opened_plain b))
open_fits b state.Value fs f name other next room h =
    ap (over (rest_of fs)) (value_open b (length fs) name room)
    ∙ ap (λ (ps : List Part). Some (ps, entry (length fs) name (opened_plain b))) (parts_opened b fs f other)
open_fits b state.ValueOrClose fs f name other next room h =
    let d = length fs in
    ap (λ taken. over (drop 1 (rest_of fs)) (then_part (more_items d) taken)) (value_open b d [] room)
    ∙ ap₂ (λ (ps : List Part) (n : List ℕ). Some (first_of b (d + 1) ∷ ps, entry d n (opened_plain b))) (sym h.0) (sym h.1)
    ∙ ap (λ (ps : List Part). Some (ps, entry d name (opened_plain b))) (parts_opened b fs f other)
open_fits _ _ fs f name other next room h = absurd (cc)

pub open_wrong : (b : Bool) (s : State) (fs : List Frame) (name : List ℕ) → is_value_next s ≡ false → IsState s fs name →
    parts_from (parts_in s fs name) (opening b) ≡ None
open_wrong b state.Value fs name next h = absurd (cc)
open_wrong b state.ValueOrClose fs name next h = absurd (cc)
open_wrong b state.Name fs name next h = refl
open_wrong b state.NameOrClose fs name next h = refl
open_wrong b state.Colon fs name next h = refl
open_wrong b state.CommaOrClose fs name next h = behind_wrong (opening b) (λ c d ps. more_open c b d ps) fs h.0
open_wrong b state.End fs name next h = end_wrong (opening b) fs h.0

-- the new frame is the innermost
inside_opened : (fs : List Frame) (f : Frame) → IsInside f.is_set (fs ++ f ∷ [])
inside_opened fs f =
    let e : rest_of (fs ++ f ∷ []) ≡ more_of f.is_set (length (fs ++ f ∷ [])) ∷ rest_of fs = inside_of (fs ++ f ∷ []) fs f refl in
    e ∙ ap (λ ps. more_of f.is_set (length (fs ++ f ∷ [])) ∷ ps) (sym (ap (drop 1) e))

pub opened_sound : (b : Bool) (fs : List Frame) (f : Frame) (name : List ℕ) → f.is_set ≡ b → name ≡ [] → IsState (opened b) (fs ++ f ∷ []) name
opened_sound true fs f name is none = (subst (λ b. IsInside b (fs ++ f ∷ [])) is (inside_opened fs f), none)
opened_sound false fs f name is none = (subst (λ b. IsInside b (fs ++ f ∷ [])) is (inside_opened fs f), none)

-- ---- the end of a list or a set

more_close : (b : Bool) (d : ℕ) (ps : List Part) → parts_from (more_of b d ∷ ps) (closing b) ≡ Some (ps, [])
more_close true d ps = refl
more_close false d ps = refl

first_item_close : (b : Bool) (d : ℕ) (ps : List Part) → false ≡ b → parts_from (first_item d ∷ ps) (closing b) ≡ Some (ps, [])
first_item_close false d ps h = refl
first_item_close true d ps h = absurd (cc)

first_member_close : (b : Bool) (d : ℕ) (ps : List Part) → true ≡ b → parts_from (first_member d ∷ ps) (closing b) ≡ Some (ps, [])
first_member_close true d ps h = refl
first_member_close false d ps h = absurd (cc)

pub close_fits : (b : Bool) (s : State) (fs : List Frame) (name : List ℕ) → is_close_next s ≡ true → IsInside b fs → IsState s fs name →
    parts_from (parts_in s fs name) (closing b) ≡ Some (drop 1 (rest_of fs), [])
close_fits b state.ValueOrClose fs name next inside h = first_item_close b (length fs) (drop 1 (rest_of fs)) (one_sort false b fs h.0 inside)
close_fits b state.NameOrClose fs name next inside h = first_member_close b (length fs) (drop 1 (rest_of fs)) (one_sort true b fs h.0 inside)
close_fits b state.CommaOrClose fs name next inside h =
    ap (λ ps. parts_from ps (closing b)) inside ∙ more_close b (length fs) (drop 1 (rest_of fs))
close_fits _ _ fs name next inside h = absurd (cc)

-- no closing bracket may come next
pub close_wrong : (b : Bool) (s : State) (fs : List Frame) (name : List ℕ) → is_close_next s ≡ false → IsState s fs name →
    parts_from (parts_in s fs name) (closing b) ≡ None
close_wrong b state.Value fs name next h = refl
close_wrong b state.ValueOrClose fs name next h = absurd (cc)
close_wrong b state.Name fs name next h = refl
close_wrong b state.NameOrClose fs name next h = absurd (cc)
close_wrong b state.Colon fs name next h = refl
close_wrong b state.CommaOrClose fs name next h = absurd (cc)
close_wrong b state.End fs name next h = end_wrong (closing b) fs h.0

-- ---- a comma and a colon

abbrev pub behind_comma : Bool → State
behind_comma true = state.Name
behind_comma false = state.Value

comma_parts : (b : Bool) (fs : List Frame) (name : List ℕ) → IsInside b fs → name ≡ [] →
    parts_from (rest_of fs) comma ≡ Some (parts_in (behind_comma b) fs name, [])
comma_parts true fs name inside none = ap (λ ps. parts_from ps comma) inside
comma_parts false fs name inside none =
    ap (λ ps. parts_from ps comma) inside ∙ ap₂ (λ (n : List ℕ) (ps : List Part). Some (value (length fs) n ∷ ps, [])) (sym none) (sym inside)

pub comma_fits : (b : Bool) (s : State) (fs : List Frame) (name : List ℕ) → is_comma_next s ≡ true → IsInside b fs → IsState s fs name →
    parts_from (parts_in s fs name) comma ≡ Some (parts_in (behind_comma b) fs name, [])
comma_fits b state.CommaOrClose fs name next inside h = comma_parts b fs name inside h.1
comma_fits _ _ fs name next inside h = absurd (cc)

pub comma_sound : (b : Bool) (s : State) (fs : List Frame) (name : List ℕ) → is_comma_next s ≡ true → IsInside b fs → IsState s fs name →
    IsState (behind_comma b) fs name
comma_sound true state.CommaOrClose fs name next inside h = (inside, h.1)
comma_sound false s fs name next inside h = tt
comma_sound true _ fs name next inside h = absurd (cc)

pub comma_wrong : (s : State) (fs : List Frame) (name : List ℕ) → is_comma_next s ≡ false → IsState s fs name →
    parts_from (parts_in s fs name) comma ≡ None
comma_wrong state.Value fs name other h = refl
comma_wrong state.ValueOrClose fs name other h = refl
comma_wrong state.Name fs name other h = refl
comma_wrong state.NameOrClose fs name other h = refl
comma_wrong state.Colon fs name other h = refl
comma_wrong state.CommaOrClose fs name other h = absurd (cc)
comma_wrong state.End fs name other h = end_wrong comma fs h.0

pub colon_fits : (s : State) (fs : List Frame) (name : List ℕ) → is_colon_next s ≡ true →
    parts_from (parts_in s fs name) colon ≡ Some (parts_in state.Value fs name, [])
colon_fits state.Colon fs name next = refl
colon_fits _ fs name next = absurd (cc)

pub colon_wrong : (s : State) (fs : List Frame) (name : List ℕ) → is_colon_next s ≡ false → IsState s fs name →
    parts_from (parts_in s fs name) colon ≡ None
colon_wrong state.Value fs name other h = refl
colon_wrong state.ValueOrClose fs name other h = refl
colon_wrong state.Name fs name other h = refl
colon_wrong state.NameOrClose fs name other h = refl
colon_wrong state.Colon fs name other h = absurd (cc)
colon_wrong state.CommaOrClose fs name other h = behind_wrong colon more_colon fs h.0
colon_wrong state.End fs name other h = end_wrong colon fs h.0

-- ---- the end of the text

pub nothing_remaining : (s : State) (fs : List Frame) (name : List ℕ) → is_end s ≡ true → IsState s fs name → parts_in s fs name ≡ []
nothing_remaining state.End fs name next h = ap rest_of h.0
nothing_remaining _ fs name next h = absurd (cc)

pub something_remaining : (s : State) (fs : List Frame) (name : List ℕ) → is_end s ≡ false → IsState s fs name →
    (part : Part) × (parts : List Part) × (parts_in s fs name ≡ part ∷ parts)
something_remaining state.Value fs name other h = (value (length fs) name, rest_of fs, refl)
something_remaining state.ValueOrClose fs name other h = (first_item (length fs), drop 1 (rest_of fs), refl)
something_remaining state.Name fs name other h = (member (length fs), drop 1 (rest_of fs), refl)
something_remaining state.NameOrClose fs name other h = (first_member (length fs), drop 1 (rest_of fs), refl)
something_remaining state.Colon fs name other h = (named (length fs) name, rest_of fs, refl)
something_remaining state.CommaOrClose fs name other h =
    let inside = some_inside fs h.0 in (more_of inside.0 (length fs), drop 1 (rest_of fs), inside.1)
something_remaining state.End fs name other h = absurd (cc)
