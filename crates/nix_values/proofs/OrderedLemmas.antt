-- Attributes ordered by name, after one is inserted.
use Rattle.std.proofs.Common.{◌≡◌, ◌∙◌, ℕ, ◌==◌, ◌&&◌, Bool, true, false, cond, List, Option, Some, Result, Ok, Err, OnOk, OnErr, String, Global, string_bytes, ⊎_elim, sym, refl, ap, ap₂, arith}
use Rattle.std.specs.Prelude.{option_and_then}
use Rattle.std.specs.Str.{bytes_eq}
use Rattle.std.specs.Map.{update}
use Rattle.std.specs.String.{string_cmp}
use Rattle.std.specs.Ordering.{nat_cmp, is_eq}
use Rattle.std.specs.Cmp.{nat_cmp_is}
use Rattle.std.specs.declared.cmp.Ordering.TheVariants.{Less, Equal, Greater}
use Rattle.std.specs.BTreeMap.{BTreeMap, get, get_by_text, UpdatesBy}
use Rattle.std.proofs.lemmas.Bool.{cases_Bool, cases_order, cond-true, cond-false, and_right, eq-eqb, ne_eqb}
use Rattle.std.proofs.lemmas.Slice.Eq.{bytes_eq-Decides}
use Rattle.std.proofs.lemmas.Map.Text.{btree_map_updates_text}
use Rattle.nix_values.specs.declared.ordered.OrderedAttributes.{OrderedAttributes}
use Rattle.nix_values.specs.OrderedNames.{crowded_in, IsWithCrowded, IsSameCrowded}

pub on_err : {T E : Type 0} (r : Result T E) (P : Type 0) → P → OnErr r P
on_err (Ok x) P p = tt
on_err (Err e) P p = p

pub on_ok_then : {T E : Type 0} (r : Result T E) (P Q : Type 0) → (P → Q) → OnOk r P → OnOk r Q
on_ok_then (Ok x) P Q f p = f p
on_ok_then (Err e) P Q f p = tt

-- the attributes with a name
abbrev sets_in : OrderedAttributes → List ℕ → Option (BTreeMap ℕ ℕ)
sets_in ordered name = get_by_text ordered.names name

abbrev pub IsNamed : OrderedAttributes → List ℕ → BTreeMap ℕ ℕ → OrderedAttributes → Type 0
IsNamed old name sets new = (cs : List ℕ) → get_by_text new.names cs ≡ update bytes_eq (λ ds. get_by_text old.names ds) name (Some sets) cs

named_same : (old new : OrderedAttributes) (name n : List ℕ) (sets : BTreeMap ℕ ℕ) (s : ℕ) → IsNamed old name sets new → bytes_eq name n ≡ true →
    crowded_in new s n ≡ get nat_cmp sets s
named_same old new name n sets s named e =
    ap (λ o. option_and_then (λ (m : BTreeMap ℕ ℕ). get nat_cmp m s) o) (named n ∙ cond-true (bytes_eq name n) (Some sets) (sets_in old n) e)

named_other : (old new : OrderedAttributes) (name n : List ℕ) (sets : BTreeMap ℕ ℕ) (s : ℕ) → IsNamed old name sets new → bytes_eq name n ≡ false →
    crowded_in new s n ≡ crowded_in old s n
named_other old new name n sets s named e =
    ap (λ o. option_and_then (λ (m : BTreeMap ℕ ℕ). get nat_cmp m s) o) (named n ∙ cond-false (bytes_eq name n) (Some sets) (sets_in old n) e)

-- a name gets one more attribute
pub with_sets : (old new : OrderedAttributes) (set : ℕ) (name : List ℕ) (value : ℕ) (sets : BTreeMap ℕ ℕ) → IsNamed old name sets new →
    ((s : ℕ) → get nat_cmp sets s ≡ cond (set == s) (Some value) (crowded_in old s name)) → IsWithCrowded old set name value new
with_sets old new set name value sets named more = λ s n.
    ⊎_elim
    (λ e.
    let same : name ≡ n = (bytes_eq-Decides name n).0 e in
    let both : (set == s && bytes_eq name n) ≡ (set == s) = ap (λ b. set == s && b) e ∙ and_true (set == s) in
    named_same old new name n sets s named e ∙ more s ∙ ap (λ m. cond (set == s) (Some value) (crowded_in old s m)) same
    ∙ ap (λ b. cond b (Some value) (crowded_in old s n)) (sym both))
    (λ e.
    let none : (set == s && bytes_eq name n) ≡ false = and_right (set == s) (bytes_eq name n) e in
    named_other old new name n sets s named e ∙ sym (cond-false (set == s && bytes_eq name n) (Some value) (crowded_in old s n) none))
    (cases_Bool (bytes_eq name n))
  where
    and_true : (b : Bool) → (b && true) ≡ b
    and_true true = refl
    and_true false = refl

-- the attributes with a name are unchanged
pub same_sets : (old new : OrderedAttributes) (name : List ℕ) (sets : BTreeMap ℕ ℕ) → IsNamed old name sets new →
    ((s : ℕ) → get nat_cmp sets s ≡ crowded_in old s name) → IsSameCrowded old new
same_sets old new name sets named same = λ s n.
    ⊎_elim
    (λ e. named_same old new name n sets s named e ∙ same s ∙ ap (λ m. crowded_in old s m) ((bytes_eq-Decides name n).0 e))
    (λ e. named_other old new name n sets s named e)
    (cases_Bool (bytes_eq name n))

is_at_same : (a b : ℕ) → is_eq (nat_cmp a b) ≡ (a == b)
is_at_same a b =
    ⊎_elim
    (λ e. ap is_eq (sym (nat_cmp_is a b Equal e)) ∙ sym (eq-eqb a b e))
    (λ o. ⊎_elim
    (λ l. ap is_eq (sym (nat_cmp_is a b Less l)) ∙ sym (ne_eqb a b (λ e. absurd (omega arith))))
    (λ g. ap is_eq (sym (nat_cmp_is a b Greater g)) ∙ sym (ne_eqb a b (λ e. absurd (omega arith))))
    o)
    (cases_order a b)

pub sets_updated : (old new : BTreeMap ℕ ℕ) (set value s : ℕ) → UpdatesBy nat_cmp (nat_cmp set) old new (Some value) →
    get nat_cmp new s ≡ cond (set == s) (Some value) (get nat_cmp old s)
sets_updated old new set value s u = u.0 s ∙ ap (λ b. cond b (Some value) (get nat_cmp old s)) (is_at_same set s)

-- a name is inserted
pub name_updated : (old before new : BTreeMap (String Global) (BTreeMap ℕ ℕ)) (key : String Global) (name : List ℕ) (sets : BTreeMap ℕ ℕ) → before ≡ old →
    string_bytes key ≡ name → UpdatesBy string_cmp (string_cmp key) before new (Some sets) → (cs : List ℕ) →
    get_by_text new cs ≡ update bytes_eq (λ ds. get_by_text old ds) name (Some sets) cs
name_updated old before new key name sets same is u cs =
    btree_map_updates_text (string_bytes key) before new (Some sets) u cs
    ∙ ap₂ (λ m bs. update bytes_eq (λ ds. get_by_text m ds) bs (Some sets) cs) same is
