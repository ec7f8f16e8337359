-- The names of a set's entries differ if each was new when it was read.
use Rattle.std.proofs.Common.{◌≡◌, ◌∙◌, ℕ, Bool, true, false, List, [], ◌∷◌, ap, sym, refl, subst}
use Rattle.std.proofs.lemmas.Map.Text.{btree_set_updates_text}
use Rattle.std.specs.Prelude.{not, bytes_eq, String, string_bytes, string_cmp, unwrap_or, if◌then◌else◌}
use Rattle.std.specs.BTreeSet.{BTreeSet, contains, contains_text, Updates}
use Rattle.std.specs.List.{AllByRecursion, IsDistinct}
use Rattle.rnix_green.specs.Tree.{Located}
use Rattle.nix_values.specs.Contents.{Plain, set}
use Rattle.nix_data.specs.Meaning.{IsPart, names_in, HaveDifferentNames}
use Rattle.nix_data.specs.NewNames.{IsNewName}

-- none of these names is among the names so far
abbrev pub AreNew : {Y : Type 0} → BTreeSet (String Y) → List (List ℕ) → Type 0
AreNew names = AllByRecursion (λ n. contains_text names n ≡ false)

-- a name that was added was not found before
was_missing : (found added : Bool) → added ≡ not found → added ≡ true → found ≡ false
was_missing true added is h = absurd (cc)
was_missing false added is h = refl

-- a text that was added to the names is a new name
pub new_name : {Y : Type 0} (old new : BTreeSet (String Y)) (key : String Y) (added : Bool) → added ≡ not (contains string_cmp old key) →
    Updates string_cmp old new key true → added ≡ true → IsNewName set old (string_bytes key) new
new_name old new key added is updates h =
    (was_missing (contains string_cmp old key) added is h, btree_set_updates_text (string_bytes key) old new true updates)

-- if the names of the remaining nodes are new and differ, the names of all nodes differ
abbrev pub NamesUsed : {Y : Type 0} → Plain → List Located → List Located → BTreeSet (String Y) → Type 0
NamesUsed set all remaining names = AreNew names (names_in remaining) → IsDistinct bytes_eq (names_in remaining) → IsDistinct bytes_eq (names_in all)
NamesUsed _ all remaining names = Unit {0}

-- if a disjunction is false, both of its parts are
neither : (a b : Bool) → (if a then true else b) ≡ false → (a ≡ false) × (b ≡ false)
neither true b h = absurd (cc)
neither false b h = (refl, h)

-- names that are not among some names and one more are not among the former, and are not that one
fewer : {Y : Type 0} (old new : BTreeSet (String Y)) (name : List ℕ) (names : List (List ℕ)) →
    ((other : List ℕ) → contains_text new other ≡ (if bytes_eq name other then true else contains_text old other)) → AreNew new names →
    AreNew old names × AllByRecursion (λ n. bytes_eq name n ≡ false) names
fewer old new name [] more none = (tt, tt)
fewer old new name (n ∷ names) more none =
    let both = neither (bytes_eq name n) (contains_text old n) (sym (more n) ∙ none.0) in
    let others = fewer old new name names more none.1 in
    ((both.1, others.0), (both.0, others.1))

-- after one more name has been read
pub names_more : {Y : Type 0} (own : Plain) (all remaining after : List Located) (child inner : Located) (name : List ℕ) (old new : BTreeSet (String Y)) →
    remaining ≡ child ∷ after → IsPart own child name inner → IsNewName own old name new → NamesUsed own all remaining old → NamesUsed own all after new
unfolding IsDistinct
names_more set all remaining after child inner name old new first part is_new so_far = λ none differ.
    let is_name = ap (λ o. unwrap_or o []) part.1 in
    let both = fewer old new name (names_in after) is_new.1 none in
    let are_new : AreNew old (names_in (child ∷ after)) = (subst (λ n. contains_text old n ≡ false) (sym is_name) is_new.0, both.0) in
    let all_differ : IsDistinct bytes_eq (names_in (child ∷ after)) =
    (subst (λ n. AllByRecursion (λ m. bytes_eq n m ≡ false) (names_in after)) (sym is_name) both.1, differ) in
    so_far (subst (λ nodes. AreNew old (names_in nodes)) (sym first) are_new)
    (subst (λ nodes. IsDistinct bytes_eq (names_in nodes)) (sym first) all_differ)
names_more _ all remaining after child inner name old new first part is_new so_far = tt

-- after all names have been read, they differ
pub names_all : {Y : Type 0} (own : Plain) (all remaining : List Located) (names : BTreeSet (String Y)) → remaining ≡ [] → NamesUsed own all remaining names →
    HaveDifferentNames own all
unfolding IsDistinct
names_all set all remaining names none so_far =
    so_far (subst (λ nodes. AreNew names (names_in nodes)) (sym none) tt) (subst (λ nodes. IsDistinct bytes_eq (names_in nodes)) (sym none) tt)
names_all _ all remaining names none so_far = tt

-- the names of no nodes differ
pub names_of_none : (own : Plain) → HaveDifferentNames own []
unfolding IsDistinct
names_of_none set = tt
names_of_none _ = tt
