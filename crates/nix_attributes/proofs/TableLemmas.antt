-- The maps contain what is known after one more name.
use Rattle.std.proofs.Common.{◌≡◌, ℕ, List, [], Bool, true, false, Option, Some, None, refl, ap, sym, ◌∙◌, subst, ◌==◌, arith}
use Rattle.std.proofs.lemmas.{Bool.{false≢true, Decides.nat_tests}, Slice.Eq.bytes_eq-Decides, Map.Text.is_eq-slice_cmp}
use Rattle.std.specs.Prelude.{cond, ◌&&◌, option_map, if◌then◌else◌}
use Rattle.std.specs.{Option.{option_or, unwrap_or}, Str.bytes_eq, Ordering.{is_eq, nat_cmp, ordering_then}, Cow.cow_str_bytes}
use Rattle.std.specs.{BTreeMap.{BTreeMap, get, get_by, is_at}, Map.lookup, Cmp.{tied_then, unsigned_tied}, Cmp.Lexicographic.slice_cmp, declared.cmp.Ordering.Ordering}
use Rattle.std.specs.declared.borrow.CowStr.TheVariants.{Borrowed}
use Rattle.nix_attributes.specs.Attributes.{Key, FirstNames, compare_key, attribute_by, first_by, IsTable}
use Rattle.nix_attributes.specs.Repeated.{Known, nothing, earlier, attribute_from, with_name, is_called}
use Rattle.nix_attributes.specs.DefinedNames.{Site, named, site_of}
use Rattle.nix_attributes.specs.declared.definition.NameSite.{NameSite}

-- `None` as the alternative changes nothing
or_none : {X : Type 0} (o : Option X) → option_or o None ≡ o
or_none None = refl
or_none (Some x) = refl

-- both branches have the same value
same_both : {X : Type 0} (b : Bool) (x : X) → (if b then x else x) ≡ x
same_both true x = refl
same_both false x = refl

and_both : (a b : Bool) → (a && b) ≡ true → (a ≡ true) × (b ≡ true)
and_both true true is = (refl, refl)
and_both true false is = absurd (false≢true is)
and_both false b is = absurd (false≢true is)

-- the key of an attribute and a name
abbrev pub key_with : ℕ → List ℕ → Key
key_with home text = (home, Borrowed record { ref_ptr = (0, 0); now = text })

-- the order of two keys
abbrev pub compare_keys : Key → Key → Ordering
compare_keys a b = ordering_then (nat_cmp a.0 b.0) (slice_cmp nat_cmp (cow_str_bytes a.1) (cow_str_bytes b.1))

-- two keys are equal exactly if their attributes and names are
same_key : (a b : ℕ) (s t : List ℕ) → is_eq (compare_key a s (key_with b t)) ≡ ((a == b) && bytes_eq s t)
same_key a b s t =
    sym (tied_then (nat_cmp a b) (slice_cmp nat_cmp s t)) ∙ ap (λ e. e && is_eq (slice_cmp nat_cmp s t)) (unsigned_tied a b)
    ∙ ap (λ e. (a == b) && e) (is_eq-slice_cmp s t)

-- updating a key changes the first name of one attribute
pub key_updated : (key : Key) (home : ℕ) (text : List ℕ) (name_site : Option NameSite) (old new : Key → Option NameSite) → key.0 ≡ home
    → cow_str_bytes key.1 ≡ text →
    ((query : Key) → new query ≡ cond (is_eq (compare_keys key query)) name_site (old query)) → (h : ℕ) (t : List ℕ) →
    new (key_with h t) ≡ cond ((home == h) && bytes_eq text t) name_site (old (key_with h t))
key_updated key home text name_site old new is_home is_text updates h t =
    let was : Option NameSite = old (key_with h t) in
    updates (key_with h t)
    ∙ ap (λ n. cond (is_eq (ordering_then (nat_cmp n h) (slice_cmp nat_cmp (cow_str_bytes key.1) t))) name_site was) is_home
    ∙ ap (λ bytes. cond (is_eq (ordering_then (nat_cmp home h) (slice_cmp nat_cmp bytes t))) name_site was) is_text
    ∙ ap (λ e. cond e name_site was) (same_key home h text t)

-- the first name stored at a key
pub first_at : (firsts : FirstNames) (key : Key) (home : ℕ) (text : List ℕ) → key.0 ≡ home → cow_str_bytes key.1 ≡ text →
    get_by (compare_keys key) firsts ≡ first_by firsts home text
first_at firsts key home text is_home is_text =
    ap (λ n. get_by (λ (k : Key). ordering_then (nat_cmp n k.0) (slice_cmp nat_cmp (cow_str_bytes key.1) (cow_str_bytes k.1))) firsts) is_home
    ∙ ap (λ bytes. get_by (λ (k : Key). ordering_then (nat_cmp home k.0) (slice_cmp nat_cmp bytes (cow_str_bytes k.1))) firsts) is_text

-- empty maps contain what is known before the first name
pub empty_table : (attributes : BTreeMap ℕ ℕ) (firsts : FirstNames) → attributes.entries ≡ [] → firsts.entries ≡ [] → IsTable nothing attributes firsts
empty_table attributes firsts no_attribute no_first = record {
  attributes_are = λ start. ap (λ es. unwrap_or (lookup (is_at (nat_cmp start)) es) start) no_attribute;
  firsts_are = λ home text. ap (λ es. option_map site_of (lookup (is_at (compare_key home text)) es)) no_first;
}

-- a first name stays among those that are known
first_kept : (b : Bool) (new old : Option NameSite) (first : Option Site) (name_site : NameSite) → new ≡ cond b (Some name_site) old
    → option_map site_of old ≡ first →
    (b ≡ true → first ≡ None) → option_map site_of new ≡ option_or first (if b then Some (site_of name_site) else None)
first_kept true new old first name_site is was none =
    ap (option_map site_of) is ∙ sym (ap (λ f. option_or f (Some (site_of name_site))) (none refl))
first_kept false new old first name_site is was none = ap (option_map site_of) is ∙ was ∙ sym (or_none first)

-- the first name stays the first
first_stays : (b : Bool) (first : Option Site) (site own : Site) → (b ≡ true → first ≡ Some site) → first ≡ option_or first (if b then Some own else None)
first_stays true first site own is = is refl ∙ sym (ap (λ f. option_or f (Some own)) (is refl))
first_stays false first site own is = sym (or_none first)

-- the first name that is known for an equal attribute and name
at_same : (known : Known) (home h : ℕ) (text t : List ℕ) (o : Option Site) → known.first home text ≡ o →
    ((home == h) && bytes_eq text t) ≡ true → known.first h t ≡ o
at_same known home h text t o is same =
    let parts = and_both (home == h) (bytes_eq text t) same in
    let home_is : home ≡ h = grind (arith, nat_tests, parts.0) in
    let text_is : text ≡ t = (bytes_eq-Decides text t).0 parts.1 in
    ap (λ n. known.first n t) (sym home_is) ∙ ap (known.first home) (sym text_is) ∙ is

-- adding a name that is the first of its attribute
pub first_added : (known : Known) (attributes : BTreeMap ℕ ℕ) (old new : FirstNames) (text : List ℕ) (name_site : NameSite) →
    IsTable known attributes old → first_by old (attribute_by attributes name_site.owner) text ≡ None →
    ((h : ℕ) (t : List ℕ) → first_by new h t ≡ cond ((attribute_by attributes name_site.owner == h) && bytes_eq text t) (Some name_site) (first_by old h t)) →
    IsTable (with_name known (named (Some text) (site_of name_site))) attributes new
first_added known attributes old new text name_site table none updated =
    let home_is : attribute_by attributes name_site.owner ≡ known.attribute name_site.owner = table.attributes_are name_site.owner in
    let absent : known.first (known.attribute name_site.owner) text ≡ None =
    subst (λ n. known.first n text ≡ None) home_is
    (sym (table.firsts_are (attribute_by attributes name_site.owner) text) ∙ ap (option_map site_of) none) in
    record {
      attributes_are = λ owner. table.attributes_are owner ∙ sym (same_both (name_site.is_open && (name_site.inner == owner)) (known.attribute owner))
          ∙ ap (λ o. if name_site.is_open && (name_site.inner == owner) then attribute_from (known.attribute owner) o else known.attribute owner) (sym absent);
      firsts_are = λ h t. first_kept ((known.attribute name_site.owner == h)
          && bytes_eq text t) (first_by new h t) (first_by old h t) (known.first h t) name_site
          (updated h t ∙ ap (λ n. cond ((n == h) && bytes_eq text t) (Some name_site) (first_by old h t)) home_is) (table.firsts_are h t)
          (at_same known (known.attribute name_site.owner) h text t None absent);
    }

-- adding a name that defines an attribute again
pub again_added : (known : Known) (old new : BTreeMap ℕ ℕ) (firsts : FirstNames) (text : List ℕ) (first name_site : NameSite) →
    IsTable known old firsts → first_by firsts (attribute_by old name_site.owner) text ≡ Some first →
    ((owner : ℕ) → attribute_by new owner ≡ (if name_site.is_open && (name_site.inner == owner) then first.inner else attribute_by old owner)) →
    IsTable (with_name known (named (Some text) (site_of name_site))) new firsts
again_added known old new firsts text first name_site table some updated =
    let home_is : attribute_by old name_site.owner ≡ known.attribute name_site.owner = table.attributes_are name_site.owner in
    let present : known.first (known.attribute name_site.owner) text ≡ Some (site_of first) =
    subst (λ n. known.first n text ≡ Some (site_of first)) home_is
    (sym (table.firsts_are (attribute_by old name_site.owner) text) ∙ ap (option_map site_of) some) in
    record {
      attributes_are = λ owner. updated owner
          ∙ ap (λ a. if name_site.is_open && (name_site.inner == owner) then first.inner else a) (table.attributes_are owner)
          ∙ ap (λ o. if name_site.is_open && (name_site.inner == owner) then attribute_from (known.attribute owner) o else known.attribute owner) (sym present);
      firsts_are = λ h t. table.firsts_are h t
          ∙ first_stays ((known.attribute name_site.owner == h) && bytes_eq text t) (known.first h t) (site_of first) (site_of name_site)
          (at_same known (known.attribute name_site.owner) h text t (Some (site_of first)) present);
    }

-- the first name in the map is the one that is known
pub earlier_found : (known : Known) (attributes : BTreeMap ℕ ℕ) (firsts : FirstNames) (text : List ℕ) (name_site : NameSite) (o : Option NameSite) →
    IsTable known attributes firsts → first_by firsts (attribute_by attributes name_site.owner) text ≡ o →
    earlier known (named (Some text) (site_of name_site)) ≡ option_map site_of o
earlier_found known attributes firsts text name_site o table is =
    ap (λ n. known.first n text) (sym (table.attributes_are name_site.owner))
    ∙ sym (table.firsts_are (attribute_by attributes name_site.owner) text) ∙ ap (option_map site_of) is
