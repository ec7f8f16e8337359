-- Equality of the stored elements of a tree.
use Rattle.std.specs.Prelude.{◌≡◌, ◌==◌, ◌&&◌, Bool}
use Rattle.std.specs.Bool.{Decides}
use Rattle.std.specs.Cmp.{IsEquivalence}
use Rattle.std.proofs.Common.{ap}
use Rattle.std.proofs.lemmas.Bool.Decides.{Decides-eqb, Decides-like, Decides-and}
use Rattle.rnix_green.specs.declared.packed.Packed.{Packed}
use Rattle.rnix_green.specs.Equality.{same_kind, same_kind-decides, equivalence_from}

-- two elements have the same numbers
abbrev pub same_numbers : Packed → Packed → Bool
same_numbers a b = a.len_or_start == b.len_or_start && (a.parent == b.parent && a.size == b.size)

-- two elements have the same fields
abbrev pub same_element : Packed → Packed → Bool
same_element a b = same_kind a.kind b.kind && same_numbers a b

-- the test decides whether two elements have the same fields
pub same_element-decides : (a b : Packed) → Decides (same_element a b) (a ≡ b)
same_element-decides a b =
    Decides-like (same_element a b) (λ e i. record { len_or_start = e.1.0 i; parent = e.1.1.0 i; size = e.1.1.1 i; kind = e.0 i })
    (λ e. (
      ap (λ (x : Packed). x.kind) e,
      (ap (λ (x : Packed). x.len_or_start) e, (ap (λ (x : Packed). x.parent) e, ap (λ (x : Packed). x.size) e)),
    ))
    (Decides-and (same_kind a.kind b.kind) (same_numbers a b) (same_kind-decides a.kind b.kind)
    (Decides-and (a.len_or_start == b.len_or_start) (a.parent == b.parent && a.size == b.size) (Decides-eqb a.len_or_start b.len_or_start)
    (Decides-and (a.parent == b.parent) (a.size == b.size) (Decides-eqb a.parent b.parent) (Decides-eqb a.size b.size))))

-- equality of stored elements is an equivalence
pub elements_equal : IsEquivalence same_element
elements_equal = equivalence_from same_element same_element-decides
