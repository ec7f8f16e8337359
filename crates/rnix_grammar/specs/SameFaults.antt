-- Equality of errors: a test decides whether two faults are equal.
use Rattle.std.proofs.Common.{bytes_eq, ◌≡◌, ◌&&◌, ◌==◌, List, ap, refl}
use Rattle.std.specs.Bool.{Decides}
use Rattle.std.specs.Cmp.{IsPartialEquivalence, partial_equiv_from_equiv, on_per}
use Rattle.std.specs.Cmp.Lexicographic.{pointwise}
use Rattle.std.proofs.lemmas.Bool.Decides.{Decides-eqb, Decides-like, Decides-and}
use Rattle.std.proofs.lemmas.Slice.Eq.{slice_eq-Decides, bytes_eq-Decides}
use Rattle.rnix_kinds.specs.declared.kinds.SyntaxKind.{SyntaxKind}
use Rattle.rnix_green.specs.Equality.{same_kind, same_kind-decides, equivalence_from}
use Rattle.rnix_green.specs.Range.{Extent}
use Rattle.rnix_grammar.specs.declared.error.ParseError.{ParseError}
use Rattle.rnix_grammar.specs.Fault.{Fault, unexpected_at, extra, unwanted, double_bind, unexpected_eof, unexpected_eof_wanted, duplicated_args, too_deep, fault_of, same_extent, same_fault}

-- the test on lists of kinds
same_kinds-decides : (a b : List SyntaxKind) → Decides (pointwise same_kind a b) (a ≡ b)
same_kinds-decides a b = slice_eq-Decides same_kind-decides a b (pointwise same_kind a b) refl

-- the test on ranges
same_extent-decides : (a b : Extent) → Decides (same_extent a b) (a ≡ b)
same_extent-decides a b =
    Decides-like (same_extent a b) (λ e i. record { start = e.0 i; end = e.1 i }) (λ e. (ap (λ x. x.start) e, ap (λ x. x.end) e))
    (Decides-and (a.start == b.start) (a.end == b.end) (Decides-eqb a.start b.start) (Decides-eqb a.end b.end))

-- two errors are equal exactly if the test says so
pub same_fault-decides : (a b : Fault) → Decides (same_fault a b) (a ≡ b)
same_fault-decides (unexpected_at a) (unexpected_at b) = Decides-like (same_extent a b) (ap unexpected_at) (λ e. cc) (same_extent-decides a b)
same_fault-decides (extra a) (extra b) = Decides-like (same_extent a b) (ap extra) (λ e. cc) (same_extent-decides a b)
same_fault-decides (double_bind a) (double_bind b) = Decides-like (same_extent a b) (ap double_bind) (λ e. cc) (same_extent-decides a b)
same_fault-decides (unwanted kind a wanted) (unwanted other b others) =
    Decides-like (pointwise same_kind wanted others && (same_kind kind other && same_extent a b)) (λ e. cc) (λ e. (cc, (cc, cc)))
    (Decides-and (pointwise same_kind wanted others) (same_kind kind other && same_extent a b) (same_kinds-decides wanted others)
    (Decides-and (same_kind kind other) (same_extent a b) (same_kind-decides kind other) (same_extent-decides a b)))
same_fault-decides unexpected_eof unexpected_eof = (λ e. refl, λ e. refl)
same_fault-decides (unexpected_eof_wanted wanted) (unexpected_eof_wanted others) =
    Decides-like (pointwise same_kind wanted others) (ap unexpected_eof_wanted) (λ e. cc) (same_kinds-decides wanted others)
same_fault-decides (duplicated_args a name) (duplicated_args b other) =
    Decides-like (same_extent a b && bytes_eq name other) (λ e. cc) (λ e. (cc, cc))
    (Decides-and (same_extent a b) (bytes_eq name other) (same_extent-decides a b) (bytes_eq-Decides name other))
same_fault-decides too_deep too_deep = (λ e. refl, λ e. refl)
same_fault-decides a b = (λ e. cc, λ e. cc)

-- equality of errors is symmetric and transitive
pub same_faults : IsPartialEquivalence (λ (a b : ParseError). same_fault (fault_of a) (fault_of b))
same_faults = on_per fault_of (partial_equiv_from_equiv (equivalence_from same_fault same_fault-decides))
