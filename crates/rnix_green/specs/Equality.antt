-- Tests of equality.
use Rattle.std.specs.Prelude.{◌≡◌, ◌==◌, Bool, true, false}
use Rattle.std.specs.Bool.{Decides}
use Rattle.std.specs.Cmp.{IsEquivalence}
use Rattle.std.proofs.Common.{ap, sym, refl}
use Rattle.std.proofs.lemmas.Bool.Decides.{Decides-eqb, Decides-like}
use Rattle.rnix_kinds.specs.declared.kinds.SyntaxKind.{SyntaxKind}
use Rattle.rnix_kinds.specs.SyntaxKind.{discriminant_of}
use Rattle.rnix_kinds.proofs.AllKinds.{same_discriminant}

-- two kinds are equal
abbrev pub same_kind : SyntaxKind → SyntaxKind → Bool
same_kind a b = discriminant_of a == discriminant_of b

-- the test decides whether two kinds are one
pub same_kind-decides : (a b : SyntaxKind) → Decides (same_kind a b) (a ≡ b)
same_kind-decides a b = Decides-like (same_kind a b) (same_discriminant a b) (ap discriminant_of) (Decides-eqb (discriminant_of a) (discriminant_of b))

-- two tests are equal if each implies the other
both_ways : (a b : Bool) → (a ≡ true → b ≡ true) → (b ≡ true → a ≡ true) → a ≡ b
both_ways true b to from = sym (to refl)
both_ways false true to from = from refl
both_ways false false to from = refl

-- a test that decides equality is an equivalence
pub equivalence_from : {K : Type 0} (E : K → K → Bool) → ((a b : K) → Decides (E a b) (a ≡ b)) → IsEquivalence E
equivalence_from E decides = record {
  refl = λ a. (decides a a).1 refl;
  symm = λ a b. both_ways (E a b) (E b a) (λ e. (decides b a).1 (sym ((decides a b).0 e))) (λ e. (decides a b).1 (sym ((decides b a).0 e)));
  congr = λ a b c e. ap (λ x. E x c) ((decides a b).0 e);
}
