use Rattle.std.proofs.Common.{◌≡◌, ◌∙◌, ◌-◌, suc, ◌+◌, arith, ap, sym, subst, ◌%◌, ◌/◌, length, rules}
use Rattle.std.proofs.lemmas.List.{length_push}
use Rattle.nix_scopes.specs.declared.trie.Branch.{Branch}
use Rattle.nix_scopes.specs.BitTries.{key_bits, branch_at, side, IsWithin}
use Rattle.nix_scopes.proofs.TrieLemmas.{extends_same, extends_push, extends_less, within_after, IsWay, way_more, way_last, updated}
use Rattle.nix_scopes.proofs.trie.Tries.with.Goals.{then-bit-lt-KEY_BITS, else-bit-lt-KEY_BITS}
use Rattle.nix_scopes.proofs.trie.Tries.with.Goals as goal

pub loop-bit-init : goal.loop-bit-init
unfolding key_bits
loop-bit-init c = record {
  low = omega arith;
  longer = extends_same c.args.self.now.branches.items;
  next_is = λ l. search rules;
  last_is = λ e. absurd (omega (arith, e));
  within = λ w. w;
  way = λ w final h way. way;
}

pub loop-bit-preserved : goal.loop-bit-preserved
unfolding key_bits
loop-bit-preserved c =
    let old = c.args.self.now.branches.items in
    let now = c.loop-bit.self.branches.items in
    let one : key_bits - c.loop-bit.bit ≡ suc (key_bits - (c.loop-bit.bit + 1)) = omega (arith, c.loop-bit-test.true) in
    let h = c.loop-bit.invariant.longer in
    let was : c.branch_at-old.result ≡ branch_at now c.loop-bit.at = c.branch_at-old.ensures ∙ ap (λ bs. branch_at bs c.loop-bit.at) c.deref.ensures.value in
    let there : IsWithin key_bits old c.args.root c.args.key → branch_at now c.loop-bit.at ≡ branch_at old c.loop-bit.at =
    λ w. h.same c.loop-bit.at (within_after _ _ old c.loop-bit.at c.loop-bit.bits one (c.loop-bit.invariant.within w)).0 in
    let after : IsWithin key_bits old c.args.root c.args.key → c.side-at.result ≡ side (branch_at old c.loop-bit.at) (c.loop-bit.bits % 2) =
    λ w. c.side-at.ensures ∙ ap (λ (b : Branch). side b (c.loop-bit.bits % 2)) (was ∙ there w) in
    record {
      low = omega (arith, c.loop-bit-test.true);
      longer = extends_push old now c.push.new.self.items c.with_side.result h c.in_ok-push.ensures.items;
      next_is = λ l. elim c.if-bit-lt-KEY_BITS.branch [
        | then-bit-lt-KEY_BITS w ↦
            let count : w.len.result ≡ length now = search rules in
            w.next-is ∙ omega (arith, count, ap length c.in_ok-push.ensures.items, length_push now c.with_side.result)
        | else-bit-lt-KEY_BITS w ↦ absurd (omega (arith, l, w.if-bit-lt-KEY_BITS.false))
      ];
      last_is = λ e. elim c.if-bit-lt-KEY_BITS.branch [
        | then-bit-lt-KEY_BITS w ↦ absurd (omega (arith, e, w.if-bit-lt-KEY_BITS.true))
        | else-bit-lt-KEY_BITS w ↦ w.next-is
      ];
      within = λ w. subst (λ n. IsWithin (key_bits - (c.loop-bit.bit + 1)) old n (c.loop-bit.bits / 2)) (sym (after w))
          (within_after _ _ old c.loop-bit.at c.loop-bit.bits one (c.loop-bit.invariant.within w)).1;
      way = λ w final longer way.
          c.loop-bit.invariant.way w final (extends_less now c.push.new.self.items final c.with_side.result c.in_ok-push.ensures.items longer)
          (way_more _ _ old now c.push.new.self.items final c.loop-bit.at c.loop-bit.next c.loop-bit.bits c.args.number c.if-bit-lt-KEY_BITS.next
          c.with_side.result c.branch_at-old.result one h c.in_ok-push.ensures.items
          (c.loop-bit.invariant.next_is (omega (arith, c.loop-bit-test.true))) was (c.loop-bit.invariant.within w)
          (c.with_side.ensures.own ∙ c.in_ok-stored.ensures)
          c.with_side.ensures.other longer
          (subst (λ n. IsWay (key_bits - (c.loop-bit.bit + 1)) old final n c.if-bit-lt-KEY_BITS.next (c.loop-bit.bits / 2) c.args.number) (after w) way));
    }

pub returns : goal.returns
unfolding key_bits
returns c =
    let all : c.loop-bit.bit ≡ key_bits = omega (arith, c.loop-bit-test.false, c.loop-bit.invariant.low) in
    updated c.args.self.now.branches.items c.loop-bit.self.branches.items c.args.root c.args.key c.args.number c.len-first.result
    c.loop-bit.invariant.longer
    (λ is. c.loop-bit.invariant.way (is c.args.key) c.loop-bit.self.branches.items (extends_same c.loop-bit.self.branches.items)
    (way_last _ c.args.self.now.branches.items c.loop-bit.self.branches.items c.loop-bit.at c.loop-bit.next c.loop-bit.bits c.args.number
    (omega (arith, all)) (c.loop-bit.invariant.last_is all)))
