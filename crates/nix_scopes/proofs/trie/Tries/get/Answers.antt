use Rattle.std.proofs.Common.{◌≡◌, ◌∙◌, ◌-◌, suc, ◌+◌, arith, ap, sym, ◌%◌, ◌/◌}
use Rattle.nix_scopes.specs.declared.trie.Branch.{Branch}
use Rattle.nix_scopes.specs.BitTries.{key_bits, branch_at, side, value_at}
use Rattle.nix_scopes.proofs.TrieLemmas.{value_next, value_last}
use Rattle.nix_scopes.proofs.trie.Tries.get.Goals as goal

pub loop-bit-preserved : goal.loop-bit-preserved
unfolding key_bits
loop-bit-preserved c =
    let one : key_bits - c.loop-bit._bit ≡ suc (key_bits - (c.loop-bit._bit + 1)) = omega (arith, c.loop-bit-test.true) in
    record {
      low = omega (arith, c.loop-bit-test.true);
      same =
          ap (λ n. value_at (key_bits - (c.loop-bit._bit + 1)) c.args.self.now.branches.items n (c.loop-bit.bits / 2))
          (c.side-at.ensures ∙ ap (λ (b : Branch). side b (c.loop-bit.bits % 2))
          (c.branch_at.ensures ∙ ap (λ bs. branch_at bs c.loop-bit.at) c.deref.ensures.value))
          ∙ sym (value_next _ _ c.args.self.now.branches.items c.loop-bit.at c.loop-bit.bits one) ∙ c.loop-bit.invariant.same;
    }

pub returns : goal.returns
unfolding key_bits
returns c =
    let none : key_bits - c.loop-bit._bit ≡ 0 = omega (arith, c.loop-bit-test.false) in
    sym (value_last _ c.args.self.now.branches.items c.loop-bit.at c.loop-bit.bits none) ∙ c.loop-bit.invariant.same
