use Rattle.std.proofs.Common.{[], ◌∷◌, ◌++◌, ap, sym, subst, ◌∙◌, arith, append_assoc}
use Rattle.std.proofs.lemmas.List.{append-nil}
use Rattle.nix_diff.specs.Hunks.{AreHunks}
use Rattle.nix_diff.proofs.HunkLemmas.{counts_summed}
use Rattle.nix_diff.proofs.unified.hunks_of.Goals as goal

pub loop-hunk-preserved : goal.loop-hunk-preserved
loop-hunk-preserved c =
    let diff = c.args.diff.now in
    let hunk = c.in-Some.hunk in
    let found = c.in-Some.ensures in
    record {
      within = found.within;
      before = counts_summed diff hunk.first hunk.end hunk.before hunk.counts c.counts_with-before.result (omega (arith, found.filled)) found.before
          found.counts c.counts_with-before.ensures.olds c.counts_with-before.ensures.news;
      hunks = λ rest more. subst (AreHunks diff 0)
          (sym (ap (λ hs. hs ++ rest) c.in_ok-push.ensures.items ∙ append_assoc c.loop-hunk.hunks.items (hunk ∷ []) rest))
          (c.loop-hunk.invariant.hunks (hunk ∷ rest) (found, more));
    }

pub returns : goal.returns
returns c = subst (AreHunks c.args.diff.now 0) (append-nil c.loop-hunk.hunks.items) (c.loop-hunk.invariant.hunks [] c.in_default.ensures)
