use Rattle.std.proofs.Common.{refl, ◌∙◌}
use Rattle.rnix_kinds.specs.{Lexical.Classes.class_test, declared.tokenizer.text.Class.TheVariants.{Content, Blank}}
use Rattle.rnix_kinds.proofs.LexicalLemmas.LaneLemmas.{both, either, same_lanes}
use Rattle.rnix_kinds.proofs.tokenizer.lanes.members.Goals.{in-Line, in-Content, in-Blank, in-Comment}
use Rattle.rnix_kinds.proofs.tokenizer.lanes.members.Goals as goal

pub returns : goal.returns
returns c =
    let v = c.args.bytes in
    elim c.match-class.branch [
      | in-Blank w ↦ rw w.in-Blank.is (w.result-is ∙ either _ _ v w.between.ensures w.equal.ensures ∙ same_lanes _ (class_test Blank) v c.fits-bytes.1 refl)
      | in-Line w ↦ rw w.in-Line.is (w.result-is ∙ w.differ.ensures)
      | in-Comment w ↦ rw w.in-Comment.is (w.result-is ∙ w.differ-in-Comment.ensures)
      | in-Content w ↦
          let others = both _ _ v w.differ-in-Content.ensures w.differ-in-Content-2.ensures in
          let all = both _ _ v (both _ _ v w.differ-in-Content-3.ensures w.differ-in-Content-4.ensures) others in
          rw w.in-Content.is (w.result-is ∙ all ∙ same_lanes _ (class_test Content) v c.fits-bytes.1 refl)
    ]
