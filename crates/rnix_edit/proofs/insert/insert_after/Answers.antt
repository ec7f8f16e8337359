use Rattle.std.proofs.{Common.{rules, ◌≡◌, ◌∙◌, sym, subst, string_bytes}, lemmas.Bool.false≢true}
use Rattle.rnix.specs.ParseResult.{root_of}
use Rattle.rnix_edit.specs.declared.edited.Refusal.TheVariants as refusal
use Rattle.rnix_edit.specs.{Steps.node_range_of, EditRanges.put_in, Alone.{IsAsAlone, IsUnlikeAlone}}
use Rattle.rnix_edit.specs.Edited.{spliced, node_range_in, IsAfter, IsTreeAfter, IsFilled, IsNotFilled, IsInsertedAfter, IsNotInsertedAfter}
use Rattle.rnix_edit.specs.ParsedEdit.{IsNotParsed, IfRead, IfNotRead, gap_of}
use Rattle.rnix_edit.proofs.EditLemmas.{not_made, otherwise, kept_done, kept_refused}
use Rattle.rnix_edit.proofs.insert.insert_after.Goals as goal

pub returns-in-Refused-clause-refused : goal.returns-in-Refused-clause-refused
returns-in-Refused-clause-refused c =
    let gap = gap_of c.in_ok-gap.gap in
    let text = c.args.text.now in
    let put = put_in gap c.args.new.now in
    let so = IsTreeAfter c.args.root.now c.args.node.now c.args.kind c.args.new.now in
    subst (IsNotFilled so c.args.kind c.in-Refused.refusal text c.args.new.now) c.in_ok-gap.ensures
    (not_made text gap.start gap.end put (so gap) (IsUnlikeAlone c.args.new.now (node_range_in gap c.args.kind c.args.new.now)) c.in-Refused.refusal
    (subst (IfNotRead (λ refusal. IsNotParsed refusal text gap.start gap.end put)) c.in-Refused.is c.in_ok-made.ensures.refused))

pub returns-then-is_after : goal.returns-then-is_after
returns-then-is_after c =
    let gap = gap_of c.in_ok-gap.gap in
    let text = c.args.text.now in
    let new = c.args.new.now in
    let put = put_in gap new in
    let so = IsTreeAfter c.args.root.now c.args.node.now c.args.kind new in
    let target = node_range_in gap c.args.kind new in
    let own = c.in_ok-target.target in
    let other = c.syntax-other.result in
    let read = subst (IfRead (spliced text gap.start gap.end put)) c.in-Read.is c.in_ok-made.ensures.read in
    let root : other ≡ root_of c.in-Read.read = search rules in
    let holds : so gap (root_of c.in-Read.read) =
    subst (so gap) root
    (subst (λ place. IsAfter c.args.root.now (node_range_of c.args.node.now) c.in_ok-gap.gap.comments other place) c.in_ok-target.ensures
    (subst (λ old. IsAfter c.args.root.now old c.in_ok-gap.gap.comments other c.in_ok-target.target) c.node_range_of-old.ensures
    (c.is_after.ensures.0 c.if-is_after.true))) in
    record {
      done = kept_done text gap.start gap.end put (so gap) c.in_ok-kept.kept c.in-Read.read read.1 holds (IsAsAlone new target)
          (string_bytes c.in-Read.made) (IsAsAlone new own other) (IsInsertedAfter text c.args.root.now c.args.node.now c.args.kind new) read.0
          (λ alike. subst (IsAsAlone new target) root (subst (λ place. IsAsAlone new place other) c.in_ok-target.ensures alike))
          (λ kept made. subst (λ g. IsFilled so c.args.kind text new g kept) c.in_ok-gap.ensures made) c.in_ok-kept.ensures.done;
      refused = kept_refused text gap.start gap.end put (so gap) c.in_ok-kept.kept c.in-Read.read read.1 holds (IsUnlikeAlone new target)
          (IsUnlikeAlone new own other) (λ refusal. IsNotInsertedAfter refusal text c.args.root.now c.args.node.now c.args.kind new)
          (λ unlike. subst (IsUnlikeAlone new target) root (subst (λ place. IsUnlikeAlone new place other) c.in_ok-target.ensures unlike))
          (λ refusal not_made. subst (IsNotFilled so c.args.kind refusal text new) c.in_ok-gap.ensures not_made) c.in_ok-kept.ensures.refused;
    }

pub returns-clause-refused : goal.returns-clause-refused
returns-clause-refused c =
    let gap = gap_of c.in_ok-gap.gap in
    let text = c.args.text.now in
    let put = put_in gap c.args.new.now in
    let so = IsTreeAfter c.args.root.now c.args.node.now c.args.kind c.args.new.now in
    let read = subst (IfRead (spliced text gap.start gap.end put)) c.in-Read.is c.in_ok-made.ensures.read in
    let root : c.syntax-other.result ≡ root_of c.in-Read.read = search rules in
    let fails : ¬ so gap c.syntax-other.result =
    subst (λ target. ¬ IsAfter c.args.root.now (node_range_of c.args.node.now) c.in_ok-gap.gap.comments c.syntax-other.result target) c.in_ok-target.ensures
    (subst (λ old. ¬ IsAfter c.args.root.now old c.in_ok-gap.gap.comments c.syntax-other.result c.in_ok-target.target) c.node_range_of-old.ensures
    (λ holds. false≢true (sym c.if-is_after.false ∙ c.is_after.ensures.1 holds))) in
    subst (IsNotFilled so c.args.kind refusal.ReadOtherwise text c.args.new.now) c.in_ok-gap.ensures
    (otherwise text gap.start gap.end put (so gap) (IsUnlikeAlone c.args.new.now (node_range_in gap c.args.kind c.args.new.now)) c.in-Read.read read.1
    (subst (λ r. ¬ so gap r) root fails))
