use Rattle.std.proofs.{Common.{rules, ◌≡◌, ◌∙◌, sym, subst, string_bytes}, lemmas.Bool.false≢true}
use Rattle.rnix_green.specs.Tree.{item_of}
use Rattle.rnix.specs.ParseResult.{root_of}
use Rattle.rnix_edit.specs.{Alone.{IsAsAlone, IsUnlikeAlone}, Edited.{spliced, node_range_at, IsTreeReplaced, IsReplaced, IsNotReplaced}, ParsedEdit.IfRead}
use Rattle.rnix_edit.proofs.EditLemmas.{otherwise, kept_done, kept_refused}
use Rattle.rnix_edit.proofs.replacing.replace.Goals as goal

pub returns-in_ok-kept : goal.returns-in_ok-kept
returns-in_ok-kept c =
    let e = item_of c.args.node.now in
    let text = c.args.text.now in
    let new = c.args.new.now in
    let target = node_range_at c.args.kind e.start new in
    let so = IsTreeReplaced c.args.root.now c.args.node.now c.args.kind new in
    let own = c.replaced_range-target.result in
    let other = c.syntax-other.result in
    let read = subst (IfRead (spliced text e.start e.end new)) c.in-Read.is c.in_ok-made.ensures.read in
    let root : other ≡ root_of c.in-Read.read = search rules in
    let holds = subst so root (c.is_replaced.ensures.0 c.if-is_replaced.true) in
    record {
      done = kept_done text e.start e.end new so c.in_ok-kept.kept c.in-Read.read read.1 holds (IsAsAlone new target) (string_bytes c.in-Read.made)
          (IsAsAlone new own other) (IsReplaced text c.args.root.now c.args.node.now c.args.kind new) read.0
          (λ alike. subst (IsAsAlone new target) root (subst (λ place. IsAsAlone new place other) c.replaced_range-target.ensures alike))
          (λ kept made. made) c.in_ok-kept.ensures.done;
      refused = kept_refused text e.start e.end new so c.in_ok-kept.kept c.in-Read.read read.1 holds (IsUnlikeAlone new target) (IsUnlikeAlone new own other)
          (λ refusal. IsNotReplaced refusal text c.args.root.now c.args.node.now c.args.kind new)
          (λ unlike. subst (IsUnlikeAlone new target) root (subst (λ place. IsUnlikeAlone new place other) c.replaced_range-target.ensures unlike))
          (λ refusal not_made. not_made) c.in_ok-kept.ensures.refused;
    }

pub returns-else-is_replaced-clause-refused : goal.returns-else-is_replaced-clause-refused
returns-else-is_replaced-clause-refused c =
    let e = item_of c.args.node.now in
    let so = IsTreeReplaced c.args.root.now c.args.node.now c.args.kind c.args.new.now in
    let read = subst (IfRead (spliced c.args.text.now e.start e.end c.args.new.now)) c.in-Read.is c.in_ok-made.ensures.read in
    let root : c.syntax-other.result ≡ root_of c.in-Read.read = search rules in
    let fails : ¬ so c.syntax-other.result = λ holds. false≢true (sym c.if-is_replaced.false ∙ c.is_replaced.ensures.1 holds) in
    otherwise c.args.text.now e.start e.end c.args.new.now so (IsUnlikeAlone c.args.new.now (node_range_at c.args.kind e.start c.args.new.now)) c.in-Read.read
    read.1 (subst (λ r. ¬ so r) root fails)
