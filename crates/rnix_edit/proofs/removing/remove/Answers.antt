use Rattle.std.proofs.{Common.{rules, ◌≡◌, ◌∙◌, [], sym, subst, string_bytes}, lemmas.Bool.false≢true}
use Rattle.rnix.specs.ParseResult.{root_of}
use Rattle.rnix_edit.specs.{Steps.node_range_of, Edited.{spliced, IsWithout, IsCutOut, IsNotCutOut, NoNode}, ParsedEdit.{IsNotParsed, IfRead, IfNotRead}}
use Rattle.rnix_edit.specs.declared.edited.Refusal.TheVariants as refusal
use Rattle.rnix_edit.proofs.EditLemmas.{not_made, made_so, otherwise}
use Rattle.rnix_edit.proofs.removing.remove.Goals as goal

pub returns-in-Refused-clause-refused : goal.returns-in-Refused-clause-refused
returns-in-Refused-clause-refused c =
    let cut = c.cut_of-cut.result in
    let text = c.args.text.now in
    let so = IsWithout c.args.root.now (node_range_of c.args.node.now) cut.comments in
    subst (IsNotCutOut c.in-Refused.refusal text c.args.root.now c.args.node.now) c.cut_of-cut.ensures
    (not_made text cut.start cut.end [] so NoNode c.in-Refused.refusal
    (subst (IfNotRead (λ refusal. IsNotParsed refusal text cut.start cut.end [])) c.in-Refused.is c.in_ok-made.ensures.refused))

pub returns-then-is_without-clause-done : goal.returns-then-is_without-clause-done
returns-then-is_without-clause-done c =
    let cut = c.cut_of-cut.result in
    let text = c.args.text.now in
    let made = string_bytes c.in-Read.made in
    let so = IsWithout c.args.root.now (node_range_of c.args.node.now) cut.comments in
    let read = subst (IfRead (spliced text cut.start cut.end [])) c.in-Read.is c.in_ok-made.ensures.read in
    let root : c.syntax.result ≡ root_of c.in-Read.read = search rules in
    let holds : so c.syntax.result =
    subst (λ old. IsWithout c.args.root.now old cut.comments c.syntax.result) c.node_range_of-old.ensures (c.is_without.ensures.0 c.if-is_without.true) in
    subst (λ cut. IsCutOut text c.args.root.now c.args.node.now cut made) c.cut_of-cut.ensures
    (made_so text cut.start cut.end [] so made c.in-Read.read read.0 read.1 (subst so root holds))

pub returns-else-is_without-clause-refused : goal.returns-else-is_without-clause-refused
returns-else-is_without-clause-refused c =
    let cut = c.cut_of-cut.result in
    let text = c.args.text.now in
    let so = IsWithout c.args.root.now (node_range_of c.args.node.now) cut.comments in
    let read = subst (IfRead (spliced text cut.start cut.end [])) c.in-Read.is c.in_ok-made.ensures.read in
    let root : c.syntax.result ≡ root_of c.in-Read.read = search rules in
    let fails : ¬ so c.syntax.result =
    subst (λ old. ¬ IsWithout c.args.root.now old cut.comments c.syntax.result) c.node_range_of-old.ensures
    (λ holds. false≢true (sym c.if-is_without.false ∙ c.is_without.ensures.1 holds)) in
    subst (IsNotCutOut refusal.ReadOtherwise text c.args.root.now c.args.node.now) c.cut_of-cut.ensures
    (otherwise text cut.start cut.end [] so NoNode c.in-Read.read read.1 (subst (λ r. ¬ so r) root fails))
