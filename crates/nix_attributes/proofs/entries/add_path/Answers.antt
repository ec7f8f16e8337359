use Rattle.rnix_green.specs.Tree.{Located}
use Rattle.std.proofs.{Common.{◌∙◌, ap}, lemmas.Result.on_ok_weaker}
use Rattle.{rnix_base.specs.Select.{nodes_of, those_of}, rnix.specs.{NodeKinds.is_attr, Sums.attr_node}}
use Rattle.nix_attributes.{specs.DefinedNames.{names_of}, proofs.DefinedNamesLemmas.{path_next, path_end}}
use Rattle.nix_attributes.proofs.entries.add_path.Goals as goal

pub loop-attr-preserved : goal.loop-attr-preserved
loop-attr-preserved c = record {
  next = tt;
  ends = tt;
  some = path_next c.args.attributes.now c.loop-attr.attributes c.add_name.new.attributes (names_of c.args.owner c.args.set (nodes_of is_attr c.args.path.now))
      c.loop-attr.before c.number-number.result c.loop-attr.continues c.args.set (attr_node c.loop-attr.last) (attr_node c.in-Some-attr.attr)
      (those_of is_attr c.loop-attr.attr-iterator) (those_of is_attr c.next-in-loop-attr.new.self)
      (c.number-number.ensures ∙ ap (λ (e : Located). e.number) c.syntax.ensures.node)
      c.loop-attr.invariant.some c.in-Some-attr.ensures.steps c.in_ok-add_name.ensures;
}

pub returns : goal.returns
returns c =
    on_ok_weaker c.add_name-2.result
    (λ e. path_end c.args.attributes.now c.loop-attr.attributes c.add_name-2.new.attributes
    (names_of c.args.owner c.args.set (nodes_of is_attr c.args.path.now)) c.loop-attr.before c.loop-attr.continues c.args.set
    (attr_node c.loop-attr.last) (those_of is_attr c.loop-attr.attr-iterator) c.loop-attr.invariant.some c.in-None.ensures.steps.0 e) c.add_name-2.ensures
