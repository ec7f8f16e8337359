use Rattle.rnix.{specs.StringParts.path_parts, proofs.SameParts.same_parts}
use Rattle.rnix.proofs.ast.path_parts.parts_of_node.Goals as goal

pub returns : goal.returns
returns c = same_parts c.all_parts.result (path_parts c.args.syntax.now) c.all_parts.ensures
