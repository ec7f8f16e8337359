use Rattle.{std.proofs.Common.{◌∙◌, ap}, rnix_green.specs.{Forest.text_of, Tree.forest_of}, rnix_tree.proofs.SiblingsAlike.whole_text}
use Rattle.rnix.specs.ParseResult.{Reading}
use Rattle.rnix.proofs.root.Parse.text.Goals as goal

pub returns : goal.returns
returns c = c.text_at.ensures ∙ whole_text c.self.inside.green ∙ ap (λ (r : Reading). text_of (forest_of r.tree)) c.self.view_is
