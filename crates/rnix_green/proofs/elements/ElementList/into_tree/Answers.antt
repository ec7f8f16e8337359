use Rattle.rnix_green.proofs.KeptLemmas.{kept}
use Rattle.rnix_green.proofs.elements.ElementList.into_tree.Goals as goal

pub from_parts-requires : goal.from_parts-requires
from_parts-requires c = rw (c.self.view_is, c.in_ok-text.ensures.ok) (kept c.requires.0 _ _ c.requires.1)

pub returns : goal.returns
returns c = rw (c.from_parts.ensures, c.self.view_is, c.in_ok-text.ensures.ok) (kept c.requires.0 _ _ c.requires.1)
