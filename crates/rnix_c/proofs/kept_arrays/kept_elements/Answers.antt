use Rattle.rnix_c.proofs.kept_arrays.kept_elements.Goals as goal

pub returns : goal.returns
returns c = λ tree h. c.in_ok-list.ensures tree (c.whole.ensures tree h)
