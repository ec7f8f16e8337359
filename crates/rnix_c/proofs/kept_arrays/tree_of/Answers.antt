use Rattle.std.proofs.Common.{sym}
use Rattle.rnix_green.proofs.KeptLemmas.{tree_from_kept}
use Rattle.rnix_c.proofs.KeptTrees.{kept_in_arrays, parsed_in_arrays, root_in_arrays}
use Rattle.rnix_c.proofs.kept_arrays.tree_of.Goals as goal

pub into_tree-requires : goal.into_tree-requires
into_tree-requires c =
    (_, kept_in_arrays c.args.text.now c.args.ranges.now c.args.links.now _ c.requires.kept c.utf8.text c.requires.short c.in_ok-list.ensures)

pub returns-clause-root : goal.returns-clause-root
returns-clause-root c =
    root_in_arrays c.args.text.now c.args.ranges.now c.args.links.now _ c.requires.kept c.utf8.text c.requires.short c.in_ok-list.ensures _
    (sym (tree_from_kept _ _ _ c.in_ok-green.ensures))

pub returns-clause-read : goal.returns-clause-read
returns-clause-read c =
    parsed_in_arrays c.args.text.now c.args.ranges.now c.args.links.now _ c.requires.kept c.utf8.text c.requires.short c.in_ok-list.ensures _
    (sym (tree_from_kept _ _ _ c.in_ok-green.ensures))
