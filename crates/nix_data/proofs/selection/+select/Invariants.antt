use Rattle.nix_data.proofs.selection.+select.Given as goal

abbrev pub decreases-select : goal.decreases-select
decreases-select l = l.levels
