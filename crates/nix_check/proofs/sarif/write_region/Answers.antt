use Rattle.nix_check.proofs.sarif.write_region.Goals as goal

pub returns : goal.returns
returns g c = c.write.ensures.bytes
