use Rattle.nix_lints.proofs.unused.unused_names.Goals as goal

pub returns : goal.returns
returns c =
    let names = c.in_ok-names.ensures in
    c.in_ok-unused.ensures c.args.root.now record { bindings = names.bindings; firsts = names.firsts; resolved = names.resolved }
