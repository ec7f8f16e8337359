use Rattle.std.proofs.Common.{subst}
use Rattle.{nix_scopes.specs.Alike.IsResolution, nix_update.specs.SameNames.HaveSameMeaning}
use Rattle.nix_update.proofs.guard.difference_without.Goals as goal

pub returns-in-Some-clause-some : goal.returns-in-Some-clause-some
returns-in-Some-clause-some c = record {
  read = c.in_ok-read.read;
  is_read = c.in_ok-read.ensures;
  names = c.in_ok-names.names;
  found = record { bindings = c.in_ok-names.ensures.bindings; firsts = c.in_ok-names.ensures.firsts; resolved = c.in_ok-names.ensures.resolved };
  others = c.in_ok-others.others;
  others_found = subst (λ root. IsResolution root c.in_ok-others.others) c.syntax.ensures record {
    bindings = c.in_ok-others.ensures.bindings;
    firsts = c.in_ok-others.ensures.firsts;
    resolved = c.in_ok-others.ensures.resolved;
  };
  differs = subst (λ change. ¬ HaveSameMeaning change c.in_ok-names.names c.in_ok-others.others) c.change_of.ensures c.in-Some.ensures.some;
}

pub returns : goal.returns
returns c = record {
  none = record {
    read = c.in_ok-read.read;
    is_read = c.in_ok-read.ensures;
    names = c.in_ok-names.names;
    found = record { bindings = c.in_ok-names.ensures.bindings; firsts = c.in_ok-names.ensures.firsts; resolved = c.in_ok-names.ensures.resolved };
    others = c.in_ok-others.others;
    others_found = subst (λ root. IsResolution root c.in_ok-others.others) c.syntax.ensures record {
      bindings = c.in_ok-others.ensures.bindings;
      firsts = c.in_ok-others.ensures.firsts;
      resolved = c.in_ok-others.ensures.resolved;
    };
    alike = subst (λ change. HaveSameMeaning change c.in_ok-names.names c.in_ok-others.others) c.change_of.ensures c.in-None.ensures.none;
  };
  some = tt;
}
