use Rattle.std.proofs.Common.{rules, ◌≡◌, ◌∙◌, Some, None, subst, sym}
use Rattle.std.proofs.lemmas.Option.{none-some, same_Some}
use Rattle.rnix_green.specs.Tree.{item_of}
use Rattle.rnix.specs.ParseResult.{root_of}
use Rattle.nix_update.specs.Updated.{change_of, parent_at, member_at}
use Rattle.{nix_scopes.specs.Alike.IsResolution, nix_update.specs.SameNames.HaveSameMeaning}
use Rattle.nix_update.proofs.guard.difference_with.Goals as goal

pub returns-in_default-clause-some : goal.returns-in_default-clause-some
returns-in_default-clause-some c =
    let none : member_at (parent_at (item_of c.args.set.now).kind (item_of c.args.set.now).start (root_of c.in_ok-read.read)) ≡ None = search rules in
    record {
      read = c.in_ok-read.read;
      is_read = c.in_ok-read.ensures;
      names = c.in_ok-names.names;
      found = record { bindings = c.in_ok-names.ensures.bindings; firsts = c.in_ok-names.ensures.firsts; resolved = c.in_ok-names.ensures.resolved };
      others = c.in_ok-others.others;
      others_found = subst (λ root. IsResolution root c.in_ok-others.others) c.syntax-new.ensures record {
        bindings = c.in_ok-others.ensures.bindings;
        firsts = c.in_ok-others.ensures.firsts;
        resolved = c.in_ok-others.ensures.resolved;
      };
      differs = λ entry is. absurd (none-some entry (sym none ∙ is));
    }

pub returns-in-Some-first_difference-clause-some : goal.returns-in-Some-first_difference-clause-some
returns-in-Some-first_difference-clause-some c =
    let names = c.in_ok-names.names in
    let others = c.in_ok-others.others in
    let own : member_at (parent_at (item_of c.args.set.now).kind (item_of c.args.set.now).start (root_of c.in_ok-read.read)) ≡ Some c.in-Some.entry =
    search rules in
    record {
      read = c.in_ok-read.read;
      is_read = c.in_ok-read.ensures;
      names = c.in_ok-names.names;
      found = record { bindings = c.in_ok-names.ensures.bindings; firsts = c.in_ok-names.ensures.firsts; resolved = c.in_ok-names.ensures.resolved };
      others = c.in_ok-others.others;
      others_found = subst (λ root. IsResolution root c.in_ok-others.others) c.syntax-new.ensures record {
        bindings = c.in_ok-others.ensures.bindings;
        firsts = c.in_ok-others.ensures.firsts;
        resolved = c.in_ok-others.ensures.resolved;
      };
      differs = λ entry is same. c.in-Some-first_difference.ensures.some
          (subst (λ change. HaveSameMeaning change others names) (sym c.change_of.ensures)
          (subst (λ e. HaveSameMeaning (change_of e c.args.made.now c.args.text.now) others names) (same_Some entry c.in-Some.entry (sym is ∙ own)) same));
    }

pub returns : goal.returns
returns c = record {
  none = record {
    read = c.in_ok-read.read;
    is_read = c.in_ok-read.ensures;
    entry = c.in-Some.entry;
    entry_is = search rules;
    names = c.in_ok-names.names;
    found = record { bindings = c.in_ok-names.ensures.bindings; firsts = c.in_ok-names.ensures.firsts; resolved = c.in_ok-names.ensures.resolved };
    others = c.in_ok-others.others;
    others_found = subst (λ root. IsResolution root c.in_ok-others.others) c.syntax-new.ensures record {
      bindings = c.in_ok-others.ensures.bindings;
      firsts = c.in_ok-others.ensures.firsts;
      resolved = c.in_ok-others.ensures.resolved;
    };
    alike = subst (λ change. HaveSameMeaning change c.in_ok-others.others c.in_ok-names.names) c.change_of.ensures c.in-None.ensures.none;
  };
  some = tt;
}
