use Rattle.std.proofs.Common.{◌≡◌, length, sym, subst, arith}
use Rattle.nix_values.specs.IndexedAttributes.{IsInserted}
use Rattle.nix_values.specs.FoundKeys.{found_keys}
use Rattle.nix_values.specs.Attached.{IsAttached}
use Rattle.nix_values.proofs.OrderedLemmas.{on_ok_then}
use Rattle.nix_values.proofs.json_found.Found.attach.Goals as goal

pub returns-in-Some : goal.returns-in-Some
returns-in-Some c =
    let keys = found_keys c.args.self.now in
    let count : c.len.result ≡ length c.args.self.now.items.items = omega arith in
    on_ok_then c.insert.result _ _
    (λ i. subst (λ set. IsAttached keys c.args.attributes.now set c.args.name.now (length c.args.self.now.items.items) c.insert.new.self) (sym c.in-Some.is)
    (subst (λ n. IsInserted keys c.args.attributes.now c.in-Some.set c.args.name.now n c.insert.new.self) count i))
    c.insert.ensures.inserted
