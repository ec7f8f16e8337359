use Rattle.std.proofs.Common.{◌≡◌, ◌∙◌, ap, length, refl, subst, arith}
use Rattle.std.specs.Prelude.{string_bytes}
use Rattle.nix_values.specs.Contents.{Entry, plain_of}
use Rattle.nix_values.specs.FoundKeys.{found_keys}
use Rattle.nix_values.specs.Attached.{IsAttached}
use Rattle.nix_values.specs.JsonReading.{name_of, next_offset}
use Rattle.nix_values.proofs.JsonLocationLemmas.{placed_added}
use Rattle.nix_values.proofs.JsonNameLemmas.{location_added}
use Rattle.nix_values.proofs.json_reader.Reading.add.Goals as goal

pub returns-clause-placed : goal.returns-clause-placed
returns-clause-placed c =
    let old = c.args.self.now in
    let e : Entry = record { depth = c.len-depth.result; name = string_bytes c.named_or-name.result.0; plain = plain_of c.args.value } in
    let deep : c.len-depth.result ≡ length old.frames.items = omega arith in
    let named = subst (λ name. IsAttached (found_keys old.found) old.attributes c.innermost_set-set.result name (length old.found.items.items)
    c.attach.new.attributes)
    c.as_str.ensures.value c.in_ok-attach.ensures in
    placed_added old.found (record { items = c.push-2.new.self; locations = c.push.new.self }) old.attributes c.attach.new.attributes old.frames.items _ _ e
    c.requires c.in_ok-push-2.ensures.items c.in_ok-push.ensures.items refl deep c.innermost_set-set.ensures
    (subst (λ set. IsAttached (found_keys old.found) old.attributes set e.name (length old.found.items.items) c.attach.new.attributes)
    c.innermost_set-set.ensures named)

pub returns-clause-located : goal.returns-clause-located
returns-clause-located c =
    location_added c.args.self.now _ _ _ c.args.at c.requires c.in_ok-push-2.ensures.items c.in_ok-push.ensures.items
    (c.named_or-name.ensures.name ∙ ap (λ n. name_of n) c.take.ensures.value) c.innermost_set-set.ensures
    (c.named_or-name.ensures.offset ∙ ap (λ n. next_offset n c.args.at) c.take.ensures.value)
