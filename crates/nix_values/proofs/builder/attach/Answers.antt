use Rattle.std.proofs.Common.{◌≡◌, ◌∙◌, List, length, map, sym, subst, arith}
use Rattle.std.proofs.lemmas.List.{length-map}
use Rattle.nix_values.specs.Built.{Built, built_of, keys_of}
use Rattle.nix_values.specs.IndexedAttributes.{IsInserted}
use Rattle.nix_values.proofs.OrderedLemmas.{on_ok_then}
use Rattle.nix_values.proofs.BuiltLemmas.{key_outside, key_in_other, key_in_set, index_other, index_inserted}
use Rattle.nix_values.proofs.builder.attach.Goals as goal

pub returns-in_default-clause-attached : goal.returns-in_default-clause-attached
returns-in_default-clause-attached c = λ plain.
    let values : List Built = map built_of c.args.values.now.nodes.items in
    let b : Built = record { parent = c.args.parent; name = c.args.name.now; plain = plain } in
    index_other values b c.args.attributes.now c.requires.index (key_outside values b c.in_default.is)

pub returns-then-not-is_set-clause-attached : goal.returns-then-not-is_set-clause-attached
returns-then-not-is_set-clause-attached c = λ plain.
    let values : List Built = map built_of c.args.values.now.nodes.items in
    let b : Built = record { parent = c.args.parent; name = c.args.name.now; plain = plain } in
    index_other values b c.args.attributes.now c.requires.index (key_in_other values b c.in-Some.set c.in-Some.is (sym c.is_set.ensures ∙ c.if-not-is_set.true))

pub returns-clause-attached : goal.returns-clause-attached
returns-clause-attached c =
    let values : List Built = map built_of c.args.values.now.nodes.items in
    let count : c.len.result ≡ length values = omega (arith, length-map c.args.values.now.nodes.items built_of) in
    on_ok_then c.insert.result _ _
    (λ i plain.
    let b : Built = record { parent = c.args.parent; name = c.args.name.now; plain = plain } in
    index_inserted values b c.args.attributes.now c.insert.new.self c.in-Some.set c.requires.index
    (key_in_set values b c.in-Some.set c.in-Some.is (sym c.is_set.ensures ∙ c.if-not-is_set.false))
    (subst (λ n. IsInserted (keys_of values) c.args.attributes.now c.in-Some.set c.args.name.now n c.insert.new.self) count i))
    c.insert.ensures.inserted
