use Rattle.std.proofs.Common.{rules, ◌≡◌, ◌∙◌, Some, None, refl, sym, arith}
use Rattle.std.specs.{Cow.cow_str_bytes, Str.bytes_eq}
use Rattle.nix_scopes.specs.{Resolving.number_by, BitTries.key_bits}
use Rattle.nix_scopes.proofs.{NumberLemmas.{assigned_once, key_updated, number_at}, NameMapLemmas.{key_known, key_added}}
use Rattle.nix_scopes.proofs.name_maps.NameMaps.key.Goals as goal

pub returns-in-Some : goal.returns-in-Some
returns-in-Some c =
    let known : number_by c.args.self.now.keys (cow_str_bytes c.args.text.now) ≡ Some c.in-Some.key =
    sym (number_at c.args.self.now.keys c.in_ok-key_of.field-0 (cow_str_bytes c.args.text.now) c.in_ok-key_of.ensures) ∙ search rules in
    key_known c.args.self.now (cow_str_bytes c.args.text.now) c.in-Some.key known

pub returns : goal.returns
unfolding key_bits
returns c =
    let none : number_by c.args.self.now.keys (cow_str_bytes c.args.text.now) ≡ None =
    sym (number_at c.args.self.now.keys c.in_ok-key_of.field-0 (cow_str_bytes c.args.text.now) c.in_ok-key_of.ensures) ∙ search rules in
    key_added c.args.self.now _ (cow_str_bytes c.args.text.now) c.args.self.now.count refl (omega (arith, c.if-key-ge-MOST_KEYS.false)) refl refl none
    (λ other. assigned_once (bytes_eq (cow_str_bytes c.args.text.now) other) _ _ _
    (key_updated c.in_ok-key_of-2.field-0 (cow_str_bytes c.args.text.now) _ _ _ c.in_ok-key_of-2.ensures c.in_ok-insert.ensures.updates.0 other))
