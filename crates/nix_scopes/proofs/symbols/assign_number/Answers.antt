use Rattle.{std.specs.{Cow.cow_str_bytes, Str.bytes_eq}, nix_scopes.proofs.NumberLemmas.{assigned_once, assigned_twice, key_updated}}
use Rattle.nix_scopes.proofs.symbols.assign_number.Goals as goal

pub returns-in_ok-insert-in-Some-clause-numbers : goal.returns-in_ok-insert-in-Some-clause-numbers
returns-in_ok-insert-in-Some-clause-numbers c = λ other.
    assigned_twice (bytes_eq (cow_str_bytes c.args.text.now) other) _ _ _ _ _
    (key_updated c.in_ok-key_of-in-Some.field-0 (cow_str_bytes c.args.text.now) _ _ _ c.in_ok-key_of-in-Some.ensures
    c.in_ok-insert-in-Some.ensures.updates.0 other)
    (key_updated c.in_ok-key_of.field-0 (cow_str_bytes c.args.text.now) _ _ _ c.in_ok-key_of.ensures c.in_ok-old.ensures.updates.0 other)

pub returns-in_default-clause-numbers : goal.returns-in_default-clause-numbers
returns-in_default-clause-numbers c = λ other.
    assigned_once (bytes_eq (cow_str_bytes c.args.text.now) other) _ _ _
    (key_updated c.in_ok-key_of.field-0 (cow_str_bytes c.args.text.now) _ _ _ c.in_ok-key_of.ensures c.in_ok-old.ensures.updates.0 other)

pub returns-in_default-2-clause-numbers : goal.returns-in_default-2-clause-numbers
returns-in_default-2-clause-numbers c = λ other.
    assigned_once (bytes_eq (cow_str_bytes c.args.text.now) other) _ _ _
    (key_updated c.in_ok-key_of.field-0 (cow_str_bytes c.args.text.now) _ _ _ c.in_ok-key_of.ensures c.in_ok-old.ensures.updates.0 other)
