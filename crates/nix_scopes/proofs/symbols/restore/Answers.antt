use Rattle.std.{proofs.{Common.{rules, ◌≡◌, None, ap, sym, ◌∙◌}, lemmas.Bool.false≢true}, specs.{Prelude.{if◌then◌else◌, is_some}, Cow.cow_str_bytes, Str.bytes_eq}}
use Rattle.nix_scopes.{specs.Resolving.number_by, proofs.NumberLemmas.{assigned_once, key_updated, number_at}}
use Rattle.nix_scopes.proofs.symbols.restore.Goals as goal

pub returns-in-Some-get_mut : goal.returns-in-Some-get_mut
returns-in-Some-get_mut c = λ there other.
    assigned_once (bytes_eq (cow_str_bytes c.args.text.now) other) _ _ _
    (key_updated c.in_ok-key.key (cow_str_bytes c.args.text.now) _ _ _ c.in_ok-key.ensures
    ((c.get_mut.follows.holds c.in-Some.number).3 (search rules)).0 other)
    ∙ ap (λ o. if bytes_eq (cow_str_bytes c.args.text.now) other then o else number_by c.args.numbers.now other) (sym c.in-Some.is)

pub returns : goal.returns
returns c = λ there other.
    assigned_once (bytes_eq (cow_str_bytes c.args.text.now) other) _ _ _
    (key_updated c.in_ok-key.key (cow_str_bytes c.args.text.now) _ _ _ c.in_ok-key.ensures c.remove-shown.ensures.updates.0 other)
    ∙ ap (λ o. if bytes_eq (cow_str_bytes c.args.text.now) other then o else number_by c.args.numbers.now other) (sym c.in-None.is)

pub returns-in-Some : goal.returns-in-Some
returns-in-Some c = λ there other.
    let none : number_by c.args.numbers.now (cow_str_bytes c.args.text.now) ≡ None =
    sym (number_at c.args.numbers.now c.in_ok-key.key (cow_str_bytes c.args.text.now) c.in_ok-key.ensures) ∙ search rules in
    absurd (false≢true (sym (ap is_some none) ∙ there (search rules)))
