use Rattle.std.proofs.Common.{rules, ℕ, List, subst, string_bytes}
use Rattle.nix_check.specs.Fixing.{disabled_by, IsFixOf, IsTextFixed, IsFileFixed}
use Rattle.nix_check.proofs.fixing.fix_file.Goals as goal

pub returns-in_default : goal.returns-in_default
returns-in_default g c = IsFileFixed.unread (search rules) (search rules) (search rules)

pub returns-then-not-branch : goal.returns-then-not-branch
returns-then-not-branch g c =
    let text = string_bytes c.in-Some.text in
    let made = c.in_ok-made.made in
    let fixed : IsFixOf (disabled_by c.args.style) text made.fixes (string_bytes made.text) =
    subst (λ (t : List ℕ). IsFixOf (disabled_by c.args.style) t made.fixes (string_bytes made.text)) c.as_str.ensures.value c.in_ok-made.ensures in
    IsFileFixed.unwritten text (string_bytes made.text) made.fixes (search rules) fixed (search rules) (search rules) (search rules)
    (search rules)

pub returns : goal.returns
returns g c =
    let text = string_bytes c.in-Some.text in
    let made = c.in_ok-made.made in
    let mid = g.W.Write.contents c.read_text.new.out in
    let new = g.W.Write.contents c.write_result.new.out in
    let fixed : IsFixOf (disabled_by c.args.style) text made.fixes (string_bytes made.text) =
    subst (λ (t : List ℕ). IsFixOf (disabled_by c.args.style) t made.fixes (string_bytes made.text)) c.as_str.ensures.value c.in_ok-made.ensures in
    IsFileFixed.fixed text mid c.in_ok-remaining.remaining (search rules) c.read_text.ensures.kept
    (subst (λ (name : List ℕ). IsTextFixed c.args.style name text mid new c.in_ok-remaining.remaining) c.display_name.ensures
    (c.in_ok-remaining.ensures text fixed)) c.with_counts.ensures
