use Rattle.nix_fixes.proofs.FixLemmas.{next_found, none_found}
use Rattle.nix_fixes.proofs.all_fixes.next_fix.Goals as goal

pub returns-clause-some : goal.returns-clause-some
returns-clause-some c =
    next_found c.args.progress.now c.args.most c.error_count-errors.result c.as_str.result.now c.deref.result.now c.in_ok-shown.shown.items
    c.in_ok-found.found c.as_str.ensures.value c.error_count-errors.ensures c.deref.ensures.value c.requires c.in_ok-shown.ensures.are
    c.in_ok-found.ensures.within c.in_ok-found.ensures.tried c.in_ok-found.ensures.first

pub returns-clause-none : goal.returns-clause-none
returns-clause-none c =
    none_found c.args.progress.now c.args.most c.error_count-errors.result c.as_str.result.now c.deref.result.now c.in_ok-shown.shown.items
    c.in_ok-found.found c.as_str.ensures.value c.error_count-errors.ensures c.deref.ensures.value c.requires c.in_ok-shown.ensures.are
    c.in_ok-found.ensures.none
