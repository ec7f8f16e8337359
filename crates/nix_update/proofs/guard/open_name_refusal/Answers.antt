use Rattle.rnix_green.specs.Range.{bounds_of}
use Rattle.nix_update.proofs.{OpenNameLemmas.none_open, NotUpdatedLemmas.some_open}
use Rattle.nix_update.proofs.guard.open_name_refusal.Goals as goal

pub returns-clause-none : goal.returns-clause-none
returns-clause-none c =
    none_open c.args.site.root.now (bounds_of c.args.range) c.args.site.names.now c.rest_of-names.result.now c.args.site.at c.meaning_refusal.result
    c.in_ok-offset.offset c.rest_of-names.ensures c.meaning_refusal.ensures.none c.in_ok-offset.ensures.none

pub returns-clause-some : goal.returns-clause-some
returns-clause-some c =
    some_open c.args.site.root.now (bounds_of c.args.range) c.args.site.names.now c.rest_of-names.result.now c.args.site.at c.meaning_refusal.result
    c.in_ok-offset.offset c.rest_of-names.ensures c.meaning_refusal.ensures.some c.in_ok-offset.ensures.some
