use Rattle.std.proofs.Common.{◌<◌, ◌+◌, ◌∙◌, length, get_or, slice_set, ap, arith}
use Rattle.std.specs.List.{insert}
use Rattle.rnix_text.proofs.RunLemmas.{same_edits, still_filled, is_divided}
use Rattle.rnix_text.proofs.runs.divide.Goals as goal

pub returns-clause-filled : goal.returns-clause-filled
returns-clause-filled c =
    let old = c.args.runs.now.items in
    let i = c.args.run in
    let r = c.index_mut.result.now in
    let kept = c.in_ok-reserve.ensures.items in
    let is = c.index_mut.ensures.value ∙ ap (λ xs. get_or xs i r) kept in
    let new_is = c.in_ok-insert.ensures.items ∙ ap (λ xs. insert (slice_set xs i c.split_off.new.self) (i + 1) c.in_ok-rest.rest) kept in
    let more : 128 < length r.items = omega (arith, c.requires.is_in.1 r, ap (λ x. length x.items) is) in
    still_filled old c.insert.new.self.items i 128 r c.split_off.new.self c.in_ok-rest.rest c.requires.is_in.0 is (omega arith) more
    c.in_ok-rest.ensures.items c.in_ok-rest.ensures.tail new_is c.requires.filled

pub returns-clause-edits : goal.returns-clause-edits
returns-clause-edits c =
    let old = c.args.runs.now.items in
    let i = c.args.run in
    let r = c.index_mut.result.now in
    let kept = c.in_ok-reserve.ensures.items in
    let is = c.index_mut.ensures.value ∙ ap (λ xs. get_or xs i r) kept in
    let new_is = c.in_ok-insert.ensures.items ∙ ap (λ xs. insert (slice_set xs i c.split_off.new.self) (i + 1) c.in_ok-rest.rest) kept in
    let more : 128 < length r.items = omega (arith, c.requires.is_in.1 r, ap (λ x. length x.items) is) in
    same_edits old c.insert.new.self.items i 128 r c.split_off.new.self c.in_ok-rest.rest c.requires.is_in.0 is (omega arith) more
    c.in_ok-rest.ensures.items c.in_ok-rest.ensures.tail new_is

pub returns-clause-divided : goal.returns-clause-divided
returns-clause-divided c =
    let old = c.args.runs.now.items in
    let i = c.args.run in
    let r = c.index_mut.result.now in
    let kept = c.in_ok-reserve.ensures.items in
    let is = c.index_mut.ensures.value ∙ ap (λ xs. get_or xs i r) kept in
    let new_is = c.in_ok-insert.ensures.items ∙ ap (λ xs. insert (slice_set xs i c.split_off.new.self) (i + 1) c.in_ok-rest.rest) kept in
    let more : 128 < length r.items = omega (arith, c.requires.is_in.1 r, ap (λ x. length x.items) is) in
    is_divided old c.insert.new.self.items i 128 r c.split_off.new.self c.in_ok-rest.rest c.requires.is_in.0 is (omega arith) more
    c.in_ok-rest.ensures.items c.in_ok-rest.ensures.tail new_is
