use Rattle.std.proofs.Common.{◌≡◌, ◌∙◌, true, false, sym, refl}
use Rattle.nix_values.specs.JsonReading.{is_end, token_of, parts_remaining, IsSound, IsPlacedIn, IsDistinct}
use Rattle.nix_values.proofs.JsonReadLemmas.{IsReadUpTo, read_begun, begun_sound, read_token, read_wrong_token, read_no_token, read_end, read_cut}
use Rattle.nix_values.proofs.JsonReadErrorLemmas.{read_begun_in, read_taken, stops_begun, stops_taken, error_wrong, error_none, error_ended, error_cut}
use Rattle.nix_values.proofs.JsonStringErrorLemmas.{refusal}
use Rattle.nix_values.proofs.json_reader.read.Goals as goal

pub loop-at-init : goal.loop-at-init
loop-at-init c = record {
  within = c.after_space-at.ensures.within;
  solid = c.after_space-at.ensures.stops;
  sound = begun_sound c.new-reading.result c.new-reading.ensures.begun;
  placed = c.new-reading.ensures.placed;
  distinct = c.new-reading.ensures.distinct;
  remaining = read_begun c.args.text.now c.after_space-at.result c.new-reading.result c.new-reading.ensures.begun c.after_space-at.ensures.same;
  stops = stops_begun c.args.text.now c.after_space-at.result c.new-reading.result c.new-reading.ensures.begun c.after_space-at.ensures.within
      c.after_space-at.ensures.spaces;
  read = read_begun_in c.args.text.now c.after_space-at.result c.new-reading.result c.new-reading.ensures.begun c.new-reading.ensures.placed
      c.after_space-at.ensures.within c.after_space-at.ensures.spaces;
}

pub returns-in-Err-clause-read : goal.returns-in-Err-clause-read
returns-in-Err-clause-read c =
    read_no_token c.in-Err.stop c.args.text.now c.loop-at.at c.loop-at.reading c.loop-at.invariant.remaining c.loop-at-test.true
    (c.loop-at.invariant.solid c.loop-at-test.true) c.in-Err.ensures.read

pub loop-at-preserved : goal.loop-at-preserved
loop-at-preserved c =
    let step : IsReadUpTo c.args.text.now c.after_space-at-in-Ok-take.result c.take.new.self × IsSound c.take.new.self
    × IsPlacedIn c.take.new.self × IsDistinct c.take.new.self =
    read_token (token_of c.in-Ok.cut.token) c.args.text.now c.loop-at.at c.in-Ok.cut.end c.after_space-at-in-Ok-take.result c.loop-at.reading
    c.take.new.self c.loop-at.invariant.remaining c.loop-at-test.true (c.loop-at.invariant.solid c.loop-at-test.true) c.in-Ok.ensures.read.1
    c.in-Ok.ensures.read.0
    c.in-Ok-take.ensures c.after_space-at-in-Ok-take.ensures.same in
    record {
      within = c.after_space-at-in-Ok-take.ensures.within;
      solid = c.after_space-at-in-Ok-take.ensures.stops;
      sound = step.1;
      placed = step.2;
      distinct = step.3;
      remaining = step.0;
      stops = stops_taken (token_of c.in-Ok.cut.token) c.args.text.now c.loop-at.at c.in-Ok.cut.end c.after_space-at-in-Ok-take.result
          c.loop-at.reading c.take.new.self c.loop-at.invariant.stops c.loop-at-test.true (c.loop-at.invariant.solid c.loop-at-test.true)
          c.in-Ok.ensures.read.1 c.in-Ok.ensures.read.2 c.in-Ok.ensures.read.0 c.in-Ok-take.ensures c.after_space-at-in-Ok-take.ensures.onward
          c.after_space-at-in-Ok-take.ensures.within c.after_space-at-in-Ok-take.ensures.spaces;
      read = read_taken (token_of c.in-Ok.cut.token) c.args.text.now c.loop-at.at c.in-Ok.cut.end c.after_space-at-in-Ok-take.result
          c.loop-at.reading c.take.new.self c.loop-at.invariant.read c.loop-at-test.true (c.loop-at.invariant.solid c.loop-at-test.true)
          c.in-Ok.ensures.read.1 c.in-Ok.ensures.read.2 c.in-Ok.ensures.read.0 c.in-Ok-take.ensures c.after_space-at-in-Ok-take.ensures.onward
          c.after_space-at-in-Ok-take.ensures.within c.after_space-at-in-Ok-take.ensures.spaces;
    }

pub returns-in-Err-take-clause-read : goal.returns-in-Err-take-clause-read
returns-in-Err-take-clause-read c =
    read_wrong_token (token_of c.in-Ok.cut.token) c.in-Err-take.stop c.args.text.now c.loop-at.at c.in-Ok.cut.end c.loop-at.reading c.take.new.self
    c.loop-at.invariant.remaining c.loop-at-test.true (c.loop-at.invariant.solid c.loop-at-test.true) c.in-Ok.ensures.read.1 c.in-Ok.ensures.read.0
    c.in-Err-take.ensures

pub returns-then-not-is_end-clause-read : goal.returns-then-not-is_end-clause-read
returns-then-not-is_end-clause-read c =
    let more : is_end c.loop-at.reading.state ≡ false = sym c.is_end.ensures ∙ c.if-not-is_end.true in
    read_cut c.unexpected.result c.args.text.now c.loop-at.at c.loop-at.reading c.loop-at.invariant.remaining c.loop-at.invariant.sound c.loop-at-test.false
    more

pub returns-clause-read : goal.returns-clause-read
returns-clause-read c =
    let done : is_end c.loop-at.reading.state ≡ true = sym c.is_end.ensures ∙ c.if-not-is_end.false in
    read_end c.args.text.now c.loop-at.at c.loop-at.reading c.loop-at.invariant.remaining c.loop-at.invariant.sound c.loop-at-test.false done

pub returns-in-Err-clause-error : goal.returns-in-Err-clause-error
returns-in-Err-clause-error c =
    error_none c.in-Err.stop c.args.text.now c.loop-at.at c.loop-at.reading c.loop-at.invariant.stops c.loop-at.invariant.sound c.loop-at.invariant.placed
    c.loop-at.invariant.distinct c.loop-at.invariant.read c.loop-at-test.true (c.loop-at.invariant.solid c.loop-at-test.true) c.in-Err.ensures.read
    (c.in-Err.ensures.error (parts_remaining c.loop-at.reading))

pub returns-in-Err-take-clause-error : goal.returns-in-Err-take-clause-error
returns-in-Err-take-clause-error c =
    error_wrong (token_of c.in-Ok.cut.token) c.in-Err-take.stop c.args.text.now c.loop-at.at c.in-Ok.cut.end c.loop-at.reading c.take.new.self
    c.loop-at.invariant.stops c.loop-at.invariant.sound c.loop-at.invariant.placed c.loop-at.invariant.distinct c.loop-at.invariant.read
    c.loop-at-test.true (c.loop-at.invariant.solid c.loop-at-test.true) c.in-Ok.ensures.read.0
    c.in-Ok.ensures.other c.in-Err-take.ensures

pub returns-then-not-is_end-clause-error : goal.returns-then-not-is_end-clause-error
returns-then-not-is_end-clause-error c =
    let more : is_end c.loop-at.reading.state ≡ false = sym c.is_end.ensures ∙ c.if-not-is_end.true in
    error_cut c.unexpected.result c.args.text.now c.loop-at.at c.loop-at.reading c.loop-at.invariant.stops c.loop-at.invariant.sound
    c.loop-at.invariant.placed c.loop-at.invariant.distinct c.loop-at.invariant.read c.loop-at-test.false
    more (refusal c.unexpected.result _ _ c.unexpected.ensures refl)

pub returns-clause-error : goal.returns-clause-error
returns-clause-error c =
    let done : is_end c.loop-at.reading.state ≡ true = sym c.is_end.ensures ∙ c.if-not-is_end.false in
    error_ended c.args.text.now c.loop-at.at c.loop-at.reading c.loop-at.invariant.stops c.loop-at.invariant.sound c.loop-at-test.false done
