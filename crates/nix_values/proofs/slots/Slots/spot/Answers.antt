use Rattle.std.proofs.Common.{◌≡◌, ◌∙◌, ◌+◌, ◌<◌, ◌≤◌, List, length, true, false, sym, ap, arith}
use Rattle.std.specs.List.{slice_range}
use Rattle.nix_values.specs.declared.slots.TheConstants.{WINDOW}
use Rattle.nix_values.specs.declared.slots.Slot.{Slot}
use Rattle.nix_values.specs.declared.slots.Spot.TheVariants.{Taken}
use Rattle.nix_values.specs.HashSlots.{is_free, slot_at}
use Rattle.nix_values.proofs.SlotLemmas.{window_slot, window_free, window_taken, window_other, window_full}
use Rattle.nix_values.proofs.slots.Slots.spot.Goals as goal

pub returns-then-is_free : goal.returns-then-is_free
returns-then-is_free c =
    let s : List Slot = c.args.self.now.slots.items in
    let first = c.first-first.result in
    let i = c.loop-step.step in
    let part = c.in-Some.ensures.lookup.0 in
    let inside : i < WINDOW = omega (arith, part.3) in
    let slot = window_slot s c.in-Some.window.now first i (record { hash = 0; number = 0 })
    (part.2 ∙ ap (λ x. slice_range x first (first + WINDOW)) c.deref.ensures.value) (omega (arith, part.1, ap length c.deref.ensures.value)) inside in
    let free : is_free (slot_at s (first + i)) ≡ true = ap is_free (sym slot) ∙ sym c.is_free.ensures ∙ c.if-is_free.true in
    sym (c.loop-step.invariant ∙ window_free s first i c.args.hash inside free)

pub returns-then-slot-hash : goal.returns-then-slot-hash
returns-then-slot-hash c =
    let s : List Slot = c.args.self.now.slots.items in
    let first = c.first-first.result in
    let i = c.loop-step.step in
    let part = c.in-Some.ensures.lookup.0 in
    let inside : i < WINDOW = omega (arith, part.3) in
    let slot = window_slot s c.in-Some.window.now first i (record { hash = 0; number = 0 })
    (part.2 ∙ ap (λ x. slice_range x first (first + WINDOW)) c.deref.ensures.value) (omega (arith, part.1, ap length c.deref.ensures.value)) inside in
    let taken : is_free (slot_at s (first + i)) ≡ false = ap is_free (sym slot) ∙ sym c.is_free.ensures ∙ c.if-is_free.false in
    let hash : (slot_at s (first + i)).hash ≡ c.args.hash = ap (λ x. x.hash) (sym slot) ∙ c.if-slot-hash.true in
    sym (c.loop-step.invariant ∙ window_taken s first i c.args.hash inside taken hash ∙ ap (λ x. Taken (first + i) x.number) (sym slot))

pub loop-step-preserved : goal.loop-step-preserved
loop-step-preserved c =
    let s : List Slot = c.args.self.now.slots.items in
    let first = c.first-first.result in
    let i = c.loop-step.step in
    let part = c.in-Some.ensures.lookup.0 in
    let inside : i < WINDOW = omega (arith, part.3) in
    let slot = window_slot s c.in-Some.window.now first i (record { hash = 0; number = 0 })
    (part.2 ∙ ap (λ x. slice_range x first (first + WINDOW)) c.deref.ensures.value) (omega (arith, part.1, ap length c.deref.ensures.value)) inside in
    let taken : is_free (slot_at s (first + i)) ≡ false = ap is_free (sym slot) ∙ sym c.is_free.ensures ∙ c.if-is_free.false in
    let hash = λ (e : (slot_at s (first + i)).hash ≡ c.args.hash). c.if-slot-hash.false (ap (λ x. x.hash) slot ∙ e) in
    c.loop-step.invariant ∙ window_other s first i c.args.hash inside taken hash

pub returns : goal.returns
returns c =
    let s : List Slot = c.args.self.now.slots.items in
    let first = c.first-first.result in
    let i = c.loop-step.step in
    let part = c.in-Some.ensures.lookup.0 in
    let past : WINDOW ≤ i = omega (arith, part.3) in
    sym (c.loop-step.invariant ∙ window_full s first i c.args.hash past)
