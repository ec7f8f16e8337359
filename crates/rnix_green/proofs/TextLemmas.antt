-- A text that is consumed part by part.
use Rattle.std.proofs.{Common.{◌≡◌, ℕ, ◌+◌, ◌-◌, ◌≤◌, ◌<◌, List, ◌++◌, length, take, drop, ap, sym, ◌∙◌, arith, length-append}, lemmas.List.take-append-drop}
use Rattle.std.{proofs.lemmas.List.{take-append-le, drop-take, drop-drop, length-take-le, length-drop}, specs.{Prelude.slice_range, Str.IsUtf8}}
use Rattle.rnix_green.{specs.{declared.entries.Entries.Entries, Draft.{Draft, TextDraft, taken}, Packed.limit}, proofs.EntriesLemmas.held-added}
use Rattle.rnix_green.specs.Entries.{draft_in, text_draft_of, IsTextBuilder, AreSame, IsAdded}

-- a text is at least as long as its beginning
pub begins_short : (part remaining : List ℕ) → take (length part) remaining ≡ part → length part ≤ length remaining
begins_short part remaining h =
    omega (
      arith,
      ap length h,
      ap length (take-append-drop (length part) remaining),
      length-append (take (length part) remaining)
          (drop (length part) remaining),
    )

-- the consumed text and the next part are within the text
pub taken_within : (text part : List ℕ) (m : ℕ) → m ≤ length text → take (length part) (drop m text) ≡ part → m + length part ≤ length text
taken_within text part m w h = omega (arith, begins_short part (drop m text) h, length-drop m text)

-- the consumed text, with the next part, is consumed text
pub taken_more : (text part : List ℕ) (m : ℕ) → m ≤ length text → take (length part) (drop m text) ≡ part → take (m + length part) text ≡ take m text ++ part
taken_more text part m w h =
    let n = m + length part in
    let low : m ≤ length (take n text) = omega (arith, length-take-le n text (taken_within text part m w h)) in
    let first : take m (take n text) ≡ take m text =
    sym (take-append-le m (take n text) (drop n text) low) ∙ ap (take m) (take-append-drop n text) in
    sym (take-append-drop m (take n text)) ∙ ap (λ x. x ++ drop m (take n text)) first
    ∙ ap (λ x. take m text ++ x) (drop-take m (length part) text ∙ h)

-- the rest of the text after the next part
pub remaining_more : (text part : List ℕ) (m : ℕ) → drop (m + length part) text ≡ drop (length part) (drop m text)
remaining_more text part m = sym (drop-drop (length part) m text)

-- the slice of a text up to an offset, from its start on
pub first_range : (text : List ℕ) (n : ℕ) → slice_range text 0 n ≡ take n text
first_range text n = let all : n - 0 ≡ n = omega arith in ap (λ m. take m text) all

-- adding a tree consumes the next part of the text
pub text-added : (text part : List ℕ) (m : ℕ) (e mid later : Entries) (added : List ℕ → Draft → Draft) → IsTextBuilder text m e →
    take (length part) (drop m text) ≡ part → AreSame e mid → IsAdded mid later (length part) added → IsUtf8 part →
    let n = m + length part in
    IsTextBuilder text n later × (text_draft_of text n later ≡ taken (added part (draft_in (take m text) e)) part (text_draft_of text m e))
text-added text part m e mid later added h next same a u =
    let within : m + length part ≤ length text = taken_within text part m h.within next in
    let short : length (take m text) + length part < limit = omega (arith, length-take-le m text h.within, h.short) in
    let after = held-added (take m text) part _ e mid later added h.held same a u short (taken_more text part m h.within next) in (
      record { characters = h.characters; within = within; short = h.short; held = after.0 },
      ap (λ (l : List ℕ). let x : TextDraft = record { draft = draft_in (take (m + length part) text) later; remaining = l } in x) (remaining_more text part m)
          ∙ ap (λ (d : Draft). taken d part (text_draft_of text m e)) after.1,
    )
