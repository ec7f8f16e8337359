-- The texts of the parts of a string, from a list of symbols.
use Rattle.std.proofs.Common.{◌≡◌, ◌≢◌, ◌<◌, ◌≤◌, ◌++◌, ◌∙◌, ℕ, suc, Bool, true, false, ◌==◌, List, [], ◌∷◌, Some, None, refl, sym, ap, map, arith}
use Rattle.std.{proofs.{Common.{append_assoc, append-nil}, lemmas.Bool.Decides.nat_tests}, specs.Prelude.{if◌then◌else◌, option_to_list}}
use Rattle.rnix_base.specs.{declared.parts.InterpolPart.TheVariants.{Literal, Interpolation}, Escapes.unescaped, Normal.{Parts, Symbol, symbols, lines}}
use Rattle.rnix_base.specs.Normal.{least_indentation, unindented, part_text, with_texts, with_text, without_last_spaces, opened, closed, indented_parts}
use Rattle.rnix_base.{specs.Indent.{is_lost, remaining_after, kept, remaining_behind, indent_of, no_indent}, proofs.SymbolLineLemmas.{list_kept, list_kept-lines, kept_step}}
use Rattle.rnix_base.proofs.LeastLemmas.{least-parts}

-- the parts without their indentation, part by part
unfoldable pub unindented_parts : {I : Type 0} → ℕ → ℕ → Parts I → Parts I
unindented_parts n remaining [] = []
unindented_parts n remaining (Literal text ∷ parts) = Literal (kept n remaining text) ∷ unindented_parts n (remaining_behind n remaining text) parts
unindented_parts n remaining (Interpolation i ∷ parts) = Interpolation i ∷ unindented_parts n 0 parts

-- the bytes of one part, as symbols
abbrev pub text_symbols : ℕ → List ℕ → List Symbol
text_symbols m text = map (λ b. record { part = m; byte = Some b }) text

-- what remains of the symbols of one text
list_kept-text : (n m : ℕ) (text : List ℕ) (remaining : ℕ) (list : List Symbol) → list_kept n remaining (text_symbols m text ++ list)
    ≡ text_symbols m (kept n remaining text)
    ++ list_kept n (remaining_behind n remaining text) list
unfolding list_kept kept remaining_behind
list_kept-text n m [] remaining list = refl
list_kept-text n m (b ∷ text) remaining list =
    text_step (is_lost remaining (Some b)) (list_kept-text n m text (remaining_after n remaining (Some b)) list) where
      text_step : (lost : Bool) → list_kept n (remaining_after n remaining (Some b)) (text_symbols m text ++ list)
          ≡ text_symbols m (kept n (remaining_after n remaining (Some b)) text)
          ++ list_kept n (remaining_behind n (remaining_after n remaining (Some b)) text) list
          → (if lost then [] else record { part = m; byte = Some b } ∷ []) ++ list_kept n (remaining_after n remaining (Some b)) (text_symbols m text ++ list)
          ≡ text_symbols m ((if lost then [] else b ∷ []) ++ kept n (remaining_after n remaining (Some b)) text)
          ++ list_kept n (remaining_behind n (remaining_after n remaining (Some b)) text) list
      text_step true e = e
      text_step false e = ap (λ t. record { part = m; byte = Some b } ∷ t) e

part_text-append : (k : ℕ) (xs ys : List Symbol) → part_text k (xs ++ ys) ≡ part_text k xs ++ part_text k ys
unfolding part_text
part_text-append k [] ys = refl
part_text-append k (s ∷ xs) ys =
    ap (λ t. (if s.part == k then option_to_list s.byte else []) ++ t) (part_text-append k xs ys)
    ∙ sym (append_assoc (if s.part == k then option_to_list s.byte else []) (part_text k xs) (part_text k ys))

same_part : (m : ℕ) → (m == m) ≡ true
same_part m = grind (arith, nat_tests)

other_part : (m k : ℕ) → m ≢ k → (m == k) ≡ false
other_part m k h = grind (arith, nat_tests)

part_text-own : (m : ℕ) (text : List ℕ) → part_text m (text_symbols m text) ≡ text
unfolding part_text
part_text-own m [] = refl
part_text-own m (b ∷ text) = ap (λ e. (if e then b ∷ [] else []) ++ part_text m (text_symbols m text)) (same_part m) ∙ ap (λ t. b ∷ t) (part_text-own m text)

part_text-other : (m k : ℕ) (text : List ℕ) → m ≢ k → part_text k (text_symbols m text) ≡ []
unfolding part_text
part_text-other m k [] h = refl
part_text-other m k (b ∷ text) h = ap (λ e. (if e then b ∷ [] else []) ++ part_text k (text_symbols m text)) (other_part m k h) ∙ part_text-other m k text h

pub part_text-none : (k : ℕ) → part_text k [] ≡ []
unfolding part_text
part_text-none k = refl

part_text-gap : (m k : ℕ) (list : List Symbol) → part_text k (record { part = m; byte = None } ∷ list) ≡ part_text k list
unfolding part_text
part_text-gap m k list = gap_step (m == k) where
  gap_step : (e : Bool) → (if e then [] else []) ++ part_text k list ≡ part_text k list
  gap_step true = refl
  gap_step false = refl

list_kept-gap : (n remaining m : ℕ) (list : List Symbol) → list_kept n remaining (record { part = m; byte = None } ∷ list) ≡ record { part = m; byte = None }
    ∷ list_kept n 0 list
list_kept-gap n remaining m list = kept_step n remaining 0 record { part = m; byte = None } list refl refl

-- later parts have no symbols of an earlier one
part_text-later : {I : Type 0} (n k : ℕ) (parts : Parts I) (remaining m : ℕ) → k < m → part_text k (list_kept n remaining (symbols m parts)) ≡ []
unfolding symbols list_kept part_text
part_text-later n k [] remaining m h = refl
part_text-later n k (Literal text ∷ parts) remaining m h =
    ap (part_text k) (list_kept-text n m text remaining (symbols (suc m) parts))
    ∙ part_text-append k (text_symbols m (kept n remaining text)) (list_kept n (remaining_behind n remaining text) (symbols (suc m) parts))
    ∙ ap (λ t. t ++ part_text k (list_kept n (remaining_behind n remaining text) (symbols (suc m) parts)))
    (part_text-other m k (kept n remaining text) (λ e. absurd (omega (arith, h, e))))
    ∙ part_text-later n k parts (remaining_behind n remaining text) (suc m) (omega arith)
part_text-later n k (Interpolation i ∷ parts) remaining m h =
    ap (part_text k) (list_kept-gap n remaining m (symbols (suc m) parts)) ∙ part_text-gap m k (list_kept n 0 (symbols (suc m) parts))
    ∙ part_text-later n k parts 0 (suc m) (omega arith)

-- the parts with the texts that remain for them, after what remains of earlier parts, are the parts without their indentation
pub with_texts-behind : {I : Type 0} (n : ℕ) (parts : Parts I) (before : List Symbol) (remaining m : ℕ) → ((k : ℕ) → m ≤ k → part_text k before ≡ [])
    → with_texts (before ++ list_kept n remaining (symbols m parts)) m parts ≡ unindented_parts n remaining parts
unfolding with_texts unindented_parts symbols
with_texts-behind n [] before remaining m none = refl
with_texts-behind n (Literal text ∷ parts) before remaining m none =
    let own = kept n remaining text in
    let later = list_kept n (remaining_behind n remaining text) (symbols (suc m) parts) in
    let whole : before ++ list_kept n remaining (text_symbols m text ++ symbols (suc m) parts) ≡ (before ++ text_symbols m own) ++ later =
    ap (λ t. before ++ t) (list_kept-text n m text remaining (symbols (suc m) parts)) ∙ sym (append_assoc before (text_symbols m own) later) in
    let mine : part_text m ((before ++ text_symbols m own) ++ later) ≡ own =
    part_text-append m (before ++ text_symbols m own) later
    ∙ ap (λ t. t ++ part_text m later) (part_text-append m before (text_symbols m own) ∙ ap (λ t. t ++ part_text m (text_symbols m own)) (none m (omega arith))
    ∙ part_text-own m own)
    ∙ ap (λ t. own ++ t) (part_text-later n m parts (remaining_behind n remaining text) (suc m) (omega arith)) ∙ append-nil own in
    let passed : (k : ℕ) → suc m ≤ k → part_text k (before ++ text_symbols m own) ≡ [] =
    λ k h. part_text-append k before (text_symbols m own) ∙ ap (λ t. t ++ part_text k (text_symbols m own)) (none k (omega (arith, h)))
    ∙ part_text-other m k own (λ e. absurd (omega (arith, h, e))) in
    ap (λ list. Literal (part_text m list) ∷ with_texts list (suc m) parts) whole
    ∙ ap (λ t. Literal t ∷ with_texts ((before ++ text_symbols m own) ++ later) (suc m) parts) mine
    ∙ ap (λ t. Literal own ∷ t) (with_texts-behind n parts (before ++ text_symbols m own) (remaining_behind n remaining text) (suc m) passed)
with_texts-behind n (Interpolation i ∷ parts) before remaining m none =
    let gap : Symbol = record { part = m; byte = None } in
    let later = list_kept n 0 (symbols (suc m) parts) in
    let whole : before ++ list_kept n remaining (gap ∷ symbols (suc m) parts) ≡ (before ++ gap ∷ []) ++ later =
    ap (λ t. before ++ t) (list_kept-gap n remaining m (symbols (suc m) parts)) ∙ sym (append_assoc before (gap ∷ []) later) in
    let passed : (k : ℕ) → suc m ≤ k → part_text k (before ++ gap ∷ []) ≡ [] =
    λ k h. part_text-append k before (gap ∷ []) ∙ ap (λ t. t ++ part_text k (gap ∷ [])) (none k (omega (arith, h))) ∙ part_text-gap m k [] ∙ part_text-none k in
    ap (λ list. Interpolation i ∷ with_texts list (suc m) parts) whole
    ∙ ap (λ t. Interpolation i ∷ t) (with_texts-behind n parts (before ++ gap ∷ []) 0 (suc m) passed)

-- the text of a part; for the last part, without the spaces after its last line feed
abbrev pub last_text : {I : Type 0} → Parts I → List ℕ → List ℕ
last_text [] text = without_last_spaces text
last_text (part ∷ parts) text = text

-- the parts of an indented string, part by part
unfoldable pub indented_from : {I : Type 0} → ℕ → ℕ → Parts I → Parts I
indented_from n remaining [] = []
indented_from n remaining (Literal text ∷ parts) = Literal (unescaped true (last_text parts (kept n remaining text)))
    ∷ indented_from n (remaining_behind n remaining text) parts
indented_from n remaining (Interpolation i ∷ parts) = Interpolation i ∷ indented_from n 0 parts

closed_from : {I : Type 0} (n remaining : ℕ) (parts : Parts I) → map (with_text (unescaped true))
    (closed (unindented_parts n remaining parts)) ≡ indented_from n remaining parts
unfolding closed unindented_parts indented_from
closed_from n remaining [] = refl
closed_from n remaining (Literal text ∷ []) = refl
closed_from n remaining (Literal text ∷ Literal more ∷ parts) =
    ap (λ t. Literal (unescaped true (kept n remaining text)) ∷ t) (closed_from n (remaining_behind n remaining text) (Literal more ∷ parts))
closed_from n remaining (Literal text ∷ Interpolation i ∷ parts) =
    ap (λ t. Literal (unescaped true (kept n remaining text)) ∷ t) (closed_from n (remaining_behind n remaining text) (Interpolation i ∷ parts))
closed_from n remaining (Interpolation i ∷ parts) = ap (λ t. Interpolation i ∷ t) (closed_from n 0 parts)

-- the normalized parts, part by part
pub indented_parts-from : {I : Type 0} (parts : Parts I) (n : ℕ) → n ≡ (indent_of no_indent (opened parts)).least
    → indented_from n n (opened parts) ≡ indented_parts parts
indented_parts-from parts n e =
    let list = symbols 0 (opened parts) in
    let least : n ≡ least_indentation (lines list) = e ∙ least-parts (opened parts) in
    let list_is_kept : list_kept n n list ≡ unindented list = ap (λ k. list_kept k k list) least
    ∙ sym (list_kept-lines (least_indentation (lines list)) list) in
    sym (closed_from n n (opened parts))
    ∙ ap (λ t. map (with_text (unescaped true)) (closed t)) (sym (with_texts-behind n (opened parts) [] n 0 (λ k _. part_text-none k)))
    ∙ ap (λ r. map (with_text (unescaped true)) (closed (with_texts r 0 (opened parts)))) list_is_kept
