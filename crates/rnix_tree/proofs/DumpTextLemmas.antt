-- A walk over an element prints the element's lines with texts.
use Rattle.std.proofs.Common.{◌≡◌, ℕ, ◌+◌, ◌-◌, List, [], ◌∷◌, ◌++◌, map, false, codes, Option, Some, None, Result, refl, ap, sym, subst, ◌∙◌, arith}
use Rattle.std.{proofs.{Common.{append_assoc, append-nil, IfSome, IsOk}, lemmas.List.map-append, Output.has_written_styled_append}, specs.Fmt.{◌++?◌, IsFlush}}
use Rattle.std.specs.Fmt.{IsPlainFormatter, DisplaysOnOk, DisplaysStyledOnOk, HasWrittenStyled, WritesStyledOnOk, WritesInCalls, formatter_writer}
use Rattle.std.specs.{Fmt.InlineText.{AppendsIfIntact, IsIntact, inline_text}, List.{FoldsTo, concat}, declared.fmt.{Error.Error, Formatter.Formatter}}
use Rattle.{std.specs.declared.fmt.InlineText.InlineText, rnix_green.specs.{Forest.{Forest, empty, leaf, node, element_count}, Tree.{Tree, Located, part_at}}}
use Rattle.{rnix_green.specs.Walk.{Event, steps_from, spot_at, event_at, preorder_of}, rnix_tree.specs.Spots.{event_of, spot_of}}
use Rattle.rnix_tree.specs.{declared.element.{NodeOrToken.NodeOrToken, WalkEvent.{WalkEvent, TheVariants.Enter}}, Lines.{text_line, text_lines_from}}
use Rattle.rnix_tree.specs.{Lines.text_lines_of, Walked.event_texts}

-- an empty text in front of a text that may be unknown
pub nothing_first : (o : Option (List ℕ)) → Some [] ++? o ≡ o
nothing_first None = refl
nothing_first (Some a) = refl

nothing_last : (o : Option (List ℕ)) → o ++? Some [] ≡ o
nothing_last None = refl
nothing_last (Some a) = ap Some (append-nil a)

regrouped : (o p q : Option (List ℕ)) → (o ++? p) ++? q ≡ o ++? (p ++? q)
regrouped None p q = refl
regrouped (Some a) None q = refl
regrouped (Some a) (Some b) None = refl
regrouped (Some a) (Some b) (Some c) = ap Some (append_assoc a b c)

-- the walk over a forest prints the forest's lines
walk_texts : (t : Tree) (n : ℕ) (f : Forest) (depth : ℕ) (more : List Event)
    → event_texts depth (map (event_at t) (steps_from n f) ++ more) ≡ text_lines_from t depth n f ++? event_texts depth more
walk_texts t n empty depth more = sym (nothing_first (event_texts depth more))
walk_texts t n (leaf k u f) depth more =
    let line = text_line depth (spot_at t n) in
    let behind = map (event_at t) (steps_from (n + 1) f) ++ more in
    let d : depth + 1 - 1 ≡ depth = omega arith in
    ap (λ x. line ++? (Some [] ++? event_texts x behind)) d
    ∙ ap (λ x. line ++? x) (nothing_first (event_texts depth behind) ∙ walk_texts t (n + 1) f depth more)
    ∙ sym (regrouped line (text_lines_from t depth (n + 1) f) (event_texts depth more))
walk_texts t n (node k c f) depth more =
    let m = n + 1 + element_count c in
    let line = text_line depth (spot_at t n) in
    let steps = map (event_at t) (steps_from (n + 1) c) in
    let later = map (event_at t) (steps_from m f) in
    let inner = text_lines_from t (depth + 1) (n + 1) c in
    let outer = text_lines_from t depth m f in
    let d : depth + 1 - 1 ≡ depth = omega arith in
    ap (λ x. line ++? event_texts (depth + 1) (x ++ more)) (map-append (event_at t) (steps_from (n + 1) c) ((false, n) ∷ steps_from m f))
    ∙ ap (λ x. line ++? event_texts (depth + 1) x) (append_assoc steps (event_at t (false, n) ∷ later) more)
    ∙ ap (λ x. line ++? x) (walk_texts t (n + 1) c (depth + 1) (event_at t (false, n) ∷ (later ++ more)))
    ∙ ap (λ x. line ++? (inner ++? (Some [] ++? event_texts x (later ++ more)))) d
    ∙ ap (λ x. line ++? (inner ++? x)) (nothing_first (event_texts depth (later ++ more)) ∙ walk_texts t m f depth more)
    ∙ ap (λ x. line ++? x) (sym (regrouped inner outer (event_texts depth more)))
    ∙ sym (regrouped line (inner ++? outer) (event_texts depth more))

-- the walk over an element prints its lines
walk_prints : (e : Located) → event_texts 0 (preorder_of e) ≡ text_lines_of e
walk_prints e =
    ap (event_texts 0) (sym (append-nil (preorder_of e))) ∙ walk_texts e.tree e.number (part_at e) 0 [] ∙ nothing_last (text_lines_of e)

-- when an element is entered, its line follows the lines so far
pub entered : (o all : Option (List ℕ)) (depth next : ℕ) (remaining rest : List Event) (event : WalkEvent (NodeOrToken Located Located))
    (e : NodeOrToken Located Located)
    → o ++? event_texts depth remaining ≡ all → remaining ≡ event_of event ∷ rest → event ≡ Enter e → next ≡ depth + 1
    → (o ++? text_line depth (spot_of e)) ++? event_texts next rest ≡ all
entered o all depth next remaining rest event e h steps is deeper =
    regrouped o (text_line depth (spot_of e)) (event_texts next rest)
    ∙ ap (λ x. o ++? (text_line depth (spot_of e) ++? event_texts x rest)) deeper
    ∙ ap (λ x. o ++? event_texts depth (event_of x ∷ rest)) (sym is)
    ∙ ap (λ x. o ++? event_texts depth x) (sym steps)
    ∙ h

-- when no event is left, the lines so far are those of the element
pub finished : (e : Located) (o : Option (List ℕ)) (depth : ℕ) (remaining : List Event) → o ++? event_texts depth remaining ≡ event_texts 0 (preorder_of e)
    → remaining ≡ []
    → o ≡ text_lines_of e
finished e o depth remaining h none = sym (nothing_last o) ∙ sym (ap (λ x. o ++? event_texts depth x) none) ∙ h ∙ walk_prints e

-- what was written, with one more text
pub written_more : {W : Type 0} (took : W → List ℕ → W → Type 0) (f g h : Formatter W) (r : Result (Unit {0}) Error) (o p : Option (List ℕ))
    → (IsFlush f → IfSome o (λ bs. HasWrittenStyled took f bs g)) → IfSome p (λ bs. WritesStyledOnOk took g r bs h) → IsOk r
    → IsFlush f → IfSome (o ++? p) (λ bs. HasWrittenStyled took f bs h)
written_more took f g h r None p a b ok flush = tt
written_more took f g h r (Some x) None a b ok flush = tt
written_more took f g h r (Some x) (Some y) a b ok flush =
    let front = a flush in has_written_styled_append took f x g y h front (b front.flush ok)

-- an inline text that was written to in several calls has these parts after what it had
folded : {n : ℕ} (w v : InlineText n) (parts : List (List ℕ)) → FoldsTo AppendsIfIntact w parts v → IsIntact w → IsIntact v
    × (inline_text v ≡ inline_text w ++ concat parts)
folded w v [] h intact = (subst IsIntact h intact, sym (ap inline_text h) ∙ sym (append-nil (inline_text w)))
folded w v (x ∷ parts) h intact =
    let first = h.1 intact in
    let rest = folded h.0 v parts h.2 first.0 in
    (rest.0, rest.1 ∙ ap (λ t. t ++ concat parts) first.1 ∙ append_assoc (inline_text w) x (concat parts))

-- so it has for everything that was written
pub inline_written : {n : ℕ} (w v : InlineText n) (bs : List ℕ) → WritesInCalls AppendsIfIntact w bs v → IsIntact w → inline_text v ≡ inline_text w ++ bs
inline_written w v bs h intact = (folded w v h.parts h.calls intact).1 ∙ ap (λ x. inline_text w ++ x) h.whole

-- what a formatter wrote to an empty inline text is the inline text's content
pub inline_text_written : {n : ℕ} (f g : Formatter (InlineText n)) (r : Result (Unit {0}) Error) (o : Option (List ℕ)) (v : InlineText n) → IsPlainFormatter f
    → IsIntact f.writer
    → inline_text f.writer ≡ [] → IsOk r → DisplaysOnOk AppendsIfIntact f r o g → v ≡ formatter_writer g → IfSome o (λ bs. inline_text v ≡ bs)
inline_text_written f g r None v plain intact none ok h is = tt
inline_text_written f g r (Some bs) v plain intact none ok h is =
    ap inline_text is ∙ inline_written f.writer g.writer bs (h plain ok).wrote intact ∙ ap (λ x. x ++ bs) none

-- a line is an indent, what is shown if that is known, and a line feed
pub line_written : {W : Type 0} (took : W → List ℕ → W → Type 0) (f g h k : Formatter W) (r s u : Result (Unit {0}) Error) (indent text : List ℕ)
    (o : Option (List ℕ))
    → IfSome o (λ bs. text ≡ bs) → WritesStyledOnOk took f r indent g → IsOk r → WritesStyledOnOk took g s text h → IsOk s
    → WritesStyledOnOk took h u (codes "\n") k
    → DisplaysStyledOnOk took f u (Some indent ++? o ++? Some (codes "\n")) k
line_written took f g h k r s u indent text None is a oka b okb c = tt
line_written took f g h k r s u indent text (Some bs) is a oka b okb c = λ flush ok.
    let x = a flush oka in
    let y = b x.flush okb in
    let z = c y.flush ok in
    has_written_styled_append took f indent g (bs ++ codes "\n") k x
    (subst (λ t. HasWrittenStyled took g (t ++ codes "\n") k) is (has_written_styled_append took g text h (codes "\n") k y z))
