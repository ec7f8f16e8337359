-- What open frames have to report, and where these errors will begin.
use Rattle.std.proofs.Common.{◌≡◌, ℕ, ◌≤◌, Bool, true, false, List, [], ◌∷◌, ◌++◌, Some, refl, ap, sym, ◌∙◌, subst}
use Rattle.rnix_kinds.specs.declared.kinds.SyntaxKind.{SyntaxKind, TheVariants.{NODE_IDENT, NODE_PAT_ENTRY, NODE_ROOT}}
use Rattle.rnix_grammar.specs.{declared.{position.Position.Position, expected_set.ExpectedSet.ExpectedSet}, Fault.Fault, Tables.stops, UnwantedRun.run_of}
use Rattle.rnix_grammar.specs.{Layout.tail_of, AnnotatedForest.{Token, Note, DoubleBind, TooDeep, AnnotatedForest, blank}}
use Rattle.rnix_grammar.specs.{AnnotatedForest.{branch, ◌⊕◌, one_branch, tokens_in, head_kind}, Reports.{report, entry_name, has_entry, repeated_if}}
use Rattle.{rnix_grammar.specs.Reports.repeated, rnix_proof_lemmas.specs.Machine.{Head, Node, SecondBind, Operand, Frame, Machine, leaf, dropped}}
use Rattle.rnix_proof_lemmas.specs.{Allowed.is_there, FrameKinds.{FrameKind, Entry, SecondBindFrame, NodeFrame, frame_kind, frame_kind_of_head}}
use Rattle.rnix_proof_lemmas.{specs.FrameKinds.{frame_kind_of_node, IsStackedOn}, proofs.Basics.{true_is_not_false, choice}}
use Rattle.{rnix_proof_lemmas.proofs.{AnnotatedForestLemmas.tokens_in-⊕, UnwantedRuns.run_begins}, rnix_proof_prefix.specs.Prefix.{BeginsFrom, BeginAllFrom}}

-- all tokens begin at the byte or after it
abbrev pub AreFrom : ℕ → List Token → Type 0
AreFrom m [] = Unit {0}
AreFrom m (t ∷ ts) = (m ≤ t.start) × AreFrom m ts

-- there is a first token, and it begins at the byte or after it
abbrev pub StartsFrom : ℕ → List Token → Type 0
StartsFrom m [] = ⊥
StartsFrom m (t ∷ ts) = m ≤ t.start

pub starts_more : (m : ℕ) (ts us : List Token) → StartsFrom m ts → StartsFrom m (ts ++ us)
starts_more m [] us h = absurd h
starts_more m (t ∷ ts) us h = h

pub from_tail : (m : ℕ) (ts : List Token) → AreFrom m ts → AreFrom m (tail_of ts)
from_tail m [] h = tt
from_tail m (t ∷ ts) h = h.1

pub from_dropped : (m : ℕ) (run ts : List Token) → AreFrom m ts → AreFrom m (dropped run ts)
from_dropped m [] ts h = h
from_dropped m (x ∷ xs) ts h = from_dropped m xs (tail_of ts) (from_tail m ts h)

-- this holds for the next item, if there is one
pub starts_there : (m : ℕ) (ts : List Token) → is_there (head_kind ts) ≡ true → AreFrom m ts → StartsFrom m ts
starts_there m [] e h = absurd (true_is_not_false (sym e))
starts_there m (t ∷ ts) e h = h.0

-- this holds for a run that begins with the next item
pub starts_run : (m : ℕ) (until : ExpectedSet) (ts : List Token) → stops until (head_kind ts) ≡ false → AreFrom m ts → StartsFrom m (run_of until ts)
starts_run m until [] e h = absurd (true_is_not_false e)
starts_run m until (t ∷ ts) e h = subst (StartsFrom m) (sym (run_begins until t ts e)) h.0

-- the error of an error node begins where its first token does
pub report_from : (m : ℕ) (note : Note) (ts : List Token) → StartsFrom m ts → BeginsFrom m (report note ts)
report_from m note [] h = absurd h
report_from m TooDeep (t ∷ ts) h = tt
report_from m note (t ∷ ts) h = h

pub more_from : (m : ℕ) (ds es : List Fault) → BeginAllFrom m ds → BeginAllFrom m es → BeginAllFrom m (ds ++ es)
more_from m [] es h g = g
more_from m (d ∷ ds) es h g = (h.0, more_from m ds es h.1 g)

-- the children of the frame below
abbrev pub row_below : List Frame → AnnotatedForest
row_below [] = blank
row_below (g ∷ fs) = g.children

-- what an open frame has to report begins at the byte or after it: an entry of a pattern if it repeats a name, a second name in any case
abbrev pub IsLate : ℕ → Head → AnnotatedForest → AnnotatedForest → Type 0
IsLate m (Node NODE_PAT_ENTRY) trees below = (t : Token) × (entry_name trees ≡ Some t) × BeginAllFrom m (repeated_if (Some t) below)
IsLate m (Node k) trees below = Unit {0}
IsLate m SecondBind trees below = StartsFrom m (tokens_in trees)
IsLate m Operand trees below = Unit {0}

-- this holds for all frames
abbrev pub AreLate : ℕ → List Frame → Type 0
AreLate m [] = Unit {0}
AreLate m (f ∷ fs) = IsLate m f.head f.children (row_below fs) × AreLate m fs

-- this holds for everything that is left, everything that is open, and all errors so far
pub record HasLate (m : ℕ) (now : Machine) : Type 0 where
  pub remaining : AreFrom m now.remaining
  pub frames : AreLate m now.frames
  pub faults : BeginAllFrom m now.faults

-- an entry with more trees keeps its name
entry_name-⊕ : (f g : AnnotatedForest) (t : Token) → entry_name f ≡ Some t → entry_name (f ⊕ g) ≡ Some t
entry_name-⊕ (branch NODE_IDENT c f) g t e = e
entry_name-⊕ _ g t e = absurd (cc)

-- a frame with more children has the same to report
pub late_more : (m : ℕ) (h : Head) (trees x below : AnnotatedForest) → IsLate m h trees below → IsLate m h (trees ⊕ x) below
late_more m (Node NODE_PAT_ENTRY) trees x below w = (w.0, entry_name-⊕ trees x w.0 w.1, w.2)
late_more m SecondBind trees x below w = subst (StartsFrom m) (sym (tokens_in-⊕ trees x)) (starts_more m (tokens_in trees) (tokens_in x) w)
late_more m _ trees x below w = tt

-- a plain node has nothing to report
pub plain_late : (m : ℕ) (k : SyntaxKind) (trees below : AnnotatedForest) → frame_kind_of_node k ≡ NodeFrame → IsLate m (Node k) trees below
plain_late m NODE_PAT_ENTRY trees below e = absurd (cc)
plain_late m k trees below e = tt

-- an entry that opens with the next item has nothing to report before it
pub entry_late : (m : ℕ) (ts : List Token) (below : AnnotatedForest) → StartsFrom m ts
    → IsLate m (Node NODE_PAT_ENTRY) (one_branch NODE_IDENT (leaf false NODE_IDENT ts)) below
entry_late m [] below h = absurd h
entry_late m (t ∷ ts) below h = (t, refl, choice (BeginAllFrom m) (has_entry t.text below) (h, tt) tt)

-- a second name that opens with the next item has nothing to report before it
pub second_late : (m : ℕ) (k : SyntaxKind) (ts : List Token) → StartsFrom m ts → StartsFrom m (tokens_in (leaf false k ts))
second_late m k [] h = absurd h
second_late m k (t ∷ ts) h = h

-- the head of a frame has the frame kind of its position
pub head_frame : (head : Head) (next_position : Position) (fs : List Frame) → IsStackedOn head next_position fs
    → frame_kind_of_head head ≡ frame_kind next_position
head_frame head next_position [] w = w.0
head_frame head next_position (f ∷ fs) w = w.0

abbrev is_second : FrameKind → Bool
is_second SecondBindFrame = true
is_second s = false

node_not_second : (k : SyntaxKind) → is_second (frame_kind_of_node k) ≡ false
node_not_second NODE_ROOT = refl
node_not_second k = refl

pub head_second : (h : Head) → frame_kind_of_head h ≡ SecondBindFrame → h ≡ SecondBind
head_second (Node k) e = absurd (true_is_not_false (sym (ap is_second e) ∙ node_not_second k))
head_second SecondBind e = refl
head_second Operand e = cc

pub head_entry : (h : Head) → frame_kind_of_head h ≡ Entry → h ≡ Node NODE_PAT_ENTRY
head_entry (Node NODE_PAT_ENTRY) e = refl
head_entry _ e = cc

-- what an entry reports when it closes begins at the byte or after it
pub entry_reports : (m : ℕ) (h : Head) (trees below : AnnotatedForest) → frame_kind_of_head h ≡ Entry → IsLate m h trees below
    → BeginAllFrom m (repeated below trees)
entry_reports m h trees below e w =
    let v : IsLate m (Node NODE_PAT_ENTRY) trees below = subst (λ z. IsLate m z trees below) (head_entry h e) w in
    subst (λ z. BeginAllFrom m (repeated_if z below)) (sym v.1) v.2

-- what a second name reports when it closes begins at the byte or after it
pub second_reports : (m : ℕ) (h : Head) (trees below : AnnotatedForest) → frame_kind_of_head h ≡ SecondBindFrame → IsLate m h trees below
    → BeginsFrom m (report DoubleBind (tokens_in trees))
second_reports m h trees below e w = report_from m DoubleBind (tokens_in trees) (subst (λ z. IsLate m z trees below) (head_second h e) w)
