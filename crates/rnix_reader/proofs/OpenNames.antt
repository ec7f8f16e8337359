-- The sets of names stay right when frames open, grow and close.
use Rattle.std.proofs.Common.{◌≡◌, ℕ, Bool, true, false, List, [], ◌∷◌, ◌++◌, Option, Some, None, refl, ap, sym, ◌∙◌, subst, append-nil, if◌then◌else◌}
use Rattle.{std.specs.Str.bytes_eq, rnix_kinds.specs.declared.kinds.SyntaxKind.{SyntaxKind, TheVariants.{NODE_PATTERN, NODE_PAT_ENTRY}}}
use Rattle.rnix_grammar.specs.{declared.{slot_table.TheConstants.{PAT_ENTRY, SECOND_BIND}, position.Position.Position}, Fault.Fault, AnnotatedForest.{Token, AnnotatedForest}}
use Rattle.rnix_grammar.specs.{AnnotatedForest.{◌⊕◌, without_trivia}, Layout.trivia_before, Reports.entry_name}
use Rattle.rnix_proof_lemmas.specs.Machine.{Head, Node, SecondBind, Operand, Frame}
use Rattle.rnix_proof_lemmas.specs.FrameKinds.{FrameKind, Pattern, Entry, NodeFrame, frame_kind, frame_kind_of_head, frame_kind_of_node, may_hold, IsStackedOn}
use Rattle.rnix_proof_lemmas.specs.Machine.{put, opened, with_leading, made}
use Rattle.{rnix_proof_lemmas.proofs.Basics.true_is_not_false, rnix_reader.specs.{declared.pattern_names.{NameSet.NameSet, Names.Names}, PatternNames.{entries_in, entry_at}}}
use Rattle.rnix_reader.specs.{PatternNames.{PatternOpened, PatternClosed, EntryOpened}, Holds.{AreNamed, IsBegun, named_by, name_of, entries_of, TopSet, AreOpenSets, AreOpenSetsOn}}
use Rattle.rnix_reader.proofs.{EntryLemmas.{known_pattern, IsEntry}, FrameKindLemmas.{is_pattern, head_sort}, RowLemmas.{HasNoEntry, no_entry_trivia, begun_more}}
use Rattle.rnix_reader.proofs.RowLemmas.{name_more, known_more, known_entry}
use Rattle.rnix_grammar.specs.declared.position.Position.TheVariants as p

-- they stay right when a frame grows by trees without entries
pub grow : {f : Frame} {fs : List Frame} {names : Names} (after : Position) (g : AnnotatedForest)
    → (is_pattern (frame_kind_of_head f.head) ≡ true → HasNoEntry g)
    → AreNamed f fs names → AreNamed (put after (f.children ⊕ g) f) fs names
grow {f = f} {fs = fs} {names = names} after g q w = record {
  begun = (begun_more f.head f.children g w.begun.0, w.begun.1);
  sets = known_more f.head f.children g names.sets.items (AreOpenSets fs) q w.sets;
  entries = w.entries ∙ ap (λ x. entries_of fs ++ named_by x) (sym (name_more f.head f.children g w.begun.0));
}

-- when a frame moves to another position
pub moved_on : {f : Frame} {fs : List Frame} {names : Names} (after : Position) → AreNamed f fs names → AreNamed (put after f.children f) fs names
moved_on after w = record { begun = w.begun; sets = w.sets; entries = w.entries }

-- when a frame grows by trivia
pub grow_trivia : {f : Frame} {fs : List Frame} {names : Names} (after : Position) (ts : List Token) → AreNamed f fs names
    → AreNamed (put after (with_leading true f.children ts) f) fs names
grow_trivia after ts w = grow after (trivia_before ts) (λ q. no_entry_trivia ts) w

-- when a frame grows by trivia and trees without entries
pub grow_behind : {f : Frame} {fs : List Frame} {names : Names} (after : Position) (ts : List Token) (g : AnnotatedForest) → HasNoEntry g
    → AreNamed f fs names → AreNamed (put after (with_leading true f.children ts ⊕ g) f) fs names
grow_behind after ts g none w = grow after g (λ q. none) (grow_trivia after ts w)

-- frame kinds that keep no names
abbrev pub has_no_names : FrameKind → Bool
has_no_names Pattern = false
has_no_names Entry = false
has_no_names s = true

no_names_known : (h : Head) (trees : AnnotatedForest) (sets : List NameSet) (More : List NameSet → Type 0) → has_no_names (frame_kind_of_head h) ≡ true
    → AreOpenSetsOn h trees sets More ≡ More sets
no_names_known (Node NODE_PATTERN) trees sets More e = absurd (true_is_not_false (sym e))
no_names_known (Node k) trees sets More e = refl
no_names_known SecondBind trees sets More e = refl
no_names_known Operand trees sets More e = refl

no_names_name : (h : Head) (trees : AnnotatedForest) → has_no_names (frame_kind_of_head h) ≡ true → name_of h trees ≡ None
no_names_name (Node NODE_PAT_ENTRY) trees e = absurd (true_is_not_false (sym e))
no_names_name (Node k) trees e = refl
no_names_name SecondBind trees e = refl
no_names_name Operand trees e = refl

node_begun : (k : SyntaxKind) (trees : AnnotatedForest) → has_no_names (frame_kind_of_node k) ≡ true → IsBegun (Node k) trees
node_begun NODE_PAT_ENTRY trees e = absurd (true_is_not_false (sym e))
node_begun k trees e = tt

-- a node without a name adds none
same_entries : (fs : List Frame) (x : Option Token) → x ≡ None → entries_of fs ++ named_by x ≡ entries_of fs
same_entries fs x e = ap (λ y. entries_of fs ++ named_by y) e ∙ append-nil (entries_of fs)

-- when a frame that keeps no names opens
push : {f : Frame} {fs : List Frame} {names : Names} (h : Head) (position : Position) (d : ℕ) (trees : AnnotatedForest)
    → has_no_names (frame_kind_of_head h) ≡ true
    → IsBegun h trees → AreNamed f fs names → AreNamed (opened h position d trees) (f ∷ fs) names
push {f = f} {fs = fs} {names = names} h position d trees b i w = record {
  begun = (i, w.begun);
  sets = subst (λ A. A) (sym (no_names_known h trees names.sets.items (AreOpenSets (f ∷ fs)) b)) w.sets;
  entries = w.entries ∙ sym (same_entries (f ∷ fs) (name_of h trees) (no_names_name h trees b));
}

-- when a node opens
pub push_node : {f : Frame} {fs : List Frame} {names : Names} (k : SyntaxKind) (position : Position) (d : ℕ) (trees : AnnotatedForest)
    → frame_kind_of_node k ≡ NodeFrame
    → AreNamed f fs names → AreNamed (opened (Node k) position d trees) (f ∷ fs) names
push_node k position d trees s w = push (Node k) position d trees (ap has_no_names s) (node_begun k trees (ap has_no_names s)) w

-- when an operand opens
pub push_operand : {f : Frame} {fs : List Frame} {names : Names} (min_bp max_bp d : ℕ) (trees : AnnotatedForest) → AreNamed f fs names
    → AreNamed (opened Operand (p.AfterOperand min_bp max_bp) d trees) (f ∷ fs) names
push_operand min_bp max_bp d trees w = push Operand (p.AfterOperand min_bp max_bp) d trees refl tt w

-- when a second name opens
pub push_second : {f : Frame} {fs : List Frame} {names names' : Names} (d : ℕ) (trees : AnnotatedForest) → IsBegun SecondBind trees
    → names'.sets.items ≡ names.sets.items → entries_in names' ≡ entries_in names → AreNamed f fs names
    → AreNamed (opened SecondBind (p.InRow SECOND_BIND) d trees) (f ∷ fs) names'
push_second {f = f} {fs = fs} d trees i s e w = record {
  begun = (i, w.begun);
  sets = subst (AreOpenSets (f ∷ fs)) (sym s) w.sets;
  entries = e ∙ w.entries ∙ sym (append-nil (entries_of (f ∷ fs)));
}

-- when a pattern opens, with a new set
pub push_pattern : {f : Frame} {fs : List Frame} {names names' : Names} (position : Position) (d : ℕ) (trees : AnnotatedForest)
    → HasNoEntry trees → PatternOpened names names' → AreNamed f fs names → AreNamed (opened (Node NODE_PATTERN) position d trees) (f ∷ fs) names'
push_pattern {f = f} {fs = fs} {names = names} position d trees none o w = record {
  begun = (tt, w.begun);
  sets = record { below = names.sets.items; set = o.set; all = o.sets; is = λ name. o.none name ∙ sym (none name); more = w.sets };
  entries = o.entries ∙ w.entries ∙ sym (append-nil (entries_of (f ∷ fs)));
}

-- when an entry opens, with its name
pub push_entry : {f : Frame} {fs : List Frame} {names names' : Names} (d : ℕ) (trees : AnnotatedForest) (t : Token)
    → entry_name (without_trivia trees) ≡ Some t → EntryOpened (entry_at t) names names' → AreNamed f fs names
    → AreNamed (opened (Node NODE_PAT_ENTRY) (p.InRow PAT_ENTRY) d trees) (f ∷ fs) names'
push_entry {f = f} {fs = fs} d trees t e o w = record {
  begun = ((t, e), w.begun);
  sets = subst (AreOpenSets (f ∷ fs)) (sym o.sets) w.sets;
  entries = o.entries ∙ ap (λ x. x ++ entry_at t ∷ []) w.entries ∙ ap (λ x. entries_of (f ∷ fs) ++ named_by x) (sym e);
}

-- when an operand replaces another
pub instead : {f : Frame} {fs : List Frame} {names : Names} (min_bp max_bp d : ℕ) (trees : AnnotatedForest) → f.head ≡ Operand → AreNamed f fs names
    → AreNamed (opened Operand (p.AfterOperand min_bp max_bp) d trees) fs names
instead {f = f} {fs = fs} {names = names} min_bp max_bp d trees o w = record {
  begun = (tt, w.begun.1);
  sets = subst (λ h. AreOpenSetsOn h f.children names.sets.items (AreOpenSets fs)) o w.sets;
  entries = w.entries ∙ ap (λ h. entries_of fs ++ named_by (name_of h f.children)) o;
}

-- the node of a frame without names has no entry
made_quiet : (h : Head) (trees : AnnotatedForest) (s : FrameKind) → has_no_names (frame_kind_of_head h) ≡ true → may_hold s (frame_kind_of_head h) ≡ true
    → is_pattern s ≡ true → HasNoEntry (made h trees)
made_quiet (Node NODE_PAT_ENTRY) trees s b m q = absurd (true_is_not_false (sym b))
made_quiet (Node k) trees s b m q = λ name. refl
made_quiet SecondBind trees s b m q = λ name. refl
made_quiet Operand trees Pattern b m q = absurd (true_is_not_false (sym m))
made_quiet Operand trees s b m q = absurd (true_is_not_false (sym q))

-- when a frame without names closes
pub pop : {f g : Frame} {fs : List Frame} {names : Names} → IsStackedOn f.head f.position (g ∷ fs) → has_no_names (frame_kind f.position) ≡ true
    → AreNamed f (g ∷ fs) names
    → AreNamed (put g.position (g.children ⊕ made f.head f.children) g) fs names
pop {f = f} {g = g} {fs = fs} {names = names} st b w =
    let bare : has_no_names (frame_kind_of_head f.head) ≡ true = ap has_no_names st.0 ∙ b in
    let kept : AreNamed g fs names = record {
      begun = w.begun.1;
      sets = subst (λ A. A) (no_names_known f.head f.children names.sets.items (AreOpenSets (g ∷ fs)) bare) w.sets;
      entries = w.entries ∙ same_entries (g ∷ fs) (name_of f.head f.children) (no_names_name f.head f.children bare);
    } in
    grow g.position (made f.head f.children)
    (λ q. made_quiet f.head f.children (frame_kind g.position) bare (ap (may_hold (frame_kind g.position)) st.0 ∙ st.1)
    (ap is_pattern (sym (head_sort g.head g.position fs st.2)) ∙ q)) kept

-- when a pattern closes, and its set is dropped
pub pop_pattern : {f g : Frame} {fs : List Frame} {names names' : Names} → f.head ≡ Node NODE_PATTERN → PatternClosed names names' → AreNamed f (g ∷ fs) names
    → AreNamed (put g.position (g.children ⊕ made f.head f.children) g) fs names'
pop_pattern {f = f} {g = g} {fs = fs} {names = names} {names' = names'} e c w =
    let top_set : TopSet names.sets.items f.children (AreOpenSets (g ∷ fs)) =
    known_pattern f.head f.children names.sets.items (AreOpenSets (g ∷ fs)) e w.sets in
    let kept : AreNamed g fs names' = record {
      begun = w.begun.1;
      sets = subst (AreOpenSets (g ∷ fs)) (sym (c.sets top_set.below top_set.set top_set.all)) top_set.more;
      entries = c.entries ∙ w.entries ∙ same_entries (g ∷ fs) (name_of f.head f.children) (ap (λ h. name_of h f.children) e);
    } in
    grow g.position (made f.head f.children) (λ q. subst (λ h. HasNoEntry (made h f.children)) (sym e) (λ name. refl)) kept

-- when an entry closes, and its name is in the set
pub pop_entry : {f g : Frame} {fs : List Frame} {names names' : Names} {again : Option Fault} → IsEntry f g fs names names' again → AreNamed f (g ∷ fs) names
    → AreNamed (put g.position (g.children ⊕ made f.head f.children) g) fs names'
pop_entry {f = f} {g = g} {fs = fs} {names' = names'} q w = record {
  begun = (begun_more g.head g.children (made f.head f.children) w.begun.1.0, w.begun.1.1);
  sets = subst (λ h. AreOpenSetsOn g.head (g.children ⊕ made h f.children) names'.sets.items (AreOpenSets fs)) (sym q.entry)
      (known_entry g.head g.children f.children q.name q.top_set.below q.entered.set names'.sets.items (AreOpenSets fs)
      (ap (λ h. is_pattern (frame_kind_of_head h)) q.pattern) q.named q.entered.sets q.top_set.more
      (λ other. q.entered.has other ∙ ap (λ x. if bytes_eq q.name.text other then true else x) (q.top_set.is other)));
  entries = q.entries ∙ ap (λ x. entries_of fs ++ named_by x) (sym (name_more g.head g.children (made f.head f.children) w.begun.1.0));
}
