-- The errors of items with other ranges.
use Rattle.std.proofs.Common.{◌≡◌, ℕ, Bool, true, false, List, [], ◌∷◌, ◌++◌, take, drop, length, refl, ap, sym, ◌∙◌, if◌then◌else◌}
use Rattle.{rnix_kinds.specs.declared.kinds.SyntaxKind.{SyntaxKind, TheVariants.{NODE_IDENT, NODE_PAT_ENTRY}}, rnix_green.specs.Range.Extent}
use Rattle.rnix_grammar.specs.{Fault.{Fault, unexpected_eof, unexpected_eof_wanted, duplicated_args}, Repaired.is_ended, Reports.{first_kind, report, repeats}}
use Rattle.rnix_grammar.specs.{Reports.{entry_name, is_same_name, has_entry}, AnnotatedForest.{Token, Note, Stray, Unwanted, Extra, DoubleBind, TooDeep}}
use Rattle.rnix_grammar.specs.AnnotatedForest.{AnnotatedForest, blank, token, branch, fault, tokens_in, extent_of}
use Rattle.{rnix_proof_lemmas.proofs.Basics.true_is_not_false, rnix_proof_layout.specs.AlikeItems.{AreOfSameItems, IsSameFault, AreSameFaults}}
use Rattle.rnix_proof_layout.proofs.{MovedItems.{at, moved, past, later, moved_trees}, Unplaced.{unplaced, alike}}

-- the second of three lists of items
middle : (a ts us : List Token) → take (length ts) (drop (length a) (a ++ (ts ++ us))) ≡ ts
middle [] [] us = refl
middle [] (t ∷ ts) us = ap (λ z. t ∷ z) (middle [] ts us)
middle (x ∷ a) ts us = middle a ts us

middle_moved : (a ts us : List Token) (qs : List Extent) → take (length ts) (drop (length a) (moved (a ++ (ts ++ us)) qs)) ≡ moved ts (past a qs)
middle_moved [] [] us qs = refl
middle_moved [] (t ∷ ts) us qs = ap (λ z. at t qs ∷ z) (middle_moved [] ts us (later qs))
middle_moved (x ∷ a) ts us qs = middle_moved a ts us (later qs)

-- some items have the ranges of the same items, in the old and in the new ranges
pub same_here : (ws a ts us : List Token) (qs : List Extent) → ws ≡ a ++ (ts ++ us)
    → AreOfSameItems ws (moved ws qs) (extent_of ts) (extent_of (moved ts (past a qs)))
same_here ws a ts us qs e = record {
  first = length a;
  count = length ts;
  here = ap extent_of (sym (ap (λ z. take (length ts) (drop (length a) z)) e ∙ middle a ts us));
  there = ap extent_of (sym (ap (λ z. take (length ts) (drop (length a) (moved z qs))) e ∙ middle_moved a ts us qs));
}

-- the first item of an error node has the same kind
first_moved : (ts : List Token) (ps : List Extent) → first_kind ts ≡ first_kind (moved ts ps)
first_moved [] ps = refl
first_moved (t ∷ ts) ps = refl

pub report_same : (xs ys : List Token) (note : Note) (ts : List Token) (ps : List Extent) → AreOfSameItems xs ys (extent_of ts) (extent_of (moved ts ps))
    → IsSameFault xs ys (report note ts) (report note (moved ts ps))
report_same xs ys Stray ts ps h = (first_moved ts ps, h, refl)
report_same xs ys (Unwanted until) ts ps h = (first_moved ts ps, h, refl)
report_same xs ys Extra ts ps h = h
report_same xs ys DoubleBind ts ps h = h
report_same xs ys TooDeep ts ps h = tt

-- an error at the end of the text is the same
pub ended_same : (xs ys : List Token) (e : Fault) → is_ended e ≡ true → IsSameFault xs ys e e
ended_same xs ys unexpected_eof h = tt
ended_same xs ys (unexpected_eof_wanted kinds) h = refl
ended_same xs ys _ h = absurd (true_is_not_false (sym h))

-- if two pairs of lists of errors are the same, so are the joined lists
pub same_append : (xs ys : List Token) (ds es gs hs : List Fault) → AreSameFaults xs ys ds es → AreSameFaults xs ys gs hs
    → AreSameFaults xs ys (ds ++ gs) (es ++ hs)
same_append xs ys [] [] gs hs h g = g
same_append xs ys (d ∷ ds) (e ∷ es) gs hs h g = (h.0, same_append xs ys ds es gs hs h.1 g)
same_append xs ys [] (e ∷ es) gs hs h g = absurd h
same_append xs ys (d ∷ ds) [] gs hs h g = absurd h

-- the names of the entries of a pattern do not depend on ranges
name_same : (name : List ℕ) (c : AnnotatedForest) → is_same_name name (entry_name (unplaced c)) ≡ is_same_name name (entry_name c)
name_same name blank = refl
name_same name (token k t f) = refl
name_same name (branch NODE_IDENT blank f) = refl
name_same name (branch NODE_IDENT (token k t g) f) = refl
name_same name (branch NODE_IDENT (branch k d g) f) = refl
name_same name (branch NODE_IDENT (fault n d g) f) = refl
name_same name (branch _ c f) = refl
name_same name (fault n c f) = refl

entry_same : (name : List ℕ) (x : AnnotatedForest) → has_entry name (unplaced x) ≡ has_entry name x
entry_same name blank = refl
entry_same name (token k t f) = entry_same name f
entry_same name (branch NODE_PAT_ENTRY c f) =
    ap (λ w. if w then true else has_entry name (unplaced f)) (name_same name c)
    ∙ ap (λ w. if is_same_name name (entry_name c) then true else w) (entry_same name f)
entry_same name (branch _ c f) = entry_same name f
entry_same name (fault n c f) = entry_same name f

-- the error of an entry that repeats a name is the same
one_if : (xs ys : List Token) (v w : Bool) (d e : Fault) → v ≡ w → IsSameFault xs ys d e
    → AreSameFaults xs ys (if v then d ∷ [] else []) (if w then e ∷ [] else [])
one_if xs ys true true d e h g = (g, tt)
one_if xs ys false false d e h g = tt
one_if xs ys true false d e h g = absurd (true_is_not_false h)
one_if xs ys false true d e h g = absurd (true_is_not_false (sym h))

repeated_same : (ws a us : List Token) (qs : List Extent) (b b' c : AnnotatedForest) → unplaced b ≡ unplaced b' → ws ≡ a ++ (tokens_in c ++ us)
    → AreSameFaults ws (moved ws qs) (repeats NODE_PAT_ENTRY b c) (repeats NODE_PAT_ENTRY b' (moved_trees c (past a qs)))
repeated_same ws a us qs b b' (branch NODE_IDENT (token k t g) f) e h =
    one_if ws (moved ws qs) (has_entry t.text b) (has_entry t.text b') (duplicated_args (extent_of (t ∷ [])) t.text)
    (duplicated_args (extent_of (at t (past a qs) ∷ [])) t.text)
    (alike (has_entry t.text) (entry_same t.text) b b' e)
    (same_here ws a (t ∷ []) ((tokens_in g ++ tokens_in f) ++ us) qs h, refl)
repeated_same ws a us qs b b' (branch NODE_IDENT blank f) e h = tt
repeated_same ws a us qs b b' (branch NODE_IDENT (branch k d g) f) e h = tt
repeated_same ws a us qs b b' (branch NODE_IDENT (fault n d g) f) e h = tt
repeated_same ws a us qs b b' (branch _ c f) e h = tt
repeated_same ws a us qs b b' blank e h = tt
repeated_same ws a us qs b b' (token k t f) e h = tt
repeated_same ws a us qs b b' (fault n c f) e h = tt

pub repeats_same : (ws a us : List Token) (qs : List Extent) (k : SyntaxKind) (b b' c : AnnotatedForest) → unplaced b ≡ unplaced b' → ws ≡ a
    ++ (tokens_in c ++ us)
    → AreSameFaults ws (moved ws qs) (repeats k b c) (repeats k b' (moved_trees c (past a qs)))
repeats_same ws a us qs NODE_PAT_ENTRY b b' c e h = repeated_same ws a us qs b b' c e h
repeats_same ws a us qs _ b b' c e h = tt
