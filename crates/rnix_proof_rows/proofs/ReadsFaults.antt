-- The errors of a forest that is read.
use Rattle.std.proofs.Common.{◌≡◌, ◌⊎◌, inl, inr, ℕ, true, false, List, [], ◌∷◌, ◌++◌, Option, Some, None, refl, ap, sym, ◌∙◌, subst, append_assoc}
use Rattle.{std.proofs.Common.if◌then◌else◌, rnix_kinds.specs.declared.kinds.SyntaxKind.{SyntaxKind, TheVariants.NODE_PAT_ENTRY}}
use Rattle.rnix_grammar.specs.{Fault.{Fault, duplicated_args}, AnnotatedForest.{Token, Note, Stray, Unwanted, Extra, DoubleBind, TooDeep, AnnotatedForest}}
use Rattle.rnix_grammar.specs.{AnnotatedForest.{blank, branch, fault, ◌⊕◌, one_token, one_fault, row_of, tokens_in, extent_of, leaf_kind}, Reports.report}
use Rattle.rnix_grammar.specs.{Reports.{repeated_if, entry_name, has_entry, repeats}, Rules.Row, Reads.{Reads, end, leaf, missing_part, wrong, second, inner}}
use Rattle.rnix_grammar.specs.{Reads.IsWrong, Repaired.{is_ended, others, is_misplaced, NoneMisplaced, NoErrorAfterEnd, IsNamedList, AreNamedLists}}
use Rattle.rnix_proof_lemmas.{specs.RowReports.reports_behind, proofs.{AnnotatedForestLemmas.tokens_in-row_of, MissingFacts.missing_ended}}
use Rattle.rnix_proof_lemmas.proofs.{Basics.{true_is_not_false, not_nil, none_right, none_remaining}, ReachableRows.{IsKnown, known_row, known_second, known_after}}
use Rattle.rnix_proof_lemmas.proofs.ReachableRows.{known_missing, known_past, known_wrong}

-- the errors of two joined lists that are not at the end of the text are those of both
pub others-++ : (es fs : List Fault) → others (es ++ fs) ≡ others es ++ others fs
others-++ [] fs = refl
others-++ (e ∷ es) fs =
    elim (is_ended e) as (λ x. (if x then others (es ++ fs) else e ∷ others (es ++ fs)) ≡ (if x then others es else e ∷ others es) ++ others fs)
    [ true ↦ others-++ es fs | false ↦ ap (λ x. e ∷ x) (others-++ es fs) ]

-- the error of an error node is one of the others
pub plain_report : (n : Note) (ts : List Token) → is_ended (report n ts) ≡ false
plain_report Stray ts = refl
plain_report _ ts = cc

-- leaves alone report no errors
pub reports-row_of : (b : AnnotatedForest) (ts : List Token) → reports_behind b (row_of ts) ≡ []
reports-row_of b [] = refl
reports-row_of b (t ∷ ts) = reports-row_of (b ⊕ one_token t.kind t) ts

-- if the lists of wanted kinds in two lists of errors are known, so are those in both joined
named-++ : (es fs : List Fault) → AreNamedLists es → AreNamedLists fs → AreNamedLists (es ++ fs)
named-++ [] fs h k = k
named-++ (e ∷ es) fs h k = (h.0, named-++ es fs h.1 k)

-- the error of an error node lists no kinds that are wanted at the end
named_report : (n : Note) (ts : List Token) → IsNamedList (report n ts)
named_report Stray ts = tt
named_report _ ts = cc

-- some error is at the end of the text
abbrev pub HasEnded : List Fault → Type 0
HasEnded [] = ⊥
HasEnded (e ∷ es) = (is_ended e ≡ true) ⊎ HasEnded es

-- if two joined lists have such an error, one of them has
has-++ : (es fs : List Fault) → HasEnded (es ++ fs) → HasEnded es ⊎ HasEnded fs
has-++ [] fs h = inr h
has-++ (e ∷ es) fs h = elim h [ inl x ↦ inl (inl x) | inr x ↦ further (has-++ es fs x) ]
  where
    further : HasEnded es ⊎ HasEnded fs → ((is_ended e ≡ true) ⊎ HasEnded es) ⊎ HasEnded fs
    further w = elim w [ inl y ↦ inl (inr y) | inr y ↦ inr y ]

-- if two lists of errors report no misplaced token, neither do both joined
none-++ : (es fs : List Fault) → NoneMisplaced es → NoneMisplaced fs → NoneMisplaced (es ++ fs)
none-++ [] fs h k = k
none-++ (e ∷ es) fs h k = (h.0, none-++ es fs h.1 k)

-- two joined lists report no token after an error at the end of the text, if neither does alone and the second reports none after such an error in the first
settled-++ : (es fs : List Fault) → NoErrorAfterEnd es → NoErrorAfterEnd fs → (HasEnded es → NoneMisplaced fs) → NoErrorAfterEnd (es ++ fs)
settled-++ [] fs h k r = k
settled-++ (e ∷ es) fs h k r = (settled-++ es fs h.0 k (λ x. r (inr x)), λ x. none-++ es fs (h.1 x) (r (inl x)))

-- an error at the end of the text reports no misplaced token
ended_placed : (e : Fault) → is_ended e ≡ true → is_misplaced e ≡ false
ended_placed (Fault.unwanted k r ks) h = absurd (true_is_not_false (sym h))
ended_placed _ h = cc

-- no error of a list is at the end of the text or about a misplaced token
pub record NeitherEndNorMisplaced (es : List Fault) : Type 0 where
  pub reports : others es ≡ es
  pub named : AreNamedLists es
  pub none : NoneMisplaced es
  pub settled : NoErrorAfterEnd es
  pub ended : HasEnded es → ⊥

neither_none : NeitherEndNorMisplaced []
neither_none = record { reports = refl; named = tt; none = tt; settled = tt; ended = λ h. h }

neither_one : (e : Fault) → is_ended e ≡ false → is_misplaced e ≡ false → IsNamedList e → NeitherEndNorMisplaced (e ∷ [])
neither_one e p m n = record {
  reports = ap (λ x. if x then [] else e ∷ []) p;
  named = (n, tt);
  none = (m, tt);
  settled = (tt, λ h. tt);
  ended = λ h. elim h [ inl x ↦ true_is_not_false (sym x ∙ p) | inr x ↦ x ];
}

-- this holds for the error of a second name
pub neither_second : (ts : List Token) → NeitherEndNorMisplaced (report DoubleBind ts ∷ [])
neither_second ts = neither_one (report DoubleBind ts) refl refl tt

-- this holds for the errors of a node that repeats a name
pub neither_repeats : (k : SyntaxKind) (b c : AnnotatedForest) → NeitherEndNorMisplaced (repeats k b c)
neither_repeats NODE_PAT_ENTRY b c = by (entry_name c)
  where
    by : (o : Option Token) → NeitherEndNorMisplaced (repeated_if o b)
    by None = neither_none
    by (Some t) =
        elim (has_entry t.text b) as (λ x. NeitherEndNorMisplaced (if x then duplicated_args (extent_of (t ∷ [])) t.text ∷ [] else []))
        [ true ↦ neither_one (duplicated_args (extent_of (t ∷ [])) t.text) refl refl tt | false ↦ neither_none ]
neither_repeats _ b c = neither_none

-- only an error node that is nested too deep may have no token
empty_report : (note : Note) (d : ℕ) (q r : Row) (vs : List Token) → IsWrong note d q r [] vs → is_misplaced (report note []) ≡ false
empty_report Stray d q r vs w = absurd (cc)
empty_report (Unwanted until) d q r vs w = absurd (true_is_not_false (sym w.0))
empty_report Extra d q r vs w = absurd (true_is_not_false (sym w.0))
empty_report DoubleBind d q r vs w = absurd w
empty_report TooDeep d q r vs w = refl

-- What holds of the errors of a forest: those that are not at the end of the text are those of the error nodes and of repeated entries, as these close;
-- each list of wanted kinds is a known one; if the forest has no tokens, no token is reported as wrong; after an error at the end of the text no item
-- is left, and no token is reported as wrong.
pub record Errors (f : AnnotatedForest) (us : List Token) (rs es : List Fault) : Type 0 where
  pub reports : others es ≡ rs
  pub named : AreNamedLists es
  pub none : tokens_in f ≡ [] → NoneMisplaced es
  pub last : HasEnded es → us ≡ []
  pub settled : NoErrorAfterEnd es

-- if this holds of the errors of a node's children and of the trees after it, it holds of the errors of the node and these trees
joined : (c f g : AnnotatedForest) (us vs : List Token) (ds os es ps rs : List Fault) → tokens_in g ≡ tokens_in c ++ tokens_in f → vs ≡ tokens_in f ++ us
    → Errors c vs ps ds
    → NeitherEndNorMisplaced os → Errors f us rs es → Errors g us (ps ++ (os ++ rs)) ((ds ++ os) ++ es)
joined c f g us vs ds os es ps rs t v h o w = record {
  reports = rw (others-++ (ds ++ os) es, others-++ ds os, h.reports, o.reports, w.reports) (append_assoc ps os rs);
  named = named-++ (ds ++ os) es (named-++ ds os h.named o.named) w.named;
  none = λ n. none-++ (ds ++ os) es (none-++ ds os (h.none (none_remaining (tokens_in c) (tokens_in f) (sym t ∙ n))) o.none)
      (w.none (none_right (tokens_in c) (tokens_in f) (sym t ∙ n)));
  last = λ m.
      elim (has-++ (ds ++ os) es m) [
        | inl x ↦ elim (has-++ ds os x) [ inl e ↦ none_right (tokens_in f) us (sym v ∙ h.last e) | inr e ↦ absurd (o.ended e) ]
        | inr x ↦ w.last x
      ];
  settled = settled-++ (ds ++ os) es (settled-++ ds os h.settled o.settled (λ e. o.none)) w.settled
      (λ m. elim (has-++ ds os m) [ inl e ↦ w.none (none_remaining (tokens_in f) us (sym v ∙ h.last e)) | inr e ↦ absurd (o.ended e) ]);
}

-- this holds of the errors of each forest that is read
pub reads_errors : {p : SyntaxKind} {d n : ℕ} {q q' : Row} {b : AnnotatedForest} {us : List Token} {f : AnnotatedForest} {es : List Fault}
    → Reads p d n q q' b us f es → IsKnown p q → Errors f us (reports_behind b f) es
reads_errors end i = record { reports = refl; named = tt; none = λ n. tt; last = λ h. absurd h; settled = tt }
reads_errors {p} (leaf {t = t} x o h) i =
    let w = reads_errors h (known_after (leaf_kind p t) i) in
    record { reports = w.reports; named = w.named; none = λ n. absurd (not_nil n); last = w.last; settled = w.settled }
reads_errors (missing_part {e = e} {es = es} u n l o h) i =
    let w = reads_errors h (known_missing l i) in
    let missing = missing_ended i l in
    record {
      reports = ap (λ x. if x then others es else e ∷ others es) missing.0 ∙ w.reports;
      named = (missing.1, w.named);
      none = λ n. (ended_placed e missing.0, w.none n);
      last = λ h. u;
      settled = (w.settled, λ h. w.none n);
    }
reads_errors {d = d} {q = q} {b = b} {us = us} (wrong {r = r} {f = f} {es = es} n ts x o v h) i =
    let w = reads_errors h (known_wrong n _ _ _ v i) in
    let c : AnnotatedForest = row_of ts in
    let same : tokens_in c ≡ ts = tokens_in-row_of ts in
    record {
      reports = ap (λ x. if x then others es else report n ts ∷ others es) (plain_report n ts) ∙ ap (λ x. report n ts ∷ x) w.reports
          ∙ ap (λ x. report n x ∷ reports_behind (b ⊕ one_fault n c) f) (sym same)
          ∙ ap (λ x. x ++ (report n (tokens_in c) ∷ reports_behind (b ⊕ one_fault n c) f)) (sym (reports-row_of blank ts));
      named = (named_report n ts, w.named);
      none = λ o.
          (let none : ts ≡ [] = sym same ∙ none_remaining (tokens_in c) (tokens_in f) o in (
            ap (λ x. is_misplaced (report n x)) none
                ∙ empty_report n d q r (tokens_in f ++ us) (subst (λ (x : List Token). IsWrong n d q r x (tokens_in f ++ us)) none v),
            w.none (none_right (tokens_in c) (tokens_in f) o),
          ));
      last = λ o. elim o [ inl e ↦ absurd (true_is_not_false (sym e ∙ plain_report n ts)) | inr e ↦ w.last e ];
      settled = (w.settled, λ e. absurd (true_is_not_false (sym e ∙ plain_report n ts)));
    }
reads_errors {us = us} (second {c = c} {f = f} {ds = ds} {es = es} s y h) i =
    joined c f (fault DoubleBind c f) us (tokens_in f ++ us) ds (report DoubleBind (tokens_in c) ∷ []) es _ _ refl refl (reads_errors s known_second)
    (neither_second (tokens_in c)) (reads_errors h (known_past i))
reads_errors {b = b} {us = us} (inner {k = k} {c = c} {f = f} {ds = ds} {es = es} o s y x j z h) i =
    joined c f (branch k c f) us (tokens_in f ++ us) ds (repeats k b c) es _ _ refl refl (reads_errors s (known_row k)) (neither_repeats k b c)
    (reads_errors h (known_after k i))
