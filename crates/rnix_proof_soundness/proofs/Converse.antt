-- A text that is read without errors at its end, repeated names and accepted extensions is an expression of the strict grammar, once its errors are repaired.
use Rattle.std.proofs.Common.{◌≡◌, true, Some, None, Option, refl, ap, sym, ◌∙◌, subst, ℕ, Bool, false, List, [], ◌∷◌, ◌++◌, if◌then◌else◌, ◌&&◌, ◌||◌, ◌+◌}
use Rattle.{std.{proofs.{Common.arith, lemmas.Bool.and_parts}, specs.Str.bytes_eq}, rnix_kinds.specs.declared.kinds.SyntaxKind.SyntaxKind}
use Rattle.rnix_kinds.{specs.{declared.kinds.SyntaxKind.TheVariants.{TOKEN_OR, NODE_PAT_ENTRY, NODE_ROOT}, SyntaxKind.is_fn_arg}, proofs.AllKinds.implied}
use Rattle.{rnix_green.specs.Forest.{Forest, node}, rnix_grammar.specs.Rules.{Row, ◌·◌, row, after, may_end, missing, is_first_expected, IsExpected}}
use Rattle.rnix_grammar.specs.{Rules.IsFollowed, Fault.{Fault, duplicated_args}, Grammar.{IsExpression, expression}, Operands.follows, TokenKinds.is_or}
use Rattle.rnix_grammar.specs.AnnotatedForest.{Token, Note, Stray, Extra, DoubleBind, AnnotatedForest, blank, token, branch, fault, ◌⊕◌, one_token, one_branch}
use Rattle.rnix_grammar.specs.{AnnotatedForest.{one_fault, row_of, tokens_in, extent_of, head_kind}, Tables.is_among, Extensions.is_extension}
use Rattle.rnix_grammar.specs.{Extensions.has_no_extension, Reports.{report, repeated, repeated_if, entry_name, is_same_name, has_entry, repeats}}
use Rattle.rnix_grammar.specs.{Repaired.{repaired, repair, is_ended, ended_count}, BehindErrors.after_error, Reads.{Reads, ReadsRoot, end}}
use Rattle.rnix_grammar.specs.{Reads.{leaf as leaf_node_made, missing_part, wrong, second, inner, IsWrong}, TreeLevels.is_atom_row, Named.AreNamed}
use Rattle.{rnix_grammar.specs.Named.{is_repeated, Lacks}, rnix_proof_lemmas.{specs.{LeafKinds.is_node, Spelled.AreSpelled}, proofs.Basics.true_is_not_false}}
use Rattle.rnix_proof_lemmas.proofs.{SpelledLemmas.{spelled_first, spelled_rest}, EntryNames.{has-⊕, if_not}, AfterErrors.wrong_goes, ViableRows.reads_row}
use Rattle.{rnix_proof_lemmas.proofs.RowKinds.has_row, rnix_proof_soundness.proofs.{RowViews.{entry_text, ends, stands, View, view}, RowForms.are_entries_new}}
use Rattle.rnix_proof_soundness.proofs.{TokenDependentForms.{sound_made, sound_tokens}, SoundRows.{Skips, IsEntry, Tokens, Calls, IsSound, sound_row}}
use Rattle.rnix_grammar.specs.declared.rules.Part.TheVariants as p

-- if no error of two joined lists passes a test, none of the first does
misses_first : (test : Fault → Bool) (ds es : List Fault) → Lacks test (ds ++ es) → Lacks test ds
misses_first test [] es h = tt
misses_first test (d ∷ ds) es h = (h.0, misses_first test ds es h.1)

-- and none of the second
misses_rest : (test : Fault → Bool) (ds es : List Fault) → Lacks test (ds ++ es) → Lacks test es
misses_rest test [] es h = h
misses_rest test (d ∷ ds) es h = misses_rest test ds es h.1

-- the error for a missing part is at the end of the text
abbrev IsEnded : Option (Fault × Row) → Type 0
IsEnded None = Unit {0}
IsEnded (Some w) = is_ended w.0 ≡ true

missing_ended : (q : Row) → IsEnded (missing q)
missing_ended (p.Optional w · r) = missing_ended r
missing_ended q = assumption

-- a list is that of the names of the entries so far
abbrev Tracks : List (List ℕ) → AnnotatedForest → Type 0
Tracks names b = (n : List ℕ) → is_among n names ≡ has_entry n b

turned : (w v : Bool) → (if w then true else v) ≡ (if v then true else w)
turned true true = refl
turned true false = refl
turned false true = refl
turned false false = refl

tracks_same : (names : List (List ℕ)) (b x : AnnotatedForest) → ((n : List ℕ) → has_entry n x ≡ false) → Tracks names b → Tracks names (b ⊕ x)
tracks_same names b x none h n =
    h n ∙ sym (if_not (has_entry n b)) ∙ ap (λ z. if has_entry n b then true else z) (sym (none n)) ∙ sym (has-⊕ n b x)

tracks_entry : (names : List (List ℕ)) (b c : AnnotatedForest) → IsEntry c → Tracks names b
    → Tracks (entry_text (repaired c) ∷ names) (b ⊕ one_branch NODE_PAT_ENTRY c)
tracks_entry names b c y h n =
    let test : bytes_eq n (entry_text (repaired c)) ≡ is_same_name n (entry_name c) = ap (bytes_eq n) y.same ∙ sym (ap (is_same_name n) y.said) in
    ap (λ z. if z then true else is_among n names) test ∙ ap (λ z. if is_same_name n (entry_name c) then true else z) (h n)
    ∙ turned (is_same_name n (entry_name c)) (has_entry n b) ∙ ap (λ z. if has_entry n b then true else z) (sym (if_not (is_same_name n (entry_name c))))
    ∙ sym (has-⊕ n b (one_branch NODE_PAT_ENTRY c))

repaired_entries : (m : Note) (names : List (List ℕ)) (f : Forest) → are_entries_new names f ≡ true → are_entries_new names (repair m f) ≡ true
repaired_entries Stray names f h = h
repaired_entries _ names f h = assumption

-- the name of an entry that is not reported is new
not_repeated : (b c : AnnotatedForest) (y : IsEntry c) → Lacks is_repeated (repeated b c) → has_entry y.name.text b ≡ false
not_repeated b c y h = by (has_entry y.name.text b) (subst (λ z. Lacks is_repeated (repeated_if z b)) y.said h)
  where
    by : (w : Bool) → Lacks is_repeated (if w then duplicated_args (extent_of (y.name ∷ [])) y.name.text ∷ [] else []) → w ≡ false
    by true l = absurd (true_is_not_false l.0)
    by false l = refl

new_entry : (k : SyntaxKind) (names : List (List ℕ)) (b c : AnnotatedForest) (f : Forest) → Tokens k c → Tracks names b → Lacks is_repeated (repeats k b c)
    → ((more : List (List ℕ)) → Tracks more (b ⊕ one_branch k c) → are_entries_new more f ≡ true) → are_entries_new names (node k (repaired c) f) ≡ true
new_entry NODE_PAT_ENTRY names b c f y h l rest =
    let new : is_among (entry_text (repaired c)) names ≡ false = h (entry_text (repaired c)) ∙ ap (λ z. has_entry z b) y.same ∙ not_repeated b c y l in
    ap (λ z. if z then false else are_entries_new (entry_text (repaired c) ∷ names) f) new ∙ rest (entry_text (repaired c) ∷ names) (tracks_entry names b c y h)
new_entry k names b c f y h l rest = rest names (tracks_same names b (one_branch k c) (λ n. refl) h)

-- no entry of a forest has the name of one before it
new_entries : (parent : SyntaxKind) (q : Row) (b f : AnnotatedForest) (names : List (List ℕ)) → Tracks names b → IsSound parent q b f
    → are_entries_new names (repaired f) ≡ true
new_entries i q b blank names h s = refl
new_entries i q b (token k t f) names h s = new_entries i (after q k) (b ⊕ one_token k t) f names (tracks_same names b (one_token k t) (λ n. refl) h) s.1
new_entries i q b (branch k c f) names h s =
    new_entry k names b c (repaired f) s.0.tokens h s.0.new (λ more t. new_entries i (after q k) (b ⊕ one_branch k c) f more t s.1)
new_entries i q b (fault n c f) names h s =
    repaired_entries n names (repaired f) (new_entries i (after_error q n) (b ⊕ one_fault n c) f names (tracks_same names b (one_fault n c) (λ n. refl) h) s.1)

-- an error node that is no operand is where such nodes may be
skips : (note : Note) (d : ℕ) (q r : Row) (ts us : List Token) → IsWrong note d q r ts us → Skips note q
skips Extra d q r ts us w = w.2
skips DoubleBind d q r ts us w = absurd w
skips _ d q r ts us w = tt

-- if what repairs an error node and the trees after it contain no accepted extension, these trees contain none
extensions_behind : (m : Note) (k : SyntaxKind) (f : Forest) → has_no_extension k (repair m f) ≡ true → has_no_extension k f ≡ true
extensions_behind Stray k f h = h
extensions_behind _ k f h = assumption

-- where the argument of a call is the name `or`, the function is an atom
module _ (b : AnnotatedForest) (k : SyntaxKind) (c : AnnotatedForest) (n : ℕ) where
  or_called : (r : Row) (ts : List Token) → IsExpected (p.Argument · r) n ts true → IsFollowed (p.Argument · r) b (head_kind ts) → is_atom_row b ≡ true
  or_called r [] x y = absurd (true_is_not_false (sym x))
  or_called r (t ∷ ts) x y = atom t.kind x y
    where
      atom : (j : SyntaxKind) → is_or j ≡ true → ((is_fn_arg j || is_or j) && follows j b) ≡ true → is_atom_row b ≡ true
      atom TOKEN_OR e f = f
      atom _ e f = absurd (true_is_not_false (sym e))

  called : (q : Row) (ts : List Token) → IsExpected q n ts (is_first_expected q k c) → IsFollowed q b (head_kind ts) → Calls q b (one_branch k c)
  called (p.Argument · r) ts x y = λ o. or_called r ts (subst (λ w. IsExpected (p.Argument · r) n ts w) o x) y
  called _ ts x y = tt

-- a forest that is read is sound
sound : {k : SyntaxKind} {d n : ℕ} {q q' : Row} {b : AnnotatedForest} {us : List Token} {f : AnnotatedForest} {es : List Fault}
    → Reads k d n q q' b us f es → may_end q' ≡ true
    → AreSpelled (tokens_in f) → AreNamed q f → has_no_extension k (repaired f) ≡ true → Lacks is_ended es → Lacks is_repeated es → IsSound k q b f
sound end complete w n o l m = complete
sound (leaf_node_made x y h) complete w n o l m = (record { kind_is = refl; spelled = w.0; followed = y }, sound h complete w.1 n o l m)
sound {q = q} (missing_part {e = e} u v g r h) complete w n o l m = absurd (true_is_not_false (sym (subst IsEnded g (missing_ended q)) ∙ l.0))
sound {k = k} {d = d} {q = q} {b = b} {us = us} (wrong {r = r} {f = f} note ts x y i h) complete w n o l m =
    let goes : after_error q note ≡ r = wrong_goes note d q r ts (tokens_in f ++ us) i in (
      skips note d q r ts (tokens_in f ++ us) i,
      subst (λ q. IsSound k q (b ⊕ one_fault note (row_of ts)) f) (sym goes) (sound h complete (spelled_rest (tokens_in (row_of ts)) (tokens_in f) w)
          (subst (λ q. AreNamed q f) goes n) (extensions_behind note k (repaired f) o) l.1 m.1),
    )
sound {k = k} (second {c = c} {f = f} {ds = ds} {es = es} inside over h) complete w n o l m = (
  refl,
  sound h complete (spelled_rest (tokens_in c) (tokens_in f) w) n o
      (misses_rest is_ended (ds ++ report DoubleBind (tokens_in c) ∷ []) es l) (misses_rest is_repeated (ds ++ report DoubleBind (tokens_in c) ∷ []) es m),
)
sound {k = k₀} {n = n₀} {q = q} {b = b} {us = us} (inner {k = k} {c = c} {f = f} {ds = ds} {es = es} room inside over x y j h) complete w n o l m =
    let extension = and_parts (if is_extension k₀ k (repaired c) then false else true)
    (has_no_extension k (repaired c) && has_no_extension k₀ (repaired f)) o in
    let extensions = and_parts (has_no_extension k (repaired c)) (has_no_extension k₀ (repaired f)) extension.1 in
    let here : Lacks is_repeated (ds ++ repeats k b c) = misses_first is_repeated (ds ++ repeats k b c) es m in
    let s : IsSound k (row k) blank c = sound inside over.0 (spelled_first (tokens_in c) (tokens_in f) w) n.1 extensions.0
    (misses_first is_ended ds (repeats k b c) (misses_first is_ended (ds ++ repeats k b c) es l))
    (misses_first is_repeated ds (repeats k b c) here) in (
      record {
        node = implied has_row is_node refl k (reads_row inside over.0);
        made = sound_made k c s (λ i. new_entries k (row k) blank c [] (λ u. refl) s);
        tokens = sound_tokens k c s;
        next = tokens_in f ++ us;
        operand = j;
        called = called b k c n₀ q (tokens_in c ++ (tokens_in f ++ us)) x y;
        suited = n.0;
        extension = extension.0;
        new = misses_rest is_repeated ds (repeats k b c) here;
      },
      sound h complete (spelled_rest (tokens_in c) (tokens_in f) w) n.2 extensions.1 (misses_rest is_ended (ds ++ repeats k b c) es l)
          (misses_rest is_repeated (ds ++ repeats k b c) es m),
    )

-- a count of no errors at the end means that there are none
none_counted : (es : List Fault) → ended_count es ≡ 0 → Lacks is_ended es
none_counted [] h = tt
none_counted (e ∷ es) h = by (is_ended e) refl h (none_counted es)
  where
    by : (w : Bool) → is_ended e ≡ w → (if w then 1 else 0) + ended_count es ≡ 0 → (ended_count es ≡ 0 → Lacks is_ended es)
        → (is_ended e ≡ false) × Lacks is_ended es
    by true m n more = absurd (omega (arith, n))
    by false m n more = (m, more (omega (arith, n)))

-- the repaired tree of a text is an expression, if no error is at its end or about a repeated name, and no tree is an accepted extension
one_expression : {g : Forest} → View NODE_ROOT (row NODE_ROOT) g → IsExpression g
one_expression (stands a ends) = expression (a refl)

pub converse : (f : AnnotatedForest) (faults : List Fault) → ReadsRoot f faults → AreNamed (row NODE_ROOT) f → AreSpelled (tokens_in f)
    → ended_count faults ≡ 0
    → Lacks is_repeated faults → has_no_extension NODE_ROOT (repaired f) ≡ true → IsExpression (repaired f)
converse f faults h named w e m o = one_expression (view NODE_ROOT (row NODE_ROOT) (repaired f)
    (sound_row NODE_ROOT (row NODE_ROOT) blank f (sound h refl w named o (none_counted faults e) m)))
