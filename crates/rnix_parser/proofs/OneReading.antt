-- Each text has one reading.
use Rattle.std.{proofs.Common.{◌≡◌, ℕ, true, List, [], ◌∷◌, ◌++◌, refl, ap, sym, ◌∙◌, subst, append_assoc}, specs.Prelude.flat_map}
use Rattle.rnix_kinds.specs.{declared.kinds.SyntaxKind.TheVariants.NODE_ROOT, Lexical.{Tokens.{Lexeme, text_of as lexeme_text, AreSound, tokens_of}}}
use Rattle.{rnix_green.specs.{Forest.text_of, Tree.Tree}, rnix_grammar.specs.{Fault.Fault, AnnotatedForest.{Token, AnnotatedForest, blank, token, branch}}}
use Rattle.rnix_grammar.specs.{AnnotatedForest.{fault, forget, tokens_in, without_trivia, placed_from}, Layout.{items, with_all_trivia}, Reads.ReadsRoot}
use Rattle.{rnix_grammar.specs.{Reading.IsReading, Parsed.IsParsed}, rnix_proof_lemmas.specs.{Machine.with_leading, WithoutTrivia.without_trivia_machine}}
use Rattle.rnix_proof_lemmas.{specs.{WithoutTrivia.{without_trivia_frame, without_trivia_frames}, Document.IsRead}, proofs.ReportLemmas.without_trivia_tokens}
use Rattle.rnix_proof_lemmas.proofs.{SpelledLemmas.AreRuled, WithoutTriviaLemmas.{runs_without_trivia, with_leading_without_trivia}}
use Rattle.rnix_proof_rows.proofs.WithAllTrivia.{with_all_trivia_tokens, with_trivia_same, read_with_trivia}
use Rattle.{rnix_proof_existence.proofs.StepsReadRoot.steps_read_root, rnix_proof_uniqueness.proofs.AllReads.one_row, rnix_reader.specs.Placed.texts_in}
use Rattle.{rnix_reader.proofs.{EachText.each_read, TextRemaining.placed_text}, rnix_parser.proofs.ParsedLemmas.all_follows}

-- the items of a reading are those of the tokens
pub reading_items : {ls : List Lexeme} {tree : Tree} {faults : List Fault} (r : IsReading ls tree faults) →
    tokens_in (without_trivia r.annotated) ≡ items (placed_from 0 ls)
reading_items r = without_trivia_tokens r.annotated ∙ ap items r.leaves

-- two readings of some tokens are equal
pub one_reading : (ls : List Lexeme) (t u : Tree) (ds es : List Fault) → IsReading ls t ds → IsReading ls u es → (t ≡ u) × (ds ≡ es)
one_reading ls t u ds es r s =
    let same : (without_trivia r.annotated ≡ without_trivia s.annotated) × (ds ≡ es) = one_row (without_trivia r.annotated) (without_trivia s.annotated) ds es
    r.reads s.reads (reading_items r ∙ sym (reading_items s)) in
    let annotated : r.annotated ≡ s.annotated = with_trivia_same r.annotated s.annotated (placed_from 0 ls) r.placed s.placed same.0 in
    (r.tree_is ∙ ap (λ (f : AnnotatedForest). record { kind = NODE_ROOT; children = forget f }) annotated ∙ sym u_is, same.1)
  where
    u_is : u ≡ record { kind = NODE_ROOT; children = forget s.annotated }
    u_is = s.tree_is

texts-++ : (ts us : List Token) → texts_in (ts ++ us) ≡ texts_in ts ++ texts_in us
texts-++ [] us = refl
texts-++ (t ∷ ts) us = ap (λ z. t.text ++ z) (texts-++ ts us) ∙ sym (append_assoc t.text (texts_in ts) (texts_in us))

-- the text of an annotated tree is that of its tokens
annotated_text : (f : AnnotatedForest) → text_of (forget f) ≡ texts_in (tokens_in f)
annotated_text blank = refl
annotated_text (token k t f) = ap (λ z. t.text ++ z) (annotated_text f)
annotated_text (branch k c f) =
    ap (λ z. z ++ text_of (forget f)) (annotated_text c) ∙ ap (λ z. texts_in (tokens_in c) ++ z) (annotated_text f) ∙ sym (texts-++ (tokens_in c) (tokens_in f))
annotated_text (fault n c f) =
    ap (λ z. z ++ text_of (forget f)) (annotated_text c) ∙ ap (λ z. texts_in (tokens_in c) ++ z) (annotated_text f) ∙ sym (texts-++ (tokens_in c) (tokens_in f))

-- the text of a reading is that of its tokens
pub reading_text : (ls : List Lexeme) (tree : Tree) (faults : List Fault) → IsReading ls tree faults → text_of tree.children ≡ flat_map lexeme_text ls
reading_text ls tree faults r =
    ap (λ (t : Tree). text_of t.children) r.tree_is ∙ annotated_text r.annotated ∙ ap texts_in r.leaves ∙ placed_text 0 ls

-- two texts that are read as the same tree are equal, and have the same errors
pub one_text : (s t : List ℕ) (tree : Tree) (ds es : List Fault) → AreSound s (tokens_of s) → AreSound t (tokens_of t) → IsReading (tokens_of s) tree ds →
    IsReading (tokens_of t) tree es
    → (s ≡ t) × (ds ≡ es)
one_text s t tree ds es x y r q =
    let same : s ≡ t = sym x.joined ∙ sym (reading_text (tokens_of s) tree ds r) ∙ reading_text (tokens_of t) tree es q ∙ y.joined in
    (same, (one_reading (tokens_of s) tree tree ds es r (subst (λ (z : List ℕ). IsReading (tokens_of z) tree es) (sym same) q)).1)

-- the result of the steps is a reading
read_reading : (ls : List Lexeme) (tree : Tree) (faults : List Fault) → IsRead ls tree faults → IsReading ls tree faults
read_reading ls tree faults r =
    let ts : List Token = placed_from 0 ls in
    let g : AnnotatedForest = with_leading true r.root.children r.last.remaining in
    let bare : without_trivia g ≡ without_trivia r.root.children = with_leading_without_trivia r.root.children r.last.remaining in
    let read : (items ts ≡ tokens_in (without_trivia r.root.children)) × ReadsRoot (without_trivia r.root.children) r.last.faults =
    steps_read_root (items ts) (without_trivia_machine r.last) (without_trivia_frame r.root) (runs_without_trivia r.runs) (ap without_trivia_frames r.alone)
    r.head r.position r.nothing in
    let placed : g ≡ with_all_trivia (without_trivia g) ts = read_with_trivia ls tree faults r in
    record {
      annotated = g;
      tree_is = r.tree_is;
      leaves = ap tokens_in placed ∙ with_all_trivia_tokens (without_trivia g) ts (read.0 ∙ ap tokens_in (sym bare));
      placed = placed;
      reads = subst (λ (f : AnnotatedForest). ReadsRoot f faults) (sym bare) (subst (ReadsRoot (without_trivia r.root.children)) (sym r.faults_are) read.1);
    }

-- the tokens of a text have a reading
pub has_reading : (ls : List Lexeme) → (tree : Tree) × ((faults : List Fault) × IsReading ls tree faults)
has_reading ls = let r = each_read ls in (r.0, (r.1.0, read_reading ls r.0 r.1.0 r.1.1))

-- everything that is promised holds of the result of the steps
pub read_parsed : (ls : List Lexeme) (tree : Tree) (faults : List Fault) → IsRead ls tree faults → AreRuled ls → IsParsed ls tree faults
read_parsed ls tree faults r ruled = all_follows ls tree faults ruled (read_reading ls tree faults r)
