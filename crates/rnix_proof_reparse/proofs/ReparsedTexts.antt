-- If a bracketed node of a text is replaced by another that is read alone without errors, the new text has the old tree with the new node in it.
use Rattle.std.proofs.Common.{◌≡◌, ℕ, ◌+◌, ◌≤◌, List, [], ◌∷◌, ◌++◌, map, true, None, refl, ap, sym, ◌∙◌, subst, append-nil, arith, inl, inr, IsUtf8}
use Rattle.std.proofs.lemmas.Str.{IsUtf8-append}
use Rattle.rnix_kinds.specs.declared.kinds.SyntaxKind.{SyntaxKind}
use Rattle.rnix_kinds.specs.declared.kinds.SyntaxKind.TheVariants.{NODE_ROOT}
use Rattle.rnix_kinds.specs.SyntaxKind.{is_trivia}
use Rattle.rnix_kinds.specs.Lexical.Tokens.{Lexeme, tokens_of}
use Rattle.rnix_kinds.proofs.LexicalLemmas.Laws.{AreSound-tokens_under}
use Rattle.rnix_green.specs.Forest.{Forest, empty, node, text_of}
use Rattle.rnix_green.specs.Context.{Context, filled, text_before}
use Rattle.rnix_grammar.specs.AnnotatedForest.{Token, lexeme_of, AnnotatedForest, blank, branch, tokens_in, forget, without_trivia, placed_from, HaveLeafKinds}
use Rattle.rnix_grammar.specs.Layout.{items}
use Rattle.rnix_grammar.specs.Nest.{nest}
use Rattle.rnix_grammar.specs.Nesting.{depth_of}
use Rattle.rnix_grammar.specs.Reads.{ReadsRoot}
use Rattle.rnix_grammar.specs.Rules.{row}
use Rattle.rnix_grammar.specs.Tables.{depth_limit}
use Rattle.rnix_proof_lemmas.proofs.ReachableRows.{known_row}
use Rattle.rnix_proof_lemmas.proofs.ViableRows.{end_viable}
use Rattle.rnix_proof_layout.specs.AlikeItems.{AreAlike}
use Rattle.rnix_proof_replacement.specs.Replaced.{texts}
use Rattle.rnix_proof_replacement.proofs.ReplacedTokens.{may_replace}
use Rattle.rnix_parser.specs.Significant.{significant}
use Rattle.rnix_proof_reparse.specs.Bracketed.{IsBracketed, precedes_brace, HaveSameBrace}
use Rattle.rnix_proof_reparse.specs.LevelsAround.{levels_around, between}
use Rattle.rnix_proof_reparse.specs.Reparsed.{IsReparsed}
use Rattle.rnix_proof_reparse.proofs.CarriedReadings.{ending}
use Rattle.rnix_proof_reparse.proofs.ReplacedReadings.{levels, replaces}
use Rattle.rnix_proof_reparse.proofs.BracketedNodes.{starting, bracketed}
use Rattle.rnix_proof_reparse.proofs.PlacedAgain.{HaveItemEdges}
use Rattle.rnix_proof_reparse.proofs.SwappedEdges.{edges_swapped}
use Rattle.rnix_proof_reparse.proofs.FoundNodes.{tokens_text, text_forest, IsPut, IsFound, find}
use Rattle.rnix_proof_reparse.proofs.ShiftedItems.{ArePlaced, are_placed, placed_parts, node_alike}
use Rattle.rnix_proof_reparse.proofs.CountedDepths.{depth_bounded}
use Rattle.rnix_proof_reparse.proofs.BareNodes.{bare_swapped, bare_levels, bracket_kinds, kind_alone, bare_bracketed}
use Rattle.rnix_proof_reparse.proofs.BareNodes.{bare_forest, IsBetween, between_parts, IsOneNode, one_node}
use Rattle.rnix_proof_reparse.proofs.NodeReadings.{IsNodeAt, node_at, IsAlone, alone, begins_alone}
use Rattle.rnix_proof_reparse.proofs.CleanTrees.{IsCleanTree, clean_tree}
use Rattle.rnix_proof_reparse.proofs.ReparsedTokens.{lexemes_placed, lexeme_same, texts_lexemes, HasNode, four_lexemes, new_lexemes}
use Rattle.rnix_proof_reparse.proofs.KeywordNodes.{HaveBraces, have_braces, keyword_lexemes}
use Rattle.rnix_proof_reparse.proofs.NodeBrackets.{beginning, own_brackets, keyword_brackets}
use Rattle.rnix_proof_reparse.proofs.ReparsedTrees.{bracket_tokens, edges_first, HaveEndKinds, end_kinds, moved, moved_kinds, moved_edges, moved_stands}
use Rattle.rnix_proof_reparse.proofs.ReparsedTrees.{moved_forest, read_as_trees}
use Rattle.rnix_proof_reparse.proofs.ColonlessItems.{colonless_after}
use Rattle.rnix_proof_reparse.proofs.SetBeginnings.{begins_itself}

-- the old text: its tokens, and the node in its tree
record IsSite (place : Context) (k l r : SyntaxKind) (s v : List ℕ) (inside : Forest) (ls : List Lexeme) (a : AnnotatedForest) : Type 0 where
  opening : Token
  closing : Token
  inner : AnnotatedForest
  first : List Token
  last : List Token
  texts : (opening.text ≡ s) × (closing.text ≡ v)
  forest : forget (bracketed l opening inner r closing) ≡ between l s inside r v
  tokens : placed_from 0 ls ≡ first ++ (opening ∷ (tokens_in inner ++ (closing ∷ last)))
  before : tokens_text first ≡ text_before place
  kinds : HaveEndKinds k l r opening closing inner
  trees : forget inner ≡ inside
  put : (e : AnnotatedForest) → IsPut place NODE_ROOT k a (bracketed l opening inner r closing) e first last

site : {k l r : SyntaxKind} (w : IsBracketed k l r) (place : Context) (s v : List ℕ) (d : Forest) (ls : List Lexeme)
    (o : IsCleanTree ls (filled place k (between l s d r v))) → IsSite place k l r s v d ls o.annotated
site {k} {l} {r} w place s v d ls o =
    let a : AnnotatedForest = o.annotated in
    let f : IsFound place NODE_ROOT k a (between l s d r v) = find place NODE_ROOT k a (between l s d r v) o.forest o.kinds o.edges in
    let b : IsBetween l s d r v f.children = between_parts l s d r v f.children f.forest f.edges in
    record {
      opening = b.opening;
      closing = b.closing;
      inner = b.inner;
      first = f.first;
      last = f.last;
      texts = (b.first, b.last);
      forest = ap forget (sym b.is) ∙ f.forest;
      tokens = sym o.tokens ∙ f.tokens ∙ ap (λ z. f.first ++ (tokens_in z ++ f.last)) b.is
          ∙ ap (λ z. f.first ++ z) (bracket_tokens l b.opening b.inner r b.closing f.last);
      before = f.before;
      kinds = end_kinds w b.opening b.closing b.inner (subst (HaveLeafKinds k) b.is f.kinds);
      trees = b.forest;
      put = λ e. subst (λ z. IsPut place NODE_ROOT k a z e f.first f.last) b.is (f.put e);
    }

-- the new node alone: its tokens, and its reading
record IsNew (k l r : SyntaxKind) (s v : List ℕ) (d : Forest) (ls : List Lexeme) : Type 0 where
  opening : Token
  closing : Token
  inner : AnnotatedForest
  texts : (opening.text ≡ s) × (closing.text ≡ v)
  forest : forget inner ≡ d
  tokens : placed_from 0 ls ≡ opening ∷ (tokens_in inner ++ (closing ∷ []))
  kinds : HaveEndKinds k l r opening closing inner
  edges : HaveItemEdges inner
  bare : forget (bracketed l opening (without_trivia inner) r closing) ≡ significant (between l s d r v)
  reads : ReadsRoot (branch k (bracketed l opening (without_trivia inner) r closing) blank) []

new_node : {k l r : SyntaxKind} (w : IsBracketed k l r) (s v : List ℕ) (d : Forest) (ls : List Lexeme)
    → IsCleanTree ls (node k (between l s d r v) empty) → IsNew k l r s v d ls
new_node {k} {l} {r} w s v d ls o =
    let one : IsOneNode k (between l s d r v) o.annotated = one_node k (between l s d r v) o.annotated o.forest o.edges in
    let edges : HaveItemEdges (branch k one.children blank) = subst HaveItemEdges one.is o.edges in
    let kinds : HaveLeafKinds NODE_ROOT (branch k one.children blank) = subst (HaveLeafKinds NODE_ROOT) one.is o.kinds in
    let b : IsBetween l s d r v one.children = between_parts l s d r v one.children one.forest edges.2 in
    let ends : HaveEndKinds k l r b.opening b.closing b.inner = end_kinds w b.opening b.closing b.inner (subst (HaveLeafKinds k) b.is kinds.0) in
    let plain : without_trivia (bracketed l b.opening b.inner r b.closing) ≡ bracketed l b.opening (without_trivia b.inner) r b.closing =
    bare_bracketed l r b.opening b.closing b.inner (ap is_trivia ends.opening ∙ (bracket_kinds w).0) (ap is_trivia ends.closing ∙ (bracket_kinds w).1) in
    record {
      opening = b.opening;
      closing = b.closing;
      inner = b.inner;
      texts = (b.first, b.last);
      forest = b.forest;
      tokens = sym o.tokens ∙ ap tokens_in (one.is ∙ ap (λ z. branch k z blank) b.is) ∙ bracket_tokens l b.opening b.inner r b.closing [];
      kinds = ends;
      edges = edges_first b.inner r b.closing (subst HaveItemEdges b.is edges.2);
      bare = ap forget (sym (ap without_trivia b.is ∙ plain)) ∙ sym (bare_forest k one.children kinds.0) ∙ ap significant one.forest;
      reads = subst (λ z. ReadsRoot (branch k z blank) []) plain
          (subst (λ z. ReadsRoot (without_trivia z) []) (one.is ∙ ap (λ z. branch k z blank) b.is) o.reads);
    }

-- how deep the new node nests
new_depth : {k l r : SyntaxKind} {s v : List ℕ} {d : Forest} {ls : List Lexeme} (n : IsNew k l r s v d ls)
    → depth_of (row k) (bracketed l n.opening (without_trivia n.inner) r n.closing) ≤ nest k (significant (between l s d r v))
new_depth {k} {l} {r} n =
    let one = alone n.reads refl in
    subst (λ z. depth_of (row k) (bracketed l n.opening (without_trivia n.inner) r n.closing) ≤ nest k z) n.bare
    (depth_bounded one.reads refl (known_row k) (end_viable one.rest one.ended))

-- the new node replaces the old one
module _ {k l r : SyntaxKind} (w : IsBracketed k l r) {place : Context} {s v : List ℕ} {d e : Forest} {ls ms : List Lexeme}
    (o : IsCleanTree ls (filled place k (between l s d r v))) (m : IsSite place k l r s v d ls o.annotated) (n : IsNew k l r s v e ms) where
  abbrev there : AnnotatedForest
  there = moved w m.opening m.closing n.opening n.closing m.inner n.inner m.kinds n.kinds

  put : IsPut place NODE_ROOT k o.annotated (bracketed l m.opening m.inner r m.closing) there m.first m.last
  put = m.put there

  old_node : IsNodeAt k (bracketed l m.opening (without_trivia m.inner) r m.closing)
  old_node = subst (IsNodeAt k)
      (bare_bracketed l r m.opening m.closing m.inner (ap is_trivia m.kinds.opening ∙ (bracket_kinds w).0) (ap is_trivia m.kinds.closing ∙ (bracket_kinds w).1))
      (node_at o.reads refl (bare_swapped put.swapped))

  new_reads : levels_around NODE_ROOT k place + nest k (significant (between l s e r v)) ≤ depth_limit → ReadsRoot (without_trivia put.trees) []
  new_reads shallow =
      let one = alone n.reads refl in
      let same : levels NODE_ROOT (bare_swapped put.swapped) ≡ levels_around NODE_ROOT k place = bare_levels NODE_ROOT put.swapped ∙ put.levels in
      let deep : depth_of (row k) (bracketed l n.opening (without_trivia n.inner) r n.closing) ≤ nest k (significant (between l s e r v)) = new_depth n in
      replaces w
      (moved_stands w m.opening m.closing n.opening n.closing m.inner n.inner m.kinds n.kinds
      (begins_itself w m.opening m.closing (without_trivia m.inner) old_node.reads old_node.ended m.kinds.opening)
      (begins_alone w n.opening n.closing (without_trivia n.inner) one) one) o.reads refl (known_row NODE_ROOT) refl (omega arith)
      (bare_swapped put.swapped) (colonless_after w o.reads refl (known_row NODE_ROOT) refl (λ ended. refl) (bare_swapped put.swapped))
      (omega (arith, same, deep, shallow))

  put_tokens : tokens_in put.trees ≡ m.first ++ (starting n.opening m.opening.start ∷ (tokens_in n.inner ++ (ending n.closing m.closing.end ∷ m.last)))
  put_tokens = put.tokens
      ∙ ap (λ z. m.first ++ z) (bracket_tokens l (starting n.opening m.opening.start) n.inner r (ending n.closing m.closing.end) m.last)

  put_alike : (ts : List Token) → ArePlaced 0 ts → map lexeme_of ts
      ≡ map lexeme_of m.first ++ (lexeme_of n.opening ∷ (map lexeme_of (tokens_in n.inner) ++ (lexeme_of n.closing ∷ map lexeme_of m.last)))
      → AreAlike None 0 0 (items (tokens_in put.trees)) (items ts)
  put_alike ts placed same =
      let old = placed_parts 0 m.first (m.opening ∷ (tokens_in m.inner ++ (m.closing ∷ m.last))) (subst (ArePlaced 0) m.tokens (are_placed 0 ls)) in
      let behind = placed_parts m.opening.end (tokens_in m.inner) (m.closing ∷ m.last) old.1.2 in
      let new : ArePlaced 0 (n.opening ∷ (tokens_in n.inner ++ (n.closing ∷ []))) = subst (ArePlaced 0) n.tokens (are_placed 0 ms) in
      let inner = placed_parts n.opening.end (tokens_in n.inner) (n.closing ∷ []) new.2 in
      subst (λ z. AreAlike None 0 0 (items z) (items ts)) (sym put_tokens)
      (node_alike w m.first (tokens_in n.inner) m.last (starting n.opening m.opening.start) (ending n.closing m.closing.end) n.kinds.opening n.kinds.closing
      old.0 inner.0 behind.1.2 ts placed same)

-- the tokens of the old text, before, in and after the node
old_tokens : {k l r : SyntaxKind} {place : Context} {s v : List ℕ} {d : Forest} (before old after : List ℕ)
    (o : IsCleanTree (tokens_of (before ++ (old ++ after))) (filled place k (between l s d r v)))
    (m : IsSite place k l r s v d (tokens_of (before ++ (old ++ after))) o.annotated) → text_before place ≡ before → text_of (between l s d r v) ≡ old
    → HasNode before old after m.opening m.closing (tokens_in m.inner) m.first m.last
old_tokens {l = l} {r = r} before old after o m start extent = record {
  whole = m.tokens;
  place = m.before ∙ start;
  extent = ap tokens_text (sym (bracket_tokens l m.opening m.inner r m.closing []) ∙ append-nil (tokens_in (bracketed l m.opening m.inner r m.closing)))
      ∙ sym (text_forest (bracketed l m.opening m.inner r m.closing)) ∙ ap text_of m.forest ∙ extent;
}

-- the tokens of the new node alone
new_tokens : {k l r : SyntaxKind} {s v : List ℕ} {e : Forest} (new : List ℕ) (n : IsNew k l r s v e (tokens_of new)) → texts (tokens_of new) ≡ new
    → HasNode [] new [] n.opening n.closing (tokens_in n.inner) [] []
new_tokens new n joined = record {
  whole = ap (λ z. placed_from 0 (tokens_of z)) (append-nil new) ∙ n.tokens;
  place = refl;
  extent = ap tokens_text (sym n.tokens) ∙ sym (texts_lexemes (placed_from 0 (tokens_of new))) ∙ ap texts (lexemes_placed 0 (tokens_of new)) ∙ joined;
}

node_alone : {k : SyntaxKind} {x : AnnotatedForest} → IsAlone k x → IsNodeAt k x
node_alone a = record { depth = a.depth; prev = 0; rest = a.rest; next = []; reads = a.reads; ended = a.ended }

-- the tokens of the new text
edited_tokens : {k l r : SyntaxKind} (w : IsBracketed k l r) {place : Context} {s v : List ℕ} {d e : Forest} (before old after new : List ℕ)
    (o : IsCleanTree (tokens_of (before ++ (old ++ after))) (filled place k (between l s d r v)))
    (m : IsSite place k l r s v d (tokens_of (before ++ (old ++ after))) o.annotated) (n : IsNew k l r s v e (tokens_of new))
    → (precedes_brace l ≡ true → HaveSameBrace d e) → text_before place ≡ before → text_of (between l s d r v) ≡ old → IsUtf8 (before ++ (old ++ after))
    → IsUtf8 new → texts (tokens_of new) ≡ new
    → tokens_of (before ++ (new ++ after))
    ≡ map lexeme_of m.first ++ (lexeme_of n.opening ∷ (map lexeme_of (tokens_in n.inner) ++ (lexeme_of n.closing ∷ map lexeme_of m.last)))
edited_tokens {k} {l} {r} w {d = d} {e = e} before old after new o m n same_brace place extent old_utf8 new_utf8 joined =
    let was : HasNode before old after m.opening m.closing (tokens_in m.inner) m.first m.last = old_tokens before old after o m place extent in
    let now : HasNode [] new [] n.opening n.closing (tokens_in n.inner) [] [] = new_tokens new n joined in
    let there : IsNodeAt k (bracketed l m.opening (without_trivia m.inner) r m.closing) = old_node w o m n in
    let here : IsNodeAt k (bracketed l n.opening (without_trivia n.inner) r n.closing) = node_alone (alone n.reads refl) in
    let start : lexeme_of m.opening ≡ lexeme_of n.opening =
    lexeme_same m.opening n.opening (m.kinds.opening ∙ sym n.kinds.opening) (m.texts.0 ∙ sym n.texts.0) in
    let stop : lexeme_of m.closing ≡ lexeme_of n.closing =
    lexeme_same m.closing n.closing (m.kinds.closing ∙ sym n.kinds.closing) (m.texts.1 ∙ sym n.texts.1) in
    elim (beginning w d e same_brace) [
      | inl i ↦ new_lexemes (may_replace before old after [] new [] old_utf8 (subst IsUtf8 (sym (append-nil new)) new_utf8)) was
          (own_brackets w i m.opening m.closing m.inner m.kinds there) now (own_brackets w i n.opening n.closing n.inner n.kinds here) start stop
      | inr i ↦
          let b : HaveBraces m.inner n.inner =
          have_braces k (kind_alone w) i.same m.inner n.inner m.trees n.forest m.kinds.inner n.kinds.inner in
          keyword_lexemes was now b start stop (keyword_brackets w i m.opening m.closing m.inner b.old m.kinds there)
          (keyword_brackets w i n.opening n.closing n.inner b.new n.kinds here) old_utf8 new_utf8
    ]

-- the law `reparsing`
pub reparsed : (before old after new : List ℕ) → IsUtf8 before → IsUtf8 old → IsUtf8 after → IsUtf8 new → IsReparsed before old after new
reparsed before old after new before_utf8 old_utf8 after_utf8 new_utf8 place k l r s v d e h tree faults reading =
    let w = h.brackets in
    let ls : List Lexeme = tokens_of (before ++ (old ++ after)) in
    let ms : List Lexeme = tokens_of (before ++ (new ++ after)) in
    let o : IsCleanTree ls (filled place k (between l s d r v)) = clean_tree ls (filled place k (between l s d r v)) h.reading in
    let m : IsSite place k l r s v d ls o.annotated = site w place s v d ls o in
    let n : IsNew k l r s v e (tokens_of new) =
    new_node w s v e (tokens_of new) (clean_tree (tokens_of new) (node k (between l s e r v) empty) h.alone) in
    let p = put w o m n in
    let lexemes : ms ≡ map lexeme_of m.first ++ (lexeme_of n.opening ∷ (map lexeme_of (tokens_in n.inner) ++ (lexeme_of n.closing ∷ map lexeme_of m.last))) =
    edited_tokens w before old after new o m n h.same_brace h.start h.extent
    (IsUtf8-append before (old ++ after) before_utf8 (IsUtf8-append old after old_utf8 after_utf8)) new_utf8 (AreSound-tokens_under [] new new_utf8).joined in
    let same : map lexeme_of (tokens_in p.trees) ≡ ms =
    ap (map lexeme_of) (put_tokens w o m n)
    ∙ four_lexemes m.first (tokens_in n.inner) m.last (starting n.opening m.opening.start) (ending n.closing m.closing.end) ∙ sym lexemes in
    let read = read_as_trees p.trees (new_reads w o m n h.shallow)
    (p.kinds (moved_kinds w m.opening m.closing n.opening n.closing m.inner n.inner m.kinds n.kinds))
    (edges_swapped (moved_edges w m.opening m.closing n.opening n.closing m.inner n.inner m.kinds n.kinds n.edges) p.swapped o.edges) ms same
    (put_alike w o m n (placed_from 0 ms) (are_placed 0 ms) (lexemes_placed 0 ms ∙ lexemes)) tree faults reading in
    let forest : forget p.trees ≡ filled place k (between l s e r v) = p.forest
    ∙ ap (filled place k) (moved_forest w m.opening m.closing n.opening n.closing m.inner n.inner m.kinds n.kinds s e v n.texts.0 n.forest n.texts.1) in
    (read.0 ∙ ap (λ (z : Forest). record { kind = NODE_ROOT; children = z }) forest, read.1)
