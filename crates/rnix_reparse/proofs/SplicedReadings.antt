-- The tree with the new node in place of the old one is the reading of the edited text.
use Rattle.std.proofs.Common.{◌≡◌, ℕ, suc, ◌+◌, ◌-◌, ◌≤◌, ◌<◌, max, List, [], ◌++◌, length, take, drop, refl, ap, sym, ◌∙◌, subst, arith, append_assoc, length-append}
use Rattle.std.specs.Str.{IsUtf8}
use Rattle.std.proofs.lemmas.Str.{IsUtf8-append}
use Rattle.std.proofs.lemmas.List.{drop_at, take_at}
use Rattle.rnix_kinds.specs.declared.kinds.SyntaxKind.{SyntaxKind}
use Rattle.rnix_kinds.specs.declared.kinds.SyntaxKind.TheVariants.{NODE_ROOT}
use Rattle.rnix_kinds.specs.Lexical.Tokens.{Lexeme, tokens_of}
use Rattle.rnix_kinds.proofs.LexicalLemmas.Laws.{AreSound-tokens_under}
use Rattle.rnix_green.specs.Forest.{empty, node, text_of}
use Rattle.rnix_green.specs.Tree.{Tree, item, forest_of, text_at}
use Rattle.rnix_green.specs.Context.{Context, inside, text_before, text_after, elements_before}
use Rattle.rnix_green.specs.Splice.{IsSpliced}
use Rattle.rnix_green.proofs.ContextLemmas.{shown, text_filled}
use Rattle.rnix_grammar.specs.Fault.{Fault}
use Rattle.rnix_grammar.specs.Nest.{nest}
use Rattle.rnix_grammar.specs.Parsed.{IsParsed}
use Rattle.rnix_grammar.specs.Reading.{IsReading}
use Rattle.rnix_grammar.specs.Tables.{depth_limit}
use Rattle.rnix_parser.specs.Significant.{significant}
use Rattle.rnix_parser.proofs.OneReading.{has_reading}
use Rattle.rnix_parser.proofs.ParsedLemmas.{all_follows}
use Rattle.rnix_proof_reparse.specs.LevelsAround.{levels_around}
use Rattle.rnix_proof_reparse.specs.Reparsed.{rooted, IsEdited}
use Rattle.rnix_proof_reparse.proofs.ReparsedTexts.{reparsed}
use Rattle.rnix_reparse.specs.OwnBrackets.{HasSameBrackets}
use Rattle.rnix_reparse.specs.TreeHeight.{AreAround, height, FitsAt}
use Rattle.rnix_reparse.proofs.NodesAround.{nodes_around, counted_around}
use Rattle.rnix_reparse.proofs.EditedTexts.{characters_apart}
use Rattle.rnix_reparse.proofs.Heights.{nest_within, few_levels}
use Rattle.rnix_reparse.proofs.Sites.{IsSite, site, IsNewNode, new_node, enclosed, spliced_tree}
use Rattle.rnix_reparse.proofs.SameBraces.{same_insides}

-- the root of a reading is a NODE_ROOT
pub root_kind : (ls : List Lexeme) (t : Tree) (es : List Fault) → IsReading ls t es → t.kind ≡ NODE_ROOT
root_kind ls t es r = ap (λ (z : Tree). z.kind) r.tree_is

-- the text is the text before the node, the node's, and the text after it
record IsCutAt (t : Tree) (n : ℕ) (before old after : List ℕ) : Type 0 where
  text : text_of (forest_of t) ≡ before ++ (old ++ after)
  start : (item t n).start ≡ length before
  end : (item t n).end ≡ length before + length old

cut_at_site : (t : Tree) (n : ℕ) (s : IsSite t n) → IsCutAt t n (text_before s.place) (text_of (enclosed t n s.inner)) (text_after s.place ++ [])
cut_at_site t n s =
    let place : Context = inside NODE_ROOT s.place empty in
    let h = shown t n place (item t n).kind (enclosed t n s.inner) s.whole s.number in
    record {
      text = ap text_of s.whole ∙ text_filled place (item t n).kind (enclosed t n s.inner);
      start = h.start;
      end = h.end;
    }

-- the new node nests within the limit there
shallow : (t u : Tree) (n : ℕ) (s : IsSite t n) (m : IsNewNode t n u) → FitsAt t n u
    → levels_around NODE_ROOT (item t n).kind s.place + nest (item t n).kind (significant (enclosed t n m.edited)) ≤ depth_limit
shallow t u n s m h =
    let place : Context = inside NODE_ROOT s.place empty in
    let around : AreAround t (item t (elements_before place)).parent h.depth =
    subst (λ i. AreAround t (item t i).parent h.depth) (sym s.number) h.around in
    let depth : h.depth ≡ suc (nodes_around s.place) = counted_around t place (item t n).kind (enclosed t n s.inner) h.depth s.whole around in
    let tall : height (forest_of u) ≡ max (suc (max (suc (height (enclosed t n m.edited))) 0)) 0 =
    ap (λ f. height (node u.kind f empty)) m.is in
    let nested = nest_within (item t n).kind (enclosed t n m.edited) in
    let levels = few_levels NODE_ROOT (item t n).kind s.place in
    let within : h.depth + height (forest_of u) ≤ depth_limit = h.within in
    room _ _ _ _ _ _ depth tall nested levels within
  where
    room : (levels depth nested inner tall limit : ℕ) {around : ℕ} → depth ≡ suc around → tall ≡ max (suc (max (suc inner) 0)) 0 → nested ≤ inner
        → levels ≤ suc around → depth + tall ≤ limit → levels + nested ≤ limit
    room levels depth nested inner tall limit e f g h i = omega (arith, e, f, g, h, i)

-- the reading of the edited text is the tree with the new node
reads_spliced : (t u v : Tree) (n : ℕ) (before old after new : List ℕ) (s : IsSite t n) (m : IsNewNode t n u) → HasSameBrackets t n u → FitsAt t n u
    → text_before s.place ≡ before → text_of (enclosed t n s.inner) ≡ old
    → IsReading (tokens_of (before ++ (old ++ after))) t [] → IsReading (tokens_of new) u [] → IsSpliced t n u v
    → IsUtf8 before → IsUtf8 old → IsUtf8 after → IsUtf8 new
    → IsReading (tokens_of (before ++ (new ++ after))) v []
reads_spliced t u v n before old after new s m h fits start extent reading alone spliced ub uo ua un =
    let k : SyntaxKind = (item t n).kind in
    let l : SyntaxKind = (item t (n + 1)).kind in
    let r : SyntaxKind = (item t (n + (item t n).below)).kind in
    let a : List ℕ = text_at record { tree = t; number = n + 1 } in
    let b : List ℕ = text_at record { tree = t; number = n + (item t n).below } in
    let law = reparsed before old after new ub uo ua un in
    let root : u ≡ rooted (node k (enclosed t n m.edited) empty) =
    λ i. record { kind = root_kind (tokens_of new) u [] alone i; children = m.is i } in
    let edited : IsEdited before old after new s.place k l r a b s.inner m.edited = record {
      brackets = h.old.brackets;
      same_brace = same_insides t n u s m h;
      start = start;
      extent = extent;
      reading = subst (λ z. IsReading (tokens_of (before ++ (old ++ after))) z []) s.is reading;
      alone = subst (λ z. IsReading (tokens_of new) z []) root alone;
      shallow = shallow t u n s m fits;
    } in
    let read = has_reading (tokens_of (before ++ (new ++ after))) in
    let same = law s.place k l r a b s.inner m.edited edited read.0 read.1.0 read.1.1 in
    let tree : read.0 ≡ v = same.0 ∙ sym (spliced_tree t u v n s m spliced) in
    subst (λ z. IsReading (tokens_of (before ++ (new ++ after))) z []) tree
    (subst (λ z. IsReading (tokens_of (before ++ (new ++ after))) read.0 z) same.1 read.1.1)

-- everything that is promised of the edited text's parse holds of the tree with the new node
pub parsed_spliced : (t u v : Tree) (n : ℕ) (text old new : List ℕ) → text ≡ text_of (forest_of t)
    → old ≡ take ((item t n).end - (item t n).start) (drop (item t n).start text)
    → IsUtf8 text → IsUtf8 old → IsUtf8 new → 0 < length old
    → IsReading (tokens_of text) t [] → IsReading (tokens_of new) u [] → HasSameBrackets t n u → FitsAt t n u → IsSpliced t n u v
    → IsParsed (tokens_of (take (item t n).start text ++ (new ++ drop (item t n).end text))) v []
parsed_spliced t u v n text old new text_is old_is ut uo un some reading alone h fits spliced =
    let s = site t n (root_kind (tokens_of text) t [] reading) h.old in
    let before = text_before s.place in
    let own = text_of (enclosed t n s.inner) in
    let after = text_after s.place ++ [] in
    let cut = cut_at_site t n s in
    let whole : text ≡ before ++ (own ++ after) = text_is ∙ cut.text in
    let front : take (item t n).start text ≡ before =
    ap (take (item t n).start) whole ∙ take_at before (own ++ after) (item t n).start (sym cut.start) in
    let rest : drop (item t n).start text ≡ own ++ after =
    ap (drop (item t n).start) whole ∙ drop_at before (own ++ after) (item t n).start (sym cut.start) in
    let size : length own ≡ (item t n).end - (item t n).start = omega (arith, cut.start, cut.end) in
    let same : old ≡ own = old_is ∙ ap (take ((item t n).end - (item t n).start)) rest ∙ take_at own after ((item t n).end - (item t n).start) size in
    let back : drop (item t n).end text ≡ after =
    ap (drop (item t n).end) (whole ∙ sym (append_assoc before own after))
    ∙ drop_at (before ++ own) after (item t n).end (omega (arith, cut.end, length-append before own)) in
    let apart = characters_apart before own after (subst IsUtf8 whole ut) (subst IsUtf8 same uo) (subst (λ z. 0 < length z) same some) in
    let read = reads_spliced t u v n before own after new s (new_node t n u h) h fits refl refl
    (subst (λ z. IsReading (tokens_of z) t []) whole reading) alone spliced apart.before (subst IsUtf8 same uo) apart.after un in
    let characters : IsUtf8 (before ++ (new ++ after)) = IsUtf8-append before (new ++ after) apart.before (IsUtf8-append new after un apart.after) in
    let edited : before ++ (new ++ after) ≡ take (item t n).start text ++ (new ++ drop (item t n).end text) =
    λ i. sym front i ++ (new ++ sym back i) in
    subst (λ z. IsParsed (tokens_of z) v []) edited
    (all_follows (tokens_of (before ++ (new ++ after))) v [] (AreSound-tokens_under [] (before ++ (new ++ after)) characters).named read)
