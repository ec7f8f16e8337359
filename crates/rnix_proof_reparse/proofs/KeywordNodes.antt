-- Nodes that begin with `rec` or `let` before their opening brace, and the tokens of a text in which such a node was replaced.
use Rattle.std.proofs.Common.{◌≡◌, ℕ, true, List, [], ◌∷◌, ◌++◌, map, refl, ap, sym, ◌∙◌, subst, append_assoc, append-nil, IsUtf8}
use Rattle.std.proofs.lemmas.List.{map-append}
use Rattle.rnix_kinds.specs.declared.kinds.SyntaxKind.{SyntaxKind}
use Rattle.rnix_kinds.specs.declared.kinds.SyntaxKind.TheVariants.{TOKEN_L_BRACE}
use Rattle.rnix_kinds.specs.SyntaxKind.{is_trivia}
use Rattle.rnix_kinds.specs.Lexical.Tokens.{Lexeme, tokens_of}
use Rattle.rnix_green.specs.Forest.{Forest, leaf}
use Rattle.rnix_grammar.specs.AnnotatedForest.{Token, lexeme_of, AnnotatedForest, blank, token, branch, fault, tokens_in, forget}
use Rattle.rnix_grammar.specs.AnnotatedForest.{leaf_kind_as, without_trivia, token_if, HaveLeafKinds}
use Rattle.rnix_grammar.specs.Reads.{Reads}
use Rattle.rnix_grammar.specs.Rules.{Row, row, after, may_end}
use Rattle.rnix_proof_lemmas.proofs.ReachableRows.{known_row, known_after}
use Rattle.rnix_proof_lemmas.proofs.ReportLemmas.{without_trivia_tokens}
use Rattle.rnix_proof_replacement.specs.Replaced.{are_balanced, texts}
use Rattle.rnix_proof_replacement.proofs.ReplacedTokens.{may_replace}
use Rattle.rnix_proof_reparse.specs.Bracketed.{HaveSameBrace, at_brace, past_trivia}
use Rattle.rnix_proof_reparse.proofs.BalancedItems.{is_within}
use Rattle.rnix_proof_reparse.proofs.BracketedNodes.{bracketed, opened}
use Rattle.rnix_proof_reparse.proofs.FoundNodes.{tokens_text, parts_of_leaves, no_end, no_node}
use Rattle.rnix_proof_reparse.proofs.NodeReadings.{balanced_between}
use Rattle.rnix_proof_reparse.proofs.ReparsedTokens.{lexeme_same, texts_lexemes, HasNode, HasBrackets, new_lexemes, part_behind, text_behind, node_behind}

-- trees that begin with a token
record IsTokenFirst (k i : SyntaxKind) (s : List ℕ) (d : Forest) (x : AnnotatedForest) : Type 0 where
  first : Token
  rest : AnnotatedForest
  is : x ≡ token i first rest
  text : first.text ≡ s
  kind : first.kind ≡ i
  forest : forget rest ≡ d
  kinds : HaveLeafKinds k rest

token_first : (k i : SyntaxKind) (s : List ℕ) (d : Forest) (x : AnnotatedForest) → ((j : SyntaxKind) → leaf_kind_as k j ≡ j) → forget x ≡ leaf i s d
    → HaveLeafKinds k x → IsTokenFirst k i s d x
token_first k i s d blank own e h = no_end e
token_first k i s d (branch j c x) own e h = no_node e
token_first k i s d (fault n c x) own e h = no_node e
token_first k i s d (token j t x) own e h =
    let w = parts_of_leaves e in
    record {
      first = t;
      rest = x;
      is = ap (λ z. token z t x) w.0;
      text = w.1;
      kind = sym (own t.kind) ∙ sym h.0 ∙ w.0;
      forest = w.2;
      kinds = h.1;
    }

-- trees that begin with trivia and an opening brace
pub record HasBrace (x : AnnotatedForest) : Type 0 where
  pub head : List Token
  pub brace : Token
  pub inner : AnnotatedForest
  pub tokens : tokens_in x ≡ head ++ (brace ∷ tokens_in inner)
  pub kind : brace.kind ≡ TOKEN_L_BRACE
  pub bare : without_trivia x ≡ token TOKEN_L_BRACE brace (without_trivia inner)

-- with the same tokens
pub record HaveBraces (x y : AnnotatedForest) : Type 0 where
  pub old : HasBrace x
  pub new : HasBrace y
  pub head : map lexeme_of old.head ≡ map lexeme_of new.head
  pub same : lexeme_of old.brace ≡ lexeme_of new.brace

brace_first : {k : SyntaxKind} {s : List ℕ} {d : Forest} {x : AnnotatedForest} → IsTokenFirst k TOKEN_L_BRACE s d x → HasBrace x
brace_first o = record {
  head = [];
  brace = o.first;
  inner = o.rest;
  tokens = ap tokens_in o.is;
  kind = o.kind;
  bare = ap without_trivia o.is ∙ ap (λ w. token_if w TOKEN_L_BRACE o.first (without_trivia o.rest)) (ap is_trivia o.kind);
}

trivia_first : {k i : SyntaxKind} {s : List ℕ} {d : Forest} {x : AnnotatedForest} (o : IsTokenFirst k i s d x) → is_trivia i ≡ true → HasBrace o.rest
    → HasBrace x
trivia_first {i = i} o e b = record {
  head = o.first ∷ b.head;
  brace = b.brace;
  inner = b.inner;
  tokens = ap tokens_in o.is ∙ ap (λ z. o.first ∷ z) b.tokens;
  kind = b.kind;
  bare = ap without_trivia o.is ∙ ap (λ w. token_if w i o.first (without_trivia o.rest)) (ap is_trivia o.kind ∙ e) ∙ b.bare;
}

first_same : {k i : SyntaxKind} {s : List ℕ} {d e : Forest} {x y : AnnotatedForest} (o : IsTokenFirst k i s d x) (n : IsTokenFirst k i s e y)
    → lexeme_of o.first ≡ lexeme_of n.first
first_same o n = lexeme_same o.first n.first (o.kind ∙ sym n.kind) (o.text ∙ sym n.text)

pub have_braces : (k : SyntaxKind) → ((j : SyntaxKind) → leaf_kind_as k j ≡ j) → {d e : Forest} → HaveSameBrace d e → (x y : AnnotatedForest)
    → forget x ≡ d → forget y ≡ e → HaveLeafKinds k x → HaveLeafKinds k y → HaveBraces x y
unfolding brace_first trivia_first
have_braces k own (at_brace s d e) x y is now h g =
    let o : IsTokenFirst k TOKEN_L_BRACE s d x = token_first k TOKEN_L_BRACE s d x own is h in
    let n : IsTokenFirst k TOKEN_L_BRACE s e y = token_first k TOKEN_L_BRACE s e y own now g in
    record { old = brace_first o; new = brace_first n; head = refl; same = first_same o n }
have_braces k own (past_trivia i s {f = d} {g = e} w more) x y is now h g =
    let o : IsTokenFirst k i s d x = token_first k i s d x own is h in
    let n : IsTokenFirst k i s e y = token_first k i s e y own now g in
    let b : HaveBraces o.rest n.rest = have_braces k own more o.rest n.rest o.forest n.forest o.kinds n.kinds in
    record {
      old = trivia_first o w b.old;
      new = trivia_first n w b.new;
      head = ap (λ z. z ∷ map lexeme_of b.old.head) (first_same o n) ∙ ap (λ z. lexeme_of n.first ∷ z) b.head;
      same = b.same;
    }

-- the tokens behind the brace are balanced
pub balanced_behind : {k l : SyntaxKind} (t : Token) (x : AnnotatedForest) (b : HasBrace x) (r : SyntaxKind) (u : Token) {d n : ℕ} {s : Row}
    {us : List Token}
    → Reads k d n (row k) s blank us (bracketed l t (without_trivia x) r u) [] → is_within k (after (after (row k) l) TOKEN_L_BRACE) ≡ true
    → may_end s ≡ true → are_balanced (map lexeme_of (tokens_in b.inner)) 0 ≡ true
balanced_behind {k} {l} t x b r u {d} {n} {s} {us} h within e =
    let braced : Reads k d n (row k) s blank us (bracketed l t (token TOKEN_L_BRACE b.brace (without_trivia b.inner)) r u) [] =
    subst (λ z. Reads k d n (row k) s blank us (bracketed l t z r u) []) b.bare h in
    balanced_between (without_trivia b.inner) r u (opened (opened braced refl).1 refl).1 (known_after TOKEN_L_BRACE (known_after l (known_row k))) within e
    (tokens_in b.inner) (sym (without_trivia_tokens b.inner))

-- tokens with the same lexemes have the same text
same_text : (ts us : List Token) → map lexeme_of ts ≡ map lexeme_of us → tokens_text ts ≡ tokens_text us
same_text ts us e = sym (texts_lexemes ts) ∙ ap texts e ∙ texts_lexemes us

-- joining three lists of lexemes gives the same list whichever two are joined first
join_lexemes : (first : List Lexeme) (t : Lexeme) (head more : List Lexeme) → (first ++ (t ∷ head)) ++ more ≡ first ++ (t ∷ (head ++ more))
join_lexemes first t head more = append_assoc first (t ∷ head) more

-- the tokens of the new text
module _ {before old after new : List ℕ} {t u : Token} {x : AnnotatedForest} {first last : List Token} {a v : Token} {y : AnnotatedForest}
    (was : HasNode before old after t u (tokens_in x) first last) (now : HasNode [] new [] a v (tokens_in y) [] []) (b : HaveBraces x y)
    (start : lexeme_of t ≡ lexeme_of a) (stop : lexeme_of u ≡ lexeme_of v) where
  abbrev o : HasBrace x
  o = b.old

  abbrev n : HasBrace y
  n = b.new

  abbrev rest : List ℕ
  rest = tokens_text (n.brace ∷ (tokens_in n.inner ++ (v ∷ [])))

  same_head : map lexeme_of (t ∷ o.head) ≡ map lexeme_of (a ∷ n.head)
  same_head = ap (λ z. z ∷ map lexeme_of o.head) start ∙ ap (λ z. lexeme_of a ∷ z) b.head

  -- the new text
  new_text : before ++ (new ++ after) ≡ (before ++ tokens_text (t ∷ o.head)) ++ (rest ++ after)
  new_text =
      ap (λ z. before ++ (z ++ after)) (part_behind now n.head n.brace (tokens_in n.inner) n.tokens)
      ∙ ap (λ z. before ++ z) (append_assoc (tokens_text (a ∷ n.head)) rest after) ∙ sym (append_assoc before (tokens_text (a ∷ n.head)) (rest ++ after))
      ∙ ap (λ z. (before ++ z) ++ (rest ++ after)) (sym (same_text (t ∷ o.head) (a ∷ n.head) same_head))

  all_lexemes : map lexeme_of (first ++ (t ∷ o.head)) ++ (lexeme_of n.brace ∷ (map lexeme_of (tokens_in n.inner) ++ (lexeme_of v ∷ map lexeme_of last)))
      ≡ map lexeme_of first ++ (lexeme_of a ∷ (map lexeme_of (tokens_in y) ++ (lexeme_of v ∷ map lexeme_of last)))
  all_lexemes =
      let more : List Lexeme = lexeme_of v ∷ map lexeme_of last in
      let behind : List Lexeme = lexeme_of n.brace ∷ (map lexeme_of (tokens_in n.inner) ++ more) in
      ap (λ z. z ++ behind) (map-append lexeme_of first (t ∷ o.head) ∙ ap (λ z. map lexeme_of first ++ z) same_head)
      ∙ join_lexemes (map lexeme_of first) (lexeme_of a) (map lexeme_of n.head) behind
      ∙ ap (λ z. map lexeme_of first ++ (lexeme_of a ∷ z)) (sym (ap (λ z. map lexeme_of z ++ more) n.tokens
      ∙ ap (λ z. z ++ more) (map-append lexeme_of n.head (n.brace ∷ tokens_in n.inner))
      ∙ append_assoc (map lexeme_of n.head) (lexeme_of n.brace ∷ map lexeme_of (tokens_in n.inner)) more))

  pub keyword_lexemes : HasBrackets b.old.brace u (tokens_in b.old.inner) → HasBrackets b.new.brace v (tokens_in b.new.inner)
      → IsUtf8 (before ++ (old ++ after))
      → IsUtf8 new → tokens_of (before ++ (new ++ after))
      ≡ map lexeme_of first ++ (lexeme_of a ∷ (map lexeme_of (tokens_in y) ++ (lexeme_of v ∷ map lexeme_of last)))
  keyword_lexemes old_ends new_ends old_utf8 new_utf8 =
      let own : new ++ [] ≡ tokens_text (a ∷ n.head) ++ (rest ++ []) = text_behind now n.head n.brace (tokens_in n.inner) n.tokens in
      let may = may_replace (before ++ tokens_text (t ∷ o.head)) (tokens_text (o.brace ∷ (tokens_in o.inner ++ (u ∷ [])))) after
      (tokens_text (a ∷ n.head)) rest []
      (subst IsUtf8 (text_behind was o.head o.brace (tokens_in o.inner) o.tokens) old_utf8)
      (subst IsUtf8 (sym (append-nil new) ∙ own) new_utf8) in
      ap tokens_of new_text
      ∙ new_lexemes may (node_behind was o.head o.brace (tokens_in o.inner) o.tokens) old_ends
      (node_behind now n.head n.brace (tokens_in n.inner) n.tokens) new_ends b.same stop ∙ all_lexemes
