-- The tokens from an index on.
use Rattle.std.proofs.Common.{◌≡◌, ℕ, zero, suc, ◌+◌, ◌-◌, ◌<◌, ◌≤◌, Bool, true, false, List, [], ◌∷◌, ◌++◌, take, drop, length, get_or, IsUtf8, Some, refl, ap}
use Rattle.std.proofs.{Common.{sym, ◌∙◌, subst, arith, length-append, length-drop, drop-drop}, Math.{Nat.add-sub_cancel_left, Seq.take-append_seam}}
use Rattle.std.proofs.{Math.Seq.drop-append_seam, lemmas.{List.{drop_all, Concat.flat_map-cons, Elements.{All-head, All-tail}}, Str.IsUtf8-nil}}
use Rattle.std.{proofs.lemmas.Str.{IsUtf8-append, IsCharBoundary-start, IsCharBoundary-from_drop}, specs.{List.{flat_map, All}, Str.IsCharBoundary}}
use Rattle.rnix_kinds.specs.{declared.kinds.SyntaxKind.SyntaxKind, SyntaxKind.is_trivia, Lexical.Tokens.{Lexeme, AreSound, text_of}}
use Rattle.rnix_grammar.specs.{AnnotatedForest.{Token, head_of, kind_in, head_kind, placed_from}, Layout.{from_item, from_item_if, items, tail_of}}
use Rattle.{rnix_proof_lemmas.proofs.LayoutLemmas.{items-view, items_head}, rnix_reader.specs.{declared.cursor.TokenEnd.TokenEnd, Placed.{ends_from, token_cut}}}
use Rattle.rnix_reader.specs.Placed.{tokens_cut, start_of, AreEnds, AreInOrder}

-- there are as many tokens as ends
pub length-tokens_cut : (text : List ℕ) (n : ℕ) (ts : List TokenEnd) → length (tokens_cut text n ts) ≡ length ts
length-tokens_cut text n [] = refl
length-tokens_cut text n (t ∷ ts) = ap suc (length-tokens_cut text t.end ts)

-- the token at an index is the first of those from it on
pub at_offset : (text : List ℕ) (n : ℕ) (ts : List TokenEnd) (i : ℕ) (d : TokenEnd) → i < length ts
    → drop i (tokens_cut text n ts) ≡ token_cut text (start_of n i ts) (get_or ts i d) ∷ drop (suc i) (tokens_cut text n ts)
at_offset text n [] i d h = absurd (omega arith)
at_offset text n (t ∷ ts) zero d h = refl
at_offset text n (t ∷ ts) (suc i) d h = at_offset text t.end ts i d (omega arith)

-- no tokens are left after the last one
pub behind_all : (text : List ℕ) (ts : List TokenEnd) (i : ℕ) → length ts ≤ i → drop i (tokens_cut text 0 ts) ≡ []
behind_all text ts i h = drop_all i (tokens_cut text 0 ts) (omega (arith, length-tokens_cut text 0 ts))

-- a token begins where the one before it ends
pub start_behind : (n : ℕ) (i : ℕ) (ts : List TokenEnd) (d : TokenEnd) → i < length ts → start_of n (suc i) ts ≡ (get_or ts i d).end
start_behind n i [] d h = absurd (omega arith)
start_behind n zero (t ∷ ts) d h = refl
start_behind n (suc i) (t ∷ ts) d h = start_behind t.end i ts d (omega arith)

-- a token begins and ends at character boundaries of the text
pub record IsCut (text : List ℕ) (start end : ℕ) : Type 0 where
  pub order : start ≤ end
  pub at_start : IsCharBoundary text start
  pub at_end : IsCharBoundary text end

cut_from : (text : List ℕ) (n : ℕ) (ts : List TokenEnd) (i : ℕ) (d : TokenEnd) → IsCharBoundary text n → AreEnds text n ts → i < length ts
    → IsCut text (start_of n i ts) (get_or ts i d).end
cut_from text n [] i d b e h = absurd (omega arith)
cut_from text n (t ∷ ts) zero d b e h = record { order = e.0; at_start = b; at_end = e.1 }
cut_from text n (t ∷ ts) (suc i) d b e h = cut_from text t.end ts i d e.1 e.2 (omega arith)

-- so do all tokens of a text
pub cut_at_token : (text : List ℕ) (ts : List TokenEnd) (i : ℕ) (d : TokenEnd) → IsUtf8 text → AreEnds text 0 ts → i < length ts
    → IsCut text (start_of 0 i ts) (get_or ts i d).end
cut_at_token text ts i d u e h = cut_from text 0 ts i d (IsCharBoundary-start text u) e h

-- the text after a token is that of the tokens after it
rest_behind : (text : List ℕ) (n : ℕ) (l : Lexeme) (ls : List Lexeme) → drop n text ≡ flat_map text_of (l ∷ ls)
    → drop (n + length l.1) text ≡ flat_map text_of ls
rest_behind text n l ls h =
    sym (drop-drop (length l.1) n text) ∙ ap (drop (length l.1)) (h ∙ flat_map-cons text_of l ls) ∙ drop-append_seam l.1 (flat_map text_of ls)

-- the token with these parts
abbrev pub token_with : SyntaxKind → List ℕ → ℕ → ℕ → Token
token_with k text start end = record { kind = k; text = text; start = start; end = end }

-- the pieces of a text between its tokens' ends are the tokens
pub tokens_cut-placed : (text : List ℕ) (n : ℕ) (ls : List Lexeme) → drop n text ≡ flat_map text_of ls → tokens_cut text n (ends_from n ls) ≡ placed_from n ls
tokens_cut-placed text n [] h = refl
tokens_cut-placed text n (l ∷ ls) h =
    let end : ℕ = n + length l.1 in
    let cut : take (end - n) (drop n text) ≡ l.1 =
    ap (λ k. take k (drop n text)) (add-sub_cancel_left n (length l.1)) ∙ ap (take (length l.1)) (h ∙ flat_map-cons text_of l ls)
    ∙ take-append_seam l.1 (flat_map text_of ls) in
    ap (λ x. token_with l.0 x n end ∷ tokens_cut text end (ends_from end ls)) cut
    ∙ ap (λ x. token_with l.0 l.1 n end ∷ x) (tokens_cut-placed text end ls (rest_behind text n l ls h))

-- the piece of a text at a token's range is that token
pub token_found : (text : List ℕ) (ts : List TokenEnd) (i : ℕ) (d : TokenEnd) (start : ℕ) (cut : List ℕ) → i < length ts → start ≡ start_of 0 i ts
    → cut ≡ take ((get_or ts i d).end - start) (drop start text) → Some (token_with (get_or ts i d).kind cut start (get_or ts i d).end) ≡ head_of
    (drop i (tokens_cut text 0 ts))
token_found text ts i d start cut h s e =
    let t : TokenEnd = get_or ts i d in
    ap (λ x. Some (token_with t.kind x start t.end)) e ∙ ap (λ n. Some (token_with t.kind (take (t.end - n) (drop n text)) n t.end)) s
    ∙ sym (ap head_of (at_offset text 0 ts i d h))

-- joined texts that are UTF-8 are UTF-8
joined_utf8 : (ls : List Lexeme) → All (λ t. IsUtf8 t.1) ls → IsUtf8 (flat_map text_of ls)
joined_utf8 [] u = IsUtf8-nil
joined_utf8 (l ∷ ls) u =
    subst IsUtf8 (sym (flat_map-cons text_of l ls)) (IsUtf8-append l.1 (flat_map text_of ls) (All-head (λ t. IsUtf8 t.1) l ls u)
    (joined_utf8 ls (All-tail (λ t. IsUtf8 t.1) l ls u)))

-- tokens that are UTF-8 end at character boundaries
ends_cut : (text : List ℕ) (n : ℕ) (ls : List Lexeme) → n ≤ length text → drop n text ≡ flat_map text_of ls → All (λ t. IsUtf8 t.1) ls
    → AreEnds text n (ends_from n ls)
ends_cut text n [] w h u = tt
ends_cut text n (l ∷ ls) w h u =
    let rest : drop (n + length l.1) text ≡ flat_map text_of ls = rest_behind text n l ls h in
    let lengths : length text - n ≡ length (l.1 ++ flat_map text_of ls) = sym (length-drop n text) ∙ ap length (h ∙ flat_map-cons text_of l ls) in
    let within : n + length l.1 ≤ length text = omega (arith, lengths, length-append l.1 (flat_map text_of ls)) in
    let more : All (λ t. IsUtf8 t.1) ls = All-tail (λ t. IsUtf8 t.1) l ls u in (
      omega arith,
      IsCharBoundary-from_drop text (n + length l.1) within (subst IsUtf8 (sym rest) (joined_utf8 ls more)),
      ends_cut text
          (n + length l.1) ls within rest more,
    )

-- so do the tokens of a text that satisfy the lexical rules
pub sound_ends : (text : List ℕ) (ls : List Lexeme) → AreSound text ls → AreEnds text 0 (ends_from 0 ls)
sound_ends text ls s = ends_cut text 0 ls (omega arith) (sym s.joined) s.utf8

pub sound_tokens : (text : List ℕ) (ls : List Lexeme) → AreSound text ls → tokens_cut text 0 (ends_from 0 ls) ≡ placed_from 0 ls
sound_tokens text ls s = tokens_cut-placed text 0 ls (sym s.joined)

-- skipping trivia skips a first token that is trivia
pub from_trivia : (ts : List Token) (t : Token) (more : List Token) → ts ≡ t ∷ more → is_trivia t.kind ≡ true → from_item ts ≡ from_item more
from_trivia ts t more e h = ap from_item e ∙ ap (λ x. from_item_if x t more (from_item more)) h

-- skipping trivia leaves tokens that begin with an item
pub at_item : (ts : List Token) (t : Token) (more : List Token) → ts ≡ t ∷ more → is_trivia t.kind ≡ false → from_item ts ≡ ts
at_item ts t more e h = ap from_item e ∙ ap (λ x. from_item_if x t more (from_item more)) h ∙ sym e

-- the tail of the tokens from an index on are those from the next index on
pub tail-drop : (i : ℕ) (ts : List Token) → tail_of (drop i ts) ≡ drop (suc i) ts
tail-drop zero [] = refl
tail-drop zero (t ∷ ts) = refl
tail-drop (suc i) [] = refl
tail-drop (suc i) (t ∷ ts) = tail-drop i ts

-- skipping trivia leaves at most as many tokens
from_item-shorter : (ts : List Token) → length (from_item ts) ≤ length ts
from_item-shorter [] = omega arith
from_item-shorter (t ∷ ts) =
    let more = from_item-shorter ts in
    elim (is_trivia t.kind) as (λ b. length (from_item_if b t ts (from_item ts)) ≤ length (t ∷ ts)) [ true ↦ omega (arith, more) | false ↦ omega arith ]

-- a token before the next item is trivia, and the next item stays the same after it
pub before_item : (ts : List Token) (at next : ℕ) (t : Token) (more : List Token) → drop at ts ≡ t ∷ more → from_item (drop at ts) ≡ drop next ts → at < next
    → is_trivia t.kind ≡ true
before_item ts at next t more d f n = by (is_trivia t.kind) refl
  where
    by : (b : Bool) → is_trivia t.kind ≡ b → is_trivia t.kind ≡ true
    by true e = e
    by false e =
        let same : drop at ts ≡ drop next ts = sym (at_item (drop at ts) t more d e) ∙ f in
        absurd (omega (arith, ap length same, ap length d, length-drop at ts, length-drop next ts))

-- at the next item, and after all tokens, no trivia are to be skipped
pub at_next_item : (ts : List Token) (at next : ℕ) → from_item (drop at ts) ≡ drop next ts → next ≤ at → from_item (drop at ts) ≡ drop at ts
at_next_item ts at next f n = by (drop at ts) refl
  where
    by : (us : List Token) → drop at ts ≡ us → from_item us ≡ us
    by [] e = refl
    by (t ∷ us) e = advance (is_trivia t.kind) refl
      where
        advance : (b : Bool) → is_trivia t.kind ≡ b → from_item (t ∷ us) ≡ t ∷ us
        advance true i =
            let found : from_item us ≡ drop next ts = sym (from_trivia (t ∷ us) t us refl i) ∙ ap from_item (sym e) ∙ f in
            absurd (omega (arith, from_item-shorter us, ap length found, ap length e, length-drop at ts, length-drop next ts))
        advance false i = at_item (t ∷ us) t us refl i

-- the next item stays the same after a token before it
pub item_kept : (ts : List Token) (at next : ℕ) → at < length ts → from_item (drop at ts) ≡ drop next ts → suc at ≤ next
    → from_item (drop (suc at) ts) ≡ drop next ts
item_kept ts at next h f n = by (drop at ts) refl
  where
    by : (us : List Token) → drop at ts ≡ us → from_item (drop (suc at) ts) ≡ drop next ts
    by [] e = absurd (omega (arith, ap length e, length-drop at ts))
    by (t ∷ us) e =
        let rest : us ≡ drop (suc at) ts = sym (ap tail_of e) ∙ tail-drop at ts in
        sym (ap from_item rest) ∙ sym (from_trivia (drop at ts) t us e (before_item ts at next t us e f n)) ∙ f

-- the tokens of a text are in order
pub cut_in_order : (text : List ℕ) (n : ℕ) (ts : List TokenEnd) → AreEnds text n ts → AreInOrder n (tokens_cut text n ts)
cut_in_order text n [] e = tt
cut_in_order text n (t ∷ ts) e = (omega arith, e.0, cut_in_order text t.end ts e.2)

-- tokens in order from an offset are in order from an offset before it
pub in_order_from : (m n : ℕ) (ts : List Token) → m ≤ n → AreInOrder n ts → AreInOrder m ts
in_order_from m n [] h o = tt
in_order_from m n (t ∷ ts) h o = (omega (arith, o.0), o.1, o.2)

-- the later tokens of tokens in order are in order
pub in_order_drop : (n i : ℕ) (ts : List Token) → AreInOrder n ts → AreInOrder n (drop i ts)
in_order_drop n zero ts o = o
in_order_drop n (suc i) [] o = o
in_order_drop n (suc i) (t ∷ ts) o = in_order_drop n i ts (in_order_from n t.end ts (omega (arith, o.0, o.1)) o.2)

-- the first token after trivia is the first item
pub head_items : (ts : List Token) → head_of (from_item ts) ≡ head_of (items ts)
head_items ts = by (from_item ts) ∙ sym (ap head_of (items-view ts))
  where
    by : (xs : List Token) → head_of xs ≡ head_of (items_head xs)
    by [] = refl
    by (x ∷ xs) = refl

-- so is its kind
pub head_item : (ts : List Token) → head_kind (items ts) ≡ head_kind (from_item ts)
head_item ts = ap kind_in (sym (head_items ts))

-- the items after the first are the items of the tokens after it
pub tail_items : (ts : List Token) → tail_of (items ts) ≡ items (tail_of (from_item ts))
tail_items ts = ap tail_of (items-view ts) ∙ by (from_item ts)
  where
    by : (xs : List Token) → tail_of (items_head xs) ≡ items (tail_of xs)
    by [] = refl
    by (x ∷ xs) = refl

-- the kind of the second item, as found from the first
pub behind_first_item : (ts us vs : List Token) → from_item ts ≡ us → from_item (tail_of us) ≡ vs → head_kind vs ≡ head_kind (tail_of (items ts))
behind_first_item ts us vs a b =
    sym (ap head_kind (tail_items ts) ∙ head_item (tail_of (from_item ts)) ∙ ap (λ x. head_kind (from_item (tail_of x))) a ∙ ap head_kind b)

-- the kind of the third item, as found from the second
pub behind_second_item : (ts us vs ws : List Token) → from_item ts ≡ us → from_item (tail_of us) ≡ vs → from_item (tail_of vs) ≡ ws
    → head_kind ws ≡ head_kind (tail_of (tail_of (items ts)))
behind_second_item ts us vs ws a b c =
    behind_first_item (tail_of us) vs ws b c ∙ ap (λ x. head_kind (tail_of (items (tail_of x)))) (sym a) ∙ ap (λ x. head_kind (tail_of x)) (sym (tail_items ts))
