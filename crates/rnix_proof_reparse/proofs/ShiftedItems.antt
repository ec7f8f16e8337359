-- The items of a text in which a bracketed node is replaced are like those of the old text around it and those of the new node.
use Rattle.std.proofs.Common.{◌≡◌, ℕ, ◌+◌, Bool, true, false, List, [], ◌∷◌, ◌++◌, map, length, Option, Some, None, refl, ap, sym, ◌∙◌, subst, arith, nat_eq}
use Rattle.std.proofs.lemmas.Bool.{and_parts}
use Rattle.std.proofs.lemmas.Bool.Decides.{nat_tests}
use Rattle.rnix_kinds.specs.declared.kinds.SyntaxKind.{SyntaxKind}
use Rattle.rnix_kinds.specs.SyntaxKind.{is_trivia}
use Rattle.rnix_kinds.specs.Lexical.Tokens.{Lexeme}
use Rattle.rnix_grammar.specs.AnnotatedForest.{Token, lexeme_of, placed_from, end_from}
use Rattle.rnix_grammar.specs.Layout.{items, item_if}
use Rattle.rnix_grammar.specs.TokenKinds.{is_piece_start}
use Rattle.rnix_proof_lemmas.proofs.Basics.{true_is_not_false, not_nil}
use Rattle.rnix_proof_lemmas.proofs.LayoutLemmas.{items-++}
use Rattle.rnix_proof_layout.specs.AlikeItems.{AreAlike, is_in_path, may_join}
use Rattle.rnix_proof_layout.proofs.Touch.{last_kind}
use Rattle.rnix_proof_reparse.specs.Bracketed.{IsBracketed, set, recursive_set, legacy_let, list, paren, string}

-- tokens one after another from a byte on
abbrev pub ArePlaced : ℕ → List Token → Type 0
ArePlaced n [] = Unit {0}
ArePlaced n (t ∷ ts) = (t.start ≡ n) × (t.end ≡ n + length t.text) × ArePlaced t.end ts

pub are_placed : (n : ℕ) (ls : List Lexeme) → ArePlaced n (placed_from n ls)
are_placed n [] = tt
are_placed n (l ∷ ls) = (refl, refl, are_placed (n + length l.1) ls)

pub placed_parts : (n : ℕ) (ts us : List Token) → ArePlaced n (ts ++ us) → ArePlaced n ts × ArePlaced (end_from n ts) us
placed_parts n [] us h = (tt, h)
placed_parts n (t ∷ ts) us h = let w = placed_parts t.end ts us h.2 in ((h.0, h.1, w.0), w.1)

-- tokens with equal lexemes have equal kinds and texts
first_same : (t u : Token) (ts us : List Token) → map lexeme_of (t ∷ ts) ≡ map lexeme_of (u ∷ us)
    → (t.kind ≡ u.kind) × (t.text ≡ u.text) × (map lexeme_of ts ≡ map lexeme_of us)
first_same t u ts us h = (ap (λ (l : Lexeme). l.0) (ap heads h), ap (λ (l : Lexeme). l.1) (ap heads h), ap tails h)
  where
    heads : List Lexeme → Lexeme
    heads [] = lexeme_of t
    heads (l ∷ ls) = l

    tails : List Lexeme → List Lexeme
    tails [] = []
    tails (l ∷ ls) = ls

same_touch : (n m g : ℕ) → nat_eq (n + g) n ≡ nat_eq (m + g) m
same_touch n m g = by (nat_eq (n + g) n) refl (nat_eq (m + g) m) refl
  where
    by : (a : Bool) → nat_eq (n + g) n ≡ a → (b : Bool) → nat_eq (m + g) m ≡ b → nat_eq (n + g) n ≡ nat_eq (m + g) m
    by true e true f = e ∙ sym f
    by false e false f = e ∙ sym f
    by true e false f = grind (arith, nat_tests, e, f)
    by false e true f = grind (arith, nat_tests, e, f)

-- tokens with equal lexemes from two bytes on are alike, if both are as far from what precedes them
pub shifted : (prev : Option SyntaxKind) (ts us : List Token) (n m g : ℕ) → ArePlaced (n + g) ts → ArePlaced (m + g) us → map lexeme_of ts ≡ map lexeme_of us
    → AreAlike prev n m (items ts) (items us)
shifted prev [] [] n m g a b h = tt
shifted prev [] (u ∷ us) n m g a b h = absurd (not_nil (sym h))
shifted prev (t ∷ ts) [] n m g a b h = absurd (not_nil h)
shifted prev (t ∷ ts) (u ∷ us) n m g a b h =
    by (is_trivia t.kind) refl (first_same t u ts us h) (shifted prev ts us n m (g + length t.text)) (shifted (Some t.kind) ts us t.end u.end 0)
  where
    by : (w : Bool) → is_trivia t.kind ≡ w → (t.kind ≡ u.kind) × (t.text ≡ u.text) × (map lexeme_of ts ≡ map lexeme_of us)
        → (ArePlaced (n + (g + length t.text)) ts → ArePlaced (m + (g + length t.text)) us → map lexeme_of ts ≡ map lexeme_of us
        → AreAlike prev n m (items ts) (items us))
        → (ArePlaced (t.end + 0) ts → ArePlaced (u.end + 0) us → map lexeme_of ts ≡ map lexeme_of us → AreAlike (Some t.kind) t.end u.end (items ts) (items us))
        → AreAlike prev n m (items (t ∷ ts)) (items (u ∷ us))
    by true e s before after =
        let here : t.end ≡ n + (g + length t.text) = omega (arith, a.1) in
        let size : length u.text ≡ length t.text = ap length (sym s.1) in
        let there : u.end ≡ m + (g + length t.text) = omega (arith, b.1, size) in
        subst (λ z. AreAlike prev n m (item_if z t (items ts)) (items (u ∷ us))) (sym e)
        (subst (λ z. AreAlike prev n m (items ts) (item_if z u (items us))) (sym (ap is_trivia (sym s.0) ∙ e))
        (before (subst (λ z. ArePlaced z ts) here a.2) (subst (λ z. ArePlaced z us) there b.2) s.2))
    by false e s before after =
        let here : t.end ≡ t.end + 0 = omega arith in
        let there : u.end ≡ u.end + 0 = omega arith in
        let touch : nat_eq t.start n ≡ nat_eq u.start m =
        ap (λ z. nat_eq z n) a.0 ∙ same_touch n m g ∙ sym (ap (λ z. nat_eq z m) b.0) in
        subst (λ z. AreAlike prev n m (item_if z t (items ts)) (items (u ∷ us))) (sym e)
        (subst (λ z. AreAlike prev n m (t ∷ items ts) (item_if z u (items us))) (sym (ap is_trivia (sym s.0) ∙ e))
        (s.0, s.1, λ j. touch, after (subst (λ z. ArePlaced z ts) here a.2) (subst (λ z. ArePlaced z us) there b.2) s.2))

alike_append : (prev : Option SyntaxKind) (n m : ℕ) (xs ys us vs : List Token) → AreAlike prev n m xs ys
    → AreAlike (last_kind prev xs) (end_from n xs) (end_from m ys) us vs → AreAlike prev n m (xs ++ us) (ys ++ vs)
alike_append prev n m [] [] us vs h g = g
alike_append prev n m (x ∷ xs) (y ∷ ys) us vs h g = (h.0, h.1, h.2, alike_append (Some x.kind) x.end y.end xs ys us vs h.3 g)
alike_append prev n m [] (y ∷ ys) us vs h g = absurd h
alike_append prev n m (x ∷ xs) [] us vs h g = absurd h

-- no bracket continues a path
bracket_pieces : {k l r : SyntaxKind} → IsBracketed k l r → (is_piece_start l ≡ false) × (is_piece_start r ≡ false)
bracket_pieces set = (refl, refl)
bracket_pieces recursive_set = (refl, refl)
bracket_pieces legacy_let = (refl, refl)
bracket_pieces list = (refl, refl)
bracket_pieces paren = (refl, refl)
bracket_pieces string = (refl, refl)

bracket_items : {k l r : SyntaxKind} → IsBracketed k l r → (is_trivia l ≡ false) × (is_trivia r ≡ false)
bracket_items set = (refl, refl)
bracket_items recursive_set = (refl, refl)
bracket_items legacy_let = (refl, refl)
bracket_items list = (refl, refl)
bracket_items paren = (refl, refl)
bracket_items string = (refl, refl)

no_join : {A : Type 0} (prev : Option SyntaxKind) (k : SyntaxKind) → is_piece_start k ≡ false → may_join prev k ≡ true → A
no_join prev k e h = absurd (true_is_not_false (sym (and_parts (is_in_path prev) (is_piece_start k) h).1 ∙ e))

-- alike items stay alike with the same item before them, if this continues no path
item_alike : (prev : Option SyntaxKind) (n m : ℕ) (t u : Token) (ts us : List Token) → is_trivia t.kind ≡ false → is_piece_start t.kind ≡ false
    → t.kind ≡ u.kind → t.text ≡ u.text → AreAlike (Some t.kind) t.end u.end (items ts) (items us) → AreAlike prev n m (items (t ∷ ts)) (items (u ∷ us))
item_alike prev n m t u ts us e p k s h =
    subst (λ z. AreAlike prev n m (item_if z t (items ts)) (items (u ∷ us))) (sym e)
    (subst (λ z. AreAlike prev n m (t ∷ items ts) (item_if z u (items us))) (sym (ap is_trivia (sym k) ∙ e)) (k, s, λ j. no_join prev t.kind p j, h))

-- some tokens split into those with the first lexemes and those with the others
pub record IsSplit (ts : List Token) (ls ms : List Lexeme) : Type 0 where
  pub first : List Token
  pub rest : List Token
  pub whole : ts ≡ first ++ rest
  pub before : map lexeme_of first ≡ ls
  pub after : map lexeme_of rest ≡ ms

pub split : (ts : List Token) (ls ms : List Lexeme) → map lexeme_of ts ≡ ls ++ ms → IsSplit ts ls ms
split ts [] ms h = record { first = []; rest = ts; whole = refl; before = refl; after = h }
split [] (l ∷ ls) ms h = absurd (not_nil (sym h))
split (t ∷ ts) (l ∷ ls) ms h =
    let r = split ts ls ms (ap tails h) in
    record {
      first = t ∷ r.first;
      rest = r.rest;
      whole = ap (λ z. t ∷ z) r.whole;
      before = ap (λ z. z ∷ map lexeme_of r.first) (ap heads h) ∙ ap (λ z. l ∷ z) r.before;
      after = r.after;
    }
  where
    heads : List Lexeme → Lexeme
    heads [] = l
    heads (x ∷ xs) = x

    tails : List Lexeme → List Lexeme
    tails [] = []
    tails (x ∷ xs) = xs

-- a node of one text, between the tokens of another, has items like those of the text that contains both
pub node_alike : {k l r : SyntaxKind} (w : IsBracketed k l r) (first inner last : List Token) (t u : Token) → t.kind ≡ l → u.kind ≡ r
    → ArePlaced 0 first → ArePlaced t.end inner → ArePlaced u.end last → (ts : List Token) → ArePlaced 0 ts
    → map lexeme_of ts ≡ map lexeme_of first ++ (lexeme_of t ∷ (map lexeme_of inner ++ (lexeme_of u ∷ map lexeme_of last)))
    → AreAlike None 0 0 (items (first ++ (t ∷ (inner ++ (u ∷ last))))) (items ts)
node_alike w first inner last t u tl ur a b c ts placed same =
    let p = bracket_pieces w in
    let i = bracket_items w in
    let one = split ts (map lexeme_of first) (lexeme_of t ∷ (map lexeme_of inner ++ (lexeme_of u ∷ map lexeme_of last))) same in
    let parts = placed_parts 0 one.first one.rest (subst (ArePlaced 0) one.whole placed) in
    subst (λ z. AreAlike None 0 0 (items (first ++ (t ∷ (inner ++ (u ∷ last))))) (items z)) (sym one.whole)
    (subst (λ z. AreAlike None 0 0 z (items (one.first ++ one.rest))) (sym (items-++ first (t ∷ (inner ++ (u ∷ last)))))
    (subst (λ z. AreAlike None 0 0 (items first ++ items (t ∷ (inner ++ (u ∷ last)))) z) (sym (items-++ one.first one.rest))
    (alike_append None 0 0 (items first) (items one.first) (items (t ∷ (inner ++ (u ∷ last)))) (items one.rest)
    (shifted None first one.first 0 0 0 a parts.0 (sym one.before))
    (opened one.rest (end_from 0 one.first) parts.1 one.after (ap is_trivia tl ∙ i.0) (ap is_piece_start tl ∙ p.0) (ap is_trivia ur ∙ i.1)
    (ap is_piece_start ur ∙ p.1) (last_kind None (items first)) (end_from 0 (items first)) (end_from 0 (items one.first))))))
  where
    closed : (us : List Token) (v : ℕ) → ArePlaced v us → map lexeme_of us ≡ lexeme_of u ∷ map lexeme_of last → is_trivia u.kind ≡ false
        → is_piece_start u.kind ≡ false → (prev : Option SyntaxKind) (n m : ℕ) → AreAlike prev n m (items (u ∷ last)) (items us)
    closed [] v h e i p prev n m = absurd (not_nil (sym e))
    closed (y ∷ ys) v h e i p prev n m =
        let s = first_same u y last ys (sym e) in
        let here : u.end ≡ u.end + 0 = omega arith in
        let there : y.end ≡ y.end + 0 = omega arith in
        item_alike prev n m u y last ys i p s.0 s.1
        (shifted (Some u.kind) last ys u.end y.end 0 (subst (λ z. ArePlaced z last) here c) (subst (λ z. ArePlaced z ys) there h.2) s.2)

    opened : (us : List Token) (v : ℕ) → ArePlaced v us → map lexeme_of us ≡ lexeme_of t ∷ (map lexeme_of inner ++ (lexeme_of u ∷ map lexeme_of last))
        → is_trivia t.kind ≡ false → is_piece_start t.kind ≡ false → is_trivia u.kind ≡ false → is_piece_start u.kind ≡ false
        → (prev : Option SyntaxKind) (n m : ℕ) → AreAlike prev n m (items (t ∷ (inner ++ (u ∷ last)))) (items us)
    opened [] v h e i p j q prev n m = absurd (not_nil (sym e))
    opened (y ∷ ys) v h e i p j q prev n m =
        let s = split (y ∷ ys) (lexeme_of t ∷ map lexeme_of inner) (lexeme_of u ∷ map lexeme_of last) e in
        two s.first s.rest s.whole s.before s.after
      where
        two : (ps qs : List Token) → y ∷ ys ≡ ps ++ qs → map lexeme_of ps ≡ lexeme_of t ∷ map lexeme_of inner
            → map lexeme_of qs ≡ lexeme_of u ∷ map lexeme_of last → AreAlike prev n m (items (t ∷ (inner ++ (u ∷ last)))) (items (y ∷ ys))
        two [] qs whole before after = absurd (not_nil (sym before))
        two (z ∷ ps) qs whole before after =
            let f = first_same t z inner ps (sym before) in
            let g = placed_parts v (z ∷ ps) qs (subst (ArePlaced v) whole h) in
            let here : t.end ≡ t.end + 0 = omega arith in
            let there : z.end ≡ z.end + 0 = omega arith in
            subst (λ (k : List Token). AreAlike prev n m (items (t ∷ (inner ++ (u ∷ last)))) (items k)) (sym whole)
            (item_alike prev n m t z (inner ++ (u ∷ last)) (ps ++ qs) i p f.0 f.1
            (subst (λ k. AreAlike (Some t.kind) t.end z.end k (items (ps ++ qs))) (sym (items-++ inner (u ∷ last)))
            (subst (λ k. AreAlike (Some t.kind) t.end z.end (items inner ++ items (u ∷ last)) k) (sym (items-++ ps qs))
            (alike_append (Some t.kind) t.end z.end (items inner) (items ps) (items (u ∷ last)) (items qs)
            (shifted (Some t.kind) inner ps t.end z.end 0 (subst (λ k. ArePlaced k inner) here b) (subst (λ k. ArePlaced k ps) there g.0.2) f.2)
            (closed qs (end_from v (z ∷ ps)) g.1 after j q (last_kind (Some t.kind) (items inner)) (end_from t.end (items inner))
            (end_from z.end (items ps)))))))
