-- Texts with the same tokens other than white space have matching items.
use Rattle.std.proofs.Common.{◌≡◌, ℕ, ◌+◌, ◌<◌, ◌≤◌, Bool, true, false, List, [], ◌∷◌, length, map, Option, Some, None, refl, ap, sym, subst, ◌∙◌, arith}
use Rattle.std.proofs.lemmas.List.Elements.{All-head, All-tail}
use Rattle.std.proofs.lemmas.Bool.{false≢true, not-true}
use Rattle.std.specs.{List.All, Prelude.{◌&&◌, nat_eq, not}}
use Rattle.rnix_kinds.proofs.AllKinds.{implied}
use Rattle.rnix_kinds.specs.declared.kinds.SyntaxKind.{SyntaxKind}
use Rattle.rnix_kinds.specs.declared.kinds.SyntaxKind.TheVariants.{TOKEN_WHITESPACE}
use Rattle.rnix_kinds.specs.SyntaxKind.{is_trivia}
use Rattle.rnix_kinds.specs.Lexical.Tokens.{Lexeme, tokens_of, AreSound}
use Rattle.rnix_green.specs.Equality.{same_kind, same_kind-decides}
use Rattle.rnix_grammar.specs.AnnotatedForest.{Token, placed_from}
use Rattle.rnix_grammar.specs.Layout.{items, item_if}
use Rattle.rnix_grammar.specs.TokenKinds.{is_piece_start}
use Rattle.rnix_proof_layout.specs.AlikeItems.{ends_piece, is_in_path, may_join, AreAlike, AreSameFaults}
use Rattle.rnix_green.specs.Tree.{Tree}
use Rattle.rnix_grammar.specs.Fault.{Fault}
use Rattle.rnix_grammar.specs.Reading.{IsReading}
use Rattle.rnix_parser.specs.ReadAlike.{items_of, AreReadAlike}
use Rattle.rnix_parser.specs.Significant.{significant}
use Rattle.nix_formatting.specs.SpaceChange.{VisibleToken, visible_if, visible_tokens_from, visible_tokens_of, IsSpaceChange}

-- equal lists have equal first elements, and equal tails
first_same : {A : Type 0} {x y : A} {xs ys : List A} → x ∷ xs ≡ y ∷ ys → x ≡ y
first_same e = cc

rest_same : {A : Type 0} {x y : A} {xs ys : List A} → x ∷ xs ≡ y ∷ ys → xs ≡ ys
rest_same e = cc

-- a token other than white space with its offset and flag
record PlacedToken : Type 0 where
  token : Token
  joins : Bool

abbrev visible_at : PlacedToken → VisibleToken
visible_at s = (s.token.kind, s.token.text, s.joins)

abbrev placed_token_if : Bool → PlacedToken → List PlacedToken → List PlacedToken → List PlacedToken
placed_token_if true s spaced touching = spaced
placed_token_if false s spaced touching = s ∷ touching

abbrev token_at : ℕ → Lexeme → Token
token_at n l = record { kind = l.0; text = l.1; start = n; end = n + length l.1 }

-- the tokens other than white space, each with its offset
abbrev placed_tokens_from : ℕ → Bool → List Lexeme → List PlacedToken
placed_tokens_from n in_path [] = []
placed_tokens_from n in_path (l ∷ ls) =
    placed_token_if (same_kind l.0 TOKEN_WHITESPACE) (record { token = token_at n l; joins = in_path && is_piece_start l.0 })
    (placed_tokens_from (n + length l.1) false ls) (placed_tokens_from (n + length l.1) (ends_piece l.0) ls)

visible_tokens_at : (n : ℕ) (in_path : Bool) (ls : List Lexeme) → map visible_at (placed_tokens_from n in_path ls) ≡ visible_tokens_from in_path ls
visible_tokens_at n in_path [] = refl
visible_tokens_at n in_path (l ∷ ls) =
    let s : PlacedToken = record { token = token_at n l; joins = in_path && is_piece_start l.0 } in
    let m : ℕ = n + length l.1 in
    elim (same_kind l.0 TOKEN_WHITESPACE) as (λ b.
    map visible_at (placed_token_if b s (placed_tokens_from m false ls) (placed_tokens_from m (ends_piece l.0) ls))
    ≡ visible_if b (visible_at s) (visible_tokens_from false ls) (visible_tokens_from (ends_piece l.0) ls)) [
      | true ↦ visible_tokens_at m false ls
      | false ↦ ap (λ x. visible_at s ∷ x) (visible_tokens_at m (ends_piece l.0) ls)
    ]

-- the items among these tokens
abbrev items_in : List PlacedToken → List Token
items_in [] = []
items_in (s ∷ ss) = item_if (is_trivia s.token.kind) s.token (items_in ss)

-- white space is trivia
space_is_trivia : (k : SyntaxKind) → same_kind k TOKEN_WHITESPACE ≡ true → is_trivia k ≡ true
space_is_trivia k is = ap is_trivia ((same_kind-decides k TOKEN_WHITESPACE).0 is)

by_space : (b : Bool) (s : PlacedToken) (n : ℕ) (ls : List Lexeme) (spaced touching : List PlacedToken) (more : List Token)
    → (b ≡ true → is_trivia s.token.kind ≡ true) → items_in spaced ≡ more → items_in touching ≡ more
    → items_in (placed_token_if b s spaced touching) ≡ item_if (is_trivia s.token.kind) s.token more
by_space true s n ls spaced touching more trivia a c = a ∙ sym (ap (λ t. item_if t s.token more) (trivia refl))
by_space false s n ls spaced touching more trivia a c = ap (item_if (is_trivia s.token.kind) s.token) c

items_at : (n : ℕ) (in_path : Bool) (ls : List Lexeme) → items_in (placed_tokens_from n in_path ls) ≡ items (placed_from n ls)
items_at n in_path [] = refl
items_at n in_path (l ∷ ls) =
    let m : ℕ = n + length l.1 in
    by_space (same_kind l.0 TOKEN_WHITESPACE) (record { token = token_at n l; joins = in_path && is_piece_start l.0 }) n ls
    (placed_tokens_from m false ls) (placed_tokens_from m (ends_piece l.0) ls) (items (placed_from m ls)) (space_is_trivia l.0)
    (items_at m false ls) (items_at m (ends_piece l.0) ls)

-- the kind of the last item, after one more token
abbrev kind_after : Bool → Option SyntaxKind → SyntaxKind → Option SyntaxKind
kind_after true prev k = prev
kind_after false prev k = Some k

abbrev end_after : Bool → ℕ → ℕ → ℕ
end_after true p end = p
end_after false p end = end

-- the flags of the tokens are right, given the kind and the end of the item before them
abbrev AreTrue : Option SyntaxKind → ℕ → List PlacedToken → Type 0
AreTrue prev p [] = Unit {0}
AreTrue prev p (s ∷ ss) =
    (s.joins ≡ (is_in_path prev && nat_eq s.token.start p) && is_piece_start s.token.kind)
    × AreTrue (kind_after (is_trivia s.token.kind) prev s.token.kind) (end_after (is_trivia s.token.kind) p s.token.end) ss

-- a token that begins after the end of an item does not touch it
apart : (b : Bool) (p n : ℕ) → p < n → false ≡ b && nat_eq n p
apart true p n less = grind (arith, less)
apart false p n less = refl

-- a token that begins at the end of an item touches it
touching : (b : Bool) (n : ℕ) → b ≡ b && nat_eq n n
touching true n = grind arith
touching false n = refl

-- a comment is not a part of a path
comment_ends : (k : SyntaxKind) → is_trivia k ≡ true → ends_piece k ≡ false
comment_ends k is = not-true (ends_piece k) (implied is_trivia (λ k. not (ends_piece k)) refl k is)

-- the flags of the tokens after an offset are right
all_true : (prev : Option SyntaxKind) (p n : ℕ) (in_path : Bool) (ls : List Lexeme) → in_path ≡ is_in_path prev && nat_eq n p → p ≤ n
    → All (λ t. 0 < length t.1) ls → AreTrue prev p (placed_tokens_from n in_path ls)
all_true prev p n in_path [] is order some = tt
all_true prev p n in_path (l ∷ ls) is order some =
    let k : SyntaxKind = l.0 in
    let m : ℕ = n + length l.1 in
    let first : 0 < length l.1 = All-head (λ t. 0 < length t.1) l ls some in
    let rest : All (λ t. 0 < length t.1) ls = All-tail (λ t. 0 < length t.1) l ls some in
    let further : p < m = omega (arith, first, order) in
    let spaced : false ≡ is_in_path prev && nat_eq m p = apart (is_in_path prev) p m further in
    elim (same_kind k TOKEN_WHITESPACE) as (λ b. AreTrue prev p (placed_token_if b (record { token = token_at n l; joins = in_path && is_piece_start k })
    (placed_tokens_from m false ls) (placed_tokens_from m (ends_piece k) ls))) [
      | true ↦ all_true prev p m false ls spaced (omega (arith, further)) rest
      | false ↦ (
        ap (λ b. b && is_piece_start k) is,
        elim (is_trivia k) as (λ b. is_trivia k ≡ b → AreTrue (kind_after b prev k) (end_after b p m) (placed_tokens_from m (ends_piece k) ls)) [
          | true ↦ λ e. all_true prev p m (ends_piece k) ls (comment_ends k e ∙ spaced) (omega (arith, further)) rest
          | false ↦ λ e. all_true (Some k) m m (ends_piece k) ls (touching (ends_piece k) m) (omega arith) rest
        ] refl,
      )
    ]

-- if a path may continue, two items with the same flag touch the previous item in both texts or in neither
same_touch : (a c b d : Bool) → ((a && b) && c) ≡ ((a && d) && c) → a && c ≡ true → b ≡ d
same_touch true true true true e m = refl
same_touch true true true false e m = e
same_touch true true false true e m = e
same_touch true true false false e m = refl
same_touch true false b d e m = absurd (false≢true m)
same_touch false c b d e m = absurd (false≢true m)

-- the first of some tokens match, and so do the others
alike_step : (b c : Bool) → b ≡ c → (prev : Option SyntaxKind) (p q : ℕ) (x y : PlacedToken) (xs ys : List PlacedToken)
    → x.token.kind ≡ y.token.kind → x.token.text ≡ y.token.text
    → (may_join prev x.token.kind ≡ true → nat_eq x.token.start p ≡ nat_eq y.token.start q)
    → ((other : Option SyntaxKind) (n m : ℕ) → AreTrue other n xs → AreTrue other m ys → AreAlike other n m (items_in xs) (items_in ys))
    → AreTrue (kind_after b prev x.token.kind) (end_after b p x.token.end) xs
    → AreTrue (kind_after c prev y.token.kind) (end_after c q y.token.end) ys
    → AreAlike prev p q (item_if b x.token (items_in xs)) (item_if c y.token (items_in ys))
alike_step true true same prev p q x y xs ys kinds texts joins rest hx hy = rest prev p q hx hy
alike_step true false same prev p q x y xs ys kinds texts joins rest hx hy = absurd (false≢true (sym same))
alike_step false true same prev p q x y xs ys kinds texts joins rest hx hy = absurd (false≢true same)
alike_step false false same prev p q x y xs ys kinds texts joins rest hx hy = (
  kinds,
  texts,
  joins,
  rest (Some x.token.kind) x.token.end y.token.end hx (subst (λ k. AreTrue (Some k) y.token.end ys) (sym kinds) hy),
)

-- equal tokens at other offsets have matching items
same_placed_tokens : (prev : Option SyntaxKind) (p q : ℕ) (xs ys : List PlacedToken) → map visible_at xs ≡ map visible_at ys
    → AreTrue prev p xs → AreTrue prev q ys → AreAlike prev p q (items_in xs) (items_in ys)
same_placed_tokens prev p q [] [] e hx hy = tt
same_placed_tokens prev p q [] (y ∷ ys) e hx hy = absurd (omega (arith, ap length e))
same_placed_tokens prev p q (x ∷ xs) [] e hx hy = absurd (omega (arith, ap length e))
same_placed_tokens prev p q (x ∷ xs) (y ∷ ys) e hx hy =
    let heads : visible_at x ≡ visible_at y = first_same e in
    let kinds : x.token.kind ≡ y.token.kind = ap (λ s. s.0) heads in
    let a : Bool = is_in_path prev in
    let d : Bool = nat_eq y.token.start q in
    let joined : ((a && nat_eq x.token.start p) && is_piece_start x.token.kind) ≡ ((a && d) && is_piece_start x.token.kind) =
    sym hx.0 ∙ ap (λ s. s.2) heads ∙ hy.0 ∙ ap (λ k. (a && d) && is_piece_start k) (sym kinds) in
    alike_step (is_trivia x.token.kind) (is_trivia y.token.kind) (ap is_trivia kinds) prev p q x y xs ys kinds (ap (λ s. s.1) heads)
    (λ m. same_touch a (is_piece_start x.token.kind) (nat_eq x.token.start p) d joined m)
    (λ other n m. same_placed_tokens other n m xs ys (rest_same e)) hx.1 hy.1

-- texts with the same tokens other than white space have matching items
pub alike_items : (x y : List ℕ) → AreSound x (tokens_of x) → AreSound y (tokens_of y) → visible_tokens_of y ≡ visible_tokens_of x
    → AreAlike None 0 0 (items_of x) (items_of y)
alike_items x y xsound ysound same =
    let xs : List PlacedToken = placed_tokens_from 0 false (tokens_of x) in
    let ys : List PlacedToken = placed_tokens_from 0 false (tokens_of y) in
    let spots : map visible_at xs ≡ map visible_at ys = visible_tokens_at 0 false (tokens_of x) ∙ sym same ∙ sym (visible_tokens_at 0 false (tokens_of y)) in
    let alike : AreAlike None 0 0 (items_in xs) (items_in ys) =
    same_placed_tokens None 0 0 xs ys spots (all_true None 0 0 false (tokens_of x) refl (omega arith) xsound.some)
    (all_true None 0 0 false (tokens_of y) refl (omega arith) ysound.some) in
    subst (λ z. AreAlike None 0 0 z (items_of y)) (items_at 0 false (tokens_of x))
    (subst (AreAlike None 0 0 (items_in xs)) (items_at 0 false (tokens_of y)) alike)

-- only an empty list of errors corresponds to an empty list of errors
no_faults : (xs ys : List Token) (es : List Fault) → AreSameFaults xs ys [] es → es ≡ []
no_faults xs ys [] same = refl
no_faults xs ys (e ∷ es) same = absurd same

-- if the new text has the same tokens other than white space as a text without errors, it is parsed as the same tree apart from trivia
pub space_changed : (old new : List ℕ) (tree made : Tree) (faults : List Fault) → AreSound old (tokens_of old) → AreSound new (tokens_of new)
    → AreReadAlike old new → IsReading (tokens_of old) tree [] → IsReading (tokens_of new) made faults → visible_tokens_of new ≡ visible_tokens_of old
    → IsSpaceChange old new
space_changed old new tree made faults osound nsound law oread nread same =
    let read : (significant tree.children ≡ significant made.children) × AreSameFaults (items_of old) (items_of new) [] faults =
    law (alike_items old new osound nsound same) tree made [] faults oread nread in
    record {
      tokens = same;
      tree = record {
        before = tree;
        after = made;
        old_read = oread;
        new_read = subst (IsReading (tokens_of new) made) (no_faults (items_of old) (items_of new) faults read.1) nread;
        same = sym read.0;
      };
    }
