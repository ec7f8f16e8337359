-- Two nodes whose elements are the same up to the opening brace begin with the same trivia and the same brace.
use Rattle.std.proofs.Common.{◌≡◌, ℕ, ◌+◌, List, length, Option, Some, None, true, false, refl, ap, sym, ◌∙◌, subst, arith}
use Rattle.std.proofs.lemmas.Bool.{false≢true}
use Rattle.rnix_kinds.specs.declared.kinds.SyntaxKind.{SyntaxKind}
use Rattle.rnix_kinds.specs.declared.kinds.SyntaxKind.TheVariants.{NODE_ROOT, TOKEN_L_BRACE, TOKEN_R_BRACE}
use Rattle.rnix_kinds.specs.SyntaxKind.{is_trivia}
use Rattle.rnix_green.specs.Forest.{Forest, empty, leaf, node, join}
use Rattle.rnix_green.specs.Tree.{Tree, Item, item, text_at}
use Rattle.rnix_green.specs.Context.{Context, inside, filled, text_before, elements_before}
use Rattle.rnix_proof_reparse.specs.Bracketed.{IsBracketed, set, recursive_set, legacy_let, list, paren, string, precedes_brace, HaveSameBrace}
use Rattle.rnix_proof_reparse.specs.LevelsAround.{between}
use Rattle.rnix_reparse.specs.OwnBrackets.{HaveSameBraceAt, at_brace, past_trivia, HasSameBrackets}
use Rattle.rnix_reparse.proofs.ForestsInside.{HasForest, whole_forest, filled_forest, inside_first, behind_first, parent_in, trees_behind, first_leaf}
use Rattle.rnix_reparse.proofs.ForestsInside.{first_node, first_text}
use Rattle.rnix_reparse.proofs.Sites.{IsSite, IsNewNode, enclosed}
use Rattle.rnix_proof_reparse.specs.Bracketed as law

-- a node that begins with `rec` or `let` ends with `}`
ends_with_brace : {k l r : SyntaxKind} → IsBracketed k l r → precedes_brace l ≡ true → r ≡ TOKEN_R_BRACE
ends_with_brace set e = refl
ends_with_brace recursive_set e = refl
ends_with_brace legacy_let e = refl
ends_with_brace list e = absurd (false≢true e)
ends_with_brace paren e = absurd (false≢true e)
ends_with_brace string e = absurd (false≢true e)

-- a forest of which the element of a number is the first, a token
record IsFirstToken (t : Tree) (n : ℕ) (p : Option ℕ) (f : Forest) (v : List ℕ) : Type 0 where
  rest : Forest
  is : f ≡ leaf (item t n).kind (text_at record { tree = t; number = n }) rest
  start : ℕ
  behind : HasForest t (n + 1) start p (join rest (leaf TOKEN_R_BRACE v empty))

first_token : (t : Tree) (n s : ℕ) (p : Option ℕ) (f : Forest) (v : List ℕ) → HasForest t n s p (join f (leaf TOKEN_R_BRACE v empty))
    → (item t n).is_node ≡ false → ((item t n).kind ≡ TOKEN_R_BRACE → ⊥) → IsFirstToken t n p f v
first_token t n s p empty v h is_token other = absurd (other (ap (λ (i : Item). i.kind) (first_leaf t n s p TOKEN_R_BRACE v empty h)))
first_token t n s p (node k c f) v h is_token other =
    absurd (false≢true (sym is_token ∙ ap (λ (i : Item). i.is_node) (first_node t n s p k c (join f (leaf TOKEN_R_BRACE v empty)) h)))
first_token t n s p (leaf k x f) v h is_token other =
    let more : Forest = join f (leaf TOKEN_R_BRACE v empty) in
    record {
      rest = f;
      is = ap (λ j. leaf j x f) (sym (ap (λ (i : Item). i.kind) (first_leaf t n s p k x more h)))
          ∙ ap (λ y. leaf (item t n).kind y f) (sym (first_text t n s p k x more h));
      start = s + length x;
      behind = behind_first t n s p k x more h;
    }

not_closing : {k j : SyntaxKind} → k ≡ j → (j ≡ TOKEN_R_BRACE → ⊥) → k ≡ TOKEN_R_BRACE → ⊥
not_closing e h g = h (sym e ∙ g)

-- if the first leaves of two forests are equal, one of them may stand for both
both : {i j : SyntaxKind} {a b : List ℕ} {f g d e : Forest} → f ≡ leaf i a d → g ≡ leaf j b e → i ≡ j → a ≡ b → HaveSameBrace (leaf i a d) (leaf i a e)
    → HaveSameBrace f g
both {i} {j} {a} {b} {f} {g} {d} {e} is now kind text h =
    subst (λ z. HaveSameBrace z g) (sym is)
    (subst (HaveSameBrace (leaf i a d)) (ap (λ k. leaf k a e) kind ∙ ap (λ y. leaf j y e) text ∙ sym now) h)

same_brace : (t u : Tree) (n m : ℕ) → HaveSameBraceAt t u n m → (s z : ℕ) (p q : Option ℕ) (f g : Forest) (a b : List ℕ)
    → HasForest t n s p (join f (leaf TOKEN_R_BRACE a empty)) → HasForest u m z q (join g (leaf TOKEN_R_BRACE b empty)) → HaveSameBrace f g
same_brace t u _ _ (at_brace n m same kind) s z p q f g a b h w =
    let not_closed : TOKEN_L_BRACE ≡ TOKEN_R_BRACE → ⊥ = λ e. cc in
    let o = first_token t n s p f a h same.old (not_closing kind not_closed) in
    let r = first_token u m z q g b w same.new (not_closing (sym same.kind ∙ kind) not_closed) in
    both o.is r.is same.kind same.text
    (subst (λ k. HaveSameBrace (leaf k (text_at record { tree = t; number = n }) o.rest) (leaf k (text_at record { tree = t; number = n }) r.rest)) (sym kind)
    (law.at_brace (text_at record { tree = t; number = n }) o.rest r.rest))
same_brace t u _ _ (past_trivia n m same trivia more) s z p q f g a b h w =
    let other : (item t n).kind ≡ TOKEN_R_BRACE → ⊥ = λ e. false≢true (sym (ap is_trivia e) ∙ trivia) in
    let o = first_token t n s p f a h same.old other in
    let r = first_token u m z q g b w same.new (λ e. other (same.kind ∙ e)) in
    both o.is r.is same.kind same.text
    (law.past_trivia (item t n).kind (text_at record { tree = t; number = n }) trivia
    (same_brace t u (n + 1) (m + 1) more o.start r.start p q o.rest r.rest a b o.behind r.behind))

-- the children of a node, behind the first
behind_opening : (t : Tree) (n s : ℕ) (p : Option ℕ) (k l r : SyntaxKind) (a v : List ℕ) (c f : Forest) → HasForest t n s p (node k (between l a c r v) f)
    → r ≡ TOKEN_R_BRACE → HasForest t (n + 2) (s + length a) (Some n) (join c (leaf TOKEN_R_BRACE v empty))
behind_opening t n s p k l r a v c f h e =
    let same : n + 1 + 1 ≡ n + 2 = omega arith in
    subst (λ i. HasForest t i (s + length a) (Some n) (join c (leaf TOKEN_R_BRACE v empty))) same
    (subst (λ j. HasForest t (n + 1 + 1) (s + length a) (Some n) (join c (leaf j v empty))) e
    (behind_first t (n + 1) s (Some n) l a (join c (leaf r v empty)) (inside_first t n s p k (between l a c r v) f h)))

-- what is inside the node of a number and what is inside the new node begin with the same trivia and the same brace
pub same_insides : (t : Tree) (n : ℕ) (u : Tree) (s : IsSite t n) (m : IsNewNode t n u) → HasSameBrackets t n u
    → precedes_brace (item t (n + 1)).kind ≡ true → HaveSameBrace s.inner m.edited
same_insides t n u s m h first =
    let k : SyntaxKind = (item t n).kind in
    let l : SyntaxKind = (item t (n + 1)).kind in
    let r : SyntaxKind = (item t (n + (item t n).below)).kind in
    let a : List ℕ = text_at record { tree = t; number = n + 1 } in
    let v : List ℕ = text_at record { tree = t; number = n + (item t n).below } in
    let closing : r ≡ TOKEN_R_BRACE = ends_with_brace h.old.brackets first in
    let place : Context = inside NODE_ROOT s.place empty in
    let whole : HasForest t 0 0 None (filled place k (enclosed t n s.inner)) = subst (HasForest t 0 0 None) s.whole (whole_forest t) in
    let before : elements_before place ≡ n = s.number in
    let number : 0 + elements_before place ≡ n = omega (arith, before) in
    let start : ℕ = 0 + length (text_before place) in
    let old : HasForest t n start (parent_in 0 None place) (node k (enclosed t n s.inner) (trees_behind place)) =
    subst (λ i. HasForest t i start (parent_in 0 None place) (node k (enclosed t n s.inner) (trees_behind place))) number
    (filled_forest t 0 0 None place k (enclosed t n s.inner) whole) in
    let new : HasForest u 1 0 (Some 0) (node k (enclosed t n m.edited) empty) =
    subst (HasForest u 1 0 (Some 0)) m.is (inside_first u 0 0 None u.kind u.children empty (whole_forest u)) in
    same_brace t u (n + 2) 3 (h.same_brace first) (start + length a) (0 + length a) (Some n) (Some 1) s.inner m.edited v v
    (behind_opening t n start (parent_in 0 None place) k l r a v s.inner (trees_behind place) old closing)
    (behind_opening u 1 0 (Some 0) k l r a v m.edited empty new closing)
