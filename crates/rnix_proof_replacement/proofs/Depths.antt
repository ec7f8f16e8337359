-- Tokens that close nothing but what they open are the same whatever modes are open below.
use Rattle.std.proofs.Common.{◌≡◌, ℕ, zero, suc, ◌+◌, Bool, true, false, not, ◌==◌, nat_lt, List, [], ◌∷◌, ◌++◌, length, get_or, take, refl, sym, ap}
use Rattle.std.proofs.Common.{◌∙◌, Option, Some, None, subst, arith, cond, eqb-true, add-zero}
use Rattle.std.proofs.lemmas.Bool.{cond_both, and_parts, not-true, true≢false}
use Rattle.std.specs.{Prelude.codes}
use Rattle.rnix_kinds.specs.declared.kinds.SyntaxKind.{SyntaxKind, TheVariants.{TOKEN_ERROR, TOKEN_L_BRACE, TOKEN_R_BRACE}}
use Rattle.rnix_kinds.specs.declared.tokenizer.rule.{Cut.Cut, PathStart.PathStart, Mode.{Mode, TheVariants.{Quoted, Interpolation, Path}}}
use Rattle.rnix_kinds.specs.declared.tokenizer.rule.Change.{Change, TheVariants.{Stay, Open, Close, Count}}
use Rattle.rnix_kinds.specs.Lexical.{PathKinds.kind_of_path, Texts.{occurs_at, begins, run_end}, Classes.is_path, Strings.{content_len, string_cut}}
use Rattle.rnix_kinds.specs.Lexical.{Paths.{is_broken, path_goes_on, path_cut}, Operators.{opening_brace, closing_brace}}
use Rattle.rnix_kinds.specs.Lexical.Tokens.{Lexeme, cut_at, normal_cut, top, without_ended_paths, changed}
use Rattle.rnix_kinds.proofs.LexicalLemmas.FirstBytes.{normal-opening_brace, normal-closing_brace}
use Rattle.rnix_proof_separation.{specs.Separated.is_inside, proofs.{Appended.either, Stacks.{normal_settled, normal_at}, KeptStrings.{opened, closed}}}
use Rattle.rnix_proof_replacement.specs.Replaced.{opens_level, closes_level, one_less, are_balanced, texts}
use Rattle.rnix_proof_replacement.proofs.Onward.{is_neutral, IsOnward, if_kind, path_neutral, normal_onward, normal_free}
use Rattle.rnix_proof_replacement.proofs.CutTokens.{AreCut, none, next}

-- the modes with `d` more open braces on top
abbrev pub raised : ℕ → List Mode → List Mode
raised d [] = []
raised d (Interpolation n ∷ modes) = Interpolation (n + d) ∷ modes
raised d (mode ∷ modes) = mode ∷ modes

-- the same modes are open over `p` in one stack and over `q` in the other, with `d` open levels in all
pub data AreOver (p q : List Mode) : List Mode → List Mode → ℕ → Type 0 where
  normal : (d : ℕ) → is_inside (top p) ≡ false → is_inside (top q) ≡ false → AreOver p q (raised d p) (raised d q) d
  string : (m : Bool) → top p ≡ Some (Quoted m) → top q ≡ Some (Quoted m) → AreOver p q p q 0
  braces : (n : ℕ) (a b : List Mode) (d : ℕ) → AreOver p q a b d → AreOver p q (Interpolation n ∷ a) (Interpolation n ∷ b) (suc (d + n))
  quoted : (m : Bool) (a b : List Mode) (d : ℕ) → AreOver p q a b d → AreOver p q (Quoted m ∷ a) (Quoted m ∷ b) (suc d)
  path : (k : PathStart) (a b : List Mode) (d : ℕ) → AreOver p q a b d → AreOver p q (Path k ∷ a) (Path k ∷ b) d

pub raised_none : (m : List Mode) → raised 0 m ≡ m
raised_none [] = refl
raised_none (Interpolation n ∷ m) = ap (λ k. Interpolation k ∷ m) (add-zero n)
raised_none (Quoted l ∷ m) = refl
raised_none (Path k ∷ m) = refl

raised_inside : (d : ℕ) (p : List Mode) → is_inside (top p) ≡ false → is_inside (top (raised d p)) ≡ false
raised_inside d [] e = refl
raised_inside d (Interpolation n ∷ p) e = refl
raised_inside d (Quoted m ∷ p) e = e
raised_inside d (Path k ∷ p) e = e

pub string_settled : (m : Bool) (p : List Mode) (x : List ℕ) → top p ≡ Some (Quoted m) → without_ended_paths p x ≡ p
string_settled m [] x e = refl
string_settled m (Interpolation n ∷ p) x e = refl
string_settled m (Quoted l ∷ p) x e = refl
string_settled m (Path k ∷ p) x e = absurd (cc)

module _ (p q : List Mode) where
  -- when a path ends, it ends in both stacks
  settled_over : (x : List ℕ) (a b : List Mode) (d : ℕ) → AreOver p q a b d → AreOver p q (without_ended_paths a x) (without_ended_paths b x) d
  settled_over x _ _ _ (normal d e f) =
      subst (λ a. AreOver p q a (without_ended_paths (raised d q) x) d) (sym (normal_settled (raised d p) x (raised_inside d p e)))
      (subst (λ b. AreOver p q (raised d p) b d) (sym (normal_settled (raised d q) x (raised_inside d q f))) (normal d e f))
  settled_over x _ _ _ (string m e f) =
      subst (λ a. AreOver p q a (without_ended_paths q x) 0) (sym (string_settled m p x e))
      (subst (λ b. AreOver p q p b 0) (sym (string_settled m q x f)) (string m e f))
  settled_over x _ _ _ (braces n a b d over) = braces n a b d over
  settled_over x _ _ _ (quoted m a b d over) = quoted m a b d over
  settled_over x _ _ _ (path k a b d over) =
      elim (path_goes_on x) as (λ c. AreOver p q (cond c (Path k ∷ a) (without_ended_paths a x)) (cond c (Path k ∷ b) (without_ended_paths b x)) d) [
        | true ↦ path k a b d over
        | false ↦ settled_over x a b d over
      ]

  -- if nothing is open over them, the stacks are `p` and `q`
  pub over_end : (x : List ℕ) (a b : List Mode) (d : ℕ) → AreOver p q a b d → d ≡ 0 → path_goes_on x ≡ false
      → (without_ended_paths a x ≡ p) × (without_ended_paths b x ≡ q)
  over_end x _ _ _ (normal d e f) ended ends =
      let low : (m : List Mode) → raised d m ≡ m = λ m. ap (λ k. raised k m) ended ∙ raised_none m in
      (normal_settled (raised d p) x (raised_inside d p e) ∙ low p, normal_settled (raised d q) x (raised_inside d q f) ∙ low q)
  over_end x _ _ _ (string m e f) ended ends = (string_settled m p x e, string_settled m q x f)
  over_end x _ _ _ (braces n a b d over) ended ends = absurd (omega arith)
  over_end x _ _ _ (quoted m a b d over) ended ends = absurd (omega arith)
  over_end x _ _ _ (path k a b d over) ended ends =
      let more = over_end x a b d over ended ends in
      (rw ends more.0, rw ends more.1)

  -- a token is the same over the other modes; after it the same modes are open over both, and the tokens that follow are balanced at their depth
  record Follows (x : List ℕ) (a b : List Mode) (cut : Cut) (tokens : List Lexeme) : Type 0 where
    other : Cut
    is : cut_at (top b) x ≡ other
    kind : cut.kind ≡ other.kind
    len : cut.len ≡ other.len
    depth : ℕ
    over : AreOver p q (changed cut.change a) (changed other.change b) depth
    balanced : are_balanced tokens depth ≡ true

  -- the tokens from this one on are balanced at a depth
  IsBalancedAt : SyntaxKind → List Lexeme → ℕ → Type 0
  IsBalancedAt kind tokens d =
      cond (opens_level kind) (are_balanced tokens (suc d)) (cond (closes_level kind) (one_less d (are_balanced tokens)) (are_balanced tokens d)) ≡ true

  neutral_balanced : (kind : SyntaxKind) (tokens : List Lexeme) (d : ℕ) → is_neutral kind ≡ true → IsBalancedAt kind tokens d → are_balanced tokens d ≡ true
  unfolding IsBalancedAt
  neutral_balanced kind tokens d e balanced =
      let parts = and_parts (not (opens_level kind)) (not (closes_level kind)) e in
      let first = not-true (opens_level kind) parts.0 in
      let second = not-true (closes_level kind) parts.1 in
      rw (first, second) at balanced

  nesting_balanced : (kind : SyntaxKind) (tokens : List Lexeme) (d : ℕ) → opens_level kind ≡ true → IsBalancedAt kind tokens d
      → are_balanced tokens (suc d) ≡ true
  unfolding IsBalancedAt
  nesting_balanced kind tokens d e balanced = rw e at balanced

  -- a token that closes nothing
  onward : (x : List ℕ) (a b : List Mode) (d : ℕ) (kind : SyntaxKind) (len : ℕ) (change : Change) (tokens : List Lexeme) → AreOver p q a b d
      → IsOnward change kind → IsBalancedAt kind tokens d → cut_at (top b) x ≡ record { kind = kind; len = len; change = change }
      → Follows x a b (record { kind = kind; len = len; change = change }) tokens
  onward x a b d kind len Stay tokens over on balanced is =
      record {
        other = record { kind = kind; len = len; change = Stay };
        is = is;
        kind = refl;
        len = refl;
        depth = d;
        over = over;
        balanced = neutral_balanced kind tokens d on balanced;
      }
  onward x a b d kind len (Open (Path k)) tokens over on balanced is =
      record {
        other = record { kind = kind; len = len; change = Open (Path k) };
        is = is;
        kind = refl;
        len = refl;
        depth = d;
        over = path k a b d over;
        balanced = neutral_balanced kind tokens d on balanced;
      }
  onward x a b d kind len (Open (Quoted m)) tokens over on balanced is =
      record {
        other = record { kind = kind; len = len; change = Open (Quoted m) };
        is = is;
        kind = refl;
        len = refl;
        depth = suc d;
        over = quoted m a b d over;
        balanced = nesting_balanced kind tokens d on balanced;
      }
  onward x a b d kind len (Open (Interpolation zero)) tokens over on balanced is =
      record {
        other = record { kind = kind; len = len; change = Open (Interpolation zero) };
        is = is;
        kind = refl;
        len = refl;
        depth = suc (d + 0);
        over = braces 0 a b d over;
        balanced = subst (λ k. are_balanced tokens (suc k) ≡ true) (sym (add-zero d)) (nesting_balanced kind tokens d on balanced);
      }
  onward x a b d kind len (Open (Interpolation (suc n))) tokens over on balanced is = absurd on
  onward x a b d kind len Close tokens over on balanced is = absurd on
  onward x a b d kind len (Count n) tokens over on balanced is = absurd on

  onward_cut : (x : List ℕ) (a b : List Mode) (d : ℕ) (cut : Cut) (tokens : List Lexeme) → AreOver p q a b d
      → IsOnward cut.change cut.kind → IsBalancedAt cut.kind tokens d → cut_at (top b) x ≡ cut → Follows x a b cut tokens
  onward_cut x a b d cut tokens over on balanced is = onward x a b d cut.kind cut.len cut.change tokens over on balanced is

  -- what a token inside a string does: it closes nothing, opens an interpolation, or ends the string
  string_cases : (m : Bool) (x : List ℕ) (P : Cut → Type 0) → ((cut : Cut) → string_cut m x ≡ cut → IsOnward cut.change cut.kind → P cut)
      → (string_cut m x ≡ closed m → P (closed m)) → P (string_cut m x)
  string_cases m x P on ends =
      cond_both (content_len m x == length x) _ _ (λ (c : Cut). string_cut m x ≡ c → P c) (λ e is. on _ is refl)
      (λ e. cond_both (nat_lt 0 (content_len m x)) _ _ (λ (c : Cut). string_cut m x ≡ c → P c) (λ f is. on _ is refl)
      (λ f. cond_both (begins (codes "${") x) opened (closed m) (λ (c : Cut). string_cut m x ≡ c → P c) (λ g is. on _ is refl) (λ g is. ends is))) refl

  path_cases : (k : PathStart) (x : List ℕ) (P : Cut → Type 0) → ((cut : Cut) → path_cut k x ≡ cut → IsOnward cut.change cut.kind → P cut)
      → ((kind : SyntaxKind) (len : ℕ) → is_neutral kind ≡ true → path_cut k x ≡ record { kind = kind; len = len; change = Close }
      → P (record { kind = kind; len = len; change = Close })) → P (path_cut k x)
  path_cases k x P on ends =
      let n = run_end is_path 0 x in
      cond_both (begins (codes "${") x) _ _ (λ (c : Cut). path_cut k x ≡ c → P c) (λ e is. on _ is refl)
      (λ e. cond_both (occurs_at (codes "${") n x) _ _ (λ (c : Cut). path_cut k x ≡ c → P c) (λ f is. on _ is (path_neutral k))
      (λ f is. ends _ _ (if_kind (is_broken (take n x)) TOKEN_ERROR (kind_of_path k) refl (path_neutral k)) is)) refl

  -- a brace over a base: it opens or closes a level there
  record IsBrace (kind : SyntaxKind) (low base : List Mode) (after : ℕ) (cut : Cut) : Type 0 where
    named : cut.kind ≡ kind
    one : cut.len ≡ 1
    leaves : changed cut.change base ≡ raised after low

  opened_base : (d : ℕ) (m : List Mode) → is_inside (top m) ≡ false → IsBrace TOKEN_L_BRACE m (raised d m) (suc d) (opening_brace (top (raised d m)))
  opened_base d [] e = record { named = refl; one = refl; leaves = refl }
  opened_base d (Interpolation n ∷ m) e =
      let more : n + d + 1 ≡ n + suc d = omega arith in
      record { named = refl; one = refl; leaves = ap (λ k. Interpolation k ∷ m) more }
  opened_base d (Quoted l ∷ m) e = absurd (true≢false e)
  opened_base d (Path k ∷ m) e = absurd (true≢false e)

  closed_base : (d : ℕ) (m : List Mode) → is_inside (top m) ≡ false → IsBrace TOKEN_R_BRACE m (raised (suc d) m) d (closing_brace (top (raised (suc d) m)))
  closed_base d [] e = record { named = refl; one = refl; leaves = refl }
  closed_base d (Interpolation n ∷ m) e =
      let more : suc (n + d) ≡ n + suc d = omega arith in
      subst (λ k. IsBrace TOKEN_R_BRACE (Interpolation n ∷ m) (Interpolation k ∷ m) d (closing_brace (Some (Interpolation k)))) more
      (record { named = refl; one = refl; leaves = refl })
  closed_base d (Quoted l ∷ m) e = absurd (true≢false e)
  closed_base d (Path k ∷ m) e = absurd (true≢false e)

  closing_kind : (mode : Option Mode) → opens_level (closing_brace mode).kind ≡ false × closes_level (closing_brace mode).kind ≡ true
  closing_kind None = (refl, refl)
  closing_kind (Some (Interpolation zero)) = (refl, refl)
  closing_kind (Some (Interpolation (suc n))) = (refl, refl)
  closing_kind (Some (Quoted m)) = (refl, refl)
  closing_kind (Some (Path k)) = (refl, refl)

  not_below : (kind : SyntaxKind) (tokens : List Lexeme) → (opens_level kind ≡ false) × (closes_level kind ≡ true) → IsBalancedAt kind tokens 0 → ⊥
  unfolding IsBalancedAt
  not_below kind tokens closes balanced = true≢false (sym (rw (closes.0, closes.1) at balanced))

  -- over bases outside strings and paths
  module _ (x : List ℕ) (d : ℕ) (e : is_inside (top p) ≡ false) (f : is_inside (top q) ≡ false) (cut : Cut) (tokens : List Lexeme)
      (is : normal_cut (top (raised d p)) x ≡ cut) (balanced : IsBalancedAt cut.kind tokens d) where
    at_other : (other : Cut) → normal_cut (top (raised d q)) x ≡ other → cut_at (top (raised d q)) x ≡ other
    at_other other same = normal_at (raised d q) x (raised_inside d q f) ∙ same

    opened_step : get_or x 0 0 ≡ 123 → Follows x (raised d p) (raised d q) cut tokens
    unfolding IsBalancedAt
    opened_step first =
        let here : opening_brace (top (raised d p)) ≡ cut = normal-opening_brace (top (raised d p)) x first ∙ is in
        let low = subst (IsBrace TOKEN_L_BRACE p (raised d p) (suc d)) here (opened_base d p e) in
        let high = opened_base d q f in
        record {
          other = opening_brace (top (raised d q));
          is = at_other _ (sym (normal-opening_brace (top (raised d q)) x first));
          kind = low.named ∙ sym high.named;
          len = low.one ∙ sym high.one;
          depth = suc d;
          over = subst (λ a. AreOver p q a (changed (opening_brace (top (raised d q))).change (raised d q)) (suc d)) (sym low.leaves)
              (subst (λ b. AreOver p q (raised (suc d) p) b (suc d)) (sym high.leaves) (normal (suc d) e f));
          balanced = subst (λ k. IsBalancedAt k tokens d) low.named balanced;
        }

    other_step : (get_or x 0 0 == 123) ≡ false → (get_or x 0 0 == 125) ≡ false → Follows x (raised d p) (raised d q) cut tokens
    other_step left right =
        onward_cut x (raised d p) (raised d q) d cut tokens (normal d e f)
        (subst (λ (c : Cut). IsOnward c.change c.kind) is (normal_onward (top (raised d p)) x left right)) balanced
        (at_other cut (normal_free (top (raised d q)) (top (raised d p)) x left right ∙ is))

  closed_step : (x : List ℕ) (d : ℕ) (e : is_inside (top p) ≡ false) (f : is_inside (top q) ≡ false) (cut : Cut) (tokens : List Lexeme)
      → normal_cut (top (raised d p)) x ≡ cut → IsBalancedAt cut.kind tokens d → get_or x 0 0 ≡ 125 → Follows x (raised d p) (raised d q) cut tokens
  unfolding IsBalancedAt
  closed_step x zero e f cut tokens is balanced first =
      absurd (not_below (closing_brace (top (raised 0 p))).kind tokens (closing_kind (top (raised 0 p)))
      (subst (λ (c : Cut). IsBalancedAt c.kind tokens 0) (sym (normal-closing_brace (top (raised 0 p)) x first ∙ is)) balanced))
  closed_step x (suc d) e f cut tokens is balanced first =
      let here : closing_brace (top (raised (suc d) p)) ≡ cut = normal-closing_brace (top (raised (suc d) p)) x first ∙ is in
      let low = subst (IsBrace TOKEN_R_BRACE p (raised (suc d) p) d) here (closed_base d p e) in
      let high = closed_base d q f in
      record {
        other = closing_brace (top (raised (suc d) q));
        is = at_other x (suc d) e f cut tokens is balanced _ (sym (normal-closing_brace (top (raised (suc d) q)) x first));
        kind = low.named ∙ sym high.named;
        len = low.one ∙ sym high.one;
        depth = d;
        over = subst (λ a. AreOver p q a (changed (closing_brace (top (raised (suc d) q))).change (raised (suc d) q)) d) (sym low.leaves)
            (subst (λ b. AreOver p q (raised d p) b d) (sym high.leaves) (normal d e f));
        balanced = subst (λ k. IsBalancedAt k tokens (suc d)) low.named balanced;
      }

  -- inside an interpolation that is open over them
  module _ (x : List ℕ) (a b : List Mode) (d : ℕ) (over : AreOver p q a b d) (cut : Cut) (tokens : List Lexeme) where
    inner_open : (n : ℕ) → normal_cut (Some (Interpolation n)) x ≡ cut → IsBalancedAt cut.kind tokens (suc (d + n)) → get_or x 0 0 ≡ 123
        → Follows x (Interpolation n ∷ a) (Interpolation n ∷ b) cut tokens
    unfolding IsBalancedAt cut_at
    inner_open n is balanced first =
        let here : opening_brace (Some (Interpolation n)) ≡ cut = normal-opening_brace (Some (Interpolation n)) x first ∙ is in
        let more : suc (suc (d + n)) ≡ suc (d + (n + 1)) = omega arith in
        subst (λ (c : Cut). IsBalancedAt c.kind tokens (suc (d + n)) → Follows x (Interpolation n ∷ a) (Interpolation n ∷ b) c tokens) here
        (λ h. record {
          other = opening_brace (Some (Interpolation n));
          is = sym (normal-opening_brace (Some (Interpolation n)) x first);
          kind = refl;
          len = refl;
          depth = suc (d + (n + 1));
          over = braces (n + 1) a b d over;
          balanced = subst (λ k. are_balanced tokens k ≡ true) more h;
        }) balanced

    inner_close : (n : ℕ) → normal_cut (Some (Interpolation n)) x ≡ cut → IsBalancedAt cut.kind tokens (suc (d + n)) → get_or x 0 0 ≡ 125
        → Follows x (Interpolation n ∷ a) (Interpolation n ∷ b) cut tokens
    unfolding IsBalancedAt cut_at
    inner_close zero is balanced first =
        let here : closing_brace (Some (Interpolation zero)) ≡ cut = normal-closing_brace (Some (Interpolation zero)) x first ∙ is in
        subst (λ (c : Cut). IsBalancedAt c.kind tokens (suc (d + 0)) → Follows x (Interpolation 0 ∷ a) (Interpolation 0 ∷ b) c tokens) here
        (λ h. record {
          other = closing_brace (Some (Interpolation zero));
          is = sym (normal-closing_brace (Some (Interpolation zero)) x first);
          kind = refl;
          len = refl;
          depth = d;
          over = over;
          balanced = subst (λ k. are_balanced tokens k ≡ true) (add-zero d) h;
        }) balanced
    inner_close (suc n) is balanced first =
        let here : closing_brace (Some (Interpolation (suc n))) ≡ cut = normal-closing_brace (Some (Interpolation (suc n))) x first ∙ is in
        let less : d + suc n ≡ suc (d + n) = omega arith in
        subst (λ (c : Cut). IsBalancedAt c.kind tokens (suc (d + suc n)) → Follows x (Interpolation (suc n) ∷ a) (Interpolation (suc n) ∷ b) c tokens) here
        (λ h. record {
          other = closing_brace (Some (Interpolation (suc n)));
          is = sym (normal-closing_brace (Some (Interpolation (suc n))) x first);
          kind = refl;
          len = refl;
          depth = suc (d + n);
          over = braces n a b d over;
          balanced = subst (λ k. are_balanced tokens k ≡ true) less h;
        }) balanced

  -- each token is the same over the other modes
  step : (x : List ℕ) (a b : List Mode) (d : ℕ) → AreOver p q a b d → (cut : Cut) (tokens : List Lexeme) → cut_at (top a) x ≡ cut
      → IsBalancedAt cut.kind tokens d → Follows x a b cut tokens
  unfolding IsBalancedAt cut_at
  step x _ _ _ (normal d e f) cut tokens is balanced =
      let here = sym (normal_at (raised d p) x (raised_inside d p e)) ∙ is in
      either (get_or x 0 0 == 123) (λ h. opened_step x d e f cut tokens here balanced (eqb-true (get_or x 0 0) 123 h)) (λ left.
      either (get_or x 0 0 == 125) (λ h. closed_step x d e f cut tokens here balanced (eqb-true (get_or x 0 0) 125 h)) (λ right.
      other_step x d e f cut tokens here balanced left right))
  step x _ _ _ (string m e f) cut tokens is balanced =
      let here : string_cut m x ≡ cut = ap (λ mode. cut_at mode x) (sym e) ∙ is in
      let there : cut_at (top q) x ≡ string_cut m x = ap (λ mode. cut_at mode x) f in
      subst (λ (c : Cut). IsBalancedAt c.kind tokens 0 → Follows x p q c tokens) here
      (string_cases m x (λ (c : Cut). IsBalancedAt c.kind tokens 0 → Follows x p q c tokens)
      (λ c same on h. onward_cut x p q 0 c tokens (string m e f) on h (there ∙ same))
      (λ same h. absurd (true≢false (sym h)))) balanced
  step x _ _ _ (braces n a b d over) cut tokens is balanced =
      either (get_or x 0 0 == 123) (λ h. inner_open x a b d over cut tokens n is balanced (eqb-true (get_or x 0 0) 123 h)) (λ left.
      either (get_or x 0 0 == 125) (λ h. inner_close x a b d over cut tokens n is balanced (eqb-true (get_or x 0 0) 125 h)) (λ right.
      onward_cut x (Interpolation n ∷ a) (Interpolation n ∷ b) (suc (d + n)) cut tokens (braces n a b d over)
      (subst (λ (c : Cut). IsOnward c.change c.kind) is (normal_onward (Some (Interpolation n)) x left right)) balanced is))
  step x _ _ _ (quoted m a b d over) cut tokens is balanced =
      subst (λ (c : Cut). IsBalancedAt c.kind tokens (suc d) → Follows x (Quoted m ∷ a) (Quoted m ∷ b) c tokens) is
      (string_cases m x (λ (c : Cut). IsBalancedAt c.kind tokens (suc d) → Follows x (Quoted m ∷ a) (Quoted m ∷ b) c tokens)
      (λ c same on h. onward_cut x (Quoted m ∷ a) (Quoted m ∷ b) (suc d) c tokens (quoted m a b d over) on h same)
      (λ same h. record { other = closed m; is = same; kind = refl; len = refl; depth = d; over = over; balanced = h })) balanced
  step x _ _ _ (path k a b d over) cut tokens is balanced =
      subst (λ (c : Cut). IsBalancedAt c.kind tokens d → Follows x (Path k ∷ a) (Path k ∷ b) c tokens) is
      (path_cases k x (λ (c : Cut). IsBalancedAt c.kind tokens d → Follows x (Path k ∷ a) (Path k ∷ b) c tokens)
      (λ c same on h. onward_cut x (Path k ∷ a) (Path k ∷ b) d c tokens (path k a b d over) on h same)
      (λ kind len on same h. record {
        other = record { kind = kind; len = len; change = Close };
        is = same;
        kind = refl;
        len = refl;
        depth = d;
        over = over;
        balanced = neutral_balanced kind tokens d on h;
      })) balanced

  -- all tokens are the same over the other modes
  pub record AreCutOver (rest : List ℕ) (after b : List Mode) (tokens : List Lexeme) : Type 0 where
    pub end : List Mode
    pub cuts : AreCut rest b tokens end
    pub over : AreOver p q after end 0

  pub cut_over : (rest : List ℕ) (a b : List Mode) (tokens : List Lexeme) (after : List Mode) (d : ℕ) → AreCut rest a tokens after → AreOver p q a b d
      → are_balanced tokens d ≡ true → AreCutOver rest after b tokens
  unfolding IsBalancedAt
  cut_over rest _ b _ _ zero (none a) over balanced = record { end = b; cuts = none b; over = over }
  cut_over rest _ b _ _ (suc d) (none a) over balanced = absurd (true≢false (sym balanced))
  cut_over rest _ b _ _ d (next a t cut tokens after some len is more) over balanced =
      let x = t ++ (texts tokens ++ rest) in
      let o = without_ended_paths b x in
      let follows = step x (without_ended_paths a x) o d (settled_over x a b d over) cut tokens is balanced in
      let inner = cut_over rest (changed cut.change (without_ended_paths a x)) (changed follows.other.change o) tokens after follows.depth more follows.over
      follows.balanced in
      record {
        end = inner.end;
        cuts = subst (λ k. AreCut rest b ((k, t) ∷ tokens) inner.end) (sym follows.kind)
            (next b t follows.other tokens inner.end some (sym follows.len ∙ len) follows.is inner.cuts);
        over = inner.over;
      }
