-- A bracketed node that is read without errors alone may replace another one of its kind anywhere, if it nests within the limit.
use Rattle.std.proofs.Common.{◌≡◌, ℕ, ◌+◌, ◌≤◌, Bool, true, false, List, [], ◌∷◌, ◌++◌, Option, Some, None, refl, ap, sym, ◌∙◌, subst, nat_eq, if◌then◌else◌}
use Rattle.rnix_kinds.specs.declared.kinds.SyntaxKind.{SyntaxKind}
use Rattle.rnix_kinds.specs.declared.kinds.SyntaxKind.TheVariants.{NODE_ATTR_SET, NODE_LEGACY_LET, NODE_LIST, NODE_PAREN, NODE_STRING}
use Rattle.rnix_grammar.specs.AnnotatedForest.{Token, AnnotatedForest, blank, token, ◌⊕◌, one_token, tokens_in, leaf_kind, head_kind, end_from}
use Rattle.rnix_grammar.specs.Levels.{expression_level}
use Rattle.rnix_grammar.specs.OperandStarts.{is_pattern, kind_if, first_kind, second_kind}
use Rattle.rnix_grammar.specs.Fault.{Fault}
use Rattle.rnix_grammar.specs.Nesting.{depth_of}
use Rattle.rnix_grammar.specs.Reads.{Reads, leaf, missing_part, IsOver}
use Rattle.rnix_grammar.specs.Rules.{Row, done, row, after, may_end, IsExpected, IsFollowed}
use Rattle.rnix_grammar.specs.Tables.{depth_limit}
use Rattle.rnix_proof_lemmas.proofs.AnnotatedForestLemmas.{tokens_in-⊕, tokens_two}
use Rattle.rnix_proof_lemmas.proofs.Basics.{true_is_not_false, not_nil}
use Rattle.rnix_proof_lemmas.proofs.ReachableRows.{IsKnown, every_known, known_row, known_after}
use Rattle.rnix_proof_reparse.specs.Bracketed.{IsBracketed, set, recursive_set, legacy_let, list, paren, string}
use Rattle.rnix_proof_reparse.proofs.SeenItems.{start_kind, Sees, sees_cons, sees_more}
use Rattle.rnix_proof_reparse.proofs.CarriedReadings.{placed, known_end, ending, close}
use Rattle.rnix_proof_reparse.proofs.ReplacedReadings.{IsColonless, end_more, IsNodeRead, MayStand}

-- a token that starts at another byte
abbrev pub starting : Token → ℕ → Token
starting t z = record { kind = t.kind; text = t.text; start = z; end = t.end }

-- the children of a bracketed node: its opening token, what is between the brackets, and its closing token
abbrev pub bracketed : SyntaxKind → Token → AnnotatedForest → SyntaxKind → Token → AnnotatedForest
bracketed l t x r u = token l t (x ⊕ one_token r u)

-- whether a closing bracket begins a pattern does not depend on the next item, if this is neither `:` nor `@`
closing_pattern : {k l r : SyntaxKind} → IsBracketed k l r → (us : List Token) → IsColonless us → is_pattern (Some r) None ≡ is_pattern (Some r) (head_kind us)
closing_pattern set us colonless = sym colonless
closing_pattern recursive_set us colonless = sym colonless
closing_pattern legacy_let us colonless = sym colonless
closing_pattern list us colonless = refl
closing_pattern paren us colonless = refl
closing_pattern string us colonless = refl

closing_start : {k l r : SyntaxKind} → IsBracketed k l r → (level : ℕ) (text : List ℕ) (a b : Option SyntaxKind)
    → first_kind level r text None None ≡ first_kind level r text a b
closing_start set level text a b = refl
closing_start recursive_set level text a b = refl
closing_start legacy_let level text a b = refl
closing_start list level text a b = refl
closing_start paren level text a b = refl
closing_start string level text a b = refl

closing_sees : {k l r : SyntaxKind} → IsBracketed k l r → (u : Token) → u.kind ≡ r → (z : ℕ) (us : List Token) → IsColonless us
    → Sees (u ∷ []) (ending u z ∷ us)
closing_sees w u e z us colonless = (
  refl,
  refl,
  subst (λ j. is_pattern (Some j) None ≡ is_pattern (Some j) (head_kind us)) (sym e) (closing_pattern w us colonless),
  λ level. subst (λ j. first_kind level j u.text None None ≡ first_kind level j u.text (head_kind us) (second_kind us)) (sym e)
      (closing_start w level u.text (head_kind us) (second_kind us)),
)

-- whether an opening bracket is the second item of a pattern does not depend on what follows it
opening_pattern : {k l r : SyntaxKind} → IsBracketed k l r → (a b : Option SyntaxKind) → is_pattern (Some l) a ≡ is_pattern (Some l) b
opening_pattern set a b = refl
opening_pattern recursive_set a b = refl
opening_pattern legacy_let a b = refl
opening_pattern list a b = refl
opening_pattern paren a b = refl
opening_pattern string a b = refl

opening_start : {k l r : SyntaxKind} → IsBracketed k l r → (level : ℕ) (s t : List ℕ) (a b c d : Option SyntaxKind) → first_kind 0 l s a b ≡ k
    → first_kind 0 l t c d ≡ k → first_kind level l s a b ≡ first_kind level l t c d
opening_start set level s t a b c d e h = e ∙ sym h
opening_start recursive_set level s t a b c d e h = refl
opening_start legacy_let level s t a b c d e h = ap (kind_if (nat_eq level expression_level)) (e ∙ sym h)
opening_start list level s t a b c d e h = refl
opening_start paren level s t a b c d e h = refl
opening_start string level s t a b c d e h = refl

opening_sees : {k l r : SyntaxKind} → IsBracketed k l r → (t u : Token) → t.kind ≡ l → u.kind ≡ l → t.start ≡ u.start → (ts us : List Token)
    → start_kind 0 (t ∷ ts) ≡ k → start_kind 0 (u ∷ us) ≡ k → Sees (t ∷ ts) (u ∷ us)
opening_sees {k} {l} w t u e h at ts us b c = (
  e ∙ sym h,
  at,
  ap (λ j. is_pattern (Some j) (head_kind ts)) e ∙ opening_pattern w (head_kind ts) (head_kind us) ∙ sym (ap (λ j. is_pattern (Some j) (head_kind us)) h),
  λ level. ap (λ j. first_kind level j t.text (head_kind ts) (second_kind ts)) e
      ∙ opening_start w level t.text u.text (head_kind ts) (second_kind ts) (head_kind us) (second_kind us)
      (sym (ap (λ j. first_kind 0 j t.text (head_kind ts) (second_kind ts)) e) ∙ b)
      (sym (ap (λ j. first_kind 0 j u.text (head_kind us) (second_kind us)) h) ∙ c)
      ∙ sym (ap (λ j. first_kind level j u.text (head_kind us) (second_kind us)) h),
)

-- the row of a bracketed node is complete after its closing bracket only
abbrev is_bracketed : SyntaxKind → Bool
is_bracketed NODE_ATTR_SET = true
is_bracketed NODE_LEGACY_LET = true
is_bracketed NODE_LIST = true
is_bracketed NODE_PAREN = true
is_bracketed NODE_STRING = true
is_bracketed k = false

abbrev is_done : Row → Bool
is_done done = true
is_done q = false

done_is : (q : Row) → is_done q ≡ true → q ≡ done
done_is done h = refl
done_is _ h = absurd (true_is_not_false (sym h))

bracketed_is : {k l r : SyntaxKind} → IsBracketed k l r → is_bracketed k ≡ true
bracketed_is set = refl
bracketed_is recursive_set = refl
bracketed_is legacy_let = refl
bracketed_is list = refl
bracketed_is paren = refl
bracketed_is string = refl

row_over : {k l r : SyntaxKind} → IsBracketed k l r → (q : Row) → IsKnown k q → may_end q ≡ true → q ≡ done
row_over {k} w q known v =
    done_is q (sym (ap (λ b. if b then (if is_bracketed k then is_done q else true) else true) v
    ∙ ap (λ b. if b then is_done q else true) (bracketed_is w))
    ∙ every_known (λ i q. if may_end q then (if is_bracketed i then is_done q else true) else true) (λ i. refl) refl k q known)

done_over : (n : ℕ) (us : List Token) → IsOver done n us
done_over n [] = (refl, refl)
done_over n (u ∷ us) = (refl, refl)

-- the row of a bracketed node begins with the opening bracket
open_expected : {k l r : SyntaxKind} → IsBracketed k l r → (n : ℕ) (ts : List Token) → IsExpected (row k) n ts true
open_expected set n ts = tt
open_expected recursive_set n ts = tt
open_expected legacy_let n ts = tt
open_expected list n ts = tt
open_expected paren n ts = tt
open_expected string n ts = tt

open_followed : {k l r : SyntaxKind} → IsBracketed k l r → (next : Option SyntaxKind) → IsFollowed (row k) blank next
open_followed set next = tt
open_followed recursive_set next = tt
open_followed legacy_let next = tt
open_followed list next = tt
open_followed paren next = tt
open_followed string next = tt

-- a reading of a bracketed node continues after the opening bracket
pub opened : {k l : SyntaxKind} {d m : ℕ} {q s : Row} {b x : AnnotatedForest} {t : Token} {us : List Token} {es : List Fault}
    → Reads k d m q s b us (token l t x) es → es ≡ [] → (l ≡ leaf_kind k t) × Reads k d t.end (after q l) s (b ⊕ one_token l t) us x []
opened (missing_part u f o y h) z = absurd (not_nil z)
opened {k} {d = d} {q = q} {s = s} {b = b} {x = x} {t = t} {us = us} (leaf o f h) z =
    (refl, subst (λ (e : List Fault). Reads k d t.end (after q (leaf_kind k t)) s (b ⊕ one_token (leaf_kind k t) t) us x e) z h)

-- the node is read at another place, if what follows its opening bracket is
there_from : {k r : SyntaxKind} (t u : Token) (x : AnnotatedForest) {d : ℕ} {s : Row} → IsBracketed k (leaf_kind k t) r
    → Reads k d t.end (after (row k) (leaf_kind k t)) s (one_token (leaf_kind k t) t) [] (x ⊕ one_token r u) [] → may_end s ≡ true → u.kind ≡ r
    → (a z n v : ℕ) (us : List Token) → IsColonless us → v + depth_of (row k) (token (leaf_kind k t) t (x ⊕ one_token r u)) ≤ depth_limit
    → IsNodeRead k v n (token (leaf_kind k t) (starting t a) (x ⊕ one_token r (ending u z))) us
there_from {k} {r} t u x {s = s} w h ended kind a z n v us colonless fit = record {
  rest = s;
  reads = leaf (open_expected w n (starting t a ∷ (tokens_in (x ⊕ one_token r (ending u z)) ++ us))) (open_followed w (Some (leaf_kind k t)))
      (close w {c = blank} {e = blank} x r u h refl v fit placed z us (closing_sees w u kind z us colonless));
  over = subst (λ (q : Row). IsOver q (end_from n (tokens_in (bracketed (leaf_kind k t) (starting t a) x r (ending u z)))) us)
      (sym (row_over w s (known_end h refl (known_after (leaf_kind k t) (known_row k))) ended))
      (done_over (end_from n (tokens_in (bracketed (leaf_kind k t) (starting t a) x r (ending u z)))) us);
}

read_there : {k l r : SyntaxKind} (w : IsBracketed k l r) (t u : Token) (x : AnnotatedForest) {d m : ℕ} {s : Row}
    → Reads k d m (row k) s blank [] (token l t (x ⊕ one_token r u)) [] → may_end s ≡ true → u.kind ≡ r
    → (a z n v : ℕ) (us : List Token) → IsColonless us → v + depth_of (row k) (token l t (x ⊕ one_token r u)) ≤ depth_limit
    → IsNodeRead k v n (token l (starting t a) (x ⊕ one_token r (ending u z))) us
read_there {k} {l} {r} w t u x {d = d} {s = s} h ended kind a z n v us colonless fit =
    let o = opened h refl in
    subst (λ (j : SyntaxKind). IsBracketed k j r → Reads k d t.end (after (row k) j) s (one_token j t) [] (x ⊕ one_token r u) []
    → v + depth_of (row k) (token j t (x ⊕ one_token r u)) ≤ depth_limit → IsNodeRead k v n (token j (starting t a) (x ⊕ one_token r (ending u z))) us)
    (sym o.0) (λ w h fit. there_from t u x w h ended kind a z n v us colonless fit) w o.1 fit

-- such children end where their closing bracket does
end_closed : (n : ℕ) (x : AnnotatedForest) (r : SyntaxKind) (u : Token) → end_from n (tokens_in (x ⊕ one_token r u)) ≡ u.end
end_closed n x r u = ap (end_from n) (tokens_in-⊕ x (one_token r u)) ∙ end_more n (tokens_in x) (u ∷ [])

-- alone, the items of a bracketed node begin it as an operand; so they do whatever follows that is neither `:` nor `@`
abbrev pub BeginsItself : SyntaxKind → SyntaxKind → Token → AnnotatedForest → SyntaxKind → Token → Type 0
BeginsItself k l t x r u = start_kind 0 (t ∷ (tokens_in x ++ (u ∷ []))) ≡ k

begins_before : {k l r : SyntaxKind} (w : IsBracketed k l r) (t u : Token) (x : AnnotatedForest) → u.kind ≡ r → BeginsItself k l t x r u
    → (us : List Token) → IsColonless us → start_kind 0 (t ∷ (tokens_in (x ⊕ one_token r u) ++ us)) ≡ k
begins_before {r = r} w t u x e b us colonless =
    let more : Sees (t ∷ (tokens_in x ++ (u ∷ []))) (t ∷ (tokens_in x ++ (u ∷ us))) =
    sees_cons t (tokens_in x ++ (u ∷ [])) (tokens_in x ++ (u ∷ us)) (sees_more (tokens_in x) (u ∷ []) (u ∷ us) (closing_sees w u e u.end us colonless)) in
    ap (λ ts. start_kind 0 (t ∷ ts)) (tokens_two x (one_token r u) us) ∙ (sym (more.3 0) ∙ b)

-- this holds for other ranges of the brackets
begins_moved : {k l r : SyntaxKind} (w : IsBracketed k l r) (t u : Token) (x : AnnotatedForest) → u.kind ≡ r → BeginsItself k l t x r u → (a z : ℕ)
    → BeginsItself k l (starting t a) x r (ending u z)
begins_moved w t u x e b a z =
    let more : Sees (t ∷ (tokens_in x ++ (u ∷ []))) (t ∷ (tokens_in x ++ (ending u z ∷ []))) =
    sees_cons t (tokens_in x ++ (u ∷ [])) (tokens_in x ++ (ending u z ∷ [])) (sees_more (tokens_in x) (u ∷ []) (ending u z ∷ [])
    (closing_sees w u e z [] refl)) in
    sym (more.3 0) ∙ b

-- so the node may replace another one of its kind
pub may_stand : {k l r : SyntaxKind} (w : IsBracketed k l r) (t u : Token) (x : AnnotatedForest) (a b : Token) (y : AnnotatedForest)
    → t.kind ≡ l → u.kind ≡ r → a.kind ≡ l → b.kind ≡ r → BeginsItself k l t x r u → BeginsItself k l a y r b
    → {d m : ℕ} {s : Row} → Reads k d m (row k) s blank [] (token l a (y ⊕ one_token r b)) [] → may_end s ≡ true
    → MayStand k (bracketed l t x r u) (bracketed l (starting a t.start) y r (ending b u.end)) (depth_of (row k) (bracketed l a y r b))
may_stand {k} {l} {r} w t u x a b y tl ur al br old new h ended = record {
  sees = λ us colonless. opening_sees w t (starting a t.start) tl al refl (tokens_in (x ⊕ one_token r u) ++ us)
      (tokens_in (y ⊕ one_token r (ending b u.end)) ++ us) (begins_before w t u x ur old us colonless)
      (begins_before w (starting a t.start) (ending b u.end) y br (begins_moved w a b y br new t.start u.end) us colonless);
  ends = λ n. end_closed t.end x r u ∙ sym (end_closed a.end y r (ending b u.end));
  reads = λ d n us colonless fit. read_there w a b y h ended br t.start u.end n d us colonless fit;
}
