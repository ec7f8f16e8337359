-- The tokens with which a text begins.
use Rattle.std.proofs.Common.{◌≡◌, ℕ, ◌<◌, List, [], ◌∷◌, ◌++◌, length, take, drop, IsUtf8, refl, sym, ap, ◌∙◌, subst, arith}
use Rattle.std.proofs.Common.{append_assoc, length-append, length-take-le}
use Rattle.std.proofs.lemmas.{List.{take_at, drop_at}, Str.IsUtf8-drop}
use Rattle.rnix_kinds.specs.declared.tokenizer.rule.{Cut.Cut, Mode.Mode}
use Rattle.rnix_kinds.specs.Lexical.Tokens.{Lexeme, cut_at, top, without_ended_paths, changed, tokens_under}
use Rattle.rnix_kinds.proofs.LexicalLemmas.{CutLemmas.cut_good, TokensLemmas.{tokens_under-nil, tokens_under-cut, IsPathGoingOn-settled}}
use Rattle.rnix_proof_replacement.specs.Replaced.{texts}

-- under these modes, the text before the rest is cut into these tokens, and these modes are open after them
pub data AreCut (rest : List ℕ) : List Mode → List Lexeme → List Mode → Type 0 where
  none : (modes : List Mode) → AreCut rest modes [] modes
  next : (modes : List Mode) (t : List ℕ) (cut : Cut) (tokens : List Lexeme) (after : List Mode) → 0 < length t → cut.len ≡ length t
      → cut_at (top (without_ended_paths modes (t ++ (texts tokens ++ rest)))) (t ++ (texts tokens ++ rest)) ≡ cut
      → AreCut rest (changed cut.change (without_ended_paths modes (t ++ (texts tokens ++ rest)))) tokens after
      → AreCut rest modes ((cut.kind, t) ∷ tokens) after

-- a text begins with the token: its cut, and the tokens after it
pub record IsFirst (modes : List Mode) (t rest : List ℕ) (cut : Cut) (tokens : List Lexeme) : Type 0 where
  pub some : 0 < length t
  pub len : cut.len ≡ length t
  pub is : cut_at (top (without_ended_paths modes (t ++ rest))) (t ++ rest) ≡ cut
  pub more : tokens_under (changed cut.change (without_ended_paths modes (t ++ rest))) rest ≡ tokens
  pub utf8 : IsUtf8 rest

-- the tokens of a text are its first one and those after it
pub first_tokens : (modes : List Mode) (t rest : List ℕ) (cut : Cut) (tokens : List Lexeme) → 0 < length t → cut.len ≡ length t
    → cut_at (top (without_ended_paths modes (t ++ rest))) (t ++ rest) ≡ cut
    → tokens_under (changed cut.change (without_ended_paths modes (t ++ rest))) rest ≡ tokens
    → tokens_under modes (t ++ rest) ≡ (cut.kind, t) ∷ tokens
first_tokens modes t rest cut tokens some len is more =
    let o = without_ended_paths modes (t ++ rest) in
    tokens_under-cut modes (t ++ rest) cut (omega (arith, length-append t rest)) is (omega arith)
    ∙ (ap (λ w. (cut.kind, w) ∷ tokens_under (changed cut.change o) (drop cut.len (t ++ rest))) (take_at t rest cut.len (sym len))
    ∙ ap (λ ts. (cut.kind, t) ∷ ts) (ap (tokens_under (changed cut.change o)) (drop_at t rest cut.len (sym len)) ∙ more))

pub cut_tokens : (rest : List ℕ) (modes : List Mode) (tokens : List Lexeme) (after : List Mode) → AreCut rest modes tokens after
    → tokens_under modes (texts tokens ++ rest) ≡ tokens ++ tokens_under after rest
cut_tokens rest _ _ _ (none modes) = refl
cut_tokens rest _ _ _ (next modes t cut tokens after some len is more) =
    ap (tokens_under modes) (append_assoc t (texts tokens) rest)
    ∙ first_tokens modes t (texts tokens ++ rest) cut (tokens ++ tokens_under after rest) some len is (cut_tokens rest _ tokens after more)

-- equal lists have equal first elements and equal rests
same_first : (a b : Lexeme) (xs ys : List Lexeme) → a ∷ xs ≡ b ∷ ys → (a ≡ b) × (xs ≡ ys)
same_first a b xs ys e = (ap (λ l. first_or a l) e, ap (drop 1) e)
  where
    first_or : Lexeme → List Lexeme → Lexeme
    first_or d [] = d
    first_or d (t ∷ ts) = t

some_tokens : (modes : List Mode) (text : List ℕ) (token : Lexeme) (tokens : List Lexeme) → tokens_under modes text ≡ token ∷ tokens → 0 < length text
some_tokens modes [] token tokens e = absurd (omega (arith, ap length (sym (tokens_under-nil modes) ∙ e)))
some_tokens modes (b ∷ text) token tokens e = omega arith

-- the first token of a text comes from a cut
pub first_cut : (modes : List Mode) (t rest : List ℕ) (token : Lexeme) (tokens : List Lexeme) → token.1 ≡ t → IsUtf8 (t ++ rest)
    → tokens_under modes (t ++ rest) ≡ token ∷ tokens
    → (cut : Cut) × (cut.kind ≡ token.0) × IsFirst modes t rest cut tokens
first_cut modes t rest token tokens is utf8 e =
    let text = t ++ rest in
    let o = without_ended_paths modes text in
    let cut = cut_at (top o) text in
    let some = some_tokens modes text token tokens e in
    let good = cut_good (top o) text utf8 some (IsPathGoingOn-settled modes text) in
    let same = same_first (cut.kind, take cut.len text) token _ tokens (sym (tokens_under-cut modes text cut some refl good.some) ∙ e) in
    let len = length-take-le cut.len text good.boundary.0 in
    let word : take cut.len text ≡ t = ap (λ (l : Lexeme). l.1) same.0 ∙ is in
    let size : cut.len ≡ length t = sym len ∙ ap length word in
    let left : drop cut.len text ≡ rest = drop_at t rest cut.len (sym size) in
    let long : 0 < cut.len = good.some in (
      cut,
      ap (λ (l : Lexeme). l.0) same.0,
      record {
        some = omega arith;
        len = size;
        is = refl;
        more = ap (tokens_under (changed cut.change o)) (sym left) ∙ same.1;
        utf8 = subst IsUtf8 left (IsUtf8-drop text cut.len utf8 good.boundary);
      },
    )

-- a text begins with the tokens, and others follow
pub record OperandStarts (rest : List ℕ) (modes : List Mode) (tokens behind : List Lexeme) : Type 0 where
  pub after : List Mode
  pub cuts : AreCut rest modes tokens after
  pub more : tokens_under after rest ≡ behind
  pub utf8 : IsUtf8 rest

pub tokens_cut : (rest : List ℕ) (modes : List Mode) (tokens behind : List Lexeme) → IsUtf8 (texts tokens ++ rest)
    → tokens_under modes (texts tokens ++ rest) ≡ tokens ++ behind → OperandStarts rest modes tokens behind
tokens_cut rest modes [] behind utf8 e = record { after = modes; cuts = none modes; more = e; utf8 = utf8 }
tokens_cut rest modes (token ∷ tokens) behind utf8 e =
    let split = append_assoc token.1 (texts tokens) rest in
    let found = first_cut modes token.1 (texts tokens ++ rest) token (tokens ++ behind) refl (subst IsUtf8 split utf8)
    (ap (tokens_under modes) (sym split) ∙ e) in
    let cut = found.0 in
    let first = found.2 in
    let o = without_ended_paths modes (token.1 ++ (texts tokens ++ rest)) in
    let inner = tokens_cut rest (changed cut.change o) tokens behind first.utf8 first.more in
    record {
      after = inner.after;
      cuts = subst (λ k. AreCut rest modes ((k, token.1) ∷ tokens) inner.after) found.1
          (next modes token.1 cut tokens inner.after first.some first.len first.is inner.cuts);
      more = inner.more;
      utf8 = inner.utf8;
    }
