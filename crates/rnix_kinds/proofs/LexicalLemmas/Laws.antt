-- What holds of the tokens of every text.
use Rattle.std.proofs.Common.{◌≡◌, ℕ, zero, suc, ◌<◌, ◌≤◌, List, [], ◌∷◌, ◌++◌, length, take, drop, IsUtf8, refl, sym, ap, ◌∙◌, subst, arith, length-drop}
use Rattle.std.proofs.{Common.{length-take-le, take-append-drop}, lemmas.{List.Elements.{All-nil, All-cons}, Str.{IsUtf8-drop, IsUtf8-take}}}
use Rattle.rnix_kinds.specs.{declared.tokenizer.rule.{Cut.Cut, Mode.Mode}, Lexical.Tokens.{cut_at, top, without_ended_paths, changed, tokens_under, Lexeme}}
use Rattle.rnix_kinds.{specs.Lexical.Tokens.{MayBe, IsCutOf, AreTokens, none, next, AreSound}, proofs.LexicalLemmas.CutLemmas.cut_good}
use Rattle.rnix_kinds.proofs.LexicalLemmas.TokensLemmas.{tokens_under-nil, tokens_under-cut, IsPathGoingOn-settled}

-- an induction over the tokens of a text
module _ (P : List Mode → List ℕ → List Lexeme → Type 0) (end : (modes : List Mode) → P modes [] [])
    (step : (modes : List Mode) (text : List ℕ) (cut : Cut) (tokens : List Lexeme) → IsUtf8 text → 0 < length text
    → cut_at (top (without_ended_paths modes text)) text ≡ cut → IsCutOf (top (without_ended_paths modes text)) text cut
    → P (changed cut.change (without_ended_paths modes text)) (drop cut.len text) tokens → P modes text ((cut.kind, take cut.len text) ∷ tokens)) where
  pub along_tokens : (n : ℕ) (modes : List Mode) (text : List ℕ) → length text ≤ n → IsUtf8 text → P modes text (tokens_under modes text)
  along_tokens n modes [] h utf8 = subst (P modes []) (sym (tokens_under-nil modes)) (end modes)
  along_tokens zero modes (b ∷ text) h utf8 = absurd (omega arith)
  along_tokens (suc n) modes (b ∷ text) h utf8 =
      let whole : List ℕ = b ∷ text in
      let cut = cut_at (top (without_ended_paths modes whole)) whole in
      let good = cut_good (top (without_ended_paths modes whole)) whole utf8 (omega arith) (IsPathGoingOn-settled modes whole) in
      let shorter : length (drop cut.len whole) ≤ n = omega (arith, length-drop cut.len whole, good.some) in
      subst (P modes whole) (sym (tokens_under-cut modes whole cut (omega arith) refl good.some))
      (step modes whole cut _ utf8 (omega arith) refl good (along_tokens n (changed cut.change (without_ended_paths modes whole)) (drop cut.len whole) shorter
      (IsUtf8-drop whole cut.len utf8 good.boundary)))

-- every text has tokens
pub AreTokens-tokens_under : (modes : List Mode) (text : List ℕ) → IsUtf8 text → AreTokens modes text (tokens_under modes text)
AreTokens-tokens_under modes text utf8 =
    along_tokens AreTokens none (λ modes text cut tokens utf8 some e good more. next modes text cut tokens some e more) (length text) modes text
    (omega arith) utf8

-- and no text has two lists of tokens
pub AreTokens-unique : (modes : List Mode) (text : List ℕ) (xs ys : List Lexeme) → AreTokens modes text xs → AreTokens modes text ys → xs ≡ ys
AreTokens-unique _ _ _ _ (none modes) (none _) = refl
AreTokens-unique _ _ _ _ (none modes) (next _ _ cut tokens some e more) = absurd (omega arith)
AreTokens-unique _ _ _ _ (next modes text cut tokens some e more) (none _) = absurd (omega arith)
AreTokens-unique _ _ _ _ (next modes text cut tokens some e more) (next _ _ other others also f rest) =
    let same : other ≡ cut = sym f ∙ e in
    ap (λ ts. (cut.kind, take cut.len text) ∷ ts) (AreTokens-unique _ _ _ _ more
    (subst (λ c. AreTokens (changed c.change (without_ended_paths modes text)) (drop c.len text) others) same rest))
    ∙ ap (λ c. (c.kind, take c.len text) ∷ others) (sym same)

pub AreSound-tokens_under : (modes : List Mode) (text : List ℕ) → IsUtf8 text → AreSound text (tokens_under modes text)
AreSound-tokens_under modes text utf8 =
    along_tokens (λ modes text tokens. AreSound text tokens)
    (λ modes. record {
      joined = refl;
      some = All-nil (λ (t : Lexeme). 0 < length t.1);
      utf8 = All-nil (λ (t : Lexeme). IsUtf8 t.1);
      named = All-nil (λ (t : Lexeme). MayBe t.0 t.1);
    })
    (λ modes text cut tokens utf8 some e good more. record {
      joined = ap (λ r. take cut.len text ++ r) more.joined ∙ take-append-drop cut.len text;
      some = All-cons (λ (t : Lexeme). 0 < length t.1) (cut.kind, take cut.len text) tokens
          (omega (arith, length-take-le cut.len text good.boundary.0, good.some)) more.some;
      utf8 = All-cons (λ (t : Lexeme). IsUtf8 t.1) (cut.kind, take cut.len text) tokens (IsUtf8-take text cut.len utf8 good.boundary) more.utf8;
      named = All-cons (λ (t : Lexeme). MayBe t.0 t.1) (cut.kind, take cut.len text) tokens good.named more.named;
    }) (length text) modes text (omega arith) utf8
