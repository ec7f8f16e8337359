-- The brackets of a node: its first and last token, or its brace and its last token.
use Rattle.std.proofs.Common.{◌≡◌, ◌⊎◌, inl, inr, ◌∙◌, true, refl, ap, sym}
use Rattle.rnix_kinds.specs.declared.kinds.SyntaxKind.{SyntaxKind}
use Rattle.rnix_kinds.specs.declared.kinds.SyntaxKind.TheVariants.{TOKEN_L_BRACE}
use Rattle.rnix_green.specs.Forest.{Forest}
use Rattle.rnix_grammar.specs.AnnotatedForest.{Token, AnnotatedForest, tokens_in, without_trivia}
use Rattle.rnix_grammar.specs.Rules.{row, after}
use Rattle.rnix_proof_lemmas.proofs.ReachableRows.{known_row, known_after}
use Rattle.rnix_proof_lemmas.proofs.ReportLemmas.{without_trivia_tokens}
use Rattle.rnix_proof_replacement.specs.Replaced.{is_opening, is_closing}
use Rattle.rnix_proof_reparse.specs.Bracketed.{IsBracketed, set, recursive_set, legacy_let, list, paren, string, precedes_brace}
use Rattle.rnix_proof_reparse.specs.Bracketed.{HaveSameBrace}
use Rattle.rnix_proof_reparse.proofs.BalancedItems.{is_within}
use Rattle.rnix_proof_reparse.proofs.BracketedNodes.{bracketed, opened}
use Rattle.rnix_proof_reparse.proofs.NodeReadings.{IsNodeAt, balanced_between}
use Rattle.rnix_proof_reparse.proofs.ReparsedTokens.{HasBrackets}
use Rattle.rnix_proof_reparse.proofs.ReparsedTrees.{HaveEndKinds}
use Rattle.rnix_proof_reparse.proofs.KeywordNodes.{HasBrace, balanced_behind}

-- a node begins with its opening bracket
pub record IsOpening (k l : SyntaxKind) : Type 0 where
  pub opening : is_opening l ≡ true
  pub within : is_within k (after (row k) l) ≡ true

-- it begins with `rec` or `let`, and then with the same trivia and brace as another
pub record IsKeyword (k l : SyntaxKind) (d e : Forest) : Type 0 where
  pub same : HaveSameBrace d e
  pub within : is_within k (after (after (row k) l) TOKEN_L_BRACE) ≡ true

pub beginning : {k l r : SyntaxKind} → IsBracketed k l r → (d e : Forest) → (precedes_brace l ≡ true → HaveSameBrace d e) → IsOpening k l ⊎ IsKeyword k l d e
beginning set d e h = inl (record { opening = refl; within = refl })
beginning recursive_set d e h = inr (record { same = h refl; within = refl })
beginning legacy_let d e h = inr (record { same = h refl; within = refl })
beginning list d e h = inl (record { opening = refl; within = refl })
beginning paren d e h = inl (record { opening = refl; within = refl })
beginning string d e h = inl (record { opening = refl; within = refl })

last_closing : {k l r : SyntaxKind} → IsBracketed k l r → is_closing r ≡ true
last_closing set = refl
last_closing recursive_set = refl
last_closing legacy_let = refl
last_closing list = refl
last_closing paren = refl
last_closing string = refl

-- the brackets of both
pub own_brackets : {k l r : SyntaxKind} (w : IsBracketed k l r) → IsOpening k l → (t u : Token) (x : AnnotatedForest) → HaveEndKinds k l r t u x
    → IsNodeAt k (bracketed l t (without_trivia x) r u) → HasBrackets t u (tokens_in x)
own_brackets {k} {l} {r} w i t u x kinds h = record {
  opening = ap is_opening kinds.opening ∙ i.opening;
  closing = ap is_closing kinds.closing ∙ last_closing w;
  balanced = balanced_between (without_trivia x) r u (opened h.reads refl).1 (known_after l (known_row k)) i.within h.ended (tokens_in x)
      (sym (without_trivia_tokens x));
}

pub keyword_brackets : {k l r : SyntaxKind} (w : IsBracketed k l r) {d e : Forest} → IsKeyword k l d e → (t u : Token) (x : AnnotatedForest) (b : HasBrace x)
    → HaveEndKinds k l r t u x → IsNodeAt k (bracketed l t (without_trivia x) r u) → HasBrackets b.brace u (tokens_in b.inner)
keyword_brackets {r = r} w i t u x b kinds h = record {
  opening = ap is_opening b.kind;
  closing = ap is_closing kinds.closing ∙ last_closing w;
  balanced = balanced_behind t x b r u h.reads i.within h.ended;
}
