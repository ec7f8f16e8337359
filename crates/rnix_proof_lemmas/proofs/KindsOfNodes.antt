-- Classes of nodes: those whose leaves keep their kinds, expressions, attributes and entries.
use Rattle.std.proofs.Common.{◌≡◌, ℕ, Bool, true, false, [], refl, sym, arith}
use Rattle.rnix_kinds.{specs.declared.kinds.SyntaxKind.{SyntaxKind, TheVariants.{NODE_ERROR, NODE_IDENT, NODE_CUR_POS, NODE_PAT_ENTRY}}}
use Rattle.rnix_grammar.specs.{AnnotatedForest.{AnnotatedForest, leaf_kind_as}, Reports.repeats, NodeClasses.{fits, is_expression}}
use Rattle.rnix_proof_lemmas.proofs.{Basics.true_is_not_false, LevelLemmas.fits_looser}

-- error nodes and nodes over one name, whose leaf may have another kind than its token
abbrev pub is_error : SyntaxKind → Bool
is_error NODE_ERROR = true
is_error NODE_IDENT = true
is_error NODE_CUR_POS = true
is_error kind = false

-- below any other node a token keeps its kind
pub keeps_kind : (k kind : SyntaxKind) → is_error k ≡ false → leaf_kind_as k kind ≡ kind
keeps_kind NODE_IDENT kind h = absurd (true_is_not_false h)
keeps_kind _ kind h = cc

-- a kind that fits at some level is an expression
pub fits_expression : (n : ℕ) (k : SyntaxKind) → fits n k ≡ true → is_expression k ≡ true
fits_expression n k h = fits_looser 0 n k (omega arith) h

-- an expression is never reported as a repeated entry
pub unreported : (k : SyntaxKind) (b c : AnnotatedForest) → is_expression k ≡ true → repeats k b c ≡ []
unreported NODE_PAT_ENTRY b c h = absurd (true_is_not_false (sym h))
unreported _ b c h = refl
