-- A node that was parsed alone, in place of the old one.
use Rattle.std.proofs.Common.{◌≡◌, ℕ, List, [], sym, subst}
use Rattle.rnix_kinds.specs.declared.kinds.SyntaxKind.TheVariants.{NODE_ROOT}
use Rattle.rnix_kinds.specs.Lexical.Tokens.{tokens_of}
use Rattle.rnix_green.specs.Forest.{text_of}
use Rattle.rnix_green.specs.Range.{Extent}
use Rattle.rnix_green.specs.Splice.{IsSpliced}
use Rattle.rnix_green.specs.Tree.{Tree, forest_of}
use Rattle.rnix_reparse.specs.EditedRange.{edited}
use Rattle.rnix_reparse.specs.ReparsedNode.{IsReparsedNode}
use Rattle.rnix_reparse.proofs.SplicedReadings.{root_kind}

-- the same of equal trees
pub reparsed_same : (t u v w : Tree) (n : ℕ) (range : Extent) (replacement : List ℕ) → IsReparsedNode t n u range replacement → t ≡ v → w ≡ u
    → IsReparsedNode v n w range replacement
reparsed_same t u v w n range replacement h same new =
    subst (λ z. IsReparsedNode v n z range replacement) (sym new) (subst (λ z. IsReparsedNode z n u range replacement) same h)

-- the root of the tree with the new node is a NODE_ROOT
pub new_root : (t u v : Tree) (n : ℕ) (range : Extent) (replacement : List ℕ) → IsReparsedNode t n u range replacement → IsSpliced t n u v
    → v.kind ≡ NODE_ROOT
new_root t u v n range replacement h spliced =
    root_kind (tokens_of (edited range replacement (text_of (forest_of t)))) v [] (h.parsed v spliced).reading
