-- Leaves whose kinds agree with their tokens.
use Rattle.std.specs.Prelude.{◌≡◌, Bool, true, false, if◌then◌else◌}
use Rattle.rnix_kinds.specs.declared.kinds.SyntaxKind.{SyntaxKind}
use Rattle.rnix_kinds.specs.SyntaxKind.{is_token}
use Rattle.rnix_grammar.specs.AnnotatedForest.{AnnotatedForest, blank, token, branch, fault}
use Rattle.rnix_grammar.specs.Yield.{kind_of_token}

-- the kinds of nodes
abbrev pub is_node : SyntaxKind → Bool
is_node kind = if is_token kind then false else true

-- the token of each leaf has the kind that the leaf's kind and text say, and no tree is an error node
abbrev pub HaveTokenKinds : AnnotatedForest → Type 0
HaveTokenKinds blank = Unit {0}
HaveTokenKinds (token k t f) = (is_node k ≡ false) × (t.kind ≡ kind_of_token k t.text) × HaveTokenKinds f
HaveTokenKinds (branch k c f) = HaveTokenKinds c × HaveTokenKinds f
HaveTokenKinds (fault n c f) = ⊥
