-- Forests whose names are where they are allowed, and which errors a text lacks.
use Rattle.std.specs.Prelude.{◌≡◌, Bool, true, false, List, [], ◌∷◌, if◌then◌else◌}
use Rattle.rnix_kinds.specs.declared.kinds.SyntaxKind.{SyntaxKind}
use Rattle.rnix_kinds.specs.declared.kinds.SyntaxKind.TheVariants.{NODE_PAT_BIND}
use Rattle.rnix_grammar.specs.Fault.{Fault, duplicated_args}
use Rattle.rnix_grammar.specs.AnnotatedForest.{AnnotatedForest, blank, token, branch, fault}
use Rattle.rnix_grammar.specs.declared.rules.Part.TheVariants.{EndOr}
use Rattle.rnix_grammar.specs.Rules.{Row, ◌·◌, row, after}
use Rattle.rnix_grammar.specs.AllowedNames.{is_named}
use Rattle.rnix_grammar.specs.BehindErrors.{after_error}

-- a forest begins with a token
abbrev pub begins_with_token : AnnotatedForest → Bool
begins_with_token (token k t f) = true
begins_with_token f = false

-- the name of a pattern precedes `@` at the beginning of the pattern, and follows it at the end
abbrev pub is_bind_at : Row → AnnotatedForest → Bool
is_bind_at (EndOr kind · r) c = begins_with_token c
is_bind_at r c = if begins_with_token c then false else true

-- a node that is the name of a pattern, another name or `__curPos` is allowed at this position of a row
abbrev pub is_name_allowed : Row → SyntaxKind → AnnotatedForest → Bool
is_name_allowed q NODE_PAT_BIND c = is_bind_at q c
is_name_allowed q kind c = is_named q kind c

-- the same for all nodes of a forest that begins at this position of a row
abbrev pub AreNamed : Row → AnnotatedForest → Type 0
AreNamed q blank = Unit {0}
AreNamed q (token k t f) = AreNamed (after q k) f
AreNamed q (branch k c f) = (is_name_allowed q k c ≡ true) × AreNamed (row k) c × AreNamed (after q k) f
AreNamed q (fault n c f) = AreNamed (after_error q n) f

-- the error is about a repeated name
abbrev pub is_repeated : Fault → Bool
is_repeated (duplicated_args range name) = true
is_repeated e = false

-- no error passes the test
abbrev pub Lacks : (Fault → Bool) → List Fault → Type 0
Lacks test [] = Unit {0}
Lacks test (e ∷ es) = (test e ≡ false) × Lacks test es
