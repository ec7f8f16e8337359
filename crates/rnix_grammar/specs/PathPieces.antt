-- What a strict tree needs besides its shape to be read as it is: the pieces of its paths touch.
use Rattle.std.specs.Prelude.{◌≡◌, ℕ, Bool, true, false, ◌&&◌, List, [], ◌∷◌, ◌++◌, if◌then◌else◌, nat_eq}
use Rattle.rnix_kinds.specs.declared.kinds.SyntaxKind.{SyntaxKind}
use Rattle.rnix_kinds.specs.declared.kinds.SyntaxKind.TheVariants.{NODE_PATH_ABS, NODE_PATH_HOME, NODE_PATH_REL}
use Rattle.rnix_grammar.specs.AnnotatedForest.{Token, AnnotatedForest, blank, token, branch, fault, tokens_in, end_from, touches}
use Rattle.rnix_grammar.specs.TokenKinds.{is_piece_start}

-- the next item touches what ends here, and would continue the path
abbrev pub goes_on_path : ℕ → List Token → Bool
goes_on_path n [] = false
goes_on_path n (t ∷ ts) = nat_eq t.start n && is_piece_start t.kind

-- the pieces of a path after an offset touch one another, and what follows does not continue them
abbrev pub joins : ℕ → AnnotatedForest → List Token → Bool
joins n blank rest = if goes_on_path n rest then false else true
joins n (token k t f) rest = nat_eq t.start n && joins t.end f rest
joins n (branch k c f) rest = touches n (tokens_in c ++ (tokens_in f ++ rest)) && joins (end_from n (tokens_in c)) f rest
joins n (fault m c f) rest = false

-- after the first token of a path: nothing, or pieces that touch one another and that what follows does not continue
abbrev pub joins_first : ℕ → AnnotatedForest → List Token → Bool
joins_first n blank rest = true
joins_first n f rest = joins n f rest

-- the children of a path are one token; or they touch one another, and what follows does not continue them
abbrev pub is_joined : AnnotatedForest → List Token → Bool
is_joined (token k t f) rest = joins_first t.end f rest
is_joined f rest = true

-- the kinds of paths that may be interpolated
abbrev pub is_path : SyntaxKind → Bool
is_path NODE_PATH_ABS = true
is_path NODE_PATH_REL = true
is_path NODE_PATH_HOME = true
is_path kind = false

-- this holds for each path of a forest before these items
abbrev pub ArePaths : AnnotatedForest → List Token → Type 0
ArePaths blank rest = Unit {0}
ArePaths (token k t f) rest = ArePaths f rest
ArePaths (branch k c f) rest =
    ((if is_path k then is_joined c (tokens_in f ++ rest) else true) ≡ true) × ArePaths c (tokens_in f ++ rest) × ArePaths f rest
ArePaths (fault n c f) rest = ⊥
