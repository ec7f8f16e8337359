-- Annotated trees: each leaf keeps its token, and each error node says why it is there.
use Rattle.std.specs.Prelude.{◌≡◌, ℕ, ◌+◌, Bool, true, false, List, [], ◌∷◌, ◌++◌, Option, Some, None, length, nat_eq}
use Rattle.rnix_kinds.specs.declared.kinds.SyntaxKind.{SyntaxKind}
use Rattle.rnix_kinds.specs.declared.kinds.SyntaxKind.TheVariants.{TOKEN_IDENT, TOKEN_OR, TOKEN_CUR_POS, NODE_IDENT, NODE_CUR_POS, NODE_ERROR}
use Rattle.rnix_kinds.specs.SyntaxKind.{is_trivia}
use Rattle.rnix_kinds.specs.Lexical.Tokens.{Lexeme}
use Rattle.rnix_green.specs.Forest.{Forest, empty, leaf, node}
use Rattle.rnix_green.specs.Range.{Extent}
use Rattle.rnix_grammar.specs.declared.expected_set.ExpectedSet.{ExpectedSet}

-- a token of a text, with its range in bytes
pub record Token : Type 0 where
  pub kind : SyntaxKind
  pub text : List ℕ
  pub start : ℕ
  pub end : ℕ

-- a token without its range
abbrev pub lexeme_of : Token → Lexeme
lexeme_of t = (t.kind, t.text)

-- tokens with their ranges, one after another, the first at the given offset
abbrev pub placed_from : ℕ → List Lexeme → List Token
placed_from n [] = []
placed_from n (l ∷ ls) = record { kind = l.0; text = l.1; start = n; end = n + length l.1 } ∷ placed_from (n + length l.1) ls

-- why an error node is there: a token that begins no operand, a run of tokens where others are wanted,
-- the tokens after the root's expression, a second name of a pattern, the tokens that are nested too deep
pub data Note : Type 0 where
  Stray : Note
  Unwanted : ExpectedSet → Note
  Extra : Note
  DoubleBind : Note
  TooDeep : Note

-- an annotated forest: a leaf has its kind and its token, an error node has its note
pub data AnnotatedForest : Type 0 where
  blank : AnnotatedForest
  token : SyntaxKind → Token → AnnotatedForest → AnnotatedForest
  branch : SyntaxKind → AnnotatedForest → AnnotatedForest → AnnotatedForest
  fault : Note → AnnotatedForest → AnnotatedForest → AnnotatedForest

-- one forest after another
infixl 20 ◌⊕◌
abbrev pub ◌⊕◌ : AnnotatedForest → AnnotatedForest → AnnotatedForest
blank ⊕ g = g
(token k t f) ⊕ g = token k t (f ⊕ g)
(branch k c f) ⊕ g = branch k c (f ⊕ g)
(fault n c f) ⊕ g = fault n c (f ⊕ g)

-- a forest of one tree
abbrev pub one_token : SyntaxKind → Token → AnnotatedForest
one_token k t = token k t blank

-- a forest of one node
abbrev pub one_branch : SyntaxKind → AnnotatedForest → AnnotatedForest
one_branch k c = branch k c blank

-- a forest of one error node
abbrev pub one_fault : Note → AnnotatedForest → AnnotatedForest
one_fault n c = fault n c blank

-- tokens as a forest of leaves of their own kinds
abbrev pub row_of : List Token → AnnotatedForest
row_of [] = blank
row_of (t ∷ ts) = token t.kind t (row_of ts)

-- the tokens, from left to right
abbrev pub tokens_in : AnnotatedForest → List Token
tokens_in blank = []
tokens_in (token k t f) = t ∷ tokens_in f
tokens_in (branch k c f) = tokens_in c ++ tokens_in f
tokens_in (fault n c f) = tokens_in c ++ tokens_in f

-- some tokens
abbrev pub is_some : List Token → Bool
is_some [] = false
is_some (t ∷ ts) = true

-- the trees without tokens and notes
abbrev pub forget : AnnotatedForest → Forest
forget blank = empty
forget (token k t f) = leaf k t.text (forget f)
forget (branch k c f) = node k (forget c) (forget f)
forget (fault n c f) = node NODE_ERROR (forget c) (forget f)

-- the kind of a token's leaf: `or` as a name is a TOKEN_IDENT like other names, and `__curPos` is a TOKEN_CUR_POS where it is an
-- expression
abbrev pub leaf_kind_as : SyntaxKind → SyntaxKind → SyntaxKind
leaf_kind_as NODE_IDENT TOKEN_OR = TOKEN_IDENT
leaf_kind_as NODE_IDENT TOKEN_CUR_POS = TOKEN_IDENT
leaf_kind_as NODE_CUR_POS TOKEN_IDENT = TOKEN_CUR_POS
leaf_kind_as parent kind = kind

-- the kind of a token's leaf below a node of a kind
abbrev pub leaf_kind : SyntaxKind → Token → SyntaxKind
leaf_kind parent t = leaf_kind_as parent t.kind

-- each leaf has the kind that its token has below its parent
abbrev pub HaveLeafKinds : SyntaxKind → AnnotatedForest → Type 0
HaveLeafKinds parent blank = Unit {0}
HaveLeafKinds parent (token k t f) = (k ≡ leaf_kind parent t) × HaveLeafKinds parent f
HaveLeafKinds parent (branch k c f) = HaveLeafKinds k c × HaveLeafKinds parent f
HaveLeafKinds parent (fault n c f) = HaveLeafKinds NODE_ERROR c × HaveLeafKinds parent f

-- a token before a forest, unless it is trivia
abbrev pub token_if : Bool → SyntaxKind → Token → AnnotatedForest → AnnotatedForest
token_if true k t f = f
token_if false k t f = token k t f

-- the trees without trivia
abbrev pub without_trivia : AnnotatedForest → AnnotatedForest
without_trivia blank = blank
without_trivia (token k t f) = token_if (is_trivia t.kind) k t (without_trivia f)
without_trivia (branch k c f) = branch k (without_trivia c) (without_trivia f)
without_trivia (fault n c f) = fault n (without_trivia c) (without_trivia f)

-- where the last of some tokens ends
abbrev pub end_from : ℕ → List Token → ℕ
end_from n [] = n
end_from n (t ∷ ts) = end_from t.end ts

-- the range of some tokens, from the first to the last
abbrev pub extent_of : List Token → Extent
extent_of [] = record { start = 0; end = 0 }
extent_of (t ∷ ts) = record { start = t.start; end = end_from t.end ts }

-- the next token, if there is one
abbrev pub head_of : List Token → Option Token
head_of [] = None
head_of (t ∷ ts) = Some t

-- the kind of a token that may be absent
abbrev pub kind_in : Option Token → Option SyntaxKind
kind_in None = None
kind_in (Some t) = Some t.kind

-- the kind of the next token
abbrev pub head_kind : List Token → Option SyntaxKind
head_kind ts = kind_in (head_of ts)

-- the next item touches what precedes it
abbrev pub touches : ℕ → List Token → Bool
touches n [] = false
touches n (t ∷ ts) = nat_eq t.start n
