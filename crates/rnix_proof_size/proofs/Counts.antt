-- How many nodes are in a forest, with and without its trivia.
use Rattle.std.proofs.{Common.{◌≡◌, ◌≤◌, ℕ, suc, ◌+◌, Bool, true, false, List, [], ◌∷◌, ◌++◌, length, refl, ap, ◌∙◌, arith}, lemmas.List.length-append}
use Rattle.{rnix_kinds.specs.{declared.kinds.SyntaxKind.SyntaxKind, Lexical.Tokens.Lexeme, SyntaxKind.is_trivia}, rnix_green.specs.Forest.element_count}
use Rattle.rnix_grammar.specs.AnnotatedForest.{Token, AnnotatedForest, blank, token, branch, fault, row_of, tokens_in, forget, without_trivia, token_if}
use Rattle.rnix_grammar.specs.{AnnotatedForest.placed_from, Layout.{items, item_if}}

-- the nodes of a forest, at every depth
abbrev pub nodes : AnnotatedForest → ℕ
nodes blank = 0
nodes (token k t f) = nodes f
nodes (branch k c f) = suc (nodes c + nodes f)
nodes (fault n c f) = suc (nodes c + nodes f)

-- the elements of a node and of the trees after it
two_rows : (c f : AnnotatedForest) (m n : ℕ) → m ≡ nodes c + length (tokens_in c) → n ≡ nodes f + length (tokens_in f)
    → suc (m + n) ≡ suc (nodes c + nodes f) + length (tokens_in c ++ tokens_in f)
two_rows c f m n inside rest = let all = length-append (tokens_in c) (tokens_in f) in omega (arith, inside, rest, all)

-- the elements of a forest are its nodes and its leaves
pub elements : (f : AnnotatedForest) → element_count (forget f) ≡ nodes f + length (tokens_in f)
elements blank = refl
elements (token k t f) = let rest : element_count (forget f) ≡ nodes f + length (tokens_in f) = elements f in omega (arith, rest)
elements (branch k c f) = two_rows c f (element_count (forget c)) (element_count (forget f)) (elements c) (elements f)
elements (fault n c f) = two_rows c f (element_count (forget c)) (element_count (forget f)) (elements c) (elements f)

-- a forest of leaves has no nodes
pub nodes_row : (ts : List Token) → nodes (row_of ts) ≡ 0
nodes_row [] = refl
nodes_row (t ∷ ts) = nodes_row ts

-- a leaf that may be trivia adds no node
nodes_if : (w : Bool) (k : SyntaxKind) (t : Token) (f : AnnotatedForest) → nodes (token_if w k t f) ≡ nodes f
nodes_if true k t f = refl
nodes_if false k t f = refl

pub nodes_without_trivia : (f : AnnotatedForest) → nodes (without_trivia f) ≡ nodes f
nodes_without_trivia blank = refl
nodes_without_trivia (token k t f) = nodes_if (is_trivia t.kind) k t (without_trivia f) ∙ nodes_without_trivia f
nodes_without_trivia (branch k c f) =
    ap (λ n. suc (n + nodes (without_trivia f))) (nodes_without_trivia c) ∙ ap (λ n. suc (nodes c + n)) (nodes_without_trivia f)
nodes_without_trivia (fault n c f) =
    ap (λ n. suc (n + nodes (without_trivia f))) (nodes_without_trivia c) ∙ ap (λ n. suc (nodes c + n)) (nodes_without_trivia f)

-- a text has as many placed tokens as tokens
pub length_placed : (n : ℕ) (ls : List Lexeme) → length (placed_from n ls) ≡ length ls
length_placed n [] = refl
length_placed n (l ∷ ls) = ap suc (length_placed (n + length l.1) ls)

-- there are at most as many items as tokens
item_counted : (w : Bool) (t : Token) (ts us : List Token) → length ts ≤ length us → length (item_if w t ts) ≤ suc (length us)
item_counted true t ts us h = omega (arith, h)
item_counted false t ts us h = omega (arith, h)

pub length_items : (ts : List Token) → length (items ts) ≤ length ts
length_items [] = omega arith
length_items (t ∷ ts) = item_counted (is_trivia t.kind) t (items ts) ts (length_items ts)
