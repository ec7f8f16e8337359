-- Wrong trees of broken texts. None of them is the tree of its text, whatever the errors.
use Rattle.std.{proofs.Common.{◌≡◌, true, false, Bool, List, ℕ, refl, ap, sym, ◌∙◌}, specs.{Prelude.{codes, ◌&&◌}, Str.chars, Char.encode_utf8}}
use Rattle.rnix_kinds.specs.Lexical.{Tokens.{tokens_of, normal_cut, cut_at, tokens_behind}, Texts.{space_len, begins_space, char_len}}
use Rattle.{rnix_green.specs.{Equality.same_kind, Forest.{Forest, empty, leaf, node}, Tree.Tree}, rnix_grammar.specs.{Fault.Fault, AnnotatedForest.Token}}
use Rattle.rnix_grammar.specs.{AnnotatedForest.{AnnotatedForest, forget, tokens_in, without_trivia, placed_from}, Layout.{items, with_all_trivia}}
use Rattle.{rnix_grammar.specs.{Reading.IsReading, Parsed.IsParsed}, rnix_proof_lemmas.proofs.{Basics.true_is_not_false, ReportLemmas.without_trivia_tokens}}
use Rattle.rnix_proof_uniqueness.proofs.OnlyReading.{Case, Holds, IsMade, holds, trees_in, items_of}
use Rattle.rnix_kinds.specs.declared.kinds.SyntaxKind.TheVariants as k
use Rattle.rnix_proof_uniqueness.proofs.Examples as of

-- two forests have the same kinds in the same nodes
abbrev alike : Forest → Forest → Bool
alike empty empty = true
alike (leaf a t f) (leaf b u g) = same_kind a b && alike f g
alike (node a c f) (node b d g) = same_kind a b && (alike c d && alike f g)
alike f g = false

-- the trees of a text, with its trivia
abbrev tree_of : Case → Forest
tree_of c = forget (with_all_trivia (trees_in c.right (items_of c)) (placed_from 0 (tokens_of c.text)))

-- each reading of such a text has these trees
read_as : (c : Case) → Holds c → (tree : Tree) (faults : List Fault) → IsReading (tokens_of c.text) tree faults → tree.children ≡ tree_of c
read_as c only tree faults r =
    let ts : List Token = placed_from 0 (tokens_of c.text) in
    let own : tokens_in (without_trivia r.annotated) ≡ items_of c = without_trivia_tokens r.annotated ∙ ap items r.leaves in
    let same : trees_in c.right (items_of c) ≡ without_trivia r.annotated =
    (only (without_trivia r.annotated) faults own r.reads).0 in
    ap (λ (t : Tree). t.children) r.tree_is ∙ ap forget r.placed ∙ ap (λ (f : AnnotatedForest). forget (with_all_trivia f ts)) (sym same)

-- a tree with these trees below its root
abbrev root : Forest → Tree
root f = record { kind = k.NODE_ROOT; children = f }

-- a tree with other kinds is not the tree of such a text, whatever the errors
refute : (c : Case) → IsMade c → (wrong : Forest) → alike wrong (tree_of c) ≡ false → alike (tree_of c) (tree_of c) ≡ true
    → (faults : List Fault) → IsParsed (tokens_of c.text) (root wrong) faults → ⊥
refute c made wrong differ same faults p =
    true_is_not_false (sym same ∙ ap (λ (f : Forest). alike f (tree_of c)) (sym (read_as c (holds c made) (root wrong) faults p.reading)) ∙ differ)

-- the tree is not that of the text, whatever the errors
abbrev IsRefuted : List ℕ → Forest → Type 0
IsRefuted text wrong = (faults : List Fault) → IsParsed (tokens_of text) (root wrong) faults → ⊥

-- a name, an error node, an item, a space
abbrev name : List ℕ → Forest → Forest
name text f = node k.NODE_IDENT (leaf k.TOKEN_IDENT text empty) f

abbrev error : Forest → Forest → Forest
error c f = node k.NODE_ERROR c f

abbrev paren : Forest → Forest
paren f = leaf k.TOKEN_R_PAREN (codes ")") f

abbrev bracket : Forest → Forest
bracket f = leaf k.TOKEN_R_BRACK (codes "]") f

abbrev space : Forest → Forest
space f = leaf k.TOKEN_WHITESPACE (codes " ") f

-- `a.b)`: not the name `a` with extra items after it
pub selection : IsRefuted (codes "a.b)") (name (codes "a") (error (leaf k.TOKEN_DOT (codes ".") (leaf k.TOKEN_IDENT (codes "b") (paren empty))) empty))
unfolding chars encode_utf8 tokens_behind normal_cut cut_at space_len begins_space char_len
selection = refute of.selection refl _ refl refl

-- `if[]`: not a call of a stray `if`
pub condition : IsRefuted (codes "if[]")
    (node k.NODE_APPLY (error (leaf k.TOKEN_IF (codes "if") empty) (node k.NODE_LIST (leaf k.TOKEN_L_BRACK (codes "[") (bracket empty)) empty)) empty)
unfolding chars encode_utf8 tokens_behind normal_cut cut_at space_len begins_space char_len
condition = refute of.condition refl _ refl refl

-- `x: x+b)`: not a sum of a function and `b`
pub body : IsRefuted (codes "x: x+b)") (node k.NODE_BIN_OP
    (node k.NODE_LAMBDA (node k.NODE_IDENT_PARAM (name (codes "x") empty) (leaf k.TOKEN_COLON (codes ":") (space (name (codes "x") empty))))
    (leaf k.TOKEN_ADD (codes "+") (name (codes "b") empty))) (error (paren empty) empty))
unfolding chars encode_utf8 tokens_behind normal_cut cut_at space_len begins_space char_len
body = refute of.body refl _ refl refl

-- `{a,b}:a)`: not with a run of unwanted items from the comma to the brace
pub formals : IsRefuted (codes "{a,b}:a)") (node k.NODE_LAMBDA
    (node k.NODE_PATTERN (leaf k.TOKEN_L_BRACE (codes "{") (node k.NODE_PAT_ENTRY (name (codes "a") empty)
    (error (leaf k.TOKEN_COMMA (codes ",") (leaf k.TOKEN_IDENT (codes "b") empty)) (leaf k.TOKEN_R_BRACE (codes "}") empty))))
    (leaf k.TOKEN_COLON (codes ":") (name (codes "a") empty))) (error (paren empty) empty))
unfolding chars encode_utf8 tokens_behind normal_cut cut_at space_len begins_space char_len
formals = refute of.formals refl _ refl refl

-- `a @ { } @ b`: not with a run of unwanted items after the pattern in place of its second name
pub second_name : IsRefuted (codes "a @ { } @ b") (node k.NODE_LAMBDA
    (node k.NODE_PATTERN (node k.NODE_PAT_BIND (name (codes "a") (space (leaf k.TOKEN_AT (codes "@") empty)))
    (space (leaf k.TOKEN_L_BRACE (codes "{") (space (leaf k.TOKEN_R_BRACE (codes "}") empty)))))
    (space (error (leaf k.TOKEN_AT (codes "@") (space (leaf k.TOKEN_IDENT (codes "b") empty))) empty))) empty)
unfolding chars encode_utf8 tokens_behind normal_cut cut_at space_len begins_space char_len
second_name = refute of.second_name refl _ refl refl

-- `[])`: not a list that holds its bracket and the parenthesis as stray items
pub closed_list : IsRefuted (codes "[])") (node k.NODE_LIST (leaf k.TOKEN_L_BRACK (codes "[") (error (bracket empty) (error (paren empty) empty))) empty)
unfolding chars encode_utf8 tokens_behind normal_cut cut_at space_len begins_space char_len
closed_list = refute of.closed_list refl _ refl refl

-- `(a]])`: not with two runs of unwanted items before the parenthesis that closes
pub whole_run : IsRefuted (codes "(a]])")
    (node k.NODE_PAREN (leaf k.TOKEN_L_PAREN (codes "(") (name (codes "a") (error (bracket empty) (error (bracket empty) (paren empty))))) empty)
unfolding chars encode_utf8 tokens_behind normal_cut cut_at space_len begins_space char_len
whole_run = refute of.whole_run refl _ refl refl

-- `(a`: not with a name that is nested too deep
pub shallow : IsRefuted (codes "(a") (node k.NODE_PAREN (leaf k.TOKEN_L_PAREN (codes "(") (error (leaf k.TOKEN_IDENT (codes "a") empty) empty)) empty)
unfolding chars encode_utf8 tokens_behind normal_cut cut_at space_len begins_space char_len
shallow = refute of.shallow refl _ refl refl

-- ` a)`: the space is not inside the name's node
pub space_first : IsRefuted (codes " a)") (node k.NODE_IDENT (space (leaf k.TOKEN_IDENT (codes "a") empty)) (error (paren empty) empty))
unfolding chars encode_utf8 tokens_behind normal_cut cut_at space_len begins_space char_len
space_first = refute of.space_first refl _ refl refl

-- `a )`: the space is not inside the error node, and not inside the name's node
pub space_between : IsRefuted (codes "a )") (name (codes "a") (error (space (paren empty)) empty))
unfolding chars encode_utf8 tokens_behind normal_cut cut_at space_len begins_space char_len
space_between = refute of.space_between refl _ refl refl

pub space_in_name : IsRefuted (codes "a )") (node k.NODE_IDENT (leaf k.TOKEN_IDENT (codes "a") (space empty)) (error (paren empty) empty))
unfolding chars encode_utf8 tokens_behind normal_cut cut_at space_len begins_space char_len
space_in_name = refute of.space_between refl _ refl refl

-- `a) `: the space is not inside the error node
pub space_last : IsRefuted (codes "a) ") (name (codes "a") (error (paren (space empty)) empty))
unfolding chars encode_utf8 tokens_behind normal_cut cut_at space_len begins_space char_len
space_last = refute of.space_last refl _ refl refl
