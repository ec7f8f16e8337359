-- Two laws that do not hold: that the name `or` is read alone as it is, and that each expression of a broken text is.
use Rattle.std.{proofs.Common.{◌≡◌, ◌≤◌, ◌<◌, ℕ, false, List, [], ◌∷◌, ◌++◌, refl, sym, subst, codes, arith}, specs.{List.All, Str.chars, Char.encode_utf8}}
use Rattle.rnix_kinds.specs.Lexical.{Tokens.{tokens_of, normal_cut, cut_at, tokens_behind}, Texts.{space_len, begins_space, char_len}}
use Rattle.rnix_kinds.specs.declared.kinds.SyntaxKind.{SyntaxKind, TheVariants.{TOKEN_ASSIGN, TOKEN_IDENT, TOKEN_INTEGER, TOKEN_L_BRACE, TOKEN_L_PAREN}}
use Rattle.rnix_kinds.specs.declared.kinds.SyntaxKind.TheVariants.{TOKEN_OR, TOKEN_R_BRACE, TOKEN_SEMICOLON, NODE_ATTR_SET, NODE_ATTRPATH, NODE_ATTRPATH_VALUE}
use Rattle.{rnix_kinds.specs.declared.kinds.SyntaxKind.TheVariants.{NODE_IDENT, NODE_LITERAL, NODE_PAREN}, rnix_green.specs.Forest.{Forest, empty, leaf, node}}
use Rattle.rnix_grammar.specs.{Fault.Fault, Derivation.{annotate, IsDerivation}, NodeClasses.is_expression, Reads.ReadsRoot, Levels.expression_level}
use Rattle.rnix_grammar.specs.{Levels.selection_level, Tables.{is_or, depth_limit}, AnnotatedForest.{Token, AnnotatedForest, blank, token, branch, fault}}
use Rattle.{rnix_grammar.specs.AnnotatedForest.without_trivia, rnix_proof_lemmas.proofs.Basics.true_is_not_false, rnix_proof_uniqueness.proofs.OnlyReading.Case}
use Rattle.{rnix_proof_uniqueness.proofs.OnlyReading.{IsMade, holds, trees_in, items_of}, rnix_parser.proofs.OneReading.{has_reading, reading_items}}
use Rattle.rnix_proof_locality.specs.{Expressions.{Expression, expression_if, expressions}, ReadAlone.IsDerived}
use Rattle.rnix_grammar.specs.Grammar as G
use Rattle.rnix_proof_uniqueness.proofs.Examples as of

-- `or` is no expression of the grammar
or_atom : {s : List ℕ} → G.Atom NODE_IDENT (leaf TOKEN_IDENT s empty) → is_or s ≡ false
or_atom (G.named o c) = o

or_level : {n : ℕ} {s : List ℕ} → G.Strict n NODE_IDENT (leaf TOKEN_IDENT s empty) → is_or s ≡ false
or_level (G.looser l h) = or_level h
or_level (G.atom h) = or_atom h

or_alone : {s : List ℕ} → G.IsExpression (G.name s empty) → is_or s ≡ false
or_alone (G.expression h) = or_level h

-- the nodes of a forest that have the kind of an expression, the name `or` too
abbrev nodes : AnnotatedForest → List Expression
nodes blank = []
nodes (token k t f) = nodes f
nodes (branch k c f) = expression_if (is_expression k) (record { kind = k; children = c }) (nodes c ++ nodes f)
nodes (fault n c f) = nodes f

-- the law that each of these nodes of a derivation is a derivation
abbrev NodesAreDerived : Type 0
NodesAreDerived = (t : Forest) (ts : List Token) → IsDerivation t ts → All IsDerived (nodes (annotate t ts))

-- `{or=1;}`
abbrev item : SyntaxKind → List ℕ → ℕ → ℕ → Token
item kind text start end = record { kind = kind; text = text; start = start; end = end }

abbrev items : List Token
items =
    item TOKEN_L_BRACE (codes "{") 0 1 ∷ item TOKEN_OR (codes "or") 1 3 ∷ item TOKEN_ASSIGN (codes "=") 3 4 ∷ item TOKEN_INTEGER (codes "1") 4 5
    ∷ item TOKEN_SEMICOLON (codes ";") 5 6 ∷ item TOKEN_R_BRACE (codes "}") 6 7 ∷ []

abbrev one : Forest → Forest
one f = node NODE_LITERAL (leaf TOKEN_INTEGER (codes "1") empty) f

abbrev binding : Forest
binding = node NODE_ATTRPATH (G.name (codes "or") empty) (leaf TOKEN_ASSIGN (codes "=") (one (leaf TOKEN_SEMICOLON (codes ";") empty)))

abbrev set : Forest
set = node NODE_ATTR_SET (leaf TOKEN_L_BRACE (codes "{") (node NODE_ATTRPATH_VALUE binding (leaf TOKEN_R_BRACE (codes "}") empty))) empty

at_lowest : {k : SyntaxKind} {c : Forest} → G.Atom k c → G.Strict expression_level k c
at_lowest a = let low : expression_level ≤ selection_level = omega arith in G.looser low (G.atom a)

at_any : {k : SyntaxKind} {c : Forest} → G.Atom k c → G.IsExpression (node k c empty)
at_any a = G.expression (at_lowest a)

two : 2 ≤ depth_limit
two = omega arith

set_derived : IsDerivation set items
set_derived = record {
  strict = at_any (G.set (G.binding (G.bind (G.last_attr G.named_attr) (at_lowest (G.literal refl))) G.entries_end));
  shallow = two;
  yields = refl;
  joined = (refl, (refl, (refl, (refl, tt, tt), (refl, tt, tt)), tt), tt);
}

pub name_alone : NodesAreDerived → ⊥
name_alone claim =
    let name : Expression = record { kind = NODE_IDENT; children = token TOKEN_IDENT (item TOKEN_OR (codes "or") 1 3) blank } in
    let second : 1 < 3 = omega arith in
    let h : IsDerived name = claim set items set_derived 1 name second in
    true_is_not_false (or_alone h.strict)

-- `(a` is no expression of the grammar
open_atom : {k : SyntaxKind} {c : Forest} {s : List ℕ} → G.Atom NODE_PAREN (leaf TOKEN_L_PAREN s (node k c empty)) → ⊥
open_atom h = elim h [ ]

open_level : {n : ℕ} {k : SyntaxKind} {c : Forest} {s : List ℕ} → G.Strict n NODE_PAREN (leaf TOKEN_L_PAREN s (node k c empty)) → ⊥
open_level (G.looser l h) = open_level h
open_level (G.atom h) = open_atom h

open_alone : {k : SyntaxKind} {c : Forest} {s : List ℕ} → G.IsExpression (node NODE_PAREN (leaf TOKEN_L_PAREN s (node k c empty)) empty) → ⊥
open_alone (G.expression h) = open_level h

-- the law that the expressions of each reading are derivations, whatever its errors
abbrev AllAreDerived : Type 0
AllAreDerived = (f : AnnotatedForest) (faults : List Fault) → ReadsRoot f faults → All IsDerived (expressions f)

-- then it would hold for the expressions of a text that is read so
case_derived : AllAreDerived → (c : Case) → IsMade c → All IsDerived (expressions (trees_in c.right (items_of c)))
case_derived claim c made =
    let r = has_reading (tokens_of c.text) in
    let f : AnnotatedForest = without_trivia r.1.1.annotated in
    let same : trees_in c.right (items_of c) ≡ f = (holds c made f r.1.0 (reading_items r.1.1) r.1.1.reads).0 in
    subst (λ z. All IsDerived (expressions z)) (sym same) (claim f r.1.0 r.1.1.reads)

-- `(a`, whose parenthesis is not closed
abbrev open_row : AnnotatedForest
open_row =
    token TOKEN_L_PAREN (item TOKEN_L_PAREN (codes "(") 0 1) (branch NODE_IDENT (token TOKEN_IDENT (item TOKEN_IDENT (codes "a") 1 2) blank) blank)

abbrev open_tree : AnnotatedForest
open_tree = branch NODE_PAREN open_row blank

open_made : IsMade of.shallow × (trees_in of.shallow.right (items_of of.shallow) ≡ open_tree)
unfolding chars encode_utf8 tokens_behind normal_cut cut_at space_len begins_space char_len
open_made = (refl, refl)

pub broken_alone : AllAreDerived → ⊥
broken_alone claim =
    let all : All IsDerived (expressions open_tree) =
    subst (λ z. All IsDerived (expressions z)) open_made.1 (case_derived claim of.shallow open_made.0) in
    let whole : Expression = record { kind = NODE_PAREN; children = open_row } in
    let first : 0 < 2 = omega arith in
    let h : IsDerived whole = all 0 whole first in
    open_alone h.strict
