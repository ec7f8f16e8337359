-- What a builder holds: the finished trees, and the open nodes, the innermost first, each with its kind and the place of its first child.
use Rattle.std.specs.Prelude.{◌≡◌, ℕ, List, [], ◌∷◌, length, take, drop, Bool, true, false, nat_le, ◌&&◌, refl}
use Rattle.std.proofs.Common.{ap, ◌∙◌}
use Rattle.std.specs.Coded.{Coded, code_by, coded×, coded_ℕ, coded_list}
use Rattle.rnix_kinds.specs.declared.kinds.SyntaxKind.{SyntaxKind}
use Rattle.rnix_kinds.specs.contracts.kinds.SyntaxKind.{the_row}
use Rattle.rnix_green.specs.Forest.{Forest, empty, leaf, node, join, tree_count, first_trees, trees_after}
use Rattle.rnix_green.specs.ForestCode.{forest_code, first_of_join, rest_of_join}

-- a node that is open: its kind, and how many finished trees precede its first child
abbrev pub OpenNode : Type 0
OpenNode = SyntaxKind × ℕ

-- the finished trees and the open nodes
pub record Draft : Type 0 where
  pub finished : Forest
  pub open_nodes : List OpenNode

-- a draft encoded as lists and numbers
abbrev pub draft_code : Coded Draft
draft_code =
    code_by (Forest × List OpenNode) (coded× forest_code (coded_list (coded× the_row.coded coded_ℕ)))
    (λ d. (d.finished, d.open_nodes)) (λ p. record { finished = p.0; open_nodes = p.1 }) (λ _. refl)

-- a draft over a given text, with the part of the text that has no leaves yet
pub record TextDraft : Type 0 where
  pub draft : Draft
  pub remaining : List ℕ

-- such a draft encoded as lists and numbers
abbrev pub text_draft_code : Coded TextDraft
text_draft_code =
    code_by (Draft × List ℕ) (coded× draft_code (coded_list coded_ℕ)) (λ d. (d.draft, d.remaining)) (λ p. record { draft = p.0; remaining = p.1 }) (λ _. refl)

-- no trees, no open node
abbrev pub blank : Draft
blank = record { finished = empty; open_nodes = [] }

-- no trees, no open node, and a whole text
abbrev pub blank_of : List ℕ → TextDraft
blank_of t = record { draft = blank; remaining = t }

-- another draft, with the same part of the text left
abbrev pub with_draft : Draft → TextDraft → TextDraft
with_draft d t = record { draft = d; remaining = t.remaining }

-- another draft, with one part less of the text left
abbrev pub taken : Draft → List ℕ → TextDraft → TextDraft
taken d part t = record { draft = d; remaining = drop (length part) t.remaining }

-- the text that is left begins with a part
abbrev pub IsNext : List ℕ → TextDraft → Type 0
IsNext part t = take (length part) t.remaining ≡ part

-- one more leaf after the trees
abbrev pub with_leaf : SyntaxKind → List ℕ → Forest → Forest
with_leaf k t f = join f (leaf k t empty)

-- the trees from a place on become the children of one node
abbrev pub wrapped : SyntaxKind → ℕ → Forest → Forest
wrapped k first_child f = join (first_trees first_child f) (node k (trees_after first_child f) empty)

-- one more leaf
abbrev pub leaf_added : SyntaxKind → List ℕ → Draft → Draft
leaf_added k t d = record { finished = with_leaf k t d.finished; open_nodes = d.open_nodes }

-- one more node is open from a place on
abbrev pub node_opened : SyntaxKind → ℕ → Draft → Draft
node_opened k first_child d = record { finished = d.finished; open_nodes = (k, first_child) ∷ d.open_nodes }

-- the first of the open nodes is closed over the trees from its place on
abbrev pub closed_over : Forest → List OpenNode → Draft
closed_over f [] = record { finished = f; open_nodes = [] }
closed_over f ((k, first_child) ∷ outer) = record { finished = wrapped k first_child f; open_nodes = outer }

-- the innermost open node is closed
abbrev pub node_closed : Draft → Draft
node_closed d = closed_over d.finished d.open_nodes

-- at or after the place of the innermost open node
abbrev pub is_inside : ℕ → List OpenNode → Bool
is_inside n [] = true
is_inside n ((k, first_child) ∷ outer) = nat_le first_child n

-- one more node over one leaf: it is opened after the trees, the leaf is added, and it is closed
abbrev pub leaf_node_added : SyntaxKind → SyntaxKind → List ℕ → Draft → Draft
leaf_node_added i k t d = node_closed (leaf_added k t (node_opened i (tree_count d.finished) d))

-- a node may be opened at this place
abbrev pub is_checkpoint_of : Draft → ℕ → Bool
is_checkpoint_of d n = nat_le n (tree_count d.finished) && is_inside n d.open_nodes

-- the forest is one tree, and that is a node
abbrev pub is_one_node : Forest → Bool
is_one_node (node k c empty) = true
is_one_node f = false

-- no node is open
abbrev pub is_nothing : List OpenNode → Bool
is_nothing [] = true
is_nothing (o ∷ os) = false

-- no node is open, and there is one tree, a node
abbrev pub is_complete_of : Draft → Bool
is_complete_of d = is_nothing d.open_nodes && is_one_node d.finished

-- the trees that were added since a place become one node
pub wrapped-join : (k : SyntaxKind) (f g : Forest) → wrapped k (tree_count f) (join f g) ≡ join f (node k g empty)
wrapped-join k f g =
    ap (λ x. join x (node k (trees_after (tree_count f) (join f g)) empty)) (first_of_join f g) ∙ ap (λ x. join f (node k x empty)) (rest_of_join f g)
