-- The steps of the reader, token by token.
use Rattle.std.{proofs.Common.{◌≡◌, ℕ, ◌<◌, true, List, [], ◌∷◌, Option, Some, None, drop, refl, ap, sym, ◌∙◌}, specs.{Prelude.MatchOption, Option.option_map}}
use Rattle.{rnix_kinds.specs.{declared.kinds.SyntaxKind.SyntaxKind, SyntaxKind.is_trivia}, rnix_green.specs.Forest.{Forest, empty, leaf, join, tree_count}}
use Rattle.rnix_green.{specs.{Draft.{Draft, OpenNode, leaf_added, node_opened, node_closed, wrapped}, ForestCode.join_empty}, proofs.ForestLemmas.join_assoc}
use Rattle.rnix_grammar.specs.{Fault.Fault, AnnotatedForest.{Token, forget, head_of, leaf_kind}, Layout.{from_item, from_item_if, trivia_before}}
use Rattle.rnix_grammar.specs.Layout.{trivia_if, tail_of}
use Rattle.rnix_proof_lemmas.specs.Machine.{leaf_in, end_of}
use Rattle.{rnix_proof_lemmas.proofs.LayoutLemmas.trivia-from_item, rnix_reader.specs.{declared.{cursor.PlacedToken.PlacedToken, mark.Mark.Mark}, Placed.token_of}}
use Rattle.rnix_reader.specs.{Placed.BeginsWithTrivia, State.{State, eaten, taken, bumped, started_here, started_at, ended}, FrameSteps.leaf_node_made}
use Rattle.rnix_reader.proofs.CursorLemmas.{before_item}

-- states with equal parts are equal
pub state_is : {r r' : List Token} {x x' : Forest} {o o' : List OpenNode} {e e' : List Fault} {n n' : ℕ} {m m' : List Mark} → r ≡ r' → x ≡ x' → o ≡ o' → e ≡ e'
    → n ≡ n' → m ≡ m'
    → (let y : State = record { rest = r; trees = x; open_nodes = o; faults = e; prev_end = n; marks = m } in y)
    ≡ (let z : State = record { rest = r'; trees = x'; open_nodes = o'; faults = e'; prev_end = n'; marks = m' } in z)
state_is a b c d e f = cc

-- a nonempty list is its first token and the others
pub first_of : (ts : List Token) (t : Token) → head_of ts ≡ Some t → ts ≡ t ∷ tail_of ts
first_of [] t e = absurd (cc)
first_of (u ∷ us) t e = let same : u ≡ t = cc in ap (λ x. x ∷ us) same

-- if there is no first token, the list is empty
pub none_remaining : (ts : List Token) → head_of ts ≡ None → ts ≡ []
none_remaining [] e = refl
none_remaining (u ∷ us) e = absurd (cc)

-- the same for a token that was looked up
pub item_there : (ts : List Token) (r : Option PlacedToken) (t : PlacedToken) → option_map token_of r ≡ head_of ts → r ≡ Some t → head_of ts ≡ Some (token_of t)
item_there ts r t e h = sym e ∙ ap (option_map token_of) h

pub first_there : (ts : List Token) (r : Option PlacedToken) (t : PlacedToken) → option_map token_of r ≡ head_of ts → r ≡ Some t → ts ≡ token_of t ∷ tail_of ts
first_there ts r t e h = first_of ts (token_of t) (item_there ts r t e h)

pub none_there : (ts : List Token) (r : Option PlacedToken) → option_map token_of r ≡ head_of ts → r ≡ None → ts ≡ []
none_there ts r e h = none_remaining ts (sym e ∙ ap (option_map token_of) h)

-- the token before the next item, if there is one, is trivia
pub first_trivia : (ts now : List Token) (at next : ℕ) (r : Option PlacedToken) → now ≡ drop at ts → from_item (drop at ts) ≡ drop next ts → at < next
    → option_map token_of r ≡ head_of now → MatchOption r (from_item now ≡ now) (λ t. BeginsWithTrivia (token_of t) now)
first_trivia ts now at next None v f n e = let none : now ≡ [] = none_there now None e refl in ap from_item none ∙ sym none
first_trivia ts now at next (Some t) v f n e =
    let there : now ≡ token_of t ∷ tail_of now = first_there now (Some t) t e refl in
    (there, before_item ts at next (token_of t) (tail_of now) (sym v ∙ there) f n)

-- without trivia there is nothing to add before the next item
pub eaten-settled : (s : State) → from_item s.rest ≡ s.rest → eaten s ≡ s
unfolding eaten
eaten-settled s e =
    state_is e (ap (λ x. join s.trees (forget (trivia_before x))) (sym e) ∙ ap (λ x. join s.trees (forget x)) (trivia-from_item s.rest)
    ∙ join_empty s.trees) refl refl refl refl

-- adding one trivia token
pub eaten-trivia : (s s' : State) (t : Token) (more : List Token) → s.rest ≡ t ∷ more → is_trivia t.kind ≡ true → s'.rest ≡ more
    → s'.trees ≡ join s.trees (leaf t.kind t.text empty)
    → s'.open_nodes ≡ s.open_nodes → s'.faults ≡ s.faults → s'.prev_end ≡ s.prev_end → s'.marks ≡ s.marks → eaten s' ≡ eaten s
unfolding eaten
eaten-trivia s s' t more e h r x o f n m =
    state_is (ap from_item r ∙ sym (ap from_item e ∙ ap (λ b. from_item_if b t more (from_item more)) h))
    (ap (λ y. join y (forget (trivia_before s'.rest))) x ∙ ap (λ y. join (join s.trees (leaf t.kind t.text empty)) (forget (trivia_before y))) r
    ∙ join_assoc s.trees (leaf t.kind t.text empty) (forget (trivia_before more))
    ∙ ap (λ y. join s.trees (forget y)) (sym (ap trivia_before e ∙ ap (λ b. trivia_if b t (trivia_before more)) h)))
    o f n m

-- adding the next item as a leaf
pub bumped-item : (k : SyntaxKind) (s s1 s' : State) (t : Token) → s1 ≡ eaten s → s1.rest ≡ t ∷ tail_of s1.rest → s'.rest ≡ tail_of s1.rest
    → s'.trees ≡ join s1.trees (leaf (leaf_kind k t) t.text empty) → s'.open_nodes ≡ s1.open_nodes → s'.faults ≡ s1.faults → s'.prev_end ≡ t.end
    → s'.marks ≡ s1.marks → s' ≡ bumped k s
unfolding bumped
bumped-item k s s1 s' t e here r x o f n m =
    state_is r (x ∙ ap (λ y. join s1.trees (forget (leaf_in k y))) (sym here)) o f (n ∙ ap (end_of s1.prev_end) (sym here)) m ∙ ap (taken k) e

-- without a token there is nothing to add
taken-none : (k : SyntaxKind) (s : State) → s.rest ≡ [] → s ≡ taken k s
taken-none k s none =
    state_is (none ∙ ap tail_of (sym none)) (sym (join_empty s.trees) ∙ ap (λ y. join s.trees (forget (leaf_in k y))) (sym none)) refl refl
    (ap (end_of s.prev_end) (sym none)) refl

pub bumped-end : (k : SyntaxKind) (s s1 : State) → s1 ≡ eaten s → s1.rest ≡ [] → s1 ≡ bumped k s
unfolding bumped
bumped-end k s s1 e none = taken-none k s1 none ∙ ap (taken k) e

-- making a node over the next item
pub leaf_node_made-item : (k : SyntaxKind) (s s1 s' : State) (t : Token) (d : Draft) → s1 ≡ eaten s → s1.rest ≡ t ∷ tail_of s1.rest
    → d ≡ node_closed (leaf_added (leaf_kind k t) t.text (node_opened k (tree_count s1.trees) record { finished = s1.trees; open_nodes = s1.open_nodes }))
    → s'.rest ≡ tail_of s1.rest → s'.trees ≡ d.finished → s'.open_nodes ≡ d.open_nodes → s'.faults ≡ s1.faults → s'.prev_end ≡ t.end → s'.marks ≡ s1.marks
    → s' ≡ leaf_node_made k s
unfolding ended started_at
leaf_node_made-item k s s1 s' t d e here b r x o f n m =
    state_is r (x ∙ ap (λ y. y.finished) b ∙ ap (λ y. wrapped k (tree_count s1.trees) (join s1.trees (forget (leaf_in k y)))) (sym here))
    (o ∙ ap (λ y. y.open_nodes) b) f
    (n ∙ ap (end_of s1.prev_end) (sym here)) m
    ∙ ap (λ y. ended (taken k (started_here k y))) e

-- making an empty node, if no item is left
pub leaf_node_made-end : (k : SyntaxKind) (s s1 s2 s' : State) (d : Draft) → s1 ≡ eaten s → s1.rest ≡ []
    → d ≡ node_opened k (tree_count s1.trees) record { finished = s1.trees; open_nodes = s1.open_nodes } → s2.rest ≡ s1.rest → s2.trees ≡ d.finished
    → s2.open_nodes ≡ d.open_nodes
    → s2.faults ≡ s1.faults → s2.prev_end ≡ s1.prev_end → s2.marks ≡ s1.marks → s' ≡ ended s2 → s' ≡ leaf_node_made k s
unfolding started_at
leaf_node_made-end k s s1 s2 s' d e none b r x o f n m closed =
    let begun : s2 ≡ started_here k s1 = state_is r (x ∙ ap (λ y. y.finished) b) (o ∙ ap (λ y. y.open_nodes) b) f n m in
    closed ∙ ap ended (taken-none k s2 (r ∙ none) ∙ ap (taken k) begun) ∙ ap (λ y. ended (taken k (started_here k y))) e
