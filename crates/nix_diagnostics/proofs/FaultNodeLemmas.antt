-- Facts about the tokens with which errors start.
use Rattle.std.proofs.Common.{◌≡◌, ◌∙◌, ℕ, zero, suc, ◌+◌, ◌<◌, ◌≤◌, Bool, true, false, cond, map, length, Option, Some, None, ap, sym, subst, refl, arith, inl, inr}
use Rattle.std.specs.Prelude.{find, unwrap_or, IfSome, option_map, not, nat_lt, ◌==◌, ◌&&◌, if◌then◌else◌}
use Rattle.std.proofs.lemmas.Bool.{cases_lt, eqb-true, ltb-true, lt-ltb}
use Rattle.rnix_green.specs.Tree.{Tree, Located, item, item_of, extent_of, items_of, forest_of, IsTokenAt}
use Rattle.rnix_green.specs.Walk.{Spot, spot_at, counted}
use Rattle.rnix_green.specs.Relatives.{IsFirstToken, IsNextToken, located, parent_of}
use Rattle.rnix_green.specs.Range.{Extent}
use Rattle.rnix_grammar.specs.Fault.{same_extent}
use Rattle.rnix_grammar.specs.Ranges.{is_error_node}
use Rattle.rnix.specs.WholeTree.{IsInTree}
use Rattle.rnix_green.proofs.PieceLemmas.{length-items_from}
use Rattle.rnix_tree.proofs.OffsetLemmas.{token_last}
use Rattle.rnix_tree.specs.Offset.{IsTouched, AreTouched, right_of}
use Rattle.rnix_tree.specs.declared.offset.TokenAtOffset.{TokenAtOffset}
use Rattle.rnix_tree.specs.declared.offset.TokenAtOffset.TheVariants as at
use Rattle.nix_diagnostics.specs.FaultNodes.{starts_at, token_from, IsFrom, node_around, if_error, error_at}

-- the first of numbered elements that passes a test is found
found_at : (test : Spot → Bool) (t : Tree) (n k m : ℕ) → n ≤ m → m < n + k → test (spot_at t m) ≡ true →
    ((j : ℕ) → j < m → test (spot_at t j) ≡ false) → find test (map (spot_at t) (counted n k)) ≡ Some (spot_at t m)
found_at test t n zero m low high is before = absurd (omega (arith, low, high))
found_at test t n (suc k) m low high is before =
    step (test (spot_at t n)) refl (λ less. found_at test t (n + 1) k m (omega (arith, less)) (omega (arith, high)) is before) where
      step : (b : Bool) → test (spot_at t n) ≡ b →
          (n < m → find test (map (spot_at t) (counted (n + 1) k)) ≡ Some (spot_at t m)) →
          cond b (Some (spot_at t n)) (find test (map (spot_at t) (counted (n + 1) k))) ≡ Some (spot_at t m)
      step true first_passes later = elim (cases_lt n m) [
        | inl less ↦ absurd (let x = sym first_passes ∙ before n less in cc)
        | inr same ↦ let equal : n ≡ m = omega (arith, low, same) in ap (λ j. Some (spot_at t j)) equal
      ]
      step false not_here later = elim (cases_lt n m) [
        | inl less ↦ later less
        | inr same ↦
            let equal : n ≡ m = omega (arith, low, same) in
            absurd (let x = sym not_here ∙ ap (λ j. test (spot_at t j)) equal ∙ is in cc)
      ]

-- if none passes, none is found
none_at : (test : Spot → Bool) (t : Tree) (n k : ℕ) → ((j : ℕ) → j < n + k → test (spot_at t j) ≡ false) →
    find test (map (spot_at t) (counted n k)) ≡ None
none_at test t n zero none = refl
none_at test t n (suc k) none =
    step (test (spot_at t n)) (none n (omega arith)) (none_at test t (n + 1) k (λ j less. none j (omega (arith, less)))) where
      step : (b : Bool) → b ≡ false → find test (map (spot_at t) (counted (n + 1) k)) ≡ None →
          cond b (Some (spot_at t n)) (find test (map (spot_at t) (counted (n + 1) k))) ≡ None
      step true is later = absurd (grind (arith, is))
      step false is later = later

-- what passing the test for the start of a token says
parts : (node : Bool) (start end offset : ℕ) → (not node && (start == offset && nat_lt offset end)) ≡ true →
    (node ≡ false) × (start ≡ offset) × (offset < end)
parts true start end offset is = absurd (grind (arith, is))
parts false start end offset is = both (start == offset) (nat_lt offset end) refl refl is where
  both : (a b : Bool) → (start == offset) ≡ a → nat_lt offset end ≡ b → (a && b) ≡ true → (false ≡ false) × (start ≡ offset) × (offset < end)
  both true true same less passed = (refl, eqb-true start offset same, ltb-true offset end less)
  both true false same less passed = absurd (grind (arith, passed))
  both false b same less passed = absurd (grind (arith, passed))

-- the element with the number is a token that starts at an offset and is not empty
record Starts (t : Tree) (offset m : ℕ) : Type 0 where
  pub there : m < length (items_of t)
  pub token : (item t m).is_node ≡ false
  pub start : (item t m).start ≡ offset
  pub some : offset < (item t m).end

-- equal numbers pass the test
eqb-same : (a b : ℕ) → a ≡ b → (a == b) ≡ true
eqb-same a b is = grind (arith, is)

-- `Some` is injective
some_same : (a b : Located) → Some a ≡ Some b → a ≡ b
some_same a b is = ap (λ o. unwrap_or o a) is

-- such a token passes the test
test_true : (t : Tree) (offset m : ℕ) → Starts t offset m → starts_at offset (spot_at t m) ≡ true
test_true t offset m h = step (item t m).is_node ((item t m).start == offset) (nat_lt offset (item t m).end) h.token
    (eqb-same (item t m).start offset h.start) (lt-ltb offset (item t m).end h.some) where
      step : (node a b : Bool) → node ≡ false → a ≡ true → b ≡ true → (not node && (a && b)) ≡ true
      step true a b is first second = absurd (grind (arith, is))
      step false true true is first second = refl
      step false true false is first second = absurd (grind (arith, second))
      step false false b is first second = absurd (grind (arith, first))

-- two such tokens are not one before the other
no_earlier : (t : Tree) (offset i j : ℕ) → Starts t offset i → Starts t offset j → ¬ (i < j)
no_earlier t offset i j first second less =
    let ends = token_last t i j less second.there first.token in
    omega (arith, ends, first.some, second.start)

-- an element that is not such a token fails the test
test_false : (t : Tree) (offset m : ℕ) → m < length (items_of t) → ¬ (Starts t offset m) → starts_at offset (spot_at t m) ≡ false
test_false t offset m is_in isnt = step (starts_at offset (spot_at t m)) refl where
  step : (b : Bool) → starts_at offset (spot_at t m) ≡ b → b ≡ false
  step false is = refl
  step true is =
      let p = parts (item t m).is_node (item t m).start (item t m).end offset is in
      absurd (isnt (record { there = is_in; token = p.0; start = p.1; some = p.2 }))

-- all elements of a tree are the root and what is inside it
all_inside : (t : Tree) → length (items_of t) ≡ 0 + (1 + (item t 0).below)
all_inside t = length-items_from 0 0 None (forest_of t) ∙ omega arith

-- a token that starts at an offset is found
pub token_found : (root token : Located) (offset : ℕ) → root.number ≡ 0 → IsFrom root offset token → token_from root offset ≡ Some token
token_found root token offset top h =
    let t = root.tree in
    let m = token.number in
    let own : Starts t offset m = record {
      there = omega (arith, h.is_token.is_there, ap (λ x. length (items_of x)) h.tree);
      token = ap (λ x. (item x m).is_node) (sym h.tree) ∙ h.is_token.is_token;
      start = ap (λ x. (item x m).start) (sym h.tree) ∙ h.start;
      some = omega (arith, h.some, ap (λ x. (item x m).end) h.tree);
    } in
    let first = found_at (starts_at offset) t 0 (1 + (item t 0).below) m (omega arith) (omega (arith, own.there, all_inside t)) (test_true t offset m own)
    (λ j less. test_false t offset j (omega (arith, less, own.there)) (λ other. no_earlier t offset j m other own less)) in
    ap (λ n. option_map (λ (spot : Spot). spot.1) (find (starts_at offset) (map (spot_at t) (counted n (1 + (item t n).below))))) top
    ∙ ap (option_map (λ (spot : Spot). spot.1)) first
    ∙ ap (λ x. Some record { tree = x; number = m }) (sym h.tree)

-- where no token starts, none is found
token_missing : (root : Located) (offset : ℕ) → root.number ≡ 0 → ((m : ℕ) → ¬ (Starts root.tree offset m)) → token_from root offset ≡ None
token_missing root offset top none =
    let t = root.tree in
    ap (λ n. option_map (λ (spot : Spot). spot.1) (find (starts_at offset) (map (spot_at t) (counted n (1 + (item t n).below))))) top
    ∙ ap (option_map (λ (spot : Spot). spot.1))
    (none_at (starts_at offset) t 0 (1 + (item t 0).below) (λ j less. test_false t offset j (omega (arith, less, all_inside t)) (none j)))

-- a token that starts at an offset is one of those that touch it
touches : (root : Located) (offset m : ℕ) → root.number ≡ 0 → Starts root.tree offset m → IsTouched root offset m
touches root offset m top h =
    let all : length (items_of root.tree) ≡ root.number + (1 + (item_of root).below) =
    all_inside root.tree ∙ ap (λ n. n + (1 + (item root.tree n).below)) (sym top) in
    record {
      inside = record {
        low = omega (arith, top);
        high = omega (arith, h.there, all);
        token = record { is_there = h.there; is_token = h.token };
      };
      some = omega (arith, h.start, h.some);
      low = omega (arith, h.start);
      high = omega (arith, h.some);
    }

-- if no other token can start at an offset, a token that touches the offset is found exactly if it starts there
starts_or_none : (root token : Located) (offset : ℕ) → root.number ≡ 0 → token.tree ≡ root.tree → IsTouched root offset token.number →
    ((m : ℕ) → Starts root.tree offset m → m ≡ token.number) →
    token_from root offset ≡ (if (item_of token).start == offset then Some token else None)
starts_or_none root token offset top tree touched only = step ((item_of token).start == offset) refl where
  step : (b : Bool) → ((item_of token).start == offset) ≡ b → token_from root offset ≡ (if b then Some token else None)
  step true is =
      let start : (item_of token).start ≡ offset = eqb-true (item_of token).start offset is in
      let ends : (item root.tree token.number).end ≡ (item_of token).end = ap (λ x. (item x token.number).end) (sym tree) in
      let starts : (item root.tree token.number).start ≡ (item_of token).start = ap (λ x. (item x token.number).start) (sym tree) in
      token_found root token offset top record {
        tree = tree;
        is_token = record {
          is_there = omega (arith, touched.inside.token.is_there, ap (λ x. length (items_of x)) tree);
          is_token = ap (λ x. (item x token.number).is_node) tree ∙ touched.inside.token.is_token;
        };
        start = start;
        some = omega (arith, touched.some, start, starts, ends);
      }
  step false is = token_missing root offset top (λ m other.
      let same : m ≡ token.number = only m other in
      let start : (item_of token).start ≡ offset =
      ap (λ x. (item x token.number).start) tree ∙ ap (λ j. (item root.tree j).start) (sym same) ∙ other.start in
      let starts_there : ((item_of token).start == offset) ≡ true = eqb-same (item_of token).start offset start in
      (let x = sym is ∙ starts_there in cc))

-- the token at an offset, or the right one of two, is the one that starts there, if one does
pub right_starts : (root : Located) (offset : ℕ) (found : TokenAtOffset Located) (token : Located) → root.number ≡ 0 → AreTouched root offset found →
    right_of found ≡ Some token → token_from root offset ≡ (if (item_of token).start == offset then Some token else None)
right_starts root offset at.None token top are is = absurd (grind (arith, is))
right_starts root offset (at.Single a) token top are is =
    let same : a ≡ token = some_same a token is in
    subst (λ (x : Located). token_from root offset ≡ (if (item_of x).start == offset then Some x else None)) same
    (starts_or_none root a offset top are.0 are.1 (λ m h. are.2 m (touches root offset m top h)))
right_starts root offset (at.Between a b) token top are is =
    let same : b ≡ token = some_same b token is in
    subst (λ (x : Located). token_from root offset ≡ (if (item_of x).start == offset then Some x else None)) same
    (starts_or_none root b offset top are.1 are.4 (λ m h. elim (are.5 m (touches root offset m top h)) [
      | inl left ↦
          let there = are.4.inside.token.is_there in
          let ends = token_last root.tree m b.number (omega (arith, left, are.2)) there h.token in
          absurd (omega (arith, ends, are.4.low, h.some))
      | inr right ↦ right
    ]))

-- if there is none, no token starts there
pub none_starts : (root : Located) (offset : ℕ) (found : TokenAtOffset Located) → root.number ≡ 0 → AreTouched root offset found →
    right_of found ≡ None → token_from root offset ≡ None
none_starts root offset at.None top are is = token_missing root offset top (λ m h. are m (touches root offset m top h))
none_starts root offset (at.Single a) top are is = absurd (grind (arith, is))
none_starts root offset (at.Between a b) top are is = absurd (grind (arith, is))

-- any element of the tree may be used to name the tree
pub from_another : (one root : Located) (offset : ℕ) (token : Option Located) → one.tree ≡ root.tree → IfSome token (IsFrom one offset) →
    IfSome token (IsFrom root offset)
from_another one root offset None same h = tt
from_another one root offset (Some token) same h =
    record { tree = h.tree ∙ same; is_token = h.is_token; start = h.start; some = h.some }

-- what is in the tree of one element of a tree is in that tree
pub in_tree_too : (one root : Located) (found : Option Located) → IsInTree root one → IfSome found (IsInTree one) → IfSome found (IsInTree root)
in_tree_too one root None same h = tt
in_tree_too one root (Some e) same h = h ∙ same

-- the token at an offset is in the tree
pub right_in_tree : (root : Located) (offset : ℕ) (found : TokenAtOffset Located) (token : Located) → AreTouched root offset found →
    right_of found ≡ Some token → IsInTree root token
right_in_tree root offset at.None token are is = absurd (grind (arith, is))
right_in_tree root offset (at.Single a) token are is = ap (λ (x : Located). x.tree) (sym (some_same a token is)) ∙ are.0
right_in_tree root offset (at.Between a b) token are is = ap (λ (x : Located). x.tree) (sym (some_same b token is)) ∙ are.1

-- a node that `if_error` returns is in the tree, if the given one is
pub kept_in_tree : (root : Located) (range : Extent) (given result : Option Located) → result ≡ if_error range given → IfSome given (IsInTree root) →
    IfSome result (IsInTree root)
kept_in_tree root range given None is h = tt
kept_in_tree root range None (Some r) is h = absurd (grind (arith, is))
kept_in_tree root range (Some n) (Some r) is h = step (is_error_node (item_of n).kind && same_extent (extent_of n) range) is where
  step : (b : Bool) → Some r ≡ (if b then Some n else None) → IsInTree root r
  step true same = ap (λ (x : Located). x.tree) (some_same r n same) ∙ h
  step false same = absurd (grind (arith, same))

-- the node around an element is in its tree
pub parent_in_tree : (root e : Located) → IsInTree root e → IfSome (parent_of e) (IsInTree root)
parent_in_tree root e same = step (item_of e).parent where
  step : (o : Option ℕ) → IfSome (located e.tree o) (IsInTree root)
  step None = tt
  step (Some n) = same

-- a token that was found from another element of the tree is the one that starts there
pub near_found : (one root : Located) (offset : ℕ) (near : Option Located) (token : Located) → root.number ≡ 0 → IsInTree root one →
    IfSome near (IsFrom one offset) → near ≡ Some token → token_from root offset ≡ Some token
near_found one root offset None token top same h is = absurd (grind (arith, is))
near_found one root offset (Some t) token top same h is =
    token_found root t offset top (from_another one root offset (Some t) same h) ∙ is

-- and it is in the tree
pub near_in_tree : (one root : Located) (offset : ℕ) (near : Option Located) (token : Located) → IsInTree root one → IfSome near (IsFrom one offset) →
    near ≡ Some token → IsInTree root token
near_in_tree one root offset None token same h is = absurd (grind (arith, is))
near_in_tree one root offset (Some t) token same h is = ap (λ (x : Located). x.tree) (sym (some_same t token is)) ∙ (h.tree ∙ same)

-- the error node with a range, if a token starts where the range does
pub error_there : (root : Located) (range : Extent) (token : Located) → token_from root range.start ≡ Some token →
    error_at root (Some range) ≡ if_error range (parent_of token)
error_there root range token is = ap (λ t. if_error range (node_around t)) is

-- if no token starts there, there is no such node
pub no_error_there : (root : Located) (range : Extent) → token_from root range.start ≡ None → error_at root (Some range) ≡ None
no_error_there root range is = ap (λ t. if_error range (node_around t)) is

-- the value of an option that holds one is in the tree
pub value_in_tree : (root : Located) (found : Option Located) (e : Located) → IfSome found (IsInTree root) → found ≡ Some e → IsInTree root e
value_in_tree root None e h is = absurd (grind (arith, is))
value_in_tree root (Some x) e h is = ap (λ (y : Located). y.tree) (sym (some_same x e is)) ∙ h

-- the first token of an element is in its tree
pub first_in_tree : (e : Located) (found : Option Located) (first : Located) → IsFirstToken e found → found ≡ Some first → IsInTree e first
first_in_tree e None first h is = absurd (grind (arith, is))
first_in_tree e (Some r) first h is = ap (λ (x : Located). x.tree) (sym (some_same r first is)) ∙ h.0

-- and it is a token
pub first_is_token : (e : Located) (found : Option Located) (first : Located) → IsFirstToken e found → found ≡ Some first → IsTokenAt first
first_is_token e None first h is = absurd (grind (arith, is))
first_is_token e (Some r) first h is =
    let token = h.1.1.token in
    subst IsTokenAt (some_same r first is) record {
      is_there = omega (arith, token.is_there, ap (λ x. length (items_of x)) h.0);
      is_token = ap (λ x. (item x r.number).is_node) h.0 ∙ token.is_token;
    }

-- the next token is in the same tree, and is a token
pub next_is_token : (e next : Located) → IsNextToken e (Some next) → (next.tree ≡ e.tree) × IsTokenAt next
next_is_token e next h =
    let token = h.1.1 in (
      h.0,
      record {
        is_there = omega (arith, token.is_there, ap (λ x. length (items_of x)) h.0);
        is_token = ap (λ x. (item x next.number).is_node) h.0 ∙ token.is_token;
      },
    )
