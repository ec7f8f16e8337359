-- Siblings that walks pass in small trees, by computation.
use Rattle.std.proofs.Common.{◌≡◌, ◌<◌, ℕ, List, [], ◌∷◌, map, codes, true, false, refl, arith}
use Rattle.std.{proofs.lemmas.List.Elements.{All-nil, All-cons}, specs.List.All}
use Rattle.rnix_kinds.specs.declared.kinds.SyntaxKind.TheVariants as k
use Rattle.rnix_green.specs.{Forest.{Forest, empty, leaf, node}, Tree.Tree, Walk.{Step, Event, event_at}}
use Rattle.rnix_tree.specs.{Cursor.events_remaining, declared.walk.Next.TheVariants.{Enter, Leave}, WalksAlike.{EndsBefore, siblings_before, BeginsAlike}}

-- a list with one element and white space
abbrev list : List ℕ → Tree
list text = record {
  kind = k.NODE_LIST;
  children = leaf k.TOKEN_L_BRACK (codes "[")
      (node k.NODE_IDENT (leaf k.TOKEN_IDENT text empty) (leaf k.TOKEN_WHITESPACE (codes " ") (leaf k.TOKEN_R_BRACK (codes "]") empty)));
}

-- the tree of `[ab ]`
abbrev ab : Tree
ab = list (codes "ab")

-- some events of a walk over it
abbrev events : List Step → List Event
events steps = map (event_at ab) steps

-- the bracket ends at 1, the name in its node at 3, the white space at 4
no_sibling_ends : siblings_before 1 0 (events_remaining ab 0 (Enter 1)) ≡ []
no_sibling_ends = refl

the_bracket_ends : siblings_before 3 0 (events_remaining ab 0 (Enter 1)) ≡ events ((true, 1) ∷ (false, 1) ∷ [])
the_bracket_ends = refl

the_name_ends : siblings_before 4 0 (events_remaining ab 0 (Enter 1)) ≡ events ((true, 1) ∷ (false, 1) ∷ (true, 2) ∷ (true, 3) ∷ (false, 3) ∷ (false, 2) ∷ [])
the_name_ends = refl

-- the siblings from the name on; and none, if the list is left next
from_the_name : siblings_before 4 0 (events_remaining ab 0 (Enter 2)) ≡ events ((true, 2) ∷ (true, 3) ∷ (false, 3) ∷ (false, 2) ∷ [])
from_the_name = refl

none_is_next : siblings_before 9 0 (events_remaining ab 0 (Leave 0)) ≡ []
none_is_next = refl

-- `[cd ]` begins alike, up to the name
abbrev cd : Tree
cd = list (codes "cd")

abbrev bracket : List Event
bracket = map (event_at cd) ((true, 1) ∷ (false, 1) ∷ [])

bracket_ends : All (EndsBefore 2) bracket
bracket_ends =
    let low : 1 < 2 = omega arith in
    All-cons (EndsBefore 2) (event_at cd (true, 1)) (event_at cd (false, 1) ∷ []) low
    (All-cons (EndsBefore 2) (event_at cd (false, 1)) [] low (All-nil (EndsBefore 2)))

begins_with_the_bracket : BeginsAlike (siblings_before 3 0 (events_remaining ab 0 (Enter 1))) 2 (events_remaining cd 0 (Enter 1))
begins_with_the_bracket = record { other_passed = bracket; remaining = events_remaining cd 0 (Enter 2); split = refl; alike = refl; before = bracket_ends }
