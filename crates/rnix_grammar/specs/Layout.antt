-- Where trivia are: those before a node's first item are before the node.
use Rattle.std.specs.Prelude.{Bool, true, false, List, [], ◌∷◌}
use Rattle.rnix_kinds.specs.SyntaxKind.{is_trivia}
use Rattle.rnix_grammar.specs.AnnotatedForest.{Token, Note, TooDeep, AnnotatedForest, blank, token, branch, fault, ◌⊕◌}

-- the tokens from this one on if it is an item, otherwise those from a later one on
abbrev pub from_item_if : Bool → Token → List Token → List Token → List Token
from_item_if true t ts later = later
from_item_if false t ts later = t ∷ ts

-- the tokens from the first item on
abbrev pub from_item : List Token → List Token
from_item [] = []
from_item (t ∷ ts) = from_item_if (is_trivia t.kind) t ts (from_item ts)

-- a token that is trivia, as a leaf before others; nothing for an item
abbrev pub trivia_if : Bool → Token → AnnotatedForest → AnnotatedForest
trivia_if true t more = token t.kind t more
trivia_if false t more = blank

-- the trivia before the first item, as a forest of leaves
abbrev pub trivia_before : List Token → AnnotatedForest
trivia_before [] = blank
trivia_before (t ∷ ts) = trivia_if (is_trivia t.kind) t (trivia_before ts)

-- a token before others, unless it is trivia
abbrev pub item_if : Bool → Token → List Token → List Token
item_if true t more = more
item_if false t more = t ∷ more

-- the tokens that are not trivia
abbrev pub items : List Token → List Token
items [] = []
items (t ∷ ts) = item_if (is_trivia t.kind) t (items ts)

-- the tokens after the first
abbrev pub tail_of : List Token → List Token
tail_of [] = []
tail_of (t ∷ ts) = ts

-- the node of what is nested too deep is followed by the trivia that are left
abbrev pub is_last : Note → Bool
is_last TooDeep = true
is_last n = false

-- the trivia right after a node, if they are its siblings
abbrev pub trivia_after : Bool → List Token → AnnotatedForest
trivia_after true ts = trivia_before ts
trivia_after false ts = blank

-- the tokens after such trivia
abbrev pub rest_after : Bool → List Token → List Token
rest_after true ts = from_item ts
rest_after false ts = ts

-- the tokens that are left after a forest without trivia
abbrev pub remaining_after : AnnotatedForest → List Token → List Token
remaining_after blank ts = ts
remaining_after (token k t f) ts = remaining_after f (tail_of (from_item ts))
remaining_after (branch k c f) ts = remaining_after f (remaining_after c (from_item ts))
remaining_after (fault n c f) ts = remaining_after f (rest_after (is_last n) (remaining_after c (from_item ts)))

-- a forest without trivia, with the trivia of the tokens inserted
abbrev pub with_trivia : AnnotatedForest → List Token → AnnotatedForest
with_trivia blank ts = blank
with_trivia (token k t f) ts = trivia_before ts ⊕ token k t (with_trivia f (tail_of (from_item ts)))
with_trivia (branch k c f) ts = trivia_before ts ⊕ branch k (with_trivia c (from_item ts)) (with_trivia f (remaining_after c (from_item ts)))
with_trivia (fault n c f) ts =
    trivia_before ts
    ⊕ fault n (with_trivia c (from_item ts))
    (trivia_after (is_last n) (remaining_after c (from_item ts)) ⊕ with_trivia f (rest_after (is_last n) (remaining_after c (from_item ts))))

-- a whole text: the trivia after the last item are in the root
abbrev pub with_all_trivia : AnnotatedForest → List Token → AnnotatedForest
with_all_trivia f ts = with_trivia f ts ⊕ trivia_before (remaining_after f ts)
