-- Two lists of items that are alike: the same kinds and texts one by one, touching alike inside paths; and errors of the same items of both.
use Rattle.std.specs.Prelude.{◌≡◌, ℕ, Bool, true, false, ◌||◌, ◌&&◌, List, [], ◌∷◌, take, drop, Option, Some, None, nat_eq}
use Rattle.rnix_kinds.specs.declared.kinds.SyntaxKind.{SyntaxKind}
use Rattle.rnix_kinds.specs.declared.kinds.SyntaxKind.TheVariants.{TOKEN_INTERPOL_END}
use Rattle.rnix_green.specs.Range.{Extent}
use Rattle.rnix_green.specs.Equality.{same_kind}
use Rattle.rnix_grammar.specs.TokenKinds.{is_path_piece, is_piece_start}
use Rattle.rnix_grammar.specs.Fault.{Fault, unexpected_at, extra, unwanted, double_bind, unexpected_eof, unexpected_eof_wanted, duplicated_args, too_deep}
use Rattle.rnix_grammar.specs.AnnotatedForest.{Token, extent_of}

-- after an item of the kind a path continues, if the next item touches it
abbrev pub ends_piece : SyntaxKind → Bool
ends_piece k = is_path_piece k || same_kind TOKEN_INTERPOL_END k

-- the same for the item before, if there is one
abbrev pub is_in_path : Option SyntaxKind → Bool
is_in_path None = false
is_in_path (Some k) = ends_piece k

-- an item of the kind continues the path that the item before may be in, if it touches that
abbrev pub may_join : Option SyntaxKind → SyntaxKind → Bool
may_join prev k = is_in_path prev && is_piece_start k

-- the items have the same kinds and texts, and where a path may continue they touch in both lists or in none; known are the kind of the item before
-- and where it ends in the first and in the second list
abbrev pub AreAlike : Option SyntaxKind → ℕ → ℕ → List Token → List Token → Type 0
AreAlike prev n m [] [] = Unit {0}
AreAlike prev n m (t ∷ ts) (u ∷ us) =
    (t.kind ≡ u.kind) × (t.text ≡ u.text) × (may_join prev t.kind ≡ true → nat_eq t.start n ≡ nat_eq u.start m) × AreAlike (Some t.kind) t.end u.end ts us
AreAlike prev n m ts us = ⊥

-- two ranges are those of the same items, one in the first and the other in the second list
pub record AreOfSameItems (xs ys : List Token) (a b : Extent) : Type 0 where
  -- how many items come before them, and how many they are
  pub first : ℕ
  pub count : ℕ
  pub here : a ≡ extent_of (take count (drop first xs))
  pub there : b ≡ extent_of (take count (drop first ys))

-- two errors are the same except for their ranges, which are those of the same items
abbrev pub IsSameFault : List Token → List Token → Fault → Fault → Type 0
IsSameFault xs ys (unexpected_at a) (unexpected_at b) = AreOfSameItems xs ys a b
IsSameFault xs ys (extra a) (extra b) = AreOfSameItems xs ys a b
IsSameFault xs ys (unwanted kind a wanted) (unwanted other b others) = (kind ≡ other) × AreOfSameItems xs ys a b × (wanted ≡ others)
IsSameFault xs ys (double_bind a) (double_bind b) = AreOfSameItems xs ys a b
IsSameFault xs ys unexpected_eof unexpected_eof = Unit {0}
IsSameFault xs ys (unexpected_eof_wanted wanted) (unexpected_eof_wanted others) = wanted ≡ others
IsSameFault xs ys (duplicated_args a name) (duplicated_args b other) = AreOfSameItems xs ys a b × (name ≡ other)
IsSameFault xs ys too_deep too_deep = Unit {0}
IsSameFault xs ys d e = ⊥

-- the same for two lists of errors, one by one
abbrev pub AreSameFaults : List Token → List Token → List Fault → List Fault → Type 0
AreSameFaults xs ys [] [] = Unit {0}
AreSameFaults xs ys (d ∷ ds) (e ∷ es) = IsSameFault xs ys d e × AreSameFaults xs ys ds es
AreSameFaults xs ys ds es = ⊥
