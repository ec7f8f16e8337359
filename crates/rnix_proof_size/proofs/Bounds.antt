-- Bounds on the nodes of the rest of a row, in terms of its tokens: before more items, and at the end of the text. The proof needs these tables;
-- that all rows respect them is computed.
use Rattle.std.proofs.Common.{◌≡◌, ℕ, ◌+◌, ◌-◌, Bool, true, ◌||◌, ◌&&◌, max, min, if◌then◌else◌, nat_le, refl, ap, sym}
use Rattle.rnix_kinds.specs.declared.kinds.SyntaxKind.{SyntaxKind, TheVariants.{NODE_IDENT, NODE_IDENT_PARAM, NODE_INTERPOL, NODE_PATTERN, NODE_PAT_BIND}}
use Rattle.{rnix_kinds.specs.SyntaxKind.is_token, rnix_green.specs.Equality.same_kind, rnix_grammar.specs.declared.rules.Part.{Part, TheVariants.{Child, Atom}}}
use Rattle.rnix_grammar.specs.declared.rules.Part.TheVariants.{First, Suffix, Binary, Argument, Operand, Many, Entries, Wanted, Attr, Attrpath, Names, Pieces}
use Rattle.rnix_grammar.specs.{declared.rules.Part.TheVariants.{PathPieces, Formals, FormalsAfterComma, Comma, Optional, EndOr}, Rules.{Row, never, done, ◌·◌}}
use Rattle.{rnix_grammar.specs.{Rules.{◌or◌, may_end}, Tables.depth_limit}, rnix_proof_lemmas.proofs.Basics.true_is_not_false}
use Rattle.rnix_proof_rows.proofs.RowsWithoutAttrpath.{begins_with_child}

-- no counted operand is allowed inside `d` counted positions
abbrev pub is_full : ℕ → Bool
is_full d = nat_le depth_limit d

-- a lower bound for a child of a kind: twice its tokens, minus its nodes
abbrev child_surplus : SyntaxKind → ℕ
child_surplus kind = if is_token kind then 2 else (if same_kind NODE_IDENT kind then 1 else 0)

-- the same for a part of a row
abbrev part_surplus : Part → ℕ
part_surplus (Child kind) = child_surplus kind
part_surplus (Wanted kind) = child_surplus kind
part_surplus (EndOr kind) = child_surplus kind
part_surplus Binary = 3
part_surplus (Suffix kind) = 2
part_surplus (Many n closer) = 2
part_surplus (Entries closer) = 2
part_surplus Formals = 2
part_surplus FormalsAfterComma = 2
part_surplus Comma = 2
part_surplus Atom = 1
part_surplus (First n) = 1
part_surplus Argument = 1
part_surplus (Operand n counted) = 1
part_surplus Attr = 1
part_surplus part = 0

-- the same for the rest of a row, before more items
abbrev pub surplus : Row → ℕ
surplus never = 0
surplus done = 0
surplus (r or s) = min (surplus r) (surplus s)
surplus (p · r) = if may_end (p · r) then 0 else part_surplus p + surplus r

-- an upper bound on the nodes without tokens of a part at the end of the text
abbrev part_spare : Bool → Part → ℕ
part_spare full (Operand n counted) = if full && counted then 1 else 0
part_spare full Attrpath = 1
part_spare full part = 0

-- the same for the rest of a row
abbrev pub spare : Bool → Row → ℕ
spare full (p · r) = if may_end (p · r) || begins_with_child (p · r) then 0 else part_spare full p + spare full r
spare full r = 0

-- an upper bound for the child in which the text ends: its nodes and two more, minus twice its tokens
abbrev child_excess : Bool → SyntaxKind → ℕ
child_excess full NODE_IDENT = 1
child_excess full NODE_PAT_BIND = 1
child_excess full NODE_IDENT_PARAM = 2
child_excess full NODE_PATTERN = 2
child_excess full NODE_INTERPOL = if full then 2 else 3
child_excess full kind = 0

-- the same for a part of a row
abbrev part_excess : Bool → Part → ℕ
part_excess full (Child kind) = child_excess full kind
part_excess full (EndOr kind) = child_excess full kind
part_excess full (Operand n counted) = if full && counted then 1 else 4
part_excess full Argument = 4
part_excess full (Entries closer) = if full then 4 else 5
part_excess full (Many n closer) = if full then 1 else 4
part_excess full Attrpath = if full then 2 else 4
part_excess full Attr = if full then 1 else 3
part_excess full Names = if full then 1 else 3
part_excess full Pieces = if full then 2 else 3
part_excess full PathPieces = if full then 2 else 3
part_excess full (Optional kind) = if full then 2 else 3
part_excess full Formals = 2
part_excess full FormalsAfterComma = 2
part_excess full Binary = 2
part_excess full Atom = 0
part_excess full (First n) = 0
part_excess full (Suffix kind) = 0
part_excess full part = 1

-- the same for the rest of a row, at the end of the text
abbrev pub excess : Bool → Row → ℕ
excess full never = 0
excess full done = 0
excess full (r or s) = max (excess full r) (excess full s)
excess full (p · r) = max (if begins_with_child r then 0 else part_excess full p + spare full r) (excess full r - part_surplus p)

-- a complete row has no surplus
pub ended_surplus : (q : Row) → may_end q ≡ true → surplus q ≡ 0
ended_surplus never h = refl
ended_surplus done h = refl
ended_surplus (r or s) h = absurd (true_is_not_false (sym h))
ended_surplus (p · r) h = ap (λ w. if w then 0 else part_surplus p + surplus r) h
