-- What a pointer to a typed node keeps, and the typed node that it finds in a tree.
use Rattle.std.specs.Prelude.{◌≡◌, Bool, true, Option, Some, SomeIff}
use Rattle.rnix_kinds.specs.declared.kinds.SyntaxKind.{SyntaxKind}
use Rattle.rnix_green.specs.Tree.{Tree, Located, IsNodeAt}
use Rattle.rnix_tree.specs.Pointer.{Address, HasNode, located_at, address_of, address_in}
use Rattle.rnix_base.specs.Select.{has_kind}
use Rattle.rnix_base.specs.declared.pointer.AstPtr.{AstPtr}

-- the address that a pointer to a typed node keeps
abbrev pub address_under : {T : Type 0} → AstPtr T → Address
address_under p = address_in p.raw

-- what is found, if anything is, is the node of the address; it is found exactly if the tree has it and its kind is one of these
abbrev pub IsTypedIn : (SyntaxKind → Bool) → Tree → Address → Option Located → Type 0
IsTypedIn kinds t a found = SomeIff found (HasNode t a × (kinds a.kind ≡ true)) (located_at t a)

-- the node of the tree that the address was taken of is found, if its kind is one of these
abbrev pub FindsTyped : (SyntaxKind → Bool) → Tree → Address → Option Located → Type 0
FindsTyped kinds t a found =
    (e : Located) → IsNodeAt e → has_kind kinds e ≡ true → e.tree ≡ t → a ≡ address_of e → found ≡ Some e
