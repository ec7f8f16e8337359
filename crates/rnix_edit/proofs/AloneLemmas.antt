-- Testing a node that was parsed alone.
use Rattle.std.proofs.Common.{◌≡◌, ◌==◌, List, [], ◌∷◌, length, map, Bool, true, false, Option, Some, None, true-eqb, sym, ap, ◌∙◌, subst, arith}
use Rattle.std.proofs.lemmas.Bool.{false≢true}
use Rattle.std.specs.Bool.{Decides}
use Rattle.rnix_green.specs.Tree.{Located, part_at}
use Rattle.rnix.specs.ParseResult.{Reading, root_of}
use Rattle.rnix_edit.specs.declared.node_range.NodeRange.{NodeRange}
use Rattle.rnix_edit.specs.Alone.{alone_range, node_at, AreSame, IsSameNode}

-- a node that does not exist equals no other
pub none_same : (found own : Option Located) → found ≡ None → ¬ AreSame found own
none_same found own none = λ same. subst (λ f. AreSame f own) none same

-- a node equals no node that does not exist
pub no_other : (found own : Option Located) (node : Located) → found ≡ Some node → own ≡ None → ¬ AreSame found own
no_other found own node is none = λ same. subst (λ o. AreSame (Some node) o) none (subst (λ f. AreSame f own) is same)

-- comparing two nodes that exist
pub both_there : (found own : Option Located) (node other : Located) (same : Bool) → found ≡ Some node → own ≡ Some other
    → Decides same (part_at node ≡ part_at other) → Decides same (AreSame found own)
both_there found own node other same first second tested =
    subst (λ f. Decides same (AreSame f own)) (sym first) (subst (λ o. Decides same (AreSame (Some node) o)) (sym second) tested)

-- if the program's list of errors is not empty, there are errors
pub some_errors : {X Y : Type 0} (f : X → Y) (errors : List X) (faults : List Y) (empty : Bool) → map f errors ≡ faults → empty ≡ (length errors == 0)
    → empty ≡ false → ¬ (faults ≡ [])
some_errors f [] faults empty all is fails = λ none. false≢true (sym fails ∙ is)
some_errors f (error ∷ errors) faults empty all is fails = λ none. absurd (omega (arith, ap length (all ∙ none)))

-- if the program's list of errors is empty, there are none
pub no_errors : {X Y : Type 0} (f : X → Y) (errors : List X) (faults : List Y) (empty : Bool) → map f errors ≡ faults → empty ≡ (length errors == 0)
    → empty ≡ true → faults ≡ []
no_errors f [] faults empty all is holds = sym all
no_errors f (error ∷ errors) faults empty all is holds = absurd (omega (arith, true-eqb (length (error ∷ errors)) 0 (sym (sym is ∙ holds))))

-- comparing the node of a reading without errors
pub node_tested : (target : NodeRange) (root : Located) (read : Reading) (same : Bool) → read.faults ≡ []
    → Decides same (AreSame (node_at target root) (node_at (alone_range target) (root_of read))) → Decides same (IsSameNode target root read)
node_tested target root read same none tested = (λ is. record { none = none; same = tested.0 is }, λ h. tested.1 h.same)
