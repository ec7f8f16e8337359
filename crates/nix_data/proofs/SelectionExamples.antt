-- What paths select in certain texts, by computation.
use Rattle.std.proofs.Common.{◌≡◌, ℕ, pos, List, [], ◌∷◌, Option, Some, None, refl, codes}
use Rattle.std.specs.Prelude.{option_and_then}
use Rattle.rnix_kinds.specs.declared.kinds.SyntaxKind.TheVariants as k
use Rattle.rnix_green.specs.Forest.{Forest, empty, leaf, node}
use Rattle.rnix_green.specs.Tree.{Located}
use Rattle.nix_values.specs.Contents.{integer, set}
use Rattle.nix_values.specs.Built.{Built}
use Rattle.nix_data.specs.Added.{added, values_of}
use Rattle.nix_values.specs.Each.{each}
use Rattle.nix_values.specs.PathNames.{Name}
use Rattle.nix_data.specs.Selection.{selected}
use Rattle.nix_data.specs.SelectedData.{definition_added, values_at}
use Rattle.nix_data.proofs.AddedExamples.{root, ident, number, in_parens, a_list, a_set, entry, one, two, three, outer, within}

-- a name and an index of a path
abbrev called : List ℕ → Name
called text = record { text = text; index = None }

abbrev indexed : ℕ → Name
indexed index = record { text = []; index = Some index }

-- the paths `a` and `a.b`
abbrev a : List Name
a = called (codes "a") ∷ []

abbrev a_b : List Name
a_b = called (codes "a") ∷ called (codes "b") ∷ []

-- a function, a `let`, a `with`, an `inherit`, and two sets that are merged
abbrev function : List ℕ → (Forest → Forest) → Forest → Forest
function name body f = node k.NODE_LAMBDA (node k.NODE_IDENT_PARAM (ident name empty) (leaf k.TOKEN_COLON (codes ":") (body empty))) f

abbrev a_let : (Forest → Forest) → (Forest → Forest) → Forest → Forest
a_let entries body f = node k.NODE_LET_IN (leaf k.TOKEN_LET (codes "let") (entries (leaf k.TOKEN_IN (codes "in") (body empty)))) f

abbrev a_with : (Forest → Forest) → (Forest → Forest) → Forest → Forest
a_with namespace body f = node k.NODE_WITH (leaf k.TOKEN_WITH (codes "with") (namespace (leaf k.TOKEN_SEMICOLON (codes ";") (body empty)))) f

abbrev an_inherit : List ℕ → Forest → Forest
an_inherit name f = node k.NODE_INHERIT (leaf k.TOKEN_INHERIT (codes "inherit") (ident name (leaf k.TOKEN_SEMICOLON (codes ";") empty))) f

abbrev updated : (Forest → Forest) → (Forest → Forest) → Forest → Forest
updated left right f = node k.NODE_BIN_OP (left (leaf k.TOKEN_UPDATE (codes "//") (right empty))) f

abbrev a_rec : (Forest → Forest) → Forest → Forest
a_rec entries f = node k.NODE_ATTR_SET (leaf k.TOKEN_REC (codes "rec") (leaf k.TOKEN_L_BRACE (codes "{")
    (entries (leaf k.TOKEN_R_BRACE (codes "}") empty)))) f

-- an entry with one name
abbrev a_is : (Forest → Forest) → Forest → Forest
a_is value f = entry (one (codes "a")) value f

abbrev b_is : (Forest → Forest) → Forest → Forest
b_is value f = entry (one (codes "b")) value f

-- `x`, 1 and 2
abbrev x : Forest → Forest
x f = ident (codes "x") f

abbrev n1 : Forest → Forest
n1 f = number (codes "1") f

abbrev n2 : Forest → Forest
n2 f = number (codes "2") f

-- the value 1 alone
abbrev is_1 : Option (List Built)
is_1 = Some (outer (integer (pos 1)) ∷ [])

-- adding nothing more changes nothing
nothing_more : (values : Option (List Built)) → option_and_then (each definition_added []) values ≡ values
nothing_more None = refl
nothing_more (Some values) = refl

-- without names, a path selects the whole text
pub whole : (e : Located) → values_at [] e ≡ values_of e
whole e = nothing_more (values_of e)

-- {a=1;b=x;}: what other entries define does not matter
beside : values_at a (root (a_set (λ f. a_is n1 (b_is x f)))) ≡ is_1
unfolding added selected
beside = refl

-- {b=x;}: no definitions are no values
missing : values_at a (root (a_set (b_is x))) ≡ Some []
unfolding added selected
missing = refl

-- {a.b=1;a={c=2;};}: the definitions of `a` are one set, and `a.b` is one of its attributes
in_pieces : values_at a (root (a_set (λ f. entry (two (codes "a") (codes "b")) n1 (a_is (a_set (entry (one (codes "c")) n2)) f))))
    ≡ Some (outer set ∷ within 0 (codes "b") (integer (pos 1)) ∷ within 0 (codes "c") (integer (pos 2)) ∷ [])
unfolding added selected
in_pieces = refl

of_a_piece : values_at a_b (root (a_set (λ f. entry (two (codes "a") (codes "b")) n1 (a_is (a_set (entry (one (codes "c")) x)) f)))) ≡ is_1
unfolding added selected
of_a_piece = refl

-- {a={b=1;};a.b=2;}, {a=1;a.b=2;} and {a.b.c=1;a={b.d=2;};} define it twice
twice : values_at a_b (root (a_set (λ f. a_is (a_set (b_is n1)) (entry (two (codes "a") (codes "b")) n2 f)))) ≡ None
unfolding added selected
twice = refl

no_set : values_at a_b (root (a_set (λ f. a_is n1 (entry (two (codes "a") (codes "b")) n2 f)))) ≡ None
unfolding added selected
no_set = refl

not_merged : values_at a_b (root (a_set (λ f. entry (three (codes "a") (codes "b") (codes "c")) n1
    (a_is (a_set (entry (two (codes "b") (codes "d")) n2)) f)))) ≡ None
unfolding added selected
not_merged = refl

-- x:let b=x;in with x;({a=1;}): inside functions, `let`, `with` and parentheses
inside : values_at a (root (function (codes "x") (a_let (b_is x) (a_with x (in_parens (a_set (a_is n1))))))) ≡ is_1
unfolding added selected
inside = refl

-- true:{a=1;}, let true=x;in{a=1;} and rec{a=1;null=x;}: a constant may have another value in these
bound_by_function : values_at a (root (function (codes "true") (a_set (a_is n1)))) ≡ None
unfolding added selected
bound_by_function = refl

bound_by_let : values_at a (root (a_let (entry (one (codes "true")) x) (a_set (a_is n1)))) ≡ None
unfolding added selected
bound_by_let = refl

bound_by_rec : values_at a (root (a_rec (λ f. a_is n1 (entry (one (codes "null")) x f)))) ≡ None
unfolding added selected
bound_by_rec = refl

-- rec{a=1;b=x;}
in_rec : values_at a (root (a_rec (λ f. a_is n1 (b_is x f)))) ≡ is_1
unfolding added selected
in_rec = refl

-- x//{a=1;}, {a=1;}//{b=x;} and {a=1;}//x: the right operand decides
right : values_at a (root (updated x (a_set (a_is n1)))) ≡ is_1
unfolding added selected
right = refl

left : values_at a (root (updated (a_set (a_is n1)) (a_set (b_is x)))) ≡ is_1
unfolding added selected
left = refl

undecided : values_at a (root (updated (a_set (a_is n1)) x)) ≡ None
unfolding added selected
undecided = refl

-- {a=[x 1];} and {inherit a;}
item : values_at (called (codes "a") ∷ indexed 1 ∷ []) (root (a_set (a_is (a_list (λ f. x (n1 f)))))) ≡ is_1
unfolding added selected
item = refl

inherited : values_at a (root (a_set (an_inherit (codes "a")))) ≡ None
unfolding added selected
inherited = refl
