-- The errors that report error nodes and repeated entries.
use Rattle.std.specs.Prelude.{Bool, true, false, List, [], ◌∷◌, Option, Some, None, if◌then◌else◌, ℕ}
use Rattle.std.specs.Str.{bytes_eq}
use Rattle.rnix_kinds.specs.declared.kinds.SyntaxKind.{SyntaxKind}
use Rattle.rnix_kinds.specs.declared.kinds.SyntaxKind.TheVariants.{NODE_ERROR, NODE_IDENT, NODE_PAT_ENTRY}
use Rattle.rnix_grammar.specs.Fault.{Fault, extra, unwanted, double_bind, duplicated_args, too_deep}
use Rattle.rnix_grammar.specs.Tables.{wanted_kinds, operand_kinds}
use Rattle.rnix_grammar.specs.AnnotatedForest.{Token, Note, Stray, Unwanted, Extra, DoubleBind, TooDeep, AnnotatedForest, blank, token, branch, fault, extent_of}

-- the kind of the first token
abbrev pub first_kind : List Token → SyntaxKind
first_kind [] = NODE_ERROR
first_kind (t ∷ ts) = t.kind

-- the error that reports an error node over these tokens
abbrev pub report : Note → List Token → Fault
report Stray ts = unwanted (first_kind ts) (extent_of ts) operand_kinds
report (Unwanted until) ts = unwanted (first_kind ts) (extent_of ts) (wanted_kinds until)
report Extra ts = extra (extent_of ts)
report DoubleBind ts = double_bind (extent_of ts)
report TooDeep ts = too_deep

-- the token that a forest begins with, if it begins with one
abbrev pub only_token : AnnotatedForest → Option Token
only_token (token k t f) = Some t
only_token f = None

-- the name that an entry of a pattern begins with
abbrev pub entry_name : AnnotatedForest → Option Token
entry_name (branch NODE_IDENT c f) = only_token c
entry_name f = None

-- a token, if there is one, has the text
abbrev pub is_same_name : List ℕ → Option Token → Bool
is_same_name name None = false
is_same_name name (Some t) = bytes_eq name t.text

-- a forest has an entry with the name
abbrev pub has_entry : List ℕ → AnnotatedForest → Bool
has_entry name blank = false
has_entry name (token k t f) = has_entry name f
has_entry name (branch NODE_PAT_ENTRY c f) = if is_same_name name (entry_name c) then true else has_entry name f
has_entry name (branch k c f) = has_entry name f
has_entry name (fault n c f) = has_entry name f

-- the error of an entry with this name after these siblings, if the name repeats one of theirs
abbrev pub repeated_if : Option Token → AnnotatedForest → List Fault
repeated_if None before = []
repeated_if (Some t) before = if has_entry t.text before then duplicated_args (extent_of (t ∷ [])) t.text ∷ [] else []

-- the error of an entry that repeats a name of its siblings
abbrev pub repeated : AnnotatedForest → AnnotatedForest → List Fault
repeated before entry = repeated_if (entry_name entry) before

-- the error of an entry of a pattern that repeats a name of one before it
abbrev pub repeats : SyntaxKind → AnnotatedForest → AnnotatedForest → List Fault
repeats NODE_PAT_ENTRY before c = repeated before c
repeats kind before c = []
