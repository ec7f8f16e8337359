-- What a renaming writes, and why it writes nothing.
use Rattle.std.specs.Prelude.{◌≡◌, ◌&&◌, ℕ, Bool, true, false, List, [], length, Option, Some, None, string_bytes}
use Rattle.std.specs.Cow.{cow_str_bytes}
use Rattle.std.specs.Str.{bytes_eq}
use Rattle.rnix_kinds.specs.Lexical.Tokens.{tokens_of}
use Rattle.rnix_kinds.specs.declared.kinds.SyntaxKind.TheVariants as k
use Rattle.rnix_green.specs.Equality.{same_kind}
use Rattle.rnix_green.specs.Tree.{Located, item_of, extent_of, text_at}
use Rattle.rnix_base.specs.Select.{child_of}
use Rattle.rnix_grammar.specs.Parsed.{IsParsed}
use Rattle.rnix.specs.NodeKinds.{is_expr}
use Rattle.rnix.specs.ParseResult.{Reading, root_of}
use Rattle.nix_scopes.specs.declared.resolution.Binding.{Binding}
use Rattle.nix_scopes.specs.declared.resolution.Resolution.{Resolution}
use Rattle.nix_scopes.specs.Occurrences.{IsNameAt, binding_at, occurrences_of}
use Rattle.nix_scopes.specs.Alike.{IsResolution, AreAlike, rename_in}
use Rattle.nix_rename.specs.declared.refusal.Refusal.{Refusal}
use Rattle.nix_rename.specs.declared.refusal.Refusal.TheVariants as refusal
use Rattle.nix_rename.specs.declared.renaming.Renaming.{Renaming}
use Rattle.nix_rename.specs.declared.renaming.Renaming.TheVariants as renaming
use Rattle.nix_rename.specs.Refused.{is_special_name, obstacle_of_binding}
use Rattle.nix_rename.specs.Changed.{IsChanged, IsUnchangeable}

-- the reading of a text
abbrev pub IsRead : List ℕ → Reading → Type 0
IsRead text read = IsParsed (tokens_of text) read.tree read.faults

-- whether a node is a name and the whole text
abbrev pub is_whole_name : Located → List ℕ → Bool
is_whole_name e text = same_kind (item_of e).kind k.NODE_IDENT && bytes_eq (text_at e) text

-- whether a node exists, and is a name and the whole text
abbrev pub is_name_whole : Option Located → List ℕ → Bool
is_name_whole None text = false
is_name_whole (Some e) text = is_whole_name e text

-- a text with this reading is a name and nothing else
abbrev pub IsNameIn : Reading → List ℕ → Type 0
IsNameIn read text = (read.faults ≡ []) × (is_name_whole (child_of is_expr 0 (root_of read)) text ≡ true)

-- a text is a name and nothing else
pub record IsName (text : List ℕ) : Type 0 where
  pub read : Reading
  pub is_read : IsRead text read
  pub is_name : IsNameIn read text

-- a text is not a single name
pub record IsNoName (text : List ℕ) : Type 0 where
  pub read : Reading
  pub is_read : IsRead text read
  pub is_none : ¬ IsNameIn read text

-- the bindings and references of a text are these, one for one, at the corresponding offsets, with a new name for the binding
abbrev pub AreThese : Resolution → Binding → List ℕ → Resolution → Type 0
AreThese names binding new others = AreAlike (rename_in names binding.first (length (cow_str_bytes binding.text)) new) names others

-- a text is parsed without errors, and has the same bindings and references
pub record ResolvesTheSame (names : Resolution) (binding : Binding) (new text : List ℕ) : Type 0 where
  pub read : Reading
  pub is_read : IsRead text read
  pub errors : read.faults ≡ []
  pub others : Resolution
  pub found : IsResolution (root_of read) others
  pub alike : AreThese names binding new others

-- a text is parsed with errors, or has other bindings or references
pub record ResolvesDifferently (names : Resolution) (binding : Binding) (new text : List ℕ) : Type 0 where
  pub read : Reading
  pub is_read : IsRead text read
  pub others : Resolution
  pub found : IsResolution (root_of read) others
  pub different : ¬ ((read.faults ≡ []) × AreThese names binding new others)

-- the text with a new name for a binding that may be renamed, at exactly its occurrences; parsed again, it resolves as before
pub record IsNamed (text : List ℕ) (names : Resolution) (binding : Binding) (new made : List ℕ) : Type 0 where
  pub free : obstacle_of_binding binding.first names ≡ None
  pub changed : IsChanged text (occurrences_of binding.first names) (cow_str_bytes binding.text) new made
  pub alike : ResolvesTheSame names binding new made

-- the text with a new name for a binding has errors, or does not resolve as before
pub record IsDifferent (text : List ℕ) (names : Resolution) (binding : Binding) (new : List ℕ) : Type 0 where
  pub made : List ℕ
  pub changed : IsChanged text (occurrences_of binding.first names) (cow_str_bytes binding.text) new made
  pub different : ResolvesDifferently names binding new made

-- why a binding is not renamed
abbrev pub IsReason : Refusal → List ℕ → Resolution → Binding → List ℕ → Type 0
IsReason (refusal.Obstacle obstacle) text names binding new = obstacle_of_binding binding.first names ≡ Some obstacle
IsReason refusal.OtherSpelling text names binding new = IsUnchangeable text (occurrences_of binding.first names) (cow_str_bytes binding.text)
IsReason refusal.ChangedMeaning text names binding new = IsDifferent text names binding new
IsReason _ text names binding new = ⊥

-- the binding to which the name at an offset refers is this one, if there is one
pub record IsReferent (root : Located) (offset : ℕ) (names : Resolution) (binding : Option Binding) : Type 0 where
  pub found : IsResolution root names
  pub name : Located
  pub at_offset : IsNameAt root offset (Some name)
  pub is_binding : binding_at names (extent_of name) ≡ binding

-- the text with a new name for the binding of the name at an offset
pub record IsRenamed (text : List ℕ) (root : Located) (offset : ℕ) (new made : List ℕ) : Type 0 where
  pub is_name : IsName new
  pub is_written : is_special_name new ≡ false
  pub names : Resolution
  pub binding : Binding
  pub referent : IsReferent root offset names (Some binding)
  pub named : IsNamed text names binding new made

-- why the binding of the name at an offset is not renamed
pub record IsNotRenamed (refusal : Refusal) (text : List ℕ) (root : Located) (offset : ℕ) (new : List ℕ) : Type 0 where
  pub names : Resolution
  pub binding : Binding
  pub referent : IsReferent root offset names (Some binding)
  pub reason : IsReason refusal text names binding new

-- why the name at an offset is not renamed
abbrev pub IsCause : Refusal → List ℕ → Located → ℕ → List ℕ → Type 0
IsCause refusal.NotAName text root offset new = IsNoName new
IsCause refusal.SpecialName text root offset new = is_special_name new ≡ true
IsCause refusal.NoName text root offset new = IsNameAt root offset None
IsCause refusal.Unbound text root offset new = (names : Resolution) × IsReferent root offset names None
IsCause (refusal.Obstacle obstacle) text root offset new = IsNotRenamed (refusal.Obstacle obstacle) text root offset new
IsCause refusal.OtherSpelling text root offset new = IsNotRenamed refusal.OtherSpelling text root offset new
IsCause refusal.ChangedMeaning text root offset new = IsNotRenamed refusal.ChangedMeaning text root offset new

-- P holds for the new text, if there is one
abbrev pub IfRenamed : (List ℕ → Type 0) → Renaming → Type 0
IfRenamed P (renaming.Renamed made) = P (string_bytes made)
IfRenamed P (renaming.Refused refusal) = Unit {0}

-- P holds for the refusal, if there is one
abbrev pub IfRefused : (Refusal → Type 0) → Renaming → Type 0
IfRefused P (renaming.Renamed made) = Unit {0}
IfRefused P (renaming.Refused refusal) = P refusal
