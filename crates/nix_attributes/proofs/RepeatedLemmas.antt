-- Names that are added one after another, and the repetitions among them.
use Rattle.std.proofs.Common.{◌≡◌, ℕ, List, [], ◌∷◌, ◌++◌, map, Option, Some, None, refl, ap, sym, ◌∙◌, subst}
use Rattle.std.proofs.lemmas.List.{append_assoc, append-nil}
use Rattle.std.specs.Option.{option_to_list}
use Rattle.nix_attributes.specs.Attributes.{AddsNames, IsEmpty, IsTable, attribute_by}
use Rattle.nix_attributes.specs.Repeated.{Known, nothing, earlier, repetition, repetition_of, repetitions_after, with_name, with_names}
use Rattle.nix_attributes.specs.DefinedNames.{Name}
use Rattle.nix_attributes.specs.declared.{attributes.Attributes.Attributes, repeated.Repeated.Repeated}
use Rattle.nix_attributes.proofs.TableLemmas.{empty_table}

-- adding names after others
with_names_after : (known : Known) (names more : List Name) → with_names known (names ++ more) ≡ with_names (with_names known names) more
with_names_after known [] more = refl
with_names_after known (own ∷ names) more = with_names_after (with_name known own) names more

-- the repetitions among names after others
repetitions_among_later : (known : Known) (names more : List Name) →
    repetitions_after known (names ++ more) ≡ repetitions_after known names ++ repetitions_after (with_names known names) more
repetitions_among_later known [] more = refl
repetitions_among_later known (own ∷ names) more =
    ap (λ found. repetition (earlier known own) own.site ++ found) (repetitions_among_later (with_name known own) names more)
    ∙ sym (append_assoc (repetition (earlier known own) own.site) (repetitions_after (with_name known own) names) _)

-- adding no names
pub adds_none : (attributes : Attributes) (names : List Name) → names ≡ [] → AddsNames attributes attributes names
adds_none attributes names none = subst (AddsNames attributes attributes) (sym none) record {
  table = λ known table. table;
  repeated = λ known table. sym (append-nil (map repetition_of attributes.repeated.items));
}

-- adding names, and then others
pub adds_both : (old mid new : Attributes) (names more : List Name) → AddsNames old mid names → AddsNames mid new more → AddsNames old new (names ++ more)
adds_both old mid new names more one two = record {
  table = λ known table. subst (λ k. IsTable k new.attributes new.firsts) (sym (with_names_after known names more))
      (two.table (with_names known names) (one.table known table));
  repeated = λ known table. two.repeated (with_names known names) (one.table known table)
      ∙ ap (λ found. found ++ repetitions_after (with_names known names) more) (one.repeated known table)
      ∙ append_assoc (map repetition_of old.repeated.items) (repetitions_after known names) _
      ∙ ap (λ found. map repetition_of old.repeated.items ++ found) (sym (repetitions_among_later known names more));
}

-- some of all names have been added, and others remain
pub record AddsSome (old new : Attributes) (remaining all : List Name) : Type 0 where
  pub done : List Name
  pub are : AddsNames old new done
  pub whole : done ++ remaining ≡ all

-- no names have been added
pub adds_begun : (attributes : Attributes) (remaining all : List Name) → remaining ≡ all → AddsSome attributes attributes remaining all
adds_begun attributes remaining all is = record { done = []; are = adds_none attributes [] refl; whole = is }

-- the next names are added
pub adds_next : (old mid new : Attributes) (remaining names after all : List Name) → AddsSome old mid remaining all → remaining ≡ names ++ after →
    AddsNames mid new names → AddsSome old new after all
adds_next old mid new remaining names after all some first more = record {
  done = some.done ++ names;
  are = adds_both old mid new some.done names some.are more;
  whole = append_assoc some.done names after ∙ ap (λ rest. some.done ++ rest) (sym first) ∙ some.whole;
}

-- no names remain
pub adds_all : (old new : Attributes) (remaining all : List Name) → AddsSome old new remaining all → remaining ≡ [] → AddsNames old new all
adds_all old new remaining all some none =
    subst (AddsNames old new) (sym (append-nil some.done) ∙ ap (λ rest. some.done ++ rest) (sym none) ∙ some.whole) some.are

-- once all names of a text have been added, the map contains their homes
pub homes_known : (old new : Attributes) (names : List Name) → IsEmpty old → AddsNames old new names → (owner : ℕ) →
    attribute_by new.attributes owner ≡ (with_names nothing names).attribute owner
homes_known old new names none adds = (adds.table nothing (empty_table old.attributes old.firsts none.attributes none.firsts)).attributes_are
