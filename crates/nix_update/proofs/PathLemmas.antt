-- A path that is parsed as the entry of a set.
use Rattle.std.proofs.Common.{◌≡◌, ℕ, ◌-◌, List, [], ◌∷◌, ◌++◌, length, get_or, drop, map, Some, None, Option, string_bytes, ap, sym, subst, ◌∙◌, arith}
use Rattle.std.proofs.lemmas.Option.{none-some, same_Some}
use Rattle.std.specs.Prelude.{Result, Ok, Err, IfOk, IfSome, IfNone}
use Rattle.rnix_kinds.specs.Lexical.Tokens.{tokens_of}
use Rattle.rnix_green.specs.Tree.{Located, item_of, text_at}
use Rattle.rnix_base.specs.Select.{child_of, nodes_of}
use Rattle.rnix_grammar.specs.Parsed.{IsParsed}
use Rattle.rnix.specs.{NodeKinds.{is_attr, is_expr}, AttrName.static_name, ParseResult.{Reading, root_of}}
use Rattle.nix_update.specs.{declared.path.Path.Path, Path.{entry_with, path_inside, IsPath, IsNoPath}}

-- the path of the entry, with its names and their offsets, is a path
pub whole_path : {E : Type 0} (text : List ℕ) (read : Reading) (path : Located) (r : Result (Option Path) E)
    → IsParsed (tokens_of (entry_with text)) read.tree read.faults → read.faults ≡ []
    → path_inside (child_of is_expr 0 (root_of read)) ≡ Some path → text_at path ≡ text
    → IfOk r (λ found. IfSome found (λ found. map static_name (nodes_of is_attr path) ≡ map Some (map string_bytes found.names.items)))
    → IfOk r (λ found. IfSome found (λ found. map (λ attr. (item_of attr).start - 1) (nodes_of is_attr path) ≡ found.starts.items))
    → IfOk r (λ found. IfSome found (λ found. IsPath text (map string_bytes found.names.items) found.starts.items))
whole_path text read path (Ok (Some found)) is_read none is text_is names starts = record {
  read = read;
  is_read = is_read;
  none = none;
  path = path;
  path_is = is;
  text_is = text_is;
  names_are = names;
  starts_are = starts;
}
whole_path text read path (Ok None) is_read none is text_is names starts = tt
whole_path text read path (Err e) is_read none is text_is names starts = tt

-- a list with a missing name is not a list of names
pub no_gap : (xs ys : List (Option (List ℕ))) (names : List (List ℕ)) → ¬ (xs ++ None ∷ ys ≡ map Some names)
no_gap [] ys [] is = omega (arith, ap length is)
no_gap [] ys (name ∷ names) is = none-some name (ap (λ l. get_or l 0 None) is)
no_gap (x ∷ xs) ys [] is = omega (arith, ap length is)
no_gap (x ∷ xs) ys (name ∷ names) is = no_gap xs ys names (ap (drop 1) is)

-- the path of the entry has a name that the text does not determine
pub no_names : {E : Type 0} (text : List ℕ) (read : Reading) (path : Located) (r : Result (Option Path) E)
    → IsParsed (tokens_of (entry_with text)) read.tree read.faults → path_inside (child_of is_expr 0 (root_of read)) ≡ Some path
    → IfOk r (λ found. IfNone found ((names : List (List ℕ)) → ¬ (map static_name (nodes_of is_attr path) ≡ map Some names)))
    → IfOk r (λ found. IfNone found (IsNoPath text))
no_names text read path (Ok None) is_read is none = record {
  read = read;
  is_read = is_read;
  none = λ other names _ found _ are.
      none names (subst (λ p. map static_name (nodes_of is_attr p) ≡ map Some names) (same_Some other path (sym found ∙ is)) are);
}
no_names text read path (Ok (Some found)) is_read is none = tt
no_names text read path (Err e) is_read is none = tt

-- the path of the entry is not the whole text
pub other_text : (text : List ℕ) (read : Reading) (path : Located) → IsParsed (tokens_of (entry_with text)) read.tree read.faults →
    path_inside (child_of is_expr 0 (root_of read)) ≡ Some path → ¬ (text_at path ≡ text) → IsNoPath text
other_text text read path is_read is differs = record {
  read = read;
  is_read = is_read;
  none = λ other names _ found whole _. differs (ap text_at (same_Some path other (sym is ∙ found)) ∙ whole);
}
