-- The tree of a text's parse can be stored as its elements, with the text.
use Rattle.std.proofs.Common.{◌≡◌, ℕ, ◌+◌, ◌<◌, ◌^◌, List, [], ◌∷◌, ◌++◌, length, map, IsUtf8, refl, sym, ap, ◌∙◌, subst, arith}
use Rattle.std.{specs.List.{All}, proofs.lemmas.List.{length-map, Elements.{All-nil, All-cons, All-head, All-tail}}}
use Rattle.rnix_kinds.{specs.{declared.kinds.SyntaxKind.TheVariants.{NODE_ROOT}, Lexical.Tokens.{Lexeme, tokens_of}}, proofs.LexicalLemmas.Laws.{AreSound-tokens_under}}
use Rattle.rnix_green.specs.{declared.packed.Packed.{Packed}, Forest.{HasText}, Kept.{kept_of, tree_from, IsKept}, Tree.{Tree, items_of, forest_of}}
use Rattle.rnix_green.proofs.KeptLemmas.{tree_from_kept}
use Rattle.rnix_grammar.specs.{Fault.{Fault}, Parsed.{IsParsed}, AnnotatedForest.{Token, AnnotatedForest, blank, token, branch, fault, tokens_in, forget, placed_from}}
use Rattle.rnix_reparse.proofs.OwnTexts.{own_text}
use Rattle.rnix_c.specs.{declared.compact.{RnixRange.{RnixRange}, RnixLink.{RnixLink}}, KeptArrays.{BeginWithTree, HoldParse}}

-- what holds for all of two concatenated lists holds for the first
front : {X : Type 0} (P : X → Type 0) (xs ys : List X) → All P (xs ++ ys) → All P xs
front P [] ys h = All-nil P
front P (x ∷ xs) ys h = All-cons P x xs (All-head P x (xs ++ ys) h) (front P xs ys (All-tail P x (xs ++ ys) h))

-- and for the second
back : {X : Type 0} (P : X → Type 0) (xs ys : List X) → All P (xs ++ ys) → All P ys
back P [] ys h = h
back P (x ∷ xs) ys h = back P xs ys (All-tail P x (xs ++ ys) h)

-- the text of a token is UTF-8
abbrev IsText : Token → Type 0
IsText t = IsUtf8 t.text

-- if the tokens of a forest are UTF-8, so are its leaves
has_text : (f : AnnotatedForest) → All IsText (tokens_in f) → HasText (forget f)
has_text blank h = tt
has_text (token k t f) h = (All-head IsText t (tokens_in f) h, has_text f (All-tail IsText t (tokens_in f) h))
has_text (branch k c f) h = (has_text c (front IsText (tokens_in c) (tokens_in f) h), has_text f (back IsText (tokens_in c) (tokens_in f) h))
has_text (fault n c f) h = (has_text c (front IsText (tokens_in c) (tokens_in f) h), has_text f (back IsText (tokens_in c) (tokens_in f) h))

-- the text of a lexeme is UTF-8
abbrev HasCharacters : Lexeme → Type 0
HasCharacters l = IsUtf8 l.1

-- placed tokens have the texts of the lexemes
placed_utf8 : (n : ℕ) (ls : List Lexeme) → All HasCharacters ls → All IsText (placed_from n ls)
placed_utf8 n [] h = All-nil IsText
placed_utf8 n (l ∷ ls) h =
    All-cons IsText _ (placed_from (n + length l.1) ls) (All-head HasCharacters l ls h) (placed_utf8 (n + length l.1) ls (All-tail HasCharacters l ls h))

-- the stored elements of a text's parse, with the text, are those of its tree
pub kept_tree : (text : List ℕ) (tree : Tree) (faults : List Fault) (es : List Packed) → IsUtf8 text → length text < 2 ^ 32 → length (items_of tree) < 2 ^ 32
    → IsParsed (tokens_of text) tree faults → es ≡ map kept_of (items_of tree) → IsKept tree es text
kept_tree text tree faults es utf8 short few p e =
    let r = p.reading in
    let sound = AreSound-tokens_under [] text utf8 in
    let leaves = subst (All IsText) (sym r.leaves) (placed_utf8 0 (tokens_of text) sound.utf8) in
    record {
      elements = e;
      text_is = sym (own_text text tree faults utf8 p);
      characters = subst (λ (t : Tree). HasText (forest_of t)) (sym r.tree_is) (has_text r.annotated leaves, tt);
      short = short;
      few = omega (arith, few, ap (length {A = Packed}) e, length-map (items_of tree) kept_of);
    }

-- if there are no errors, the list of errors is empty
no_faults : (faults : List Fault) → 0 ≡ length faults → faults ≡ []
no_faults [] e = refl
no_faults (first ∷ others) e = absurd (omega arith)

module _ (text : List ℕ) (ranges : List RnixRange) (links : List RnixLink) (es : List Packed) (h : HoldParse text ranges links 0) (utf8 : IsUtf8 text)
    (short : length text < 2 ^ 32) (is : (tree : Tree) → BeginWithTree ranges links tree → es ≡ map kept_of (items_of tree)) where
  -- the arrays contain the stored elements of the tree
  pub kept_in_arrays : IsKept h.0 es text
  kept_in_arrays = kept_tree text h.0 h.1.0 es utf8 short h.1.1.1.0.few h.1.1.0 (is h.0 h.1.1.1.0)

  -- so the tree that is made from these elements is the tree in the arrays
  pub same_tree : (t : Tree) → t ≡ tree_from es text → t ≡ h.0
  same_tree t e = e ∙ tree_from_kept h.0 es text kept_in_arrays

  -- this tree is the parse of the text, without errors
  pub parsed_in_arrays : (t : Tree) → t ≡ tree_from es text → IsParsed (tokens_of text) t []
  parsed_in_arrays t e =
      subst (λ (tree : Tree). IsParsed (tokens_of text) tree []) (sym (same_tree t e))
      (subst (λ (faults : List Fault). IsParsed (tokens_of text) h.0 faults) (no_faults h.1.0 h.1.1.1.1) h.1.1.0)

  -- the root of this tree is a NODE_ROOT
  pub root_in_arrays : (t : Tree) → t ≡ tree_from es text → t.kind ≡ NODE_ROOT
  root_in_arrays t e = ap (λ (tree : Tree). tree.kind) (same_tree t e ∙ h.1.1.0.reading.tree_is)
