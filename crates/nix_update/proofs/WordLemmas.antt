-- The words of a text, collected one by one.
use Rattle.std.proofs.Common.{◌≡◌, ℕ, ◌<◌, List, [], ◌∷◌, ◌++◌, length, codes, refl, sym, ap, ◌∙◌, subst, arith, append_assoc}
use Rattle.std.proofs.lemmas.{List.{append-nil, flat_map_more}, Str.encode_ascii}
use Rattle.std.specs.{Prelude.{flat_map, encode_utf8}, Str.{NoCharPasses, EmptyOrStartsWithPassing}, Char.{is_whitespace, is_not_whitespace}}
use Rattle.{rnix_base.{specs.Quoted.nix_string, proofs.QuotedLemmas.is_quoted}, nix_update.specs.Words.{StartsWithWord, AreWords, item_text, IsListOf}}

-- a list so far: its items are the words before the rest
pub record ListedBefore (text rest list : List ℕ) : Type 0 where
  pub seen : List (List ℕ)
  pub words : (more : List (List ℕ)) → AreWords rest more → AreWords text (seen ++ more)
  pub list_is : list ≡ codes "[ " ++ flat_map item_text seen

-- an item of `split_whitespace`, as a record
word_of : (text word rest : List ℕ) → (gap : List ℕ) × (text ≡ gap ++ (word ++ rest)) × (0 < length word) × NoCharPasses is_not_whitespace gap
    × NoCharPasses is_whitespace word × ((more : List ℕ) × EmptyOrStartsWithPassing is_whitespace rest more) → StartsWithWord text word rest
word_of text word rest item =
    record { gap = item.0; split = item.1; some = item.2; gap_is_blank = item.3; word_has_no_space = item.4; rest_starts_blank = item.5 }

-- before the first word
pub none_listed : (text rest list : List ℕ) → rest ≡ text → list ≡ codes "[ " → ListedBefore text rest list
none_listed text rest list same is =
    record { seen = []; words = λ more are. subst (λ t. AreWords t more) same are; list_is = is ∙ sym (append-nil (codes "[ ")) }

-- one more word is listed
pub word_listed : (text rest list word next new : List ℕ) → ListedBefore text rest list → (gap : List ℕ) × (rest ≡ gap ++ (word ++ next)) × (0 < length word)
    × NoCharPasses is_not_whitespace gap × NoCharPasses is_whitespace word × ((more : List ℕ) × EmptyOrStartsWithPassing is_whitespace next more) →
    new ≡ list ++ item_text word → ListedBefore text next new
word_listed text rest list word next new before item is = record {
  seen = before.seen ++ (word ∷ []);
  words = λ more are. subst (AreWords text) (sym (append_assoc before.seen (word ∷ []) more))
      (before.words (word ∷ more) (next, word_of rest word next item, are));
  list_is = is ∙ ap (λ l. l ++ item_text word) before.list_is ∙ flat_map_more item_text (codes "[ ") before.seen word;
}

-- adding an item: a word as a string, and a space
pub item_added : (list middle new word : List ℕ) → middle ≡ list ++ nix_string word → new ≡ middle ++ encode_utf8 32 → new ≡ list ++ item_text word
item_added list middle new word middle_is is =
    is ∙ ap (λ l. middle ++ l) (encode_ascii 32 (omega arith)) ∙ ap (λ l. l ++ codes " ") middle_is ∙ append_assoc list (nix_string word) (codes " ")

-- no word remains: with its bracket the list is complete
pub all_listed : (text rest list new : List ℕ) → ListedBefore text rest list → NoCharPasses is_not_whitespace rest → new ≡ list ++ encode_utf8 93 →
    IsListOf text new
all_listed text rest list new before none is = record {
  words = before.seen;
  are_words = subst (AreWords text) (append-nil before.seen) (before.words [] none);
  text_is =
      is ∙ ap (λ l. list ++ l) (encode_ascii 93 (omega arith)) ∙ ap (λ l. l ++ codes "]") before.list_is
      ∙ append_assoc (codes "[ ") (flat_map item_text before.seen) (codes "]");
  are_quoted = λ word. is_quoted word (nix_string word) refl;
}
