-- What is written between quotes has the value that was written, and ends at the closing quote.
use Rattle.std.proofs.Common.{◌≡◌, ◌≢◌, ◌⊎◌, inl, inr, ℕ, ◌+◌, Bool, true, false, ◌==◌, List, [], ◌∷◌, ◌++◌, refl, sym, ap, ◌∙◌, codes, length, arith}
use Rattle.{std.proofs.lemmas.Bool.Decides.nat_tests, rnix_kinds.specs.Lexical.Strings.content_len}
use Rattle.rnix_kinds.proofs.LexicalLemmas.StringsLemmas.{content_len-stop, content_len-piece}
use Rattle.rnix_base.specs.{Escapes.{escaped, unescaped, values}, Quoted.{begins_with_brace, escape_of, inside_of, nix_string, IsQuoted}}
use Rattle.rnix_base.proofs.EscapeLemmas.{unescaped_step}

-- a byte that is escaped
record IsEscape (b : ℕ) (rest : List ℕ) : Type 0 where
  letter : ℕ
  piece : escape_of b rest ≡ 92 ∷ letter ∷ []
  value : escaped letter ≡ b

-- a byte that is written as it is
record IsPlain (b : ℕ) (rest : List ℕ) : Type 0 where
  piece : escape_of b rest ≡ b ∷ []
  quote : b ≢ 34
  backslash : b ≢ 92
  dollar : b ≡ 36 → begins_with_brace rest ≡ false

-- the tests of `escape_of` decide which
form_by : (b : ℕ) (rest : List ℕ) (t n r q s d o : Bool) → (b == 9) ≡ t → (b == 10) ≡ n → (b == 13) ≡ r → (b == 34) ≡ q → (b == 92) ≡ s
    → (b == 36) ≡ d → begins_with_brace rest ≡ o → IsEscape b rest ⊎ IsPlain b rest
unfolding escape_of
form_by b rest true n r q s d o ht hn hr hq hs hd ho =
    inl record { letter = 116; piece = rw ht refl; value = grind (arith, nat_tests) }
form_by b rest false true r q s d o ht hn hr hq hs hd ho =
    inl record { letter = 110; piece = rw (ht, hn) refl; value = grind (arith, nat_tests) }
form_by b rest false false true q s d o ht hn hr hq hs hd ho =
    inl record { letter = 114; piece = rw (ht, hn, hr) refl; value = grind (arith, nat_tests) }
form_by b rest false false false true s d o ht hn hr hq hs hd ho =
    inl record { letter = b; piece = rw (ht, hn, hr, hq) refl; value = grind (arith, nat_tests) }
form_by b rest false false false false true d o ht hn hr hq hs hd ho =
    inl record { letter = b; piece = rw (ht, hn, hr, hq, hs) refl; value = grind (arith, nat_tests) }
form_by b rest false false false false false true true ht hn hr hq hs hd ho =
    inl record { letter = b; piece = rw (ht, hn, hr, hq, hs, hd, ho) refl; value = grind (arith, nat_tests) }
form_by b rest false false false false false true false ht hn hr hq hs hd ho =
    inr record {
      piece = rw (ht, hn, hr, hq, hs, hd, ho) refl;
      quote = grind (arith, nat_tests);
      backslash = grind (arith, nat_tests);
      dollar = λ _. ho;
    }
form_by b rest false false false false false false o ht hn hr hq hs hd ho =
    inr record {
      piece = rw (ht, hn, hr, hq, hs, hd) refl;
      quote = grind (arith, nat_tests);
      backslash = grind (arith, nat_tests);
      dollar = λ e. grind (arith, nat_tests);
    }

-- each byte is escaped or written as it is
form : (b : ℕ) (rest : List ℕ) → IsEscape b rest ⊎ IsPlain b rest
form b rest = form_by b rest _ _ _ _ _ _ _ refl refl refl refl refl refl refl

-- what is written for a byte and those after it
inside_step : (b : ℕ) (rest piece : List ℕ) → escape_of b rest ≡ piece → inside_of (b ∷ rest) ≡ piece ++ inside_of rest
unfolding inside_of
inside_step b rest piece e = ap (λ x. x ++ inside_of rest) e

-- nothing is written for no bytes
empty_reads_back : unescaped false (inside_of []) ≡ []
unfolding values inside_of
empty_reads_back = refl

-- one more byte
reads_back_step : (b : ℕ) (rest : List ℕ) → IsEscape b rest ⊎ IsPlain b rest
    → unescaped false (inside_of rest) ≡ rest → unescaped false (inside_of (b ∷ rest)) ≡ b ∷ rest
reads_back_step b rest (inl e) h =
    ap (unescaped false) (inside_step b rest _ e.piece)
    ∙ unescaped_step false 92 (e.letter ∷ inside_of rest) record { len = 2; value = escaped e.letter ∷ [] } (grind (arith, nat_tests))
    ∙ ap (λ x. x ∷ unescaped false (inside_of rest)) e.value ∙ ap (λ x. b ∷ x) h
reads_back_step b rest (inr p) h =
    ap (unescaped false) (inside_step b rest _ p.piece)
    ∙ unescaped_step false b (inside_of rest) record { len = 1; value = b ∷ [] } (grind (arith, nat_tests, p.quote, p.backslash))
    ∙ ap (λ x. b ∷ x) h

-- what is written has the value that was written
reads_back : (value : List ℕ) → unescaped false (inside_of value) ≡ value
reads_back [] = empty_reads_back
reads_back (b ∷ rest) = reads_back_step b rest (form b rest) (reads_back rest)

-- what is written, the closing quote, and any text
abbrev closed : List ℕ → List ℕ → List ℕ
closed value rest = inside_of value ++ codes "\"" ++ rest

-- the content ends at the closing quote, also after a `$`, unless the value begins with `{`
record Closes (value rest : List ℕ) : Type 0 where
  alone : content_len false (closed value rest) ≡ length (inside_of value)
  dollar : begins_with_brace value ≡ false → content_len false (36 ∷ closed value rest) ≡ 1 + length (inside_of value)

-- a `$` before a byte that is neither `$` nor `{` is a piece
lone_dollar : (b : ℕ) (text : List ℕ) → b ≢ 36 → b ≢ 123 → content_len false (36 ∷ b ∷ text) ≡ 1 + content_len false (b ∷ text)
lone_dollar b text d o = content_len-piece false 1 (36 ∷ b ∷ text) (grind (arith, nat_tests, d, o)) (omega arith) (omega arith)

-- `$$` is a piece
two_dollars : (text : List ℕ) → content_len false (36 ∷ 36 ∷ text) ≡ 2 + content_len false text
two_dollars text = content_len-piece false 2 (36 ∷ 36 ∷ text) (grind (arith, nat_tests)) (omega arith) (omega arith)

-- an escape is a piece
escape_piece : (b : ℕ) (text : List ℕ) → content_len false (92 ∷ b ∷ text) ≡ 2 + content_len false text
escape_piece b text = content_len-piece false 2 (92 ∷ b ∷ text) (grind (arith, nat_tests)) (omega arith) (omega arith)

-- a byte that is no quote, no backslash and no `$` is a piece
plain_piece : (b : ℕ) (text : List ℕ) → b ≢ 34 → b ≢ 92 → b ≢ 36 → content_len false (b ∷ text) ≡ 1 + content_len false text
plain_piece b text q s d = content_len-piece false 1 (b ∷ text) (grind (arith, nat_tests, q, s, d)) (omega arith) (omega arith)

-- the content ends at a quote
quote_closes : (rest : List ℕ) → content_len false (34 ∷ rest) ≡ 0
quote_closes rest = content_len-stop false (34 ∷ rest) (grind (arith, nat_tests))

-- after an escape
escape_closes : (b : ℕ) (value rest : List ℕ) → IsEscape b value → Closes value rest → Closes (b ∷ value) rest
escape_closes b value rest e h =
    let whole : closed (b ∷ value) rest ≡ 92 ∷ e.letter ∷ closed value rest = ap (λ x. x ++ codes "\"" ++ rest) (inside_step b value _ e.piece) in
    let long : length (inside_of (b ∷ value)) ≡ 2 + length (inside_of value) = ap length (inside_step b value _ e.piece) ∙ omega arith in
    let here : content_len false (closed (b ∷ value) rest) ≡ length (inside_of (b ∷ value)) =
    ap (content_len false) whole ∙ escape_piece e.letter (closed value rest) ∙ ap (λ n. 2 + n) h.alone ∙ sym long in
    record {
      alone = here;
      dollar = λ _. ap (λ x. content_len false (36 ∷ x)) whole ∙ lone_dollar 92 (e.letter ∷ closed value rest) (omega arith) (omega arith)
          ∙ ap (λ x. 1 + content_len false x) (sym whole) ∙ ap (λ n. 1 + n) here;
    }

-- after a byte that is written as it is
plain_closes : (b : ℕ) (value rest : List ℕ) (d : Bool) → (b == 36) ≡ d → IsPlain b value → Closes value rest → Closes (b ∷ value) rest
plain_closes b value rest true is p h =
    let same : b ≡ 36 = grind (arith, nat_tests) in
    let whole : closed (b ∷ value) rest ≡ 36 ∷ closed value rest =
    ap (λ x. x ++ codes "\"" ++ rest) (inside_step b value _ p.piece) ∙ ap (λ x. x ∷ closed value rest) same in
    let long : length (inside_of (b ∷ value)) ≡ 1 + length (inside_of value) = ap length (inside_step b value _ p.piece) ∙ omega arith in
    record {
      alone = ap (content_len false) whole ∙ h.dollar (p.dollar same) ∙ sym long;
      dollar = λ _. ap (λ x. content_len false (36 ∷ x)) whole ∙ two_dollars (closed value rest) ∙ omega (arith, h.alone, long);
    }
plain_closes b value rest false is p h =
    let other : b ≢ 36 = grind (arith, nat_tests) in
    let whole : closed (b ∷ value) rest ≡ b ∷ closed value rest = ap (λ x. x ++ codes "\"" ++ rest) (inside_step b value _ p.piece) in
    let long : length (inside_of (b ∷ value)) ≡ 1 + length (inside_of value) = ap length (inside_step b value _ p.piece) ∙ omega arith in
    let here : content_len false (closed (b ∷ value) rest) ≡ length (inside_of (b ∷ value)) =
    ap (content_len false) whole ∙ plain_piece b (closed value rest) p.quote p.backslash other ∙ omega (arith, h.alone, long) in
    record {
      alone = here;
      dollar = λ no. ap (λ x. content_len false (36 ∷ x)) whole ∙ lone_dollar b (closed value rest) other (grind (arith, nat_tests))
          ∙ ap (λ x. 1 + content_len false x) (sym whole) ∙ ap (λ n. 1 + n) here;
    }

-- after any byte
closes_step : (b : ℕ) (value rest : List ℕ) → IsEscape b value ⊎ IsPlain b value → Closes value rest → Closes (b ∷ value) rest
closes_step b value rest (inl e) h = escape_closes b value rest e h
closes_step b value rest (inr p) h = plain_closes b value rest (b == 36) refl p h

-- this holds for every value
closes : (value rest : List ℕ) → Closes value rest
unfolding inside_of
closes [] rest = record { alone = quote_closes rest; dollar = λ _. lone_dollar 34 rest (omega arith) (omega arith) ∙ ap (λ n. 1 + n) (quote_closes rest) }
closes (b ∷ value) rest = closes_step b value rest (form b value) (closes value rest)

-- what is written, in quotes, is a string with the value
pub is_quoted : (value text : List ℕ) → text ≡ nix_string value → IsQuoted value text
is_quoted value text e = record { inside = inside_of value; text_is = e; value_is = reads_back value; is_content = λ rest. (closes value rest).alone }
