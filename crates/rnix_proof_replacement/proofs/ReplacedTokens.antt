-- The tokens around brackets stay the same when what is between the brackets is replaced.
use Rattle.std.proofs.Common.{◌≡◌, ℕ, ◌<◌, Bool, true, ◌||◌, ◌==◌, List, [], ◌∷◌, ◌++◌, length, get_or, IsUtf8, Some, refl}
use Rattle.std.proofs.Common.{sym, ap, ◌∙◌, subst, inl, inr, arith, append_assoc}
use Rattle.std.proofs.lemmas.{List.append-nil, List.Concat.flat_map-append, Str.IsUtf8-append, Bool.cases_Bool}
use Rattle.std.specs.Prelude.{codes}
use Rattle.rnix_kinds.specs.declared.kinds.SyntaxKind.{SyntaxKind}
use Rattle.rnix_kinds.specs.declared.tokenizer.rule.{Cut.Cut, Mode.{Mode, TheVariants.{Quoted}}}
use Rattle.rnix_kinds.specs.Lexical.{Texts.begins, Classes.is_path, Paths.path_goes_on, Strings.piece_len}
use Rattle.rnix_kinds.specs.Lexical.Tokens.{Lexeme, text_of, cut_at, top, without_ended_paths, changed, tokens_under, tokens_of}
use Rattle.rnix_kinds.proofs.LexicalLemmas.{TokensLemmas.tokens_under-settled}
use Rattle.rnix_proof_replacement.specs.Replaced.{is_opening, is_closing, are_balanced, texts, MayReplace}
use Rattle.rnix_proof_replacement.proofs.BeforeBrackets.{BeginsBracket, byte_same, dollar_same}
use Rattle.rnix_proof_replacement.proofs.CutTokens.{AreCut, first_cut, first_tokens, cut_tokens, tokens_cut}
use Rattle.rnix_proof_replacement.proofs.Depths.{AreOver, normal, string, raised, cut_over, over_end, string_settled, raised_none}
use Rattle.rnix_proof_replacement.proofs.KeptTokens.{settled_alike, kept}
use Rattle.rnix_proof_replacement.proofs.BracketTokens.{is_quote, IsOpened, opening_token, ClosesText, closing_token, closing_stops}

-- whether a path continues at a bracket does not depend on what follows the bracket
bracket_goes_on : (o : List ℕ) → BeginsBracket o → (s r : List ℕ) → path_goes_on (o ++ r) ≡ path_goes_on (o ++ s)
bracket_goes_on o bracket s r =
    ap (λ d. d || is_path (get_or (o ++ r) 0 0)) (dollar_same o bracket [] 0 r s (omega arith))
    ∙ ap (λ b. begins (codes "${") (o ++ s) || is_path b) (byte_same o bracket [] r s 0 (omega arith))

module _ (t : List ℕ) (modes others : List Mode) (cut other : Cut) (first : IsOpened modes t cut) (second : IsOpened others t other)
    (same : cut.kind ≡ other.kind) where
  -- the same modes are open over both bases after an opening bracket
  bases : AreOver (changed cut.change modes) (changed other.change others) (changed cut.change modes) (changed other.change others) 0
  bases =
      let p = changed cut.change modes in
      let q = changed other.change others in
      elim (cases_Bool (is_quote cut.kind)) [
        | inl e ↦ string (get_or t 0 0 == 39) (first.quotes e) (second.quotes (ap is_quote (sym same) ∙ e))
        | inr e ↦ (let here : AreOver p q (raised 0 p) (raised 0 q) 0 = normal 0 (first.outside e) (second.outside (ap is_quote (sym same) ∙ e)) in
            subst (λ a. AreOver p q a q 0) (raised_none p) (subst (λ b. AreOver p q (raised 0 p) b 0) (raised_none q) here))
      ]

same_test : (test : SyntaxKind → Bool) (k l : SyntaxKind) → k ≡ l → test l ≡ true → test k ≡ true
same_test test k l e pass = ap test e ∙ pass

-- balanced tokens leave the modes as they were
stays_balanced : (base : List Mode) (c w : List ℕ) (tokens : List Lexeme) (after : List Mode) → ClosesText c → AreCut (c ++ w) base tokens after
    → AreOver base base base base 0 → are_balanced tokens 0 ≡ true → without_ended_paths after (c ++ w) ≡ base
stays_balanced base c w tokens after closes cuts over balanced =
    let found = cut_over base base (c ++ w) base base tokens after 0 cuts over balanced in
    (over_end base base (c ++ w) after found.end 0 found.over refl (closes.ends w)).0

string_stays : (m : Bool) (modes base : List Mode) (x : List ℕ) → without_ended_paths modes x ≡ base → top modes ≡ Some (Quoted m) → top base ≡ Some (Quoted m)
string_stays m modes base x settled within = ap top (sym settled ∙ string_settled m modes x within) ∙ within

-- the cuts of brackets and of the balanced tokens between them
record AreBracketCuts (modes : List Mode) (left right : Lexeme) (inner : List Lexeme) (rest : List ℕ) (last : List Lexeme) : Type 0 where
  cut : Cut
  kind : cut.kind ≡ left.0
  some : 0 < length left.1
  len : cut.len ≡ length left.1
  opened : IsOpened (without_ended_paths modes (left.1 ++ (texts inner ++ (right.1 ++ rest)))) left.1 cut
  after : List Mode
  cuts : AreCut (right.1 ++ rest) (changed cut.change (without_ended_paths modes (left.1 ++ (texts inner ++ (right.1 ++ rest))))) inner after
  closes : ClosesText right.1
  stop : (m : Bool) → top (without_ended_paths after (right.1 ++ rest)) ≡ Some (Quoted m) → piece_len m (right.1 ++ rest) ≡ 0
  more : tokens_under after (right.1 ++ rest) ≡ right ∷ last
  utf8 : IsUtf8 (texts inner ++ (right.1 ++ rest))

module _ (left right : Lexeme) (opening : is_opening left.0 ≡ true) (closing : is_closing right.0 ≡ true) where
  -- brackets at the beginning of a text have such cuts
  brackets_cut : (modes : List Mode) (inner : List Lexeme) (rest : List ℕ) (last : List Lexeme)
      → IsUtf8 (left.1 ++ (texts inner ++ (right.1 ++ rest)))
      → tokens_under modes (left.1 ++ (texts inner ++ (right.1 ++ rest))) ≡ left ∷ (inner ++ (right ∷ last))
      → AreBracketCuts modes left right inner rest last
  brackets_cut modes inner rest last utf8 e =
      let s = texts inner ++ (right.1 ++ rest) in
      let begun = first_cut modes left.1 s left (inner ++ (right ∷ last)) refl utf8 e in
      let o = without_ended_paths modes (left.1 ++ s) in
      let found = begun.2 in
      let content = tokens_cut (right.1 ++ rest) (changed begun.0.change o) inner (right ∷ last) found.utf8 found.more in
      let ended = first_cut content.after right.1 rest right last refl content.utf8 content.more in
      let end = ended.2 in
      let p = without_ended_paths content.after (right.1 ++ rest) in
      let opens = same_test is_opening begun.0.kind left.0 begun.1 opening in
      let kind = same_test is_closing ended.0.kind right.0 ended.1 closing in
      record {
        cut = begun.0;
        kind = begun.1;
        some = found.some;
        len = found.len;
        opened = opening_token left.1 s begun.0 found.some found.len o found.is opens;
        after = content.after;
        cuts = content.cuts;
        closes = closing_token right.1 rest ended.0 end.some end.len p end.is kind;
        stop = λ m within. closing_stops right.1 rest ended.0 end.some end.len p m within end.is kind;
        more = content.more;
        utf8 = found.utf8;
      }

  module _ (modes low : List Mode) (inner others last back : List Lexeme) (rest end : List ℕ) (old : AreBracketCuts modes left right inner rest last)
      (new : AreBracketCuts low left right others end back) (before : are_balanced inner 0 ≡ true) (now : are_balanced others 0 ≡ true) where
    -- between the brackets, the tokens of the other brackets' text are the same
    between : tokens_under (changed old.cut.change (without_ended_paths modes (left.1 ++ (texts inner ++ (right.1 ++ rest)))))
        (texts others ++ (right.1 ++ rest))
        ≡ others ++ (right ∷ last)
    between =
        let c = right.1 in
        let o = without_ended_paths modes (left.1 ++ (texts inner ++ (c ++ rest))) in
        let p = without_ended_paths low (left.1 ++ (texts others ++ (c ++ end))) in
        let base = changed old.cut.change o in
        let other = changed new.cut.change p in
        let same = bases left.1 o o old.cut old.cut old.opened old.opened refl in
        let settled = stays_balanced base c rest inner old.after old.closes old.cuts same before in
        let over = bases left.1 p o new.cut old.cut new.opened old.opened (new.kind ∙ sym old.kind) in
        let found = cut_over other base (c ++ end) other base others new.after 0 new.cuts over now in
        let ends = λ (x : List ℕ). (over_end other base (c ++ x) new.after found.end 0 found.over refl (old.closes.ends x)).1 in
        let cuts = kept c old.closes.bracket end rest base others found.end found.cuts new.utf8
        (λ m within e. old.stop m (ap top settled ∙ string_stays m found.end base (c ++ end) (ends end) within)) in
        cut_tokens (c ++ rest) base others found.end cuts
        ∙ ap (λ l. others ++ l) (sym (tokens_under-settled found.end (c ++ rest)) ∙ (ap (λ m. tokens_under m (c ++ rest)) (ends rest ∙ sym settled)
        ∙ (tokens_under-settled old.after (c ++ rest) ∙ old.more)))

    -- brackets with other tokens between them have these tokens, and those after them
    brackets_again : tokens_under modes (left.1 ++ (texts others ++ (right.1 ++ rest))) ≡ left ∷ (others ++ (right ∷ last))
    brackets_again =
        let s = texts inner ++ (right.1 ++ rest) in
        let r = texts others ++ (right.1 ++ rest) in
        let same = settled_alike modes (left.1 ++ s) (left.1 ++ r) (bracket_goes_on left.1 old.opened.bracket s r) in
        first_tokens modes left.1 r old.cut (others ++ (right ∷ last)) old.some old.len (ap (λ m. cut_at (top m) (left.1 ++ r)) same ∙ old.opened.again r)
        (ap (λ m. tokens_under (changed old.cut.change m) r) same ∙ between) ∙ ap (λ k. (k, left.1) ∷ (others ++ (right ∷ last))) old.kind

  -- the tokens of the new text, from those of the old text and those of the text of the new brackets
  replaced_tokens : (inner first last others front back : List Lexeme) (rest end : List ℕ) → are_balanced inner 0 ≡ true → are_balanced others 0 ≡ true
      → IsUtf8 (texts first ++ (left.1 ++ (texts inner ++ (right.1 ++ rest))))
      → tokens_of (texts first ++ (left.1 ++ (texts inner ++ (right.1 ++ rest)))) ≡ first ++ (left ∷ (inner ++ (right ∷ last)))
      → IsUtf8 (texts front ++ (left.1 ++ (texts others ++ (right.1 ++ end))))
      → tokens_of (texts front ++ (left.1 ++ (texts others ++ (right.1 ++ end)))) ≡ front ++ (left ∷ (others ++ (right ∷ back)))
      → tokens_of (texts first ++ (left.1 ++ (texts others ++ (right.1 ++ rest)))) ≡ first ++ (left ∷ (others ++ (right ∷ last)))
  replaced_tokens inner first last others front back rest end before now utf8 whole other_utf8 other =
      let s = texts inner ++ (right.1 ++ rest) in
      let r = texts others ++ (right.1 ++ rest) in
      let begun = tokens_cut (left.1 ++ s) [] first (left ∷ (inner ++ (right ∷ last))) utf8 whole in
      let source = tokens_cut (left.1 ++ (texts others ++ (right.1 ++ end))) [] front (left ∷ (others ++ (right ∷ back))) other_utf8 other in
      let old = brackets_cut begun.after inner rest last begun.utf8 begun.more in
      let new = brackets_cut source.after others end back source.utf8 source.more in
      let kept_first = kept left.1 old.opened.bracket s r [] first begun.after begun.cuts utf8
      (λ m within e. old.opened.stop m (string_stays m begun.after _ (left.1 ++ s) refl within) r) in
      cut_tokens (left.1 ++ r) [] first begun.after kept_first
      ∙ ap (λ l. first ++ l) (brackets_again begun.after source.after inner others last back rest end old new before now)

-- the text of brackets, with the text after them
bracket_text : (o i c w : List ℕ) → (o ++ (i ++ (c ++ []))) ++ w ≡ o ++ (i ++ (c ++ w))
bracket_text o i c w =
    append_assoc o (i ++ (c ++ [])) w
    ∙ ap (λ x. o ++ x) (append_assoc i (c ++ []) w ∙ ap (λ x. i ++ x) (ap (λ x. x ++ w) (append-nil c)))

texts_bracketed : (left right : Lexeme) (inner : List Lexeme) → texts (left ∷ (inner ++ (right ∷ []))) ≡ left.1 ++ (texts inner ++ (right.1 ++ []))
texts_bracketed left right inner = ap (λ x. left.1 ++ x) (flat_map-append text_of inner (right ∷ []))

-- a text that contains brackets
text_is : (before part after : List ℕ) (left right : Lexeme) (inner first : List Lexeme) → texts first ≡ before
    → texts (left ∷ (inner ++ (right ∷ []))) ≡ part
    → before ++ (part ++ after) ≡ texts first ++ (left.1 ++ (texts inner ++ (right.1 ++ after)))
text_is before part after left right inner first before_is extent =
    ap (λ x. x ++ (part ++ after)) (sym before_is)
    ∙ ap (λ x. texts first ++ x) (ap (λ x. x ++ after) (sym extent ∙ texts_bracketed left right inner) ∙ bracket_text left.1 (texts inner) right.1 after)

whole_utf8 : (before part after : List ℕ) → IsUtf8 before → IsUtf8 part → IsUtf8 after → IsUtf8 (before ++ (part ++ after))
whole_utf8 before part after first middle last = IsUtf8-append before (part ++ after) first (IsUtf8-append part after middle last)

-- the law `replacement`
pub may_replace : (before old after start new end : List ℕ) → IsUtf8 (before ++ (old ++ after)) → IsUtf8 (start ++ (new ++ end))
    → MayReplace before old after start new end
may_replace before old after start new end old_utf8 new_utf8 left right inner first last others front back was now =
    let old_text = text_is before old after left right inner first was.before_is was.extent in
    let source = text_is start new end left right others front now.before_is now.extent in
    let new_text = text_is before new after left right others first was.before_is now.extent in
    record {
      whole = ap tokens_of new_text
          ∙ replaced_tokens left right was.opening was.closing inner first last others front back after end was.balanced now.balanced
          (subst IsUtf8 old_text old_utf8) (ap tokens_of (sym old_text) ∙ was.whole) (subst IsUtf8 source new_utf8) (ap tokens_of (sym source) ∙ now.whole);
      before_is = was.before_is;
      extent = now.extent;
      opening = was.opening;
      closing = was.closing;
      balanced = now.balanced;
    }

-- the law for texts in three parts each
pub parts_replaced : (before old after start new end : List ℕ) → IsUtf8 before → IsUtf8 old → IsUtf8 after → IsUtf8 start → IsUtf8 new → IsUtf8 end
    → MayReplace before old after start new end
parts_replaced before old after start new end a b c d e f =
    may_replace before old after start new end (whole_utf8 before old after a b c) (whole_utf8 start new end d e f)
