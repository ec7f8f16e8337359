-- The least indentation of a list of symbols, symbol by symbol.
use Rattle.std.proofs.Common.{◌≡◌, ◌+◌, ◌≤◌, ◌++◌, ◌∙◌, ℕ, suc, min, Bool, true, false, not, cond, ◌||◌, nat_lt, List, [], ◌∷◌, Option, Some, None, refl, sym}
use Rattle.std.{proofs.{Common.{ap, map, arith}, lemmas.Bool.Decides.nat_tests}, specs.{Prelude.if◌then◌else◌, List.fold}}
use Rattle.rnix_base.specs.{declared.{indent.Indent.Indent, parts.InterpolPart.TheVariants.{Literal, Interpolation}}, Normal.{Parts, Symbol, symbols, is_gap}}
use Rattle.rnix_base.specs.{Normal.{is_feed, before_line, lines, indentation, has_text, least_indentation}, Indent.{indent_after, indent_behind, indent_of}}
use Rattle.rnix_base.{specs.Indent.no_indent, proofs.SymbolLineLemmas.{lines_feed, lines_more}}

-- the least indentation of lines, of the first of which some spaces have been read, or text
unfoldable pub least_from : Option ℕ → List (List Symbol) → ℕ
least_from spaces [] = 1000000
least_from None (line ∷ ls) = least_indentation ls
least_from (Some n) (line ∷ ls) = if has_text line then min (n + indentation line) (least_indentation ls) else least_indentation ls

-- the state after the symbols of a list
abbrev pub indent_after_all : Indent → List Symbol → Indent
indent_after_all = fold (λ indent s. indent_after indent s.byte)

least-limit : (ls : List (List Symbol)) → least_indentation ls ≤ 1000000
unfolding least_indentation
least-limit [] = omega arith
least-limit (line ∷ ls) = case_text (has_text line) (least-limit ls) where
  case_text : (t : Bool) → least_indentation ls ≤ 1000000 → (if t then min (indentation line) (least_indentation ls) else least_indentation ls) ≤ 1000000
  case_text true h = omega arith
  case_text false h = h

from_zero : (ls : List (List Symbol)) → least_from (Some 0) ls ≡ least_indentation ls
unfolding least_from least_indentation
from_zero [] = refl
from_zero (line ∷ ls) = ap (λ n. if has_text line then min n (least_indentation ls) else least_indentation ls) (zero_plus (indentation line)) where
  zero_plus : (n : ℕ) → 0 + n ≡ n
  zero_plus n = omega arith

-- a line feed begins the next line
from_line : (spaces : Option ℕ) (s : Symbol) (ls : List (List Symbol)) → is_feed s ≡ true → least_from spaces ((s ∷ []) ∷ ls) ≡ least_indentation ls
unfolding least_from
from_line None s ls e = refl
from_line (Some n) s ls e = ap (λ t. if t then min (n + indentation (s ∷ [])) (least_indentation ls) else least_indentation ls) (no_text s e) where
  no_text : (s : Symbol) → is_feed s ≡ true → has_text (s ∷ []) ≡ false
  no_text s e = ap (λ f. not (is_gap s || f) || false) e ∙ or_true (is_gap s)
    where
      or_true : (g : Bool) → (not (g || true) || false) ≡ false
      or_true true = refl
      or_true false = refl

-- after text, the rest of the line does not count
from_none : (s : Symbol) (ls : List (List Symbol)) → least_from None (before_line s ls) ≡ least_from None ls
unfolding least_from least_indentation
from_none s [] = refl
from_none s (line ∷ ls) = refl

gap_text : (s : Symbol) (line : List Symbol) → is_gap s ≡ true → has_text (s ∷ line) ≡ has_text line
gap_text s line e = ap (λ g. not (g || is_feed s) || has_text line) e

gap_indentation : (s : Symbol) (line : List Symbol) → is_gap s ≡ true → indentation (s ∷ line) ≡ 1 + indentation line
gap_indentation s line e = ap (λ g. cond g (1 + indentation line) 0) e

-- one more space
one_more : (n k x : ℕ) → x ≤ 1000000 → min (n + (1 + k)) x ≡ min ((if nat_lt n 1000000 then n + 1 else n) + k) x
one_more n k x h = grind (arith, nat_tests)

from_gap : (n : ℕ) (s : Symbol) (ls : List (List Symbol)) → is_gap s ≡ true
    → least_from (Some n) (before_line s ls) ≡ least_from (Some (if nat_lt n 1000000 then n + 1 else n)) ls
unfolding least_from least_indentation
from_gap n s [] e = ap (λ t. if t then min (n + indentation (s ∷ [])) (least_indentation []) else least_indentation []) (gap_text s [] e)
from_gap n s (line ∷ ls) e =
    ap (λ t. if t then min (n + indentation (s ∷ line)) (least_indentation ls) else least_indentation ls) (gap_text s line e)
    ∙ ap (λ k. if has_text line then min (n + k) (least_indentation ls) else least_indentation ls) (gap_indentation s line e)
    ∙ ap (λ m. if has_text line then m else least_indentation ls) (one_more n (indentation line) (least_indentation ls) (least-limit ls))

-- the first text of a line
some_text : (s : Symbol) (line : List Symbol) → is_feed s ≡ false → is_gap s ≡ false → has_text (s ∷ line) ≡ true
some_text s line f g = ap (λ x. not (x || is_feed s) || has_text line) g ∙ ap (λ x. not x || has_text line) f

no_indentation : (s : Symbol) (line : List Symbol) → is_gap s ≡ false → indentation (s ∷ line) ≡ 0
no_indentation s line e = ap (λ g. cond g (1 + indentation line) 0) e

plus_zero : (n x : ℕ) → min (n + 0) x ≡ min n x
plus_zero n x = omega arith

from_text : (n : ℕ) (s : Symbol) (ls : List (List Symbol)) → is_feed s ≡ false → is_gap s ≡ false
    → least_from (Some n) (before_line s ls) ≡ min n (least_from None ls)
unfolding least_from least_indentation
from_text n s [] f g =
    ap (λ t. if t then min (n + indentation (s ∷ [])) (least_indentation []) else least_indentation []) (some_text s [] f g)
    ∙ ap (λ k. min (n + k) (least_indentation [])) (no_indentation s [] g) ∙ plus_zero n (least_indentation [])
from_text n s (line ∷ ls) f g =
    ap (λ t. if t then min (n + indentation (s ∷ line)) (least_indentation ls) else least_indentation ls) (some_text s line f g)
    ∙ ap (λ k. min (n + k) (least_indentation ls)) (no_indentation s line g) ∙ plus_zero n (least_indentation ls)

-- the state after one symbol
after_feed : (indent : Indent) (s : Symbol) → is_feed s ≡ true → indent_after indent s.byte ≡ record { least = indent.least; spaces = Some 0 }
after_feed indent s e = rw e refl

after_none : (m : ℕ) (s : Symbol) → is_feed s ≡ false → indent_after record { least = m; spaces = None } s.byte ≡ record { least = m; spaces = None }
after_none m s e = rw e refl

after_gap : (m n : ℕ) (s : Symbol) → is_feed s ≡ false → is_gap s ≡ true
    → indent_after record { least = m; spaces = Some n } s.byte ≡ record { least = m; spaces = Some (if nat_lt n 1000000 then n + 1 else n) }
after_gap m n s f g = rw (f, g) refl

after_text : (m n : ℕ) (s : Symbol) → is_feed s ≡ false → is_gap s ≡ false
    → indent_after record { least = m; spaces = Some n } s.byte ≡ record { least = min m n; spaces = None }
after_text m n s f g = rw (f, g) refl

min_both : (m n x : ℕ) → min (min m n) x ≡ min m (min n x)
min_both m n x = omega arith

least_step : (m : ℕ) (spaces : Option ℕ) (s : Symbol) (list : List Symbol) (feed gap : Bool) → m ≤ 1000000 → is_feed s ≡ feed → is_gap s ≡ gap
    → ((indent : Indent) → indent.least ≤ 1000000 → (indent_after_all indent list).least ≡ min indent.least (least_from indent.spaces (lines list)))
    → (indent_after_all record { least = m; spaces = spaces } (s ∷ list)).least ≡ min m (least_from spaces (lines (s ∷ list)))
least_step m spaces s list true gap small f g more =
    ap (λ i. (indent_after_all i list).least) (after_feed record { least = m; spaces = spaces } s f)
    ∙ more record { least = m; spaces = Some 0 } small
    ∙ ap (min m) (from_zero (lines list) ∙ sym (from_line spaces s (lines list) f) ∙ ap (least_from spaces) (sym (lines_feed s list f)))
least_step m None s list false gap small f g more =
    ap (λ i. (indent_after_all i list).least) (after_none m s f)
    ∙ more record { least = m; spaces = None } small
    ∙ ap (min m) (sym (from_none s (lines list)) ∙ ap (least_from None) (sym (lines_more s list f)))
least_step m (Some n) s list false true small f g more =
    ap (λ i. (indent_after_all i list).least) (after_gap m n s f g)
    ∙ more record { least = m; spaces = Some (if nat_lt n 1000000 then n + 1 else n) } small
    ∙ ap (min m) (sym (from_gap n s (lines list) g) ∙ ap (least_from (Some n)) (sym (lines_more s list f)))
least_step m (Some n) s list false false small f g more =
    ap (λ i. (indent_after_all i list).least) (after_text m n s f g)
    ∙ more record { least = min m n; spaces = None } (omega arith)
    ∙ min_both m n (least_from None (lines list))
    ∙ ap (min m) (sym (from_text n s (lines list) f g) ∙ ap (least_from (Some n)) (sym (lines_more s list f)))

list_least : (list : List Symbol) (indent : Indent) → indent.least ≤ 1000000
    → (indent_after_all indent list).least ≡ min indent.least (least_from indent.spaces (lines list))
unfolding lines least_from
list_least [] indent small = omega arith
list_least (s ∷ list) indent small = least_step indent.least indent.spaces s list (is_feed s) (is_gap s) small refl refl (λ i h. list_least list i h)

-- the least indentation of a list, symbol by symbol
pub least-list : (list : List Symbol) → (indent_after_all no_indent list).least ≡ least_indentation (lines list)
least-list list = list_least list no_indent (omega arith) ∙ ap (min 1000000) (from_zero (lines list))
    ∙ limited (least_indentation (lines list)) (least-limit (lines list)) where
      limited : (x : ℕ) → x ≤ 1000000 → min 1000000 x ≡ x
      limited x h = omega arith

-- the state after the symbols of a text
after_text_symbols : (n : ℕ) (text : List ℕ) (list : List Symbol) (indent : Indent)
    → indent_after_all indent (map (λ b. record { part = n; byte = Some b }) text ++ list) ≡ indent_after_all (indent_behind indent text) list
after_text_symbols n [] list indent = refl
after_text_symbols n (b ∷ text) list indent = after_text_symbols n text list (indent_after indent (Some b))

after_parts : {I : Type 0} (n : ℕ) (parts : Parts I) (indent : Indent) → indent_after_all indent (symbols n parts) ≡ indent_of indent parts
unfolding symbols
after_parts n [] indent = refl
after_parts n (Literal text ∷ parts) indent = after_text_symbols n text (symbols (suc n) parts) indent ∙ after_parts (suc n) parts (indent_behind indent text)
after_parts n (Interpolation i ∷ parts) indent = after_parts (suc n) parts (indent_after indent None)

pub least-parts : {I : Type 0} (parts : Parts I) → (indent_of no_indent parts).least ≡ least_indentation (lines (symbols 0 parts))
least-parts parts = ap (λ i. i.least) (sym (after_parts 0 parts no_indent)) ∙ least-list (symbols 0 parts)
