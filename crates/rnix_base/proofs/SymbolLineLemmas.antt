-- The lines of a list of symbols, symbol by symbol.
use Rattle.std.proofs.Common.{◌≡◌, ◌+◌, ◌-◌, ◌++◌, ◌∙◌, ℕ, zero, suc, min, Bool, true, false, cond, ◌&&◌, nat_lt, List, [], ◌∷◌, Option, Some, None, refl, sym}
use Rattle.{std.{proofs.{Common.{ap, drop, arith}, lemmas.Bool.Decides.nat_tests}, specs.{Prelude.if◌then◌else◌, List.flat_map}}, rnix_base.specs.Normal.Symbol}
use Rattle.rnix_base.specs.{Normal.{is_byte, is_gap, is_feed, before_line, lines, indentation, shortened}, Indent.{is_lost, remaining_after}}

-- what remains of lines, if the first one loses up to `remaining` spaces and each other one up to `n`
unfoldable pub shortened_from : ℕ → ℕ → List (List Symbol) → List Symbol
shortened_from n remaining [] = []
shortened_from n remaining (line ∷ lines) = shortened remaining line ++ flat_map (shortened n) lines

-- the same, symbol by symbol
unfoldable pub list_kept : ℕ → ℕ → List Symbol → List Symbol
list_kept n remaining [] = []
list_kept n remaining (s ∷ list) = (if is_lost remaining s.byte then [] else s ∷ []) ++ list_kept n (remaining_after n remaining s.byte) list

from_start : (n : ℕ) (ls : List (List Symbol)) → shortened_from n n ls ≡ flat_map (shortened n) ls
unfolding shortened_from
from_start n [] = refl
from_start n (line ∷ ls) = refl

pub feed_is_no_gap : (s : Symbol) → is_feed s ≡ true → is_gap s ≡ false
feed_is_no_gap s e = option_case s.byte e where
  option_case : (b : Option ℕ) → is_byte 10 b ≡ true → is_byte 32 b ≡ false
  option_case None e = refl
  option_case (Some b) e = grind (arith, nat_tests)

shortened_gap : (l : ℕ) (s : Symbol) (line : List Symbol) → is_gap s ≡ true → shortened (suc l) (s ∷ line) ≡ shortened l line
shortened_gap l s line e = ap (λ g. drop (min (suc l) (cond g (1 + indentation line) 0)) (s ∷ line)) e
    ∙ ap (λ k. drop k (s ∷ line)) (min_suc l (indentation line)) where
      min_suc : (a b : ℕ) → min (suc a) (1 + b) ≡ suc (min a b)
      min_suc a b = omega arith

shortened_none : (l : ℕ) (s : Symbol) (line : List Symbol) → is_gap s ≡ false → shortened l (s ∷ line) ≡ s ∷ line
shortened_none l s line e = ap (λ g. drop (min l (cond g (1 + indentation line) 0)) (s ∷ line)) e ∙ ap (λ k. drop k (s ∷ line)) (min_zero l) where
  min_zero : (a : ℕ) → min a 0 ≡ 0
  min_zero a = omega arith

shortened_zero : (line : List Symbol) → shortened 0 line ≡ line
shortened_zero line = ap (λ k. drop k line) (zero_min (indentation line)) where
  zero_min : (a : ℕ) → min 0 a ≡ 0
  zero_min a = omega arith

drop_none : (k : ℕ) → drop {A = Symbol} k [] ≡ []
drop_none zero = refl
drop_none (suc k) = refl

-- a space that is removed
from_gap : (n l : ℕ) (s : Symbol) (ls : List (List Symbol)) → is_gap s ≡ true → shortened_from n (suc l) (before_line s ls) ≡ shortened_from n l ls
unfolding shortened_from
from_gap n l s [] e = ap (λ t. t ++ []) (shortened_gap l s [] e) ∙ ap (λ t. t ++ []) (drop_none (min l 0))
from_gap n l s (line ∷ ls) e = ap (λ t. t ++ flat_map (shortened n) ls) (shortened_gap l s line e)

-- a symbol that stays and ends no line
from_stays : (n l : ℕ) (s : Symbol) (ls : List (List Symbol)) → ((line : List Symbol) → shortened l (s ∷ line) ≡ s ∷ line)
    → shortened_from n l (before_line s ls) ≡ s ∷ shortened_from n 0 ls
unfolding shortened_from
from_stays n l s [] e = ap (λ t. t ++ []) (e [])
from_stays n l s (line ∷ ls) e = ap (λ t. t ++ flat_map (shortened n) ls) (e line ∙ ap (λ t. s ∷ t) (sym (shortened_zero line)))

from_feed : (n l : ℕ) (s : Symbol) (ls : List (List Symbol)) → is_gap s ≡ false → shortened_from n l ((s ∷ []) ∷ ls) ≡ s ∷ shortened_from n n ls
unfolding shortened_from
from_feed n l s ls e = ap (λ t. t ++ flat_map (shortened n) ls) (shortened_none l s [] e) ∙ ap (λ t. s ∷ t) (sym (from_start n ls))

pub lines_feed : (s : Symbol) (list : List Symbol) → is_feed s ≡ true → lines (s ∷ list) ≡ (s ∷ []) ∷ lines list
unfolding lines
lines_feed s list e = ap (λ f. if f then (s ∷ []) ∷ lines list else before_line s (lines list)) e

pub lines_more : (s : Symbol) (list : List Symbol) → is_feed s ≡ false → lines (s ∷ list) ≡ before_line s (lines list)
unfolding lines
lines_more s list e = ap (λ f. if f then (s ∷ []) ∷ lines list else before_line s (lines list)) e

-- what remains after one symbol
pub kept_step : (n remaining next : ℕ) (s : Symbol) (list : List Symbol) → is_lost remaining s.byte ≡ false → remaining_after n remaining s.byte ≡ next
    → list_kept n remaining (s ∷ list) ≡ s ∷ list_kept n next list
unfolding list_kept
kept_step n remaining next s list lost after = ap (λ b. (if b then [] else s ∷ []) ++ list_kept n (remaining_after n remaining s.byte) list) lost
    ∙ ap (λ l. s ∷ list_kept n l list) after

lost_step : (n remaining : ℕ) (s : Symbol) (list : List Symbol) → is_lost remaining s.byte ≡ true
    → list_kept n remaining (s ∷ list) ≡ list_kept n (remaining - 1) list
unfolding list_kept
lost_step n remaining s list lost =
    ap (λ b. (if b then [] else s ∷ []) ++ list_kept n (remaining_after n remaining s.byte) list) lost
    ∙ ap (λ b. list_kept n (if b then remaining - 1 else (if is_feed s then n else 0)) list) lost

stays_after : (n remaining : ℕ) (s : Symbol) (feed : Bool) → is_lost remaining s.byte ≡ false → is_feed s ≡ feed
    → remaining_after n remaining s.byte ≡ (if feed then n else 0)
stays_after n remaining s feed lost e = ap (λ b. if b then remaining - 1 else (if is_feed s then n else 0)) lost ∙ ap (λ f. if f then n else 0) e

not_lost : (remaining : ℕ) (s : Symbol) → is_gap s ≡ false → is_lost remaining s.byte ≡ false
not_lost remaining s e = ap (λ g. g && nat_lt 0 remaining) e

lines_step : (n remaining : ℕ) (s : Symbol) (list : List Symbol) (feed gap : Bool) → is_feed s ≡ feed → is_gap s ≡ gap
    → ((l : ℕ) → list_kept n l list ≡ shortened_from n l (lines list)) → list_kept n remaining (s ∷ list) ≡ shortened_from n remaining (lines (s ∷ list))
lines_step n remaining s list true gap f g more =
    let none = feed_is_no_gap s f in
    kept_step n remaining n s list (not_lost remaining s none) (stays_after n remaining s true (not_lost remaining s none) f)
    ∙ ap (λ t. s ∷ t) (more n) ∙ sym (from_feed n remaining s (lines list) none) ∙ ap (shortened_from n remaining) (sym (lines_feed s list f))
lines_step n remaining s list false false f g more =
    kept_step n remaining 0 s list (not_lost remaining s g) (stays_after n remaining s false (not_lost remaining s g) f)
    ∙ ap (λ t. s ∷ t) (more 0) ∙ sym (from_stays n remaining s (lines list) (λ line. shortened_none remaining s line g))
    ∙ ap (shortened_from n remaining) (sym (lines_more s list f))
lines_step n zero s list false true f g more =
    let lost : is_lost 0 s.byte ≡ false = ap (λ b. b && nat_lt 0 0) g in
    kept_step n 0 0 s list lost (stays_after n 0 s false lost f)
    ∙ ap (λ t. s ∷ t) (more 0) ∙ sym (from_stays n 0 s (lines list) (λ line. shortened_zero (s ∷ line))) ∙ ap (shortened_from n 0) (sym (lines_more s list f))
lines_step n (suc remaining) s list false true f g more =
    lost_step n (suc remaining) s list (ap (λ b. b && nat_lt 0 (suc remaining)) g ∙ positive remaining)
    ∙ ap (λ l. list_kept n l list) (suc_minus remaining) ∙ more remaining ∙ sym (from_gap n remaining s (lines list) g)
    ∙ ap (shortened_from n (suc remaining)) (sym (lines_more s list f))
  where
    positive : (k : ℕ) → nat_lt 0 (suc k) ≡ true
    positive k = grind (arith, nat_tests)

    suc_minus : (k : ℕ) → suc k - 1 ≡ k
    suc_minus k = omega arith

list_is_shortened : (n remaining : ℕ) (list : List Symbol) → list_kept n remaining list ≡ shortened_from n remaining (lines list)
unfolding list_kept shortened_from lines
list_is_shortened n remaining [] = refl
list_is_shortened n remaining (s ∷ list) = lines_step n remaining s list (is_feed s) (is_gap s) refl refl (λ l. list_is_shortened n l list)

-- the lines of a list lose their indentation symbol by symbol
pub list_kept-lines : (n : ℕ) (list : List Symbol) → flat_map (shortened n) (lines list) ≡ list_kept n n list
list_kept-lines n list = sym (list_is_shortened n n list ∙ from_start n (lines list))
