-- The tokens of a text, one after another.
use Rattle.std.proofs.Common.{◌≡◌, ℕ, zero, suc, ◌-◌, ◌<◌, ◌≤◌, Bool, true, false, cond, List, [], ◌∷◌, length, take, drop, refl, ap, sym, subst, inl, inr, ◌∙◌}
use Rattle.{std.{proofs.Common.{arith, ◌^◌}, specs.Prelude.codes}, rnix_kinds.specs.declared.kinds.SyntaxKind.TheVariants.TOKEN_INTERPOL_START}
use Rattle.rnix_kinds.specs.declared.tokenizer.rule.{PathStart.PathStart, Cut.Cut, Mode.{Mode, TheVariants.{Quoted, Interpolation, Path}}, Change.Change}
use Rattle.rnix_kinds.specs.{declared.tokenizer.rule.Change.TheVariants.{Stay, Open, Close, Count}, Lexical.{Texts.begins, Paths.{path_goes_on, path_cut}}}
use Rattle.rnix_kinds.specs.Lexical.{Operators.HasRoom, Tokens.{cut_at, top, without_ended_paths, changed, tokens_behind, tokens_under, CountsFit}}
use Rattle.rnix_kinds.specs.Lexical.Tokens.{IsPathGoingOn, CountsUp, IsPathBegun, OpensBefore, InterpolatesFirst, OpensFirst}

tokens_behind-passed : (passed : ℕ) (modes : List Mode) (text : List ℕ) → tokens_behind passed modes text ≡ tokens_under modes (drop passed text)
unfolding tokens_behind
tokens_behind-passed zero modes text = refl
tokens_behind-passed (suc passed) modes [] = refl
tokens_behind-passed (suc passed) modes (b ∷ text) = tokens_behind-passed passed modes text

pub tokens_under-nil : (modes : List Mode) → tokens_under modes [] ≡ []
unfolding tokens_behind
tokens_under-nil modes = refl

first_token : (modes : List Mode) (b : ℕ) (text : List ℕ) (cut : Cut) → cut_at (top (without_ended_paths modes (b ∷ text))) (b ∷ text) ≡ cut
    → tokens_under modes (b ∷ text) ≡ (cut.kind, take cut.len (b ∷ text))
    ∷ tokens_behind (cut.len - 1) (changed cut.change (without_ended_paths modes (b ∷ text))) text
unfolding tokens_behind
first_token modes b text cut e = rw (← e) refl

drop_one_less : (n b : ℕ) (text : List ℕ) → 0 < n → drop (n - 1) text ≡ drop n (b ∷ text)
drop_one_less zero b text h = absurd (omega arith)
drop_one_less (suc n) b text h = let e : suc n - 1 ≡ n = omega arith in rw e

-- the tokens of a text are the one that begins it and those of the rest
pub tokens_under-cut : (modes : List Mode) (text : List ℕ) (cut : Cut) → 0 < length text → cut_at (top (without_ended_paths modes text)) text ≡ cut
    → 0 < cut.len
    → tokens_under modes text ≡ (cut.kind, take cut.len text) ∷ tokens_under (changed cut.change (without_ended_paths modes text)) (drop cut.len text)
tokens_under-cut modes [] cut some e more = absurd (omega arith)
tokens_under-cut modes (b ∷ text) cut some e more =
    first_token modes b text cut e
    ∙ ap (λ ts. (cut.kind, take cut.len (b ∷ text)) ∷ ts)
    (tokens_behind-passed (cut.len - 1) _ text ∙ ap (tokens_under _) (drop_one_less cut.len b text more))

settled_step : (kind : PathStart) (modes : List Mode) (text : List ℕ) (b : Bool) → path_goes_on text ≡ b
    → without_ended_paths (without_ended_paths modes text) text ≡ without_ended_paths modes text
    → without_ended_paths (without_ended_paths (Path kind ∷ modes) text) text ≡ without_ended_paths (Path kind ∷ modes) text
settled_step kind modes text true e h = rw (e, e) refl
settled_step kind modes text false e h = rw (e) h

goes_on_step : (kind : PathStart) (modes : List Mode) (text : List ℕ) (b : Bool) → path_goes_on text ≡ b
    → IsPathGoingOn (top (without_ended_paths modes text)) text → IsPathGoingOn (top (without_ended_paths (Path kind ∷ modes) text)) text
goes_on_step kind modes text true e h = rw (e) e
goes_on_step kind modes text false e h = rw (e) h

-- ending paths twice is ending them once
pub without_ended_paths-settled : (modes : List Mode) (text : List ℕ)
    → without_ended_paths (without_ended_paths modes text) text ≡ without_ended_paths modes text
without_ended_paths-settled [] text = refl
without_ended_paths-settled (Quoted m ∷ modes) text = refl
without_ended_paths-settled (Interpolation n ∷ modes) text = refl
without_ended_paths-settled (Path kind ∷ modes) text = settled_step kind modes text (path_goes_on text) refl (without_ended_paths-settled modes text)

pub IsPathGoingOn-settled : (modes : List Mode) (text : List ℕ) → IsPathGoingOn (top (without_ended_paths modes text)) text
IsPathGoingOn-settled [] text = tt
IsPathGoingOn-settled (Quoted m ∷ modes) text = tt
IsPathGoingOn-settled (Interpolation n ∷ modes) text = tt
IsPathGoingOn-settled (Path kind ∷ modes) text = goes_on_step kind modes text (path_goes_on text) refl (IsPathGoingOn-settled modes text)

pub CountsFit-settled : (n : ℕ) (modes : List Mode) (text : List ℕ) → CountsFit n modes → CountsFit n (without_ended_paths modes text)
CountsFit-settled n [] text fit = fit
CountsFit-settled n (Quoted m ∷ modes) text fit = fit
CountsFit-settled n (Interpolation b ∷ modes) text fit = fit
CountsFit-settled n (Path kind ∷ modes) text fit =
    elim (path_goes_on text) as (λ b. CountsFit n (cond b (Path kind ∷ modes)
    (without_ended_paths modes text))) [ true ↦ fit | false ↦ CountsFit-settled n modes text fit.1 ]

CountsFit-less : (m n : ℕ) (modes : List Mode) → m ≤ n → CountsFit n modes → CountsFit m modes
CountsFit-less m n [] h fit = omega arith
CountsFit-less m n (mode ∷ modes) h fit = (omega (arith, fit.0), CountsFit-less m n modes h fit.1)

fits_alone : (n : ℕ) (modes : List Mode) → CountsFit n modes → n < 2 ^ 64
fits_alone n [] fit = fit
fits_alone n (mode ∷ modes) fit = omega (arith, fit.0)

pub CountsFit-changed : (m n : ℕ) (change : Change) (modes : List Mode) → m < n → CountsUp (top modes) change → CountsFit n modes
    → CountsFit m (changed change modes)
CountsFit-changed m n Stay modes h up fit = CountsFit-less m n modes (omega arith) fit
CountsFit-changed m n (Open mode) modes h up fit = (omega (arith, up, fits_alone n modes fit), CountsFit-less m n modes (omega arith) fit)
CountsFit-changed m n Close [] h up fit = CountsFit-less m n [] (omega arith) fit
CountsFit-changed m n Close (mode ∷ modes) h up fit = CountsFit-less m n modes (omega arith) fit.1
CountsFit-changed m n (Count b) [] h up fit = CountsFit-less m n [] (omega arith) fit
CountsFit-changed m n (Count b) (mode ∷ modes) h up fit = (omega (arith, up, fit.0), CountsFit-less m n modes (omega arith) fit.1)

pub HasRoom-fit : (n : ℕ) (modes : List Mode) → 0 < n → CountsFit n modes → HasRoom (top modes)
HasRoom-fit n [] some fit = tt
HasRoom-fit n (Quoted m ∷ modes) some fit = tt
HasRoom-fit n (Path k ∷ modes) some fit = tt
HasRoom-fit n (Interpolation b ∷ modes) some fit = omega (arith, fit.0)

pub settled_stays : (modes : List Mode) (text : List ℕ) → path_goes_on text ≡ true → without_ended_paths modes text ≡ modes
settled_stays [] text e = refl
settled_stays (Quoted m ∷ modes) text e = refl
settled_stays (Interpolation n ∷ modes) text e = refl
settled_stays (Path kind ∷ modes) text e = rw e refl

pub nil_from_length : (xs : List ℕ) → length xs ≡ 0 → xs ≡ []
nil_from_length [] e = refl
nil_from_length (x ∷ xs) e = absurd (omega arith)

-- the tokens of a text do not depend on whether ended paths are removed first
pub tokens_under-settled : (modes : List Mode) (text : List ℕ) → tokens_under (without_ended_paths modes text) text ≡ tokens_under modes text
unfolding tokens_behind
tokens_under-settled modes [] = refl
tokens_under-settled modes (b ∷ text) = rw (without_ended_paths-settled modes (b ∷ text)) refl

-- after `${` in a path, an interpolation is open
interpolation_cut : (start : PathStart) (text : List ℕ) → begins (codes "${") text ≡ true
    → path_cut start text ≡ record { kind = TOKEN_INTERPOL_START; len = 2; change = Open (Interpolation 0) }
interpolation_cut start text e = rw e refl

begins_some : (text : List ℕ) → begins (codes "${") text ≡ true → 0 < length text
begins_some [] e = absurd (cc)
begins_some (b ∷ text) e = omega arith

goes_on_there : (text : List ℕ) → begins (codes "${") text ≡ true → path_goes_on text ≡ true
goes_on_there text e = rw e refl

path_interpolates : (start : PathStart) (modes : List Mode) (text : List ℕ) → begins (codes "${") text ≡ true
    → InterpolatesFirst (tokens_under (Path start ∷ modes) text)
unfolding cut_at
path_interpolates start modes text e =
    let cut : Cut = record { kind = TOKEN_INTERPOL_START; len = 2; change = Open (Interpolation 0) } in
    let settled : without_ended_paths (Path start ∷ modes) text ≡ Path start ∷ modes = settled_stays (Path start ∷ modes) text (goes_on_there text e) in
    let here : cut_at (top (without_ended_paths (Path start ∷ modes) text)) text ≡ cut = rw settled (interpolation_cut start text e) in
    subst InterpolatesFirst (sym (tokens_under-cut (Path start ∷ modes) text cut (begins_some text e) here (omega arith))) refl

-- a token that opens a mode begins a string or an interpolation, or is a path that an interpolation follows
path_opens_first : (change : Change) (modes : List Mode) (text : List ℕ) → IsPathBegun change → begins (codes "${") text ≡ true
    → InterpolatesFirst (tokens_under (changed change modes) text)
path_opens_first (Open (Path start)) modes text begun e = path_interpolates start modes text e
path_opens_first change modes text begun e = absurd begun

pub opens_first : (cut : Cut) (modes : List Mode) (word text : List ℕ) → OpensBefore cut text
    → OpensFirst ((cut.kind, word) ∷ tokens_under (changed cut.change modes) text)
opens_first cut modes word text (inl alone) = inl alone
opens_first cut modes word text (inr path) = inr (path.0, path_opens_first cut.change modes text path.1 path.2)
