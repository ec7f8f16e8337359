-- Facts about errors that follow from earlier ones.
use Rattle.std.proofs.Common.{◌≡◌, ◌∙◌, ℕ, Bool, true, false, List, [], ◌∷◌, ◌++◌, Option, Some, None, ap, sym, subst, refl, arith, ◌≤◌, if◌then◌else◌}
use Rattle.std.specs.Prelude.{option_map, is_some, is_none, nat_le, not, drop, ◌&&◌, ◌||◌}
use Rattle.rnix_green.specs.Tree.{Located, text_at}
use Rattle.rnix_grammar.specs.Fault.{Fault, unexpected_at, extra, unwanted, double_bind, unexpected_eof, unexpected_eof_wanted, duplicated_args, too_deep}
use Rattle.rnix_grammar.specs.Ranges.{range_in}
use Rattle.rnix_green.specs.declared.range.TextRange.{TextRange}
use Rattle.rnix_green.specs.Range.{Extent, bounds_of}
use Rattle.nix_diagnostics.specs.Locations.{location_of}
use Rattle.nix_diagnostics.specs.TokenErrors.{is_token_error}
use Rattle.nix_diagnostics.specs.Independence.{is_independent, since, larger, reach, ends_between, semicolons_of}
use Rattle.nix_diagnostics.specs.Ends.{is_from, ends_in_string}
use Rattle.nix_diagnostics.specs.FaultNodes.{error_node, group_of, are_same_range}
use Rattle.nix_diagnostics.specs.Following.{is_extra, last_from, last_token_error, are_close, is_near, group_if, skips_if, skips, is_lost, has_skipped, is_closing, is_joined, follows}
use Rattle.nix_diagnostics.specs.Known.{is_close_after, loses_in, is_independent_in, follows_in, FitsErrors, HasReached}
use Rattle.nix_diagnostics.specs.declared.folding.Folding.{Folding}
use Rattle.nix_diagnostics.proofs.IndependenceLemmas.{since_more, first_le, reach_token_error, reach_other}
use Rattle.nix_diagnostics.proofs.LostLemmas.{and_true, lost_push, lost_other, skipped_push, skipped_other}

-- one more error is the last token error if it is a token error
last_push : (before : Option Fault) (faults : List Fault) (fault : Fault) →
    last_from before (faults ++ fault ∷ []) ≡ (if is_token_error fault then Some fault else last_from before faults)
last_push before [] fault = refl
last_push before (f ∷ faults) fault = last_push (if is_token_error f then Some f else before) faults fault

-- such an error is then the last one
pub token_error_last : (faults : List Fault) (fault : Fault) → is_token_error fault ≡ true → last_token_error (faults ++ fault ∷ []) ≡ Some fault
token_error_last faults fault is = last_push None faults fault ∙ ap (λ b. if b then Some fault else last_from None faults) is

-- another error changes nothing
pub other_last : (faults : List Fault) (fault : Fault) → is_token_error fault ≡ false → last_token_error (faults ++ fault ∷ []) ≡ last_token_error faults
other_last faults fault is = last_push None faults fault ∙ ap (λ b. if b then Some fault else last_from None faults) is

-- a token error is not about tokens after the expression
token_error_not_extra : (fault : Fault) → is_token_error fault ≡ true → false ≡ is_extra fault
token_error_not_extra (unexpected_at range) is = refl
token_error_not_extra (extra range) is = absurd (grind (arith, is))
token_error_not_extra (unwanted kind range kinds) is = refl
token_error_not_extra (double_bind range) is = refl
token_error_not_extra unexpected_eof is = refl
token_error_not_extra (unexpected_eof_wanted kinds) is = refl
token_error_not_extra (duplicated_args range name) is = refl
token_error_not_extra too_deep is = refl

-- the state determines whether an error is independent of the earlier ones
pub independent_known : (root : Located) (all before : List Fault) (fault : Fault) (f : Folding) (location : TextRange) → FitsErrors root all before f →
    bounds_of location ≡ location_of root fault → is_independent_in f location ≡ is_independent root before fault
independent_known root all before fault f location known at =
    ap (λ l. ends_between f.reach location.start l) known.remaining
    ∙ (ap (λ r. ends_between r location.start (since r (semicolons_of root))) known.reaches
    ∙ ap (λ (e : Extent). ends_between (reach root before) e.start (since (reach root before) (semicolons_of root))) at)

-- whether an error is near the last one depends only on where the last one ends
near_known : (root : Located) (before : List Fault) (fault : Fault) (last : Option ℕ) (location : TextRange) →
    last ≡ option_map (λ x. (location_of root x).end) (last_token_error before) → bounds_of location ≡ location_of root fault →
    is_close_after (text_at root) last location.start ≡ is_near root (last_token_error before) fault
near_known root before fault last location is at =
    ap (λ e. is_close_after (text_at root) e location.start) is ∙ near (last_token_error before) where
      near : (o : Option Fault) →
          is_close_after (text_at root) (option_map (λ x. (location_of root x).end) o) location.start ≡ is_near root o fault
      near None = refl
      near (Some l) = ap (λ (e : Extent). are_close (text_at root) (location_of root l).end e.start) at

-- an end is recorded exactly if there is an error
last_known : (root : Located) (o : Option Fault) (last : Option ℕ) → last ≡ option_map (λ fault. (location_of root fault).end) o → is_some last ≡ is_some o
last_known root None last is = ap is_some is
last_known root (Some fault) last is = ap is_some is

-- the state determines whether a token error follows from earlier errors
pub judged_token_error : (root : Located) (all before : List Fault) (fault : Fault) (f : Folding) (independent : Bool) (group : Option TextRange)
    (location : TextRange) (b : Bool) → FitsErrors root all before f → bounds_of location ≡ location_of root fault → is_token_error fault ≡ true →
    independent ≡ is_independent root before fault → option_map bounds_of group ≡ group_of root fault →
    b ≡ follows_in root f independent group location → b ≡ follows root all before fault
judged_token_error root all before fault f independent group location b known at token_error apart_is own result =
    let some = last_known root (last_token_error before) f.last known.last in
    let other = token_error_not_extra fault token_error in
    let near = near_known root before fault f.last location known.last at in
    result ∙ (λ k. some k && (other k || (known.in_string k || (sym token_error k
    && (if apart_is k then known.unbalanced k && (known.closed k && nat_le (known.end k) (at k).end)
    else known.lost k || (are_same_range (own k) (known.group k) || near k))))))

-- the state determines whether an error node skips brackets
pub skips_known : (root : Located) (all before : List Fault) (fault : Fault) (f : Folding) (found : Option Located) (b : Bool) → FitsErrors root all before f →
    found ≡ error_node root fault → b ≡ skips_if (option_map bounds_of f.extra) found → b ≡ skips root fault
skips_known root all before fault f found b known is result = result ∙ (λ k. skips_if (known.extra k) (is k))

-- the state determines whether the parser has lost its way at an error or before it
pub lost_known : (root : Located) (all before : List Fault) (fault : Fault) (f : Folding) (independent skipped : Bool) (location : TextRange) (b : Bool) →
    FitsErrors root all before f → bounds_of location ≡ location_of root fault → is_token_error fault ≡ true → independent ≡ is_independent root before fault →
    skipped ≡ skips root fault → b ≡ ((f.is_lost && not independent) || loses_in f fault skipped location) → b ≡ is_lost root all (before ++ fault ∷ [])
lost_known root all before fault f independent skipped location b known at token_error apart_is own result =
    result
    ∙ (λ k. (known.lost k && not (sym token_error k && apart_is k)) || (sym token_error k && (is_none (range_in fault)
    || (nat_le (known.end k) (at k).end || (is_from (known.lost_from k) (at k).start || own k)))))
    ∙ sym (lost_push root all before fault)

-- the state determines whether brackets were skipped at an error or before it
pub unbalanced_known : (root : Located) (all before : List Fault) (fault : Fault) (f : Folding) (skipped : Bool) (b : Bool) →
    FitsErrors root all before f → is_token_error fault ≡ true → skipped ≡ skips root fault → b ≡ (f.is_unbalanced || skipped) →
    b ≡ has_skipped root (before ++ fault ∷ [])
unbalanced_known root all before fault f skipped b known token_error own result =
    result ∙ (λ k. known.unbalanced k || (sym token_error k && own k)) ∙ sym (skipped_push root before fault)

-- the new state fits the errors with one more token error
pub fits_token_error : (root : Located) (all before : List Fault) (fault : Fault) (f mid new : Folding) (far : ℕ) → FitsErrors root all before f →
    is_token_error fault ≡ true → far ≡ (location_of root fault).end → HasReached mid new far → mid.last ≡ Some far → mid.end ≡ f.end → mid.extra ≡ f.extra →
    mid.lost_from ≡ f.lost_from → mid.reach ≡ f.reach → drop mid.passed mid.semicolons.items ≡ drop f.passed f.semicolons.items →
    mid.in_string ≡ f.in_string → mid.ends_closed ≡ f.ends_closed → option_map bounds_of mid.group ≡ group_of root fault →
    mid.is_lost ≡ is_lost root all (before ++ fault ∷ []) → mid.is_unbalanced ≡ has_skipped root (before ++ fault ∷ []) →
    FitsErrors root all (before ++ fault ∷ []) new
fits_token_error root all before fault f mid new far known token_error far_is noted at end single from further rest inside closed group lost skip =
    let reached : HasReached mid new (location_of root fault).end = subst (λ n. HasReached mid new n) far_is noted in
    let last : mid.last ≡ Some (location_of root fault).end = at ∙ ap Some far_is in
    let is : last_token_error (before ++ fault ∷ []) ≡ Some fault = token_error_last before fault token_error in
    let reach_is : larger mid.reach (location_of root fault).end ≡ reach root (before ++ fault ∷ []) =
    ap (λ r. larger r (location_of root fault).end) (further ∙ known.reaches) ∙ sym (reach_token_error root before fault token_error) in
    record {
      last = ap (λ (n : Folding). n.last) reached.is ∙ last ∙ ap (option_map (λ x. (location_of root x).end)) (sym is);
      end = ap (λ (n : Folding). n.end) reached.is ∙ end ∙ known.end;
      extra = ap (λ (n : Folding). option_map bounds_of n.extra) reached.is ∙ ap (option_map bounds_of) single ∙ known.extra;
      lost_from = ap (λ (n : Folding). n.lost_from) reached.is ∙ from ∙ known.lost_from;
      group = ap (λ (n : Folding). option_map bounds_of n.group) reached.is ∙ group ∙ ap (group_if root) (sym is);
      lost = ap (λ (n : Folding). n.is_lost) reached.is ∙ lost;
      unbalanced = ap (λ (n : Folding). n.is_unbalanced) reached.is ∙ skip;
      in_string = ap (λ (n : Folding). n.in_string) reached.is ∙ inside ∙ known.in_string;
      closed = ap (λ (n : Folding). n.ends_closed) reached.is ∙ closed ∙ known.closed;
      reaches = reached.reaches ∙ reach_is;
      remaining = reached.remaining ∙ ap (since (larger mid.reach (location_of root fault).end)) (rest ∙ known.remaining)
          ∙ since_more f.reach (larger mid.reach (location_of root fault).end)
          (subst (λ r. r ≤ larger mid.reach (location_of root fault).end) further (first_le mid.reach (location_of root fault).end)) (semicolons_of root)
          ∙ ap (λ r. since r (semicolons_of root)) (sym reached.reaches);
    }

-- the state also fits the errors with one more of another kind
pub fits_other : (root : Located) (all before : List Fault) (fault : Fault) (f : Folding) → FitsErrors root all before f → is_token_error fault ≡ false →
    FitsErrors root all (before ++ fault ∷ []) f
fits_other root all before fault f known other =
    let is : last_token_error (before ++ fault ∷ []) ≡ last_token_error before = other_last before fault other in
    record {
      last = known.last ∙ ap (option_map (λ x. (location_of root x).end)) (sym is);
      end = known.end;
      extra = known.extra;
      lost_from = known.lost_from;
      group = known.group ∙ ap (group_if root) (sym is);
      lost = known.lost ∙ sym (lost_other root all before fault other);
      unbalanced = known.unbalanced ∙ sym (skipped_other root before fault other);
      in_string = known.in_string;
      closed = known.closed;
      reaches = known.reaches ∙ sym (reach_other root before fault other);
      remaining = known.remaining;
    }

-- the tests that remain for a token error, which is not about tokens after the expression
abbrev rest_of : (root : Located) (all before : List Fault) (fault : Fault) → Bool
rest_of root all before fault = if is_independent root before fault then is_closing root before fault else is_joined root all before fault

-- the state determines whether an error about tokens after the expression follows
pub judged_extra : (root : Located) (all before : List Fault) (fault : Fault) (f : Folding) (b : Bool) → FitsErrors root all before f →
    is_extra fault ≡ true → b ≡ is_some f.last → b ≡ follows root all before fault
judged_extra root all before fault f b known is counts =
    counts ∙ last_known root (last_token_error before) f.last known.last ∙ sym (and_true (is_some (last_token_error before)))
    ∙ (λ k. is_some (last_token_error before) && (sym is k || (ends_in_string root || (is_token_error fault && rest_of root all before fault))))

-- `inside && some` with the operands swapped, and `false` as an alternative
both_ways : (inside some : Bool) → (inside && some) ≡ (some && (inside || false))
both_ways true true = refl
both_ways true false = refl
both_ways false true = refl
both_ways false false = refl

-- the state determines whether an error about a repeated name follows
pub judged_name : (root : Located) (all before : List Fault) (fault : Fault) (f : Folding) (b : Bool) → FitsErrors root all before f →
    is_token_error fault ≡ false → is_extra fault ≡ false → b ≡ (f.in_string && is_some f.last) → b ≡ follows root all before fault
judged_name root all before fault f b known other is counts =
    let some = last_known root (last_token_error before) f.last known.last in
    counts
    ∙ (λ k. known.in_string k && some k)
    ∙ both_ways (ends_in_string root) (is_some (last_token_error before))
    ∙ (λ k. is_some (last_token_error before) && (sym is k || (ends_in_string root || (sym other k && rest_of root all before fault))))
