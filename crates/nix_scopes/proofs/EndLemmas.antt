-- Where the open nodes end, and how those that have ended are left, innermost first.
use Rattle.std.proofs.Common.{◌≡◌, ℕ, ◌-◌, List, [], ◌∷◌, ◌++◌, length, take, Bool, true, false, refl, ap, sym, subst, ◌∙◌, arith}
use Rattle.std.{proofs.{lemmas.{List.length_push, Bool.false≢true}, Math.Seq.take-append_seam}, specs.Prelude.{nat_lt, slice_get, if◌then◌else◌}}
use Rattle.{rnix_green.specs.Tree.Located, rnix_tree.specs.InsideCounts.inside_count}
use Rattle.nix_scopes.specs.Binders.{is_scope}
use Rattle.nix_scopes.{specs.Resolving.{last_in, count_after, counts_after, is_more, has_ended, still_open, which_are_scopes}, proofs.NumberLemmas.get_last}

-- entering a node adds its end
pub end_added : (root : Located) (remaining behind : ℕ) (ends more : List ℕ) (e : Located) (es : List Located) → remaining ≡ last_in root - e.number →
    behind ≡ remaining - inside_count e → more ≡ ends ++ behind ∷ [] → ends ≡ counts_after root es → more ≡ counts_after root (e ∷ es)
end_added root remaining behind ends more e es count is added are =
    let same : behind ≡ count_after root e = omega (arith, count, is) in
    added ∙ ap (λ end. ends ++ end ∷ []) same ∙ ap (λ ends. ends ++ count_after root e ∷ []) are

-- the nodes that remain after some have been left: P holds for them, and these are their ends
pub record AreRemaining (root : Located) (remaining : ℕ) (P : List Located → Type 0) (ends : List ℕ) (nodes : List Located) : Type 0 where
  pub rest : List Located
  pub known : P rest
  pub ends_are : ends ≡ counts_after root rest
  pub same : still_open root remaining rest ≡ still_open root remaining nodes

-- whether a node has ended depends on the last count alone
last_ended : (remaining : ℕ) (ends : List ℕ) (end : ℕ) → has_ended remaining (ends ++ end ∷ []) ≡ nat_lt remaining end
last_ended remaining ends end =
    let last : length (ends ++ end ∷ []) - 1 ≡ length ends = omega (arith, length_push ends end) in
    ap (λ k. is_more remaining (slice_get (ends ++ end ∷ []) k)) last ∙ ap (is_more remaining) (get_last ends end)

-- dropping the last element of a list undoes adding it
but_last : {X : Type 0} (ends : List X) (end : X) → take (length (ends ++ end ∷ []) - 1) (ends ++ end ∷ []) ≡ ends
but_last ends end =
    let last : length (ends ++ end ∷ []) - 1 ≡ length ends = omega (arith, length_push ends end) in
    ap (λ k. take k (ends ++ end ∷ [])) last ∙ take-append_seam ends (end ∷ [])

-- the flags of the remaining sets, after the innermost set is left
pub scopes_remaining : (are_scopes fewer : List Bool) (e : Located) (es : List Located) → fewer ≡ take (length are_scopes - 1) are_scopes →
    are_scopes ≡ which_are_scopes (e ∷ es) → fewer ≡ which_are_scopes es
scopes_remaining are_scopes fewer e es popped are = popped ∙ ap (λ bs. take (length bs - 1) bs) are ∙ but_last (which_are_scopes es) (is_scope e)

-- the innermost node is left if it has ended
pub one_remaining : (root : Located) (remaining : ℕ) (P Q : List Located → Type 0) (ends popped : List ℕ) (nodes : List Located)
    → has_ended remaining ends ≡ true →
    popped ≡ take (length ends - 1) ends → ((e : Located) (es : List Located) → P (e ∷ es) → Q es) → AreRemaining root remaining P ends nodes →
    AreRemaining root remaining Q popped nodes
one_remaining root remaining P Q ends popped nodes ended pops leaves h = go h.rest h.known h.ends_are h.same
  where
    go : (rest : List Located) → P rest → ends ≡ counts_after root rest → still_open root remaining rest ≡ still_open root remaining nodes →
        AreRemaining root remaining Q popped nodes
    go [] known are same = absurd (false≢true (sym (ap (has_ended remaining) are) ∙ ended))
    go (e ∷ es) known are same =
        let over : nat_lt remaining (count_after root e) ≡ true =
        sym (last_ended remaining (counts_after root es) (count_after root e)) ∙ sym (ap (has_ended remaining) are) ∙ ended in
        record {
          rest = es;
          known = leaves e es known;
          ends_are = pops ∙ ap (λ xs. take (length xs - 1) xs) are ∙ but_last (counts_after root es) (count_after root e);
          same = sym (ap (λ b. if b then still_open root remaining es else e ∷ es) over) ∙ same;
        }

-- if the innermost remaining node has not ended, all of them are still open
none_ended : (root : Located) (remaining : ℕ) (rest : List Located) → has_ended remaining (counts_after root rest) ≡ false
    → still_open root remaining rest ≡ rest
none_ended root remaining [] lasts = refl
none_ended root remaining (e ∷ es) lasts =
    ap (λ b. if b then still_open root remaining es else e ∷ es) (sym (last_ended remaining (counts_after root es) (count_after root e)) ∙ lasts)

-- if the innermost of the remaining nodes has not ended, they are those that are still open
pub all_remaining : (root : Located) (remaining : ℕ) (P : List Located → Type 0) (ends : List ℕ) (nodes : List Located) → has_ended remaining ends ≡ false →
    AreRemaining root remaining P ends nodes → P (still_open root remaining nodes) × (ends ≡ counts_after root (still_open root remaining nodes))
all_remaining root remaining P ends nodes lasts h =
    let are : h.rest ≡ still_open root remaining nodes =
    sym (none_ended root remaining h.rest (sym (ap (has_ended remaining) h.ends_are) ∙ lasts)) ∙ h.same in
    (subst P are h.known, h.ends_are ∙ ap (counts_after root) are)
