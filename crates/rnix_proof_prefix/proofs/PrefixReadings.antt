-- The errors of a reading whose items begin like those of a reading without errors.
use Rattle.std.proofs.{Common.{◌≡◌, ℕ, Bool, false, List, [], ◌++◌, take, drop, None, refl, sym, subst}, lemmas.List.take-append-drop}
use Rattle.rnix_grammar.specs.{Fault.Fault, AnnotatedForest.{Token, AnnotatedForest, tokens_in, end_from, touches}, Reads.ReadsRoot}
use Rattle.rnix_proof_lemmas.specs.Machine.{Machine, initial_machine, Runs}
use Rattle.rnix_proof_layout.proofs.{MovedItems.moved, Touch.last_kind}
use Rattle.{rnix_proof_layout.specs.AlikeItems.AreAlike, rnix_proof_prefix.specs.Prefix.{BeginAllFrom, end_undecided}}
use Rattle.rnix_proof_prefix.proofs.{CleanSteps.AreClean, SharedRuns.late_errors, Ordered.{AreOrdered, from_end}, NewExtents.{behind, own_touch, ReadsOn, reads_on}}

-- the steps read all items, with these errors
pub record RunsTo (ts : List Token) (ds : List Fault) : Type 0 where
  pub last : Machine
  pub runs : Runs false (initial_machine ts) last
  pub over : last.remaining ≡ []
  pub clean : AreClean last.frames
  pub faults : last.faults ≡ ds

-- this holds for each reading
abbrev pub AllRun : Type 0
AllRun = (f : AnnotatedForest) (ds : List Fault) → ReadsRoot f ds → RunsTo (tokens_in f) ds

pub prefix_readings : (all : AllRun) (k : ℕ) (f g : AnnotatedForest) (ds : List Fault) → ReadsRoot f ds → ReadsRoot g [] → AreOrdered 0 (tokens_in f)
    → AreAlike None 0 0 (take k (tokens_in f)) (take k (tokens_in g)) → end_undecided (take k (tokens_in f)) ≡ false
    → BeginAllFrom (end_from 0 (take k (tokens_in f))) ds
prefix_readings all k f g ds r s o alike decided =
    let p : List Token = take k (tokens_in f) in
    let more : List Token = drop k (tokens_in f) in
    let others : List Token = drop k (tokens_in g) in
    let end : ℕ = end_from 0 (take k (tokens_in g)) in
    let near : Bool = touches end others in
    let there : ReadsOn k near (tokens_in f) g [] = reads_on k near (tokens_in f) g [] s alike (own_touch (last_kind None p) end others) in
    let rest : List Token = moved others (behind near (end_from 0 p) others) in
    let here : tokens_in f ≡ p ++ more = sym (take-append-drop k (tokens_in f)) in
    let first : RunsTo (p ++ more) ds = subst (λ (z : List Token). RunsTo z ds) here (all f ds r) in
    let second : RunsTo (p ++ rest) [] =
    subst (λ (z : List Token). RunsTo z []) there.all (all there.trees [] (subst (ReadsRoot there.trees) (there.none refl) there.reads)) in
    subst (BeginAllFrom (end_from 0 p)) first.faults
    (late_errors (end_from 0 p) p more rest first.last second.last (from_end 0 p more (subst (AreOrdered 0) here o)) decided
    first.runs second.runs first.over second.over (second.clean, second.faults))
