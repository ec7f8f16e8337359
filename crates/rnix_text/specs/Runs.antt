-- Runs of edits in ascending order.
use Rattle.std.specs.Prelude.{◌≡◌, ℕ, ◌+◌, ◌-◌, ◌<◌, ◌≤◌, nat_le, Bool, List, [], ◌∷◌, length, map, take, slice_index_or, Vec}
use Rattle.std.specs.List.{flat_map, insert}
use Rattle.std.specs.declared.alloc.Global.{Global}
use Rattle.rnix_text.specs.declared.edits.Edit.{Edit}
use Rattle.rnix_text.specs.declared.runs.InsertionPoint.{InsertionPoint}
use Rattle.rnix_text.specs.declared.runs.InsertionPoint.TheVariants as insertion
use Rattle.rnix_text.specs.Changes.{IsAdded}
use Rattle.rnix_text.specs.Edit.{change_of}

-- the edits of the runs
abbrev pub edits_of : List (Vec Edit Global) → List Edit
edits_of runs = flat_map (λ run. run.items) runs

-- each run contains an edit
abbrev pub AreFilled : List (Vec Edit Global) → Type 0
AreFilled [] = Unit {0}
AreFilled (run ∷ runs) = (0 < length run.items) × AreFilled runs

-- the end of the last of these edits, or an offset if there are none
abbrev pub end_of : ℕ → List Edit → ℕ
end_of n [] = n
end_of n (e ∷ es) = end_of e.end es

-- an edit ends at or before an offset
abbrev pub ends_by : ℕ → Edit → Bool
ends_by offset e = nat_le e.end offset

-- the same for the last edit of a run
abbrev pub run_ends_by : ℕ → Vec Edit Global → Bool
run_ends_by offset run = nat_le (end_of 0 run.items) offset

-- an insertion point is among the edits of the runs
abbrev pub IsIn : List (Vec Edit Global) → InsertionPoint → Type 0
IsIn runs (insertion.In run at) = (run < length runs) × ((d : Vec Edit Global) → at ≤ length (slice_index_or runs run d).items)
IsIn runs insertion.Last = Unit {0}

-- the number of edits before an insertion point
abbrev pub index_in : List (Vec Edit Global) → InsertionPoint → ℕ
index_in runs (insertion.In run at) = length (edits_of (take run runs)) + at
index_in runs insertion.Last = length (edits_of runs)

-- the insertion points in two lists of runs have the same number of edits before them
pub record IsSameInsertionPoint (old : List (Vec Edit Global)) (p : InsertionPoint) (new : List (Vec Edit Global)) (q : InsertionPoint) : Type 0 where
  pub is_in : IsIn new q
  pub index : index_in new q ≡ index_in old p

-- a run is split into two, the first of which has this number of edits
pub record IsDivided (old new : List (Vec Edit Global)) (run len : ℕ) : Type 0 where
  pub first : (at : ℕ) → at ≤ len → IsSameInsertionPoint old (insertion.In run at) new (insertion.In run at)
  pub second : (at : ℕ) → len ≤ at → IsIn old (insertion.In run at) → IsSameInsertionPoint old (insertion.In run at) new (insertion.In (run + 1) (at - len))

-- an edit of the range may be inserted at this point
pub record IsInsertionPoint (start end : ℕ) (runs : List (Vec Edit Global)) (p : InsertionPoint) : Type 0 where
  pub is_in : IsIn runs p
  pub added : (e : Edit) → e.start ≡ start → e.end ≡ end
      → IsAdded (change_of e) (map change_of (edits_of runs)) (map change_of (insert (edits_of runs) (index_in runs p) e))
