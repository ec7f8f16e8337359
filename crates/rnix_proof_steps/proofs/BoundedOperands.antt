-- Whatever an operand begins with, it respects the bounds for an operand.
use Rattle.std.{specs.Option.is_some, proofs.{Common.{◌≡◌, ℕ, zero, suc, Bool, true, false, ◌&&◌, List, Option, Some, None, nat_eq, refl, arith}, lemmas.Bool.and_parts}}
use Rattle.rnix_kinds.specs.declared.kinds.SyntaxKind.{SyntaxKind}
use Rattle.rnix_grammar.specs.{declared.{operand_start.OperandStart.OperandStart, slot_table.TheConstants.{LEGACY_LET, LAMBDA, BOUND_PATTERN, PATTERN}}, OperandStarts.{operand_start_for, operand_start_of}}
use Rattle.rnix_proof_lemmas.proofs.{Basics.where_any, EachBeginning.{highest, IsUpTo, each_first, where_allowed}}
use Rattle.rnix_proof_steps.proofs.StepBounds.{per_item, are_at_most, AreAtMost, they_are, one_frame, two_frames, three_frames}
use Rattle.rnix_grammar.specs.declared.position.Position.TheVariants as p
use Rattle.rnix_grammar.specs.declared.operand_start.OperandStart.TheVariants as b

-- the bounds for the frames with which an operand begins, at the lowest level or at another
abbrev pub begun_bounds : Bool → Bool → OperandStart → List (ℕ × ℕ)
begun_bounds levels any (b.Leaf k) = one_frame levels any
begun_bounds levels any (b.Node k remaining max_bp) = two_frames levels any (p.InRow remaining)
begun_bounds levels any b.LegacyLet = two_frames levels any (p.InRow LEGACY_LET)
begun_bounds levels any b.NameLambda = two_frames levels any (p.InRow LAMBDA)
begun_bounds levels any b.BoundLambda = three_frames (per_item levels) levels any (p.InRow BOUND_PATTERN)
begun_bounds levels any b.PatternLambda = three_frames 0 levels any (p.InRow PATTERN)
begun_bounds levels any b.Stray = one_frame levels any

abbrev fits : Bool → OperandStart → Bool
fits any how = are_at_most (begun_bounds false any how) && are_at_most (begun_bounds true any how)

-- the bounds hold at any level if they hold at the lowest and at another one
both : (any : Bool) (how : OperandStart) → (fits false how && fits true how) ≡ true → fits any how ≡ true
both true how h = (and_parts (fits false how) (fits true how) h).1
both false how h = (and_parts (fits false how) (fits true how) h).0

-- what begins an operand at the lowest level alone need not respect the bounds for others
abbrev fits_each : Option ℕ → OperandStart → Bool
fits_each (Some zero) how = fits true how
fits_each o how = fits false how && fits true how

-- so each beginning respects the bounds at each level at which it is allowed
fits_at : (o : Option ℕ) (level : ℕ) (how : OperandStart) → fits_each o how ≡ true → IsUpTo o level → fits (nat_eq level 0) how ≡ true
fits_at (Some zero) zero how h l = h
fits_at (Some zero) (suc level) how h l = absurd (omega (arith, l))
fits_at None level how h l = both (nat_eq level 0) how h
fits_at (Some (suc n)) level how h l = both (nat_eq level 0) how h

operand_start_fits : (level : ℕ) (kind : SyntaxKind) (text : List ℕ) (second third : Option SyntaxKind)
    → fits (nat_eq level 0) (operand_start_of level kind text second third) ≡ true
operand_start_fits level kind text second third =
    where_allowed (λ k. fits (nat_eq level 0) (operand_start_for k kind) ≡ true) level kind text second third
    (fits_at (highest kind) level (operand_start_of 0 kind text second third)
    (each_first (λ kind next k. fits_each (highest kind) (operand_start_for k kind) ≡ true) (λ next. assumption) kind text second third))
    (where_any (is_some (highest kind)) (both (nat_eq level 0) b.Stray refl))

fits_by : (levels any : Bool) (how : OperandStart) → fits any how ≡ true → AreAtMost (begun_bounds levels any how)
fits_by false any how h =
    they_are (begun_bounds false any how) (and_parts (are_at_most (begun_bounds false any how)) (are_at_most (begun_bounds true any how)) h).0
fits_by true any how h =
    they_are (begun_bounds true any how) (and_parts (are_at_most (begun_bounds false any how)) (are_at_most (begun_bounds true any how)) h).1

pub begun_bounded : (levels : Bool) (level : ℕ) (kind : SyntaxKind) (text : List ℕ) (second third : Option SyntaxKind)
    → AreAtMost (begun_bounds levels (nat_eq level 0) (operand_start_of level kind text second third))
begun_bounded levels level kind text second third =
    fits_by levels (nat_eq level 0) (operand_start_of level kind text second third) (operand_start_fits level kind text second third)
