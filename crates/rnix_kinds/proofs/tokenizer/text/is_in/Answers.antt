use Rattle.{std.proofs.Common.{refl, ◌∙◌, arith}, rnix_kinds.specs.declared.tokenizer.text.Class.TheVariants.{Digit, Name, Path, Step, Scheme, Angle, Uri}}
use Rattle.rnix_kinds.{specs.declared.tokenizer.text.Class.TheVariants.Content, proofs.LexicalLemmas.ClassTableLemmas.{agree, from_table}}
use Rattle.rnix_kinds.proofs.tokenizer.text.is_in.Goals as goal

pub returns-in-Digit : goal.returns-in-Digit
unfolding agree
returns-in-Digit c = rw c.in-Digit.is (c.has_flag.ensures ∙ from_table 1 Digit c.args.b (omega arith) refl)

pub returns-in-Name : goal.returns-in-Name
unfolding agree
returns-in-Name c = rw c.in-Name.is (c.has_flag-in-Name.ensures ∙ from_table 2 Name c.args.b (omega arith) refl)

pub returns-in-Path : goal.returns-in-Path
unfolding agree
returns-in-Path c = rw c.in-Path.is (c.has_flag-in-Path.ensures ∙ from_table 4 Path c.args.b (omega arith) refl)

pub returns-in-Step : goal.returns-in-Step
unfolding agree
returns-in-Step c = rw c.in-Step.is (c.has_flag-in-Step.ensures ∙ from_table 8 Step c.args.b (omega arith) refl)

pub returns-in-Scheme : goal.returns-in-Scheme
unfolding agree
returns-in-Scheme c = rw c.in-Scheme.is (c.has_flag-in-Scheme.ensures ∙ from_table 16 Scheme c.args.b (omega arith) refl)

pub returns-in-Angle : goal.returns-in-Angle
unfolding agree
returns-in-Angle c = rw c.in-Angle.is (c.has_flag-in-Angle.ensures ∙ from_table 32 Angle c.args.b (omega arith) refl)

pub returns-in-Uri : goal.returns-in-Uri
unfolding agree
returns-in-Uri c = rw c.in-Uri.is (c.has_flag-in-Uri.ensures ∙ from_table 64 Uri c.args.b (omega arith) refl)

pub returns-in-Content : goal.returns-in-Content
unfolding agree
returns-in-Content c = rw c.in-Content.is (c.has_flag-in-Content.ensures ∙ from_table 128 Content c.args.b (omega arith) refl)
