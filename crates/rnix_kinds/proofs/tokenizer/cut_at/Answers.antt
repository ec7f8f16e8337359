use Rattle.{std.proofs.Common.{◌≡◌, rules, subst}, rnix_kinds.{specs.Lexical.Tokens.{cut_at, IsCutOf}, proofs.LexicalLemmas.CutLemmas.cut_good}}
use Rattle.rnix_kinds.proofs.tokenizer.cut_at.Goals as goal

pub returns-in-Some-Quoted-clause-good : goal.returns-in-Some-Quoted-clause-good
unfolding cut_at
returns-in-Some-Quoted-clause-good c =
    let e : cut_at c.args.top c.args.text.now ≡ c.string.result = search rules in
    subst (IsCutOf c.args.top c.args.text.now) e (cut_good c.args.top c.args.text.now c.utf8.text c.requires.some c.requires.goes_on)

pub returns-in-Some-Path-clause-good : goal.returns-in-Some-Path-clause-good
unfolding cut_at
returns-in-Some-Path-clause-good c =
    let e : cut_at c.args.top c.args.text.now ≡ c.path.result = search rules in
    subst (IsCutOf c.args.top c.args.text.now) e (cut_good c.args.top c.args.text.now c.utf8.text c.requires.some c.requires.goes_on)

pub returns-in_default-clause-good : goal.returns-in_default-clause-good
unfolding cut_at
returns-in_default-clause-good c =
    let e : cut_at c.args.top c.args.text.now ≡ c.normal.result = search rules in
    subst (IsCutOf c.args.top c.args.text.now) e (cut_good c.args.top c.args.text.now c.utf8.text c.requires.some c.requires.goes_on)
