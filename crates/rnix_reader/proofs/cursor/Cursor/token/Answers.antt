use Rattle.{std.proofs.Common.{ap, ◌∙◌}, rnix_grammar.specs.AnnotatedForest.head_of}
use Rattle.rnix_reader.proofs.cursor.Cursor.token.Goals as goal

pub returns : goal.returns
returns c = (rw (c.deref.ensures.value) at c.token_at.ensures) ∙ ap head_of c.self.view_is

pub token_at-requires : goal.token_at-requires
token_at-requires c = rw (c.deref.ensures.value) c.self.invariant.ends
