use Rattle.std.proofs.Common.{sym, ◌∙◌}
use Rattle.std.proofs.lemmas.Bool.{false≢true}
use Rattle.rnix_edit.proofs.alone.is_as_alone.Goals as goal

pub returns-then-not-is_readable : goal.returns-then-not-is_readable
returns-then-not-is_readable c = record {
  alike = λ is readable. absurd (false≢true (sym c.if-not-is_readable.true ∙ c.is_readable.ensures ∙ readable));
  unlike = λ no. absurd (false≢true (sym no));
}

pub returns : goal.returns
returns c = record {
  alike = λ is readable. record { read = c.in_ok-read.read; is_read = c.in_ok-read.ensures; is_so = c.is_same_node.ensures.0 is };
  unlike = λ no. record {
    readable = sym c.is_readable.ensures ∙ c.if-not-is_readable.false;
    unlike = record {
      read = c.in_ok-read.read;
      is_read = c.in_ok-read.ensures;
      is_so = λ same. false≢true (sym no ∙ c.is_same_node.ensures.1 same);
    };
  };
}
