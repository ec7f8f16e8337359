use Rattle.{std.proofs.Common.{◌≡◌, sym, ap, ◌∙◌, List, [], ℕ, ◌<◌, length, arith, add-one}, rnix_grammar.specs.{Layout.tail_of, AnnotatedForest.Token}}
use Rattle.rnix_reader.{specs.{declared.cursor.TokenEnd.TokenEnd, Placed.tokens_cut}, proofs.CursorLemmas.{behind_all, item_kept, length-tokens_cut, tail-drop}}
use Rattle.rnix_reader.proofs.cursor.Cursor.advance.Goals as goal

pub invariant_of-self : goal.invariant_of-self
invariant_of-self c = record {
  ends = c.self.invariant.ends;
  item = rw (c.deref.ensures.value) at (c.item_from-self-inside.ensures c.self.inside.text.now);
}

pub invariant_of-self-else-self : goal.invariant_of-self-else-self
invariant_of-self-else-self c =
    let ts : List TokenEnd = c.self.inside.tokens.items in
    let all : List Token = tokens_cut c.self.inside.text.now 0 ts in
    let at : ℕ = c.self.inside.at in
    let within : at < length all = omega (arith, c.if-self-len.true, c.len.ensures, c.self.inside.tokens.ok.0, length-tokens_cut c.self.inside.text.now 0 ts) in
    record {
      ends = c.self.invariant.ends;
      item = rw (add-one) (item_kept all at c.self.inside.next within c.self.invariant.item
          (omega (arith, c.if-self.false)));
    }

pub returns-then-self : goal.returns-then-self
returns-then-self c =
    rw (add-one) (sym (ap tail_of (sym c.self.view_is) ∙ tail-drop c.self.inside.at (tokens_cut c.self.inside.text.now 0 c.self.inside.tokens.items)))

pub returns-else-self : goal.returns-else-self
returns-else-self c =
    rw (add-one) (sym (ap tail_of (sym c.self.view_is) ∙ tail-drop c.self.inside.at (tokens_cut c.self.inside.text.now 0 c.self.inside.tokens.items)))

pub returns-else-self-len : goal.returns-else-self-len
returns-else-self-len c =
    let none : c.args.self.now ≡ [] =
    sym c.self.view_is ∙ behind_all c.self.inside.text.now c.self.inside.tokens.items c.self.inside.at
    (omega (arith, c.if-self-len.false, c.len.ensures, c.self.inside.tokens.ok.0)) in
    none ∙ ap tail_of (sym none)
