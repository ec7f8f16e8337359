use Rattle.std.proofs.{Common.{ℕ, List, subst, sym, ◌∙◌}, lemmas.{Iterator.YieldsList-from_chars, Iterator.Consumers.YieldsList-end, List.map-id, Result.on_ok_weaker}}
use Rattle.std.specs.{List.flat_map, Io.KnownBytes.Appends}
use Rattle.nix_cli.{specs.Excerpt.{shown}, proofs.ExcerptLemmas.simple_shown}
use Rattle.nix_cli.proofs.excerpt.write_letters.Goals as goal

pub returns-then-are_simple : goal.returns-then-are_simple
returns-then-are_simple g c =
    on_ok_weaker c.write_all.result
    (λ e. subst (λ (bs : List ℕ). Appends (g.W.Write.contents c.args.out.now) (g.W.Write.contents c.write_all.new.self) bs)
    (simple_shown c.args.part.now (c.are_simple.ensures c.if-are_simple.true)) e) (rw c.as_bytes.ensures.value at c.write_all.ensures.bytes)

pub returns : goal.returns
returns g c =
    let t = YieldsList-end (YieldsList-from_chars c.args.part.now c.utf8.part cc) c.loop-letter.yielded _ c.loop-letter.yielded_by _ _ c.in-None.is
    c.next.ensures.steps in
    subst (λ (bs : List ℕ). Appends (g.W.Write.contents c.args.out.now) (g.W.Write.contents c.loop-letter.out) (flat_map shown bs))
    (sym (map-id c.loop-letter.yielded) ∙ t.0) c.loop-letter.invariant
