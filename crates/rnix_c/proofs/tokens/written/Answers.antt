use Rattle.std.proofs.Common.{◌≡◌, ◌∷◌, List, sym, subst, ◌∙◌, arith}
use Rattle.{rnix_kinds.specs.Lexical.Tokens.{Lexeme}, rnix_c.specs.{TokenCalls.{tokens_written}}}
use Rattle.rnix_c.proofs.{FilledLemmas.{filled-none, filled-more, filled-past}, WrittenTokens.{IsAt, at_first, is_there, next_is, at_next}}
use Rattle.rnix_c.proofs.tokens.written.Goals.{then-count-room, else-count-room}
use Rattle.rnix_c.proofs.tokens.written.Goals as goal

pub loop-next-init : goal.loop-next-init
loop-next-init c = record {
  at = subst (λ (tokens : List Lexeme). IsAt c.args.text.now tokens 0 0) (sym c.tokenize-tokens.ensures) (at_first c.args.text.now c.utf8.text);
  written = filled-none c.args.room.now;
}

pub loop-next-preserved : goal.loop-next-preserved
loop-next-preserved c =
    let e : c.loop-next.tokens ≡ (c.in-Ok.kind, c.in-Ok.token.now) ∷ c.next_token.new.self = rw c.in-Ok.is at c.in-Some.ensures in
    let at = subst (λ (tokens : List Lexeme). IsAt c.args.text.now tokens c.loop-next.count c.loop-next.start) e c.loop-next.invariant.at in
    record {
      at = at_next _ _ _ _ _ _ at;
      written = elim c.if-count-room.branch [
        | then-count-room w ↦ w.room-is ∙ filled-more c.loop-next.count (tokens_written c.args.text.now) c.args.room.now c.loop-next.room _
            (is_there _ _ _ _ _ _ at) (omega (arith, c.loop-next.auto.room)) c.loop-next.invariant.written (next_is _ _ _ _ _ _ at)
        | else-count-room w ↦ w.room-is ∙ filled-past c.loop-next.count (tokens_written c.args.text.now) c.args.room.now c.loop-next.room
            (omega (arith, c.loop-next.auto.room)) c.loop-next.invariant.written
      ];
    }
