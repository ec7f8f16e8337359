use Rattle.std.proofs.{Common.{ℕ, List, ◌≡◌, ◌+◌, ◌∷◌, [], length, drop, get_or, subst, sym, ap, ◌∙◌, arith}, lemmas.{Slice.between_to_end, List.{length-take, length-drop, Sums.prefix_len-drop_yes}}}
use Rattle.std.specs.{List.prefix_len, Io.KnownBytes.Appends}
use Rattle.nix_cli.specs.JsonString.{is_plain, escape}
use Rattle.nix_cli.proofs.{PlainRuns.{run_written, byte_more, written_more}, JsonBytes.{keeps_plain, quote_escape, backslash_escape, plain_byte}}
use Rattle.nix_cli.proofs.json.write_json_string.Goals as goal

pub loop-written-preserved-in-34 : goal.loop-written-preserved-in-34
loop-written-preserved-in-34 g c = (
  omega arith,
  byte_more escape _ _ _ (34 ∷ []) c.as_bytes-bytes.result.now c.loop-written.written 0 (omega arith) c.loop-written.invariant.1
      (subst (λ (bs : List ℕ). Appends (g.W.Write.contents c.loop-written.out) (g.W.Write.contents c.write_all-in-34.new.self) bs)
      (quote_escape ∙ ap escape (sym c.in-34.is)) c.in_ok-write_all-in-34.ensures.bytes),
)

pub loop-written-preserved-in-92 : goal.loop-written-preserved-in-92
loop-written-preserved-in-92 g c = (
  omega arith,
  byte_more escape _ _ _ (34 ∷ []) c.as_bytes-bytes.result.now c.loop-written.written 0 (omega arith) c.loop-written.invariant.1
      (subst (λ (bs : List ℕ). Appends (g.W.Write.contents c.loop-written.out) (g.W.Write.contents c.write_all-in-92.new.self) bs)
      (backslash_escape ∙ ap escape (sym c.in-92.is)) c.in_ok-write_all-in-92.ensures.bytes),
)

pub loop-written-preserved-then-byte-lt32 : goal.loop-written-preserved-then-byte-lt32
loop-written-preserved-then-byte-lt32 g c = (
  omega arith,
  byte_more escape _ _ _ (34 ∷ []) c.as_bytes-bytes.result.now c.loop-written.written 0 (omega arith) c.loop-written.invariant.1
      (subst (λ (bs : List ℕ). Appends (g.W.Write.contents c.loop-written.out) (g.W.Write.contents c.write_all-in_default.new.self) bs)
      (c.control_escape.ensures c.if-byte-lt32.true) c.in_ok-write_all-in_default.ensures.bytes),
)

pub loop-written-preserved : goal.loop-written-preserved
loop-written-preserved g c =
    let bytes = c.as_bytes-bytes.result.now in
    let start = c.loop-written.written in (
      omega (arith, simp (length-take, length-drop) at c.plain_len-plain.ensures.within, c.loop-written.invariant.0),
      written_more escape _ _ _ (34 ∷ []) bytes _ start _ (between_to_end bytes start (length bytes) (omega arith)) c.loop-written.invariant.1
          (subst (λ (bs : List ℕ). Appends (g.W.Write.contents c.loop-written.out) (g.W.Write.contents c.write_all-in_default-2.new.self) bs)
          (run_written is_plain escape keeps_plain _ _ c.plain_len-plain.ensures.len) c.in_ok-write_all-in_default-2.ensures.bytes),
    )

pub loop-written-smaller : goal.loop-written-smaller
loop-written-smaller g c =
    let bytes = c.as_bytes-bytes.result.now in
    let start = c.loop-written.written in
    let first = plain_byte (get_or bytes start 0) (omega arith) (λ e. omega arith) (λ e. omega arith) in
    let some : prefix_len is_plain (drop start bytes) ≡ 1 + prefix_len is_plain (drop (start + 1) bytes) =
    prefix_len-drop_yes is_plain bytes start 0 (omega arith) first in
    let plain : c.plain_len-plain.result ≡ prefix_len is_plain (drop start bytes) =
    c.plain_len-plain.ensures.len ∙ ap (prefix_len is_plain) (between_to_end bytes start (length bytes) (omega arith)) in
    omega arith
