use Rattle.std.proofs.Common.{◌≡◌, ◌∙◌, ◌+◌, ◌<◌, ◌++◌, ap, sym, subst, take, drop, length, string_bytes, arith}
use Rattle.std.specs.{Str.IsCharBoundary, List.prefix_len}
use Rattle.rnix_base.specs.Quoted.{is_ordinary, inside_of}
use Rattle.rnix_base.proofs.QuotedRuns.{plain_boundary, behind_boundary, run_written, byte_written}
use Rattle.rnix_base.proofs.quoted.push_run.Goals as goal

pub split_at-requires : goal.split_at-requires
split_at-requires c =
    let len = c.plain_len-plain.ensures.len ∙ ap (prefix_len is_ordinary) c.as_bytes-bytes.ensures.value in
    subst (IsCharBoundary c.args.value.now) (sym len) (plain_boundary c.args.value.now)

pub split_at-requires-2 : goal.split_at-requires-2
split_at-requires-2 c =
    let value = c.args.value.now in
    let plain = c.plain_len-plain.result in
    let len : plain ≡ prefix_len is_ordinary value = c.plain_len-plain.ensures.len ∙ ap (prefix_len is_ordinary) c.as_bytes-bytes.ensures.value in
    let within : plain < length value =
    omega (arith, ap length c.as_bytes-bytes.ensures.value, c.plain_len-plain.ensures.within, c.if-plain-bytes.false) in
    subst (λ n. IsCharBoundary value (n + 1)) (sym len) (behind_boundary value c.utf8.value (subst (λ n. n < length value) len within))

pub returns-then-plain-bytes-clause-written : goal.returns-then-plain-bytes-clause-written
returns-then-plain-bytes-clause-written c =
    let len = c.plain_len-plain.ensures.len ∙ ap (prefix_len is_ordinary) c.as_bytes-bytes.ensures.value in
    run_written _ _ c.args.value.now _ _ c.plain_len-plain.result len c.split_at.ensures.front c.split_at.ensures.back c.in_ok-push_some.ensures

pub returns-clause-written : goal.returns-clause-written
returns-clause-written c =
    let same = c.as_bytes-bytes.ensures.value in
    let bytes = c.as_bytes-bytes.result.now in
    let plain = c.plain_len-plain.result in
    let within : plain < length bytes = omega (arith, c.plain_len-plain.ensures.within, c.if-plain-bytes.false) in
    subst
    (λ t. string_bytes c.push_escape.new.text ++ inside_of c.split_at-2.result.1.now ≡ string_bytes c.args.text.now ++ inside_of t) same
    (byte_written _ _ _ bytes _ _ plain _ c.plain_len-plain.ensures.len within
    (c.split_at.ensures.front ∙ ap (take plain) (sym same)) (c.split_at-2.ensures.back ∙ ap (drop (plain + 1)) (sym same))
    c.in_ok-push_some.ensures c.in_ok-push_escape.ensures)
