use Rattle.std.proofs.Common.{◌∙◌, ap, subst}
use Rattle.{std.specs.{Prelude.min, List.prefix_len, Str.IsUtf8}, rnix_base.{specs.{Normal.spaces, Indent.is_inside_line}, proofs.UnindentLemmas.{behind_spaces, behind_feed, fed_line, last_line, no_line}}}
use Rattle.rnix_base.proofs.indent.first_line.Goals as goal

pub split_at-requires : goal.split_at-requires
split_at-requires c =
    let lost = c.min-lost.ensures ∙ ap (λ n. min n c.args.remaining) (c.spaces_before.ensures ∙ ap spaces c.as_bytes-bytes.ensures.value) in
    behind_spaces c.args.text.now c.min-lost.result c.args.remaining c.utf8.text lost

pub split_at-requires-then-len-kept : goal.split_at-requires-then-len-kept
split_at-requires-then-len-kept c =
    let run = c.line_len-len.ensures ∙ ap (prefix_len is_inside_line) c.as_bytes.ensures.value in
    behind_feed c.split_at.result.1.now c.line_len-len.result (subst IsUtf8 c.as_bytes.ensures.value c.as_bytes.ensures.utf8) run c.if-len-kept.true

pub returns-then-len-kept : goal.returns-then-len-kept
returns-then-len-kept c =
    let lost = c.min-lost.ensures ∙ ap (λ n. min n c.args.remaining) (c.spaces_before.ensures ∙ ap spaces c.as_bytes-bytes.ensures.value) in
    let run = c.line_len-len.ensures ∙ ap (prefix_len is_inside_line) c.as_bytes.ensures.value in
    fed_line c.args.least c.args.remaining c.min-lost.result c.args.text.now c.split_at.result.1.now lost c.split_at.ensures.back c.line_len-len.result run _ _
    c.if-len-kept.true c.split_at-then-len-kept.ensures.front c.split_at-then-len-kept.ensures.back

pub returns-then-len-gt0 : goal.returns-then-len-gt0
returns-then-len-gt0 c =
    let lost = c.min-lost.ensures ∙ ap (λ n. min n c.args.remaining) (c.spaces_before.ensures ∙ ap spaces c.as_bytes-bytes.ensures.value) in
    let run = c.line_len-len.ensures ∙ ap (prefix_len is_inside_line) c.as_bytes.ensures.value in
    last_line c.args.least c.args.remaining c.min-lost.result c.args.text.now c.split_at.result.1.now lost c.split_at.ensures.back c.line_len-len.result run
    c.if-len-kept.false c.if-len-gt0.true c.requires

pub returns-else-len-gt0 : goal.returns-else-len-gt0
returns-else-len-gt0 c =
    let lost = c.min-lost.ensures ∙ ap (λ n. min n c.args.remaining) (c.spaces_before.ensures ∙ ap spaces c.as_bytes-bytes.ensures.value) in
    let run = c.line_len-len.ensures ∙ ap (prefix_len is_inside_line) c.as_bytes.ensures.value in
    no_line c.args.least c.args.remaining c.min-lost.result c.args.text.now c.split_at.result.1.now lost c.split_at.ensures.back c.line_len-len.result run
    c.if-len-kept.false c.if-len-gt0.false c.requires
