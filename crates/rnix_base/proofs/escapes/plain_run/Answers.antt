use Rattle.std.proofs.Common.{◌≡◌, ◌∙◌, ◌+◌, ◌∷◌, suc, ap, sym, subst, take, drop, length, arith}
use Rattle.{std.{specs.{Str.IsCharBoundary, List.prefix_len}, proofs.lemmas.List.{nil_from_length, Sums.prefix_len-le-length}}, rnix_base.specs.Escapes.{is_plain, unescaped, Begins}}
use Rattle.rnix_base.{specs.Escapes.{first_piece, itself}, proofs.EscapeLemmas.{unescaped-nil, run_begins, run_boundary}}
use Rattle.rnix_base.proofs.escapes.plain_run.Goals as goal

pub returns-in_err-more : goal.returns-in_err-more
returns-in_err-more c =
    let m = c.args.multiline in
    rw c.from_residual.ensures
    (ap (unescaped m) (sym c.as_bytes.ensures.value ∙ nil_from_length c.as_bytes.result.now c.in_err-more.ensures.cases) ∙ unescaped-nil m)

pub overflow_add-len : goal.overflow_add-len
overflow_add-len c =
    let m = c.args.multiline in
    let more = c.in_ok-more.more.now in
    omega (arith, c.plain_len-len.ensures, prefix_len-le-length (is_plain m) more, ap length c.in_ok-more.ensures.cases.0, c.as_bytes.ensures.len)

pub split_at-requires : goal.split_at-requires
split_at-requires c =
    let m = c.args.multiline in
    let first = c.in_ok-more.field-0-0.now in
    let more = c.in_ok-more.more.now in
    let text = sym c.as_bytes.ensures.value ∙ c.in_ok-more.ensures.cases.0 in
    let len : suc (prefix_len (is_plain m) more) ≡ 1 + c.plain_len-len.result = omega (arith, c.plain_len-len.ensures) in
    subst (λ t. IsCharBoundary t (1 + c.plain_len-len.result)) (sym text) (subst (IsCharBoundary (first ∷ more)) len (run_boundary m first more))

pub returns : goal.returns
returns c =
    let m = c.args.multiline in
    let first = c.in_ok-more.field-0-0.now in
    let more = c.in_ok-more.more.now in
    let text = sym c.as_bytes.ensures.value ∙ c.in_ok-more.ensures.cases.0 in
    let len : 1 + c.plain_len-len.result ≡ suc (prefix_len (is_plain m) more) = omega (arith, c.plain_len-len.ensures) in
    let front = c.split_at.ensures.front ∙ ap (λ n. take n c.args.text.now) len ∙ ap (take (suc (prefix_len (is_plain m) more))) text in
    let back = c.split_at.ensures.back ∙ ap (λ n. drop n c.args.text.now) len ∙ ap (drop (suc (prefix_len (is_plain m) more))) text in
    subst (λ t. Begins m t c.split_at.result.0.now c.split_at.result.1.now) (sym text)
    (run_begins m first more _ _ (subst (λ t. first_piece m t ≡ itself t) text c.requires) front back)
