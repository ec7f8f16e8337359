use Rattle.std.proofs.{Common.{◌≡◌, ℕ, ◌<◌, ◌-◌, ◌^◌, ◌++◌, List, length, codes, arith, rules, subst, set, ap, ◌∙◌}, lemmas.List.length-set}
use Rattle.{std.specs.{Prelude.decimal, Io.KnownBytes.Appends}, rnix_tree.proofs.LineLemmas.{decimal_short, range_bytes}}
use Rattle.rnix_tree.proofs.printing.write_range.Goals as goal

pub write_digits-end-requires : goal.write_digits-end-requires
write_digits-end-requires g c =
    let fits : c.end.result < 2 ^ 64 = search rules in
    (omega (arith, decimal_short c.end.result fits), omega arith)

pub overflow_sub-bytes : goal.overflow_sub-bytes
overflow_sub-bytes g c =
    let fits : c.end.result < 2 ^ 64 = search rules in
    omega (arith, decimal_short c.end.result fits, c.write_digits-end.ensures.start)

pub overflow_sub-bytes-2 : goal.overflow_sub-bytes-2
overflow_sub-bytes-2 g c =
    let fits : c.end.result < 2 ^ 64 = search rules in
    omega (arith, decimal_short c.end.result fits, c.write_digits-end.ensures.start)

pub overflow_sub-end : goal.overflow_sub-end
overflow_sub-end g c =
    let fits : c.end.result < 2 ^ 64 = search rules in
    omega (arith, decimal_short c.end.result fits, c.write_digits-end.ensures.start)

pub write_digits-start-requires : goal.write_digits-start-requires
write_digits-start-requires g c =
    let fits : c.end.result < 2 ^ 64 = search rules in
    let also : c.start.result < 2 ^ 64 = search rules in
    let p : ℕ = c.write_digits-end.result in
    let bs : List ℕ = c.write_digits-end.new.bytes in (
      omega (arith, decimal_short c.end.result fits, decimal_short c.start.result also, c.write_digits-end.ensures.start),
      omega (
        arith,
        c.write_digits-end.ensures.start,
        c.write_digits-end.auto.bytes,
        length-set bs (p - 1) 46,
        length-set (set bs (p - 1) 46) (p - 2) 46,
      ),
    )

pub overflow_sub-bytes-3 : goal.overflow_sub-bytes-3
overflow_sub-bytes-3 g c =
    let fits : c.end.result < 2 ^ 64 = search rules in
    let also : c.start.result < 2 ^ 64 = search rules in
    omega (arith, decimal_short c.end.result fits, decimal_short c.start.result also, c.write_digits-end.ensures.start, c.write_digits-start.ensures.start)

pub overflow_sub-start : goal.overflow_sub-start
overflow_sub-start g c =
    let fits : c.end.result < 2 ^ 64 = search rules in
    let also : c.start.result < 2 ^ 64 = search rules in
    omega (arith, decimal_short c.end.result fits, decimal_short c.start.result also, c.write_digits-end.ensures.start, c.write_digits-start.ensures.start)

pub returns : goal.returns
returns g c =
    let fits : c.end.result < 2 ^ 64 = search rules in
    let also : c.start.result < 2 ^ 64 = search rules in
    let p : ℕ = c.write_digits-end.result in
    let q : ℕ = c.write_digits-start.result in
    let bs : List ℕ = c.write_digits-end.new.bytes in
    let ds : List ℕ = c.write_digits-start.new.bytes in
    let e : List ℕ = decimal c.end.result in
    let s : List ℕ = decimal c.start.result in
    let long : length bs ≡ 44 = omega (arith, c.write_digits-end.auto.bytes) in
    let also_long : length ds ≡ 44 = omega (
      arith,
      c.write_digits-end.auto.bytes,
      c.write_digits-start.auto.bytes,
      length-set bs (p - 1) 46,
      length-set
          (set bs (p - 1) 46) (p - 2) 46,
    ) in
    subst (λ (xs : List ℕ). Appends (g.W.Write.contents c.args.out.now) (g.W.Write.contents c.write_all.new.self) xs)
    (range_bytes s e bs ds p q long also_long c.write_digits-end.ensures.start c.write_digits-start.ensures.start
    (omega (arith, decimal_short c.end.result fits, c.write_digits-end.ensures.start))
    (omega (arith, decimal_short c.end.result fits, decimal_short c.start.result also, c.write_digits-end.ensures.start, c.write_digits-start.ensures.start))
    c.write_digits-end.ensures.written c.write_digits-start.ensures.written
    ∙ ap (λ n. codes "@" ++ (decimal n ++ codes ".." ++ e) ++ codes "\n") c.start.ensures
    ∙ ap (λ n. codes "@" ++ (decimal c.args.range.start ++ codes ".." ++ decimal n) ++ codes "\n") c.end.ensures.value)
    c.in_ok-write_all.ensures.bytes
