use Rattle.std.proofs.{Common.{◌≡◌, length, reverse, ◌+◌, ◌-◌, suc, take, arith, refl, ap, ◌∙◌}, lemmas.List.{length-take-le, length_push, length-reverse}}
use Rattle.{std.proofs.{lemmas.List.length-set, Math.ListN.set}, rnix_green.specs.{declared.postorder.Frame.Frame, Entries.made, Packed.{packed, size_in}}}
use Rattle.rnix_green.{specs.{Kept.parent_or_root, Postorder.{parent_number, frame_kept, HasMore, IsReached}}, proofs.PostorderLemmas.length-entries_before}
use Rattle.rnix_green.proofs.{PostorderLemmas.{leaf_at, node_at, node_placed, leaf_placed, node_framed, placed_all, init_work}, PairLemmas.token_again}
use Rattle.rnix_green.proofs.PairLemmas.{pair_fits, pair_read, pair_placed}
use Rattle.rnix_green.proofs.postorder.in_preorder.Goals as goal

pub elements-init : goal.elements-init
elements-init c =
    let es = c.args.elements.items in
    let count : c.len-todo.result ≡ length es = c.len-todo.ensures ∙ c.args.elements.ok.0 in
    record {
      small = c.requires.small;
      few = omega (arith, ap length c.new-frames.ensures.items);
      work =
          init_work (made c.args.text.now es) es _ c.len-todo.result c.args.text.now c.new-frames.result.items c.requires.entries_are refl count
          c.requires.text_is c.new-frames.ensures.items;
    }

pub elements-preserved-in-Some : goal.elements-preserved-in-Some
elements-preserved-in-Some c =
    let es = c.elements.elements.items in
    let old = c.elements.frames.items in
    let closing : IsReached old c.elements.todo c.in-Some.frame = rw c.deref.ensures.value at c.in-Some.ensures in
    let shorter : c.truncate.new.self.items ≡ take (length old - 1) old =
    c.truncate.ensures.items ∙ ap (λ n. take (n - 1) old) (c.len.ensures ∙ c.elements.frames.ok.0) in
    let depth : c.len-in-Some.result ≡ length c.truncate.new.self.items = c.len-in-Some.ensures ∙ c.truncate.new.self.ok.0 in
    let parent : c.innermost_number-parent.result ≡ parent_or_root (parent_number (reverse c.truncate.new.self.items)) =
    rw c.deref-in-Some.ensures.value at c.innermost_number-parent.ensures in
    let value : c.new.result ≡ frame_kept c.in-Some.frame c.elements.offset (parent_number (reverse c.truncate.new.self.items)) =
    c.new.ensures ∙ ap (λ q. packed c.in-Some.frame.kind c.elements.offset q c.in-Some.frame.size) parent in
    record {
      small = omega (arith, c.elements.invariant.small, length-set es (c.elements.todo + c.len-in-Some.result) c.new.result);
      few =
          omega (
            arith,
            c.elements.invariant.few,
            ap length shorter,
            length-take-le (length old - 1) old (omega arith),
            length-set es (c.elements.todo + c.len-in-Some.result) c.new.result,
          );
      work =
          node_placed (made c.args.text.now c.args.elements.items) es c.elements.todo c.elements.offset (c.elements.todo + c.len-in-Some.result) old _
          c.new.result c.in-Some.frame c.elements.invariant.few closing shorter (ap (λ n. c.elements.todo + n) depth) value c.elements.invariant.work;
    }

pub overflow_sub-todo-then-size-eq2 : goal.overflow_sub-todo-then-size-eq2
overflow_sub-todo-then-size-eq2 c =
    let open_ : HasMore (reverse c.elements.frames.items) c.elements.todo = rw c.deref.ensures.value at c.in-None.ensures in
    pair_fits (made c.args.text.now c.args.elements.items) c.elements.elements.items c.elements.todo c.elements.offset c.elements.frames.items
    c.index.result.now c.elements.invariant.few c.if-todo-eq0.false c.index.ensures (omega (arith, c.size-size.ensures, c.if-size-eq2.true)) open_
    c.elements.invariant.work

pub overflow_sub-offset : goal.overflow_sub-offset
overflow_sub-offset c =
    let es = c.elements.elements.items in
    let y = c.index-then-size-eq0.result.now in
    let open_ : HasMore (reverse c.elements.frames.items) c.elements.todo = rw c.deref.ensures.value at c.in-None.ensures in
    let two : size_in c.index.result.now ≡ 2 = omega (arith, c.size-size.ensures, c.if-size-eq2.true) in
    let none : size_in y ≡ 0 =
    token_again es (c.elements.todo - 1 - 1) c.index-then-size-eq2.result.now y (omega (arith, c.elements.invariant.few)) c.index-then-size-eq2.ensures
    c.index-then-size-eq0.ensures (omega (arith, c.size.ensures, c.if-size-eq0.true)) in
    let r =
    pair_read (made c.args.text.now c.args.elements.items) es c.elements.todo c.elements.offset c.elements.frames.items c.index.result.now y
    c.elements.invariant.few c.if-todo-eq0.false c.index.ensures c.index-then-size-eq0.ensures two none open_ c.elements.invariant.work in
    omega (arith, r.fits, c.len_or_start-offset.ensures)

pub elements-preserved-then-size-eq0 : goal.elements-preserved-then-size-eq0
elements-preserved-then-size-eq0 c =
    let es = c.elements.elements.items in
    let old = c.elements.frames.items in
    let y = c.index-then-size-eq0.result.now in
    let token = c.new-then-size-eq0.result in
    let kept = c.new-then-size-eq0-2.result in
    let number = c.elements.todo - 1 - 1 + c.len-then-size-eq0.result in
    let open_ : HasMore (reverse old) c.elements.todo = rw c.deref.ensures.value at c.in-None.ensures in
    let two : size_in c.index.result.now ≡ 2 = omega (arith, c.size-size.ensures, c.if-size-eq2.true) in
    let none : size_in y ≡ 0 =
    token_again es (c.elements.todo - 1 - 1) c.index-then-size-eq2.result.now y (omega (arith, c.elements.invariant.few)) c.index-then-size-eq2.ensures
    c.index-then-size-eq0.ensures (omega (arith, c.size.ensures, c.if-size-eq0.true)) in
    let depth : c.len-then-size-eq0.result ≡ length old = c.len-then-size-eq0.ensures ∙ c.elements.frames.ok.0 in
    let parent : c.innermost_number.result ≡ parent_or_root (parent_number (reverse old)) =
    rw c.deref-then-size-eq0.ensures.value at c.innermost_number.ensures in
    let token_is = rw (c.kind.ensures, c.len_or_start-offset.ensures) at c.new-then-size-eq0.ensures in
    let kept_is = rw (c.kind-kind.ensures, c.len_or_start-offset.ensures, parent) at c.new-then-size-eq0-2.ensures in
    record {
      small = omega (arith, c.elements.invariant.small, length-set es (number + 1) token, length-set (set es (number + 1) token) number kept);
      few =
          omega (
            arith,
            c.elements.invariant.few,
            length-set es (number + 1) token,
            length-set (set es (number + 1) token) number kept,
          );
      work =
          rw c.len_or_start-offset.ensures
          (pair_placed (made c.args.text.now c.args.elements.items) es c.elements.todo c.elements.offset number old c.index.result.now y token kept
          c.elements.invariant.few c.if-todo-eq0.false c.index.ensures c.index-then-size-eq0.ensures two none open_
          (ap (λ n. c.elements.todo - 1 - 1 + n) depth) token_is kept_is c.elements.invariant.work);
    }

pub overflow_sub-first : goal.overflow_sub-first
overflow_sub-first c =
    let es = c.elements.elements.items in
    let y = c.index.result.now in
    let open_ : HasMore (reverse c.elements.frames.items) c.elements.todo = rw c.deref.ensures.value at c.in-None.ensures in
    let some : size_in y ≡ suc (size_in y - 1) = omega (arith, c.size-size.ensures, c.if-size-gt0.true) in
    let r =
    node_at (made c.args.text.now c.args.elements.items) es c.elements.todo c.elements.offset _ _ y
    record { kind = y.kind; size = size_in y; number = 0; first = 0 } (size_in y - 1) (omega (arith, c.elements.invariant.few))
    c.if-todo-eq0.false c.index.ensures some refl refl open_ c.elements.invariant.work in
    omega (arith, r.fits, c.size-size.ensures, length-entries_before (c.elements.todo - 1) es (omega (arith, c.elements.invariant.few)))

pub new-requires-then-size-gt0-clause-size : goal.new-requires-then-size-gt0-clause-size
new-requires-then-size-gt0-clause-size c =
    let es = c.elements.elements.items in
    let y = c.index.result.now in
    let open_ : HasMore (reverse c.elements.frames.items) c.elements.todo = rw c.deref.ensures.value at c.in-None.ensures in
    let some : size_in y ≡ suc (size_in y - 1) = omega (arith, c.size-size.ensures, c.if-size-gt0.true) in
    let r =
    node_at (made c.args.text.now c.args.elements.items) es c.elements.todo c.elements.offset _ _ y
    record { kind = y.kind; size = size_in y; number = 0; first = 0 } (size_in y - 1) (omega (arith, c.elements.invariant.few))
    c.if-todo-eq0.false c.index.ensures some refl refl open_ c.elements.invariant.work in
    let before = length-entries_before (c.elements.todo - 1) es (omega (arith, c.elements.invariant.few)) in
    omega (arith, r.fits, c.size-size.ensures, before, c.elements.invariant.few, c.elements.invariant.small)

pub elements-preserved-in-Continue-1 : goal.elements-preserved-in-Continue-1
elements-preserved-in-Continue-1 c =
    let es = c.elements.elements.items in
    let old = c.elements.frames.items in
    let y = c.index.result.now in
    let open_ : HasMore (reverse old) c.elements.todo = rw c.deref.ensures.value at c.in-None.ensures in
    let depth : c.len-then-size-gt0.result ≡ length old = c.len-then-size-gt0.ensures ∙ c.elements.frames.ok.0 in
    let some : size_in y ≡ suc (size_in y - 1) = omega (arith, c.size-size.ensures, c.if-size-gt0.true) in
    let first = c.elements.todo - 1 + 1 - c.size-size.result in
    let frame : Frame = record { kind = c.kind-kind.result; size = c.size-size.result; number = first + c.len-then-size-gt0.result; first = first } in
    let push_is = rw c.new-then-size-gt0.ensures at c.in_ok-push-in-None.ensures.items in
    let r =
    node_at (made c.args.text.now c.args.elements.items) es c.elements.todo c.elements.offset _ _ y frame (size_in y - 1)
    (omega (arith, c.elements.invariant.few)) c.if-todo-eq0.false c.index.ensures some c.kind-kind.ensures c.size-size.ensures open_
    c.elements.invariant.work in
    let before = length-entries_before (c.elements.todo - 1) es (omega (arith, c.elements.invariant.few)) in
    record {
      small = c.elements.invariant.small;
      few = omega (arith, c.elements.invariant.few, ap length push_is, length_push old frame);
      work =
          node_framed (made c.args.text.now c.args.elements.items) es c.elements.todo c.elements.offset old _ frame c.if-todo-eq0.false
          push_is
          (r.work (omega (arith, before, c.size-size.ensures)) (omega (arith, depth, length-reverse old)));
    }

pub overflow_sub-offset-else-size-gt0 : goal.overflow_sub-offset-else-size-gt0
overflow_sub-offset-else-size-gt0 c =
    let y = c.index.result.now in
    let open_ : HasMore (reverse c.elements.frames.items) c.elements.todo = rw c.deref.ensures.value at c.in-None.ensures in
    let none : size_in y ≡ 0 = omega (arith, c.size-size.ensures, c.if-size-gt0.false) in
    let r =
    leaf_at (made c.args.text.now c.args.elements.items) c.elements.elements.items c.elements.todo c.elements.offset _ _ y
    (omega (arith, c.elements.invariant.few)) c.if-todo-eq0.false c.index.ensures none open_ c.elements.invariant.work in
    omega (arith, r.fits, c.len_or_start-offset-else-size-gt0.ensures)

pub elements-preserved : goal.elements-preserved
elements-preserved c =
    let es = c.elements.elements.items in
    let old = c.elements.frames.items in
    let y = c.index.result.now in
    let open_ : HasMore (reverse old) c.elements.todo = rw c.deref.ensures.value at c.in-None.ensures in
    let none : size_in y ≡ 0 = omega (arith, c.size-size.ensures, c.if-size-gt0.false) in
    let r =
    leaf_at (made c.args.text.now c.args.elements.items) es c.elements.todo c.elements.offset _ _ y
    (omega (arith, c.elements.invariant.few)) c.if-todo-eq0.false c.index.ensures none open_ c.elements.invariant.work in
    let depth : c.len-else-size-gt0.result ≡ length old = c.len-else-size-gt0.ensures ∙ c.elements.frames.ok.0 in
    let parent : c.innermost_number-parent-else-size-gt0.result ≡ parent_or_root (parent_number (reverse old)) =
    rw c.deref-else-size-gt0.ensures.value at c.innermost_number-parent-else-size-gt0.ensures in
    let value = rw (c.kind-kind.ensures, c.len_or_start-offset-else-size-gt0.ensures, parent) at c.new-else-size-gt0.ensures in
    record {
      small = omega (arith, c.elements.invariant.small, length-set es (c.elements.todo - 1 + c.len-else-size-gt0.result) c.new-else-size-gt0.result);
      few =
          omega (arith, c.elements.invariant.few, length-set es (c.elements.todo - 1 + c.len-else-size-gt0.result) c.new-else-size-gt0.result);
      work =
          rw c.len_or_start-offset-else-size-gt0.ensures
          (leaf_placed (made c.args.text.now c.args.elements.items) es c.elements.todo c.elements.offset
          (c.elements.todo - 1 + c.len-else-size-gt0.result) old y.kind _ c.new-else-size-gt0.result c.elements.invariant.few c.if-todo-eq0.false
          (ap (λ n. c.elements.todo - 1 + n) depth) value r);
    }

pub returns : goal.returns
returns c =
    let frames = c.elements.frames.items in
    let open_ : HasMore (reverse frames) c.elements.todo = rw c.deref.ensures.value at c.in-None.ensures in
    placed_all (made c.args.text.now c.args.elements.items) c.elements.elements.items c.elements.todo c.elements.offset (length frames) (reverse frames)
    c.if-todo-eq0.true (omega (arith, length-reverse frames)) open_ c.elements.invariant.work
