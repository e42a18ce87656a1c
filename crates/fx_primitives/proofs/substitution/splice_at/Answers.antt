use Rattle.std.proofs.Common.{arith, ap, sym, length, length-append, ℕ}
use Rattle.fx_primitives.proofs.Replacing.{within_end, stretch_at, step_kept}
use Rattle.fx_primitives.proofs.substitution.splice_at.Goals as goal

pub offset_bounds-text-from : goal.offset_bounds-text-from
offset_bounds-text-from c =
    let e = within_end c.args.count (length c.args.text.now) c.loop-place.from _ c.loop-place.invariant.0 in
    omega arith

pub slice_bounds-extend_from_slice-end : goal.slice_bounds-extend_from_slice-end
slice_bounds-extend_from_slice-end c =
    let s = stretch_at c.args.count (length c.args.text.now) c.loop-place.from c.args.places.now c.loop-place.place-index (omega arith) c.loop-place.invariant.0 in
    omega arith

pub returns-then-len-gt-LONGEST : goal.returns-then-len-gt-LONGEST
returns-then-len-gt-LONGEST c =
    let k = step_kept c.args.count c.args.new.now c.args.text.now c.args.places.now c.loop-place.made.items _ c.loop-place.from c.loop-place.place-index (omega arith) c.loop-place.invariant.0 c.loop-place.invariant.1 in
    let a = c.in_ok-extend_from_slice.ensures.items in
    let b = c.in_ok-extend_from_slice-2.ensures.items in
    let n = simp length-append at (ap length k) in
    omega (arith, length-append {A = ℕ}, ap length a, ap length b, n)

pub overflow_add-from : goal.overflow_add-from
overflow_add-from c =
    let s = stretch_at c.args.count (length c.args.text.now) c.loop-place.from c.args.places.now c.loop-place.place-index (omega arith) c.loop-place.invariant.0 in
    omega arith

pub loop-place-preserved : goal.loop-place-preserved
loop-place-preserved c =
    let s = stretch_at c.args.count (length c.args.text.now) c.loop-place.from c.args.places.now c.loop-place.place-index (omega arith) c.loop-place.invariant.0 in
    let k = step_kept c.args.count c.args.new.now c.args.text.now c.args.places.now c.loop-place.made.items _ c.loop-place.from c.loop-place.place-index (omega arith) c.loop-place.invariant.0 c.loop-place.invariant.1 in
    let a = c.in_ok-extend_from_slice.ensures.items in
    let b = c.in_ok-extend_from_slice-2.ensures.items in
    (s.2, cc)
