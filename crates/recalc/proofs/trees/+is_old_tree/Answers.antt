use Rattle.std.proofs.Common.{◌≤◌, arith, refl}
use Rattle.recalc.proofs.Parts.{everywhere, part_is_smaller, tree_all, tree_each}
use Rattle.recalc.specs.Carrying.{IsOldSource, subtrees}
use Rattle.recalc.proofs.trees.+is_old_tree.Goals as goal

pub is_old_part-is_old_tree-requires : goal.is_old_part-is_old_tree-requires
is_old_part-is_old_tree-requires t c = (
  let h = part_is_smaller c.args.tree.now c.args.place c.in-Some-Some.one.now c.in-Some-Some.ensures in omega (arith, h),
  c.requires,
)

pub is_old_tree-returns-then-not-is_old_part : goal.is_old_tree-returns-then-not-is_old_part
is_old_tree-returns-then-not-is_old_part t c = (
  λ yes. absurd cc,
  λ o. c.if-not-is_old_part.ensures.1 (tree_each (IsOldSource c.args.old.now c.args.new.now) c.args.tree.now c.args.was.now o c.loop-place.place),
)

pub is_old_tree-returns-else-not-is_old_part : goal.is_old_tree-returns-else-not-is_old_part
is_old_tree-returns-else-not-is_old_part t c =
    let low : c.last_place.result ≤ c.loop-place.place = omega arith in
    let high : c.last_place-2.result ≤ c.loop-place.place = omega arith in
    let parts = everywhere (IsOldSource c.args.old.now c.args.new.now) (subtrees c.args.tree.now) (subtrees c.args.was.now) c.last_place.result c.last_place-2.result c.loop-place.place
    c.last_place.ensures c.last_place-2.ensures low high c.loop-place.invariant (c.is_old_part.ensures.0 c.if-not-is_old_part.false) in (
      λ yes. tree_all (IsOldSource c.args.old.now c.args.new.now) c.args.tree.now c.args.was.now (c.is_old_top.ensures.0 c.if-not-is_old_top.false) parts,
      λ o. refl,
    )
