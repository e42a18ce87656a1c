use Rattle.std.proofs.Common.{◌≡◌, sym, ◌∙◌}
use Rattle.app_loader.proofs.Merging.{merge, merge_equal, merge_greater, merge_left, merge_less, merge_right, merged_has, merged_rises}
use Rattle.app_loader.proofs.supports.merge.Goals as goal
use Rattle.app_loader.proofs.supports.merge.Goals.{In_ok-extend_from_slice, In_ok-extend_from_slice-2}

pub loop-one-preserved-in-Less : goal.loop-one-preserved-in-Less
loop-one-preserved-in-Less c =
    merge_less c.loop-one.all.items c.push.new.self.items c.loop-one.left.now c.loop-one.right.now c.in-Some.ones.now c.in-Some-split_first.others.now (merge c.args.left.now c.args.right.now) c.in-Some.one.now c.in-Some-split_first.other.now
    c.in-Some.ensures.cases.0 c.in-Some-split_first.ensures.cases.0 c.loop-one.invariant (sym c.compare.ensures ∙ c.in-Less.is) c.in_ok-push-in-Less.ensures.items

pub loop-one-preserved-in-Equal : goal.loop-one-preserved-in-Equal
loop-one-preserved-in-Equal c =
    merge_equal c.loop-one.all.items c.loop-one.all.items c.loop-one.left.now c.loop-one.right.now c.in-Some.ones.now c.in-Some-split_first.others.now (merge c.args.left.now c.args.right.now) c.in-Some.one.now c.in-Some-split_first.other.now
    c.in-Some.ensures.cases.0 c.in-Some-split_first.ensures.cases.0 c.loop-one.invariant (sym c.compare.ensures ∙ c.in-Equal.is)

pub loop-one-preserved : goal.loop-one-preserved
loop-one-preserved c =
    merge_greater c.loop-one.all.items c.push-in-Greater.new.self.items c.loop-one.left.now c.loop-one.right.now c.in-Some.ones.now c.in-Some-split_first.others.now (merge c.args.left.now c.args.right.now) c.in-Some.one.now c.in-Some-split_first.other.now
    c.in-Some.ensures.cases.0 c.in-Some-split_first.ensures.cases.0 c.loop-one.invariant (sym c.compare.ensures ∙ c.in-Greater.is) c.in_ok-push-in-Greater.ensures.items

whole_left : (c : In_ok-extend_from_slice) → c.extend_from_slice.new.self.items ≡ merge c.args.left.now c.args.right.now
whole_left c =
    merge_left c.loop-one.all.items c.extend_from_slice.new.self.items c.loop-one.left.now c.loop-one.right.now (merge c.args.left.now c.args.right.now) c.in_default-split_first.ensures.cases c.loop-one.invariant
    c.in_ok-extend_from_slice.ensures.items

pub returns-in_default-split_first-clause-once : goal.returns-in_default-split_first-clause-once
returns-in_default-split_first-clause-once c = merged_rises c.args.left.now c.args.right.now c.extend_from_slice.new.self.items c.requires.left c.requires.right (whole_left c)

pub returns-in_default-split_first-clause-exact : goal.returns-in_default-split_first-clause-exact
returns-in_default-split_first-clause-exact c = merged_has c.args.left.now c.args.right.now c.extend_from_slice.new.self.items (whole_left c)

whole : (c : In_ok-extend_from_slice-2) → c.extend_from_slice-2.new.self.items ≡ merge c.args.left.now c.args.right.now
whole c =
    merge_right c.loop-one.all.items c.extend_from_slice-2.new.self.items c.loop-one.left.now c.loop-one.right.now (merge c.args.left.now c.args.right.now) c.in_default.ensures.cases c.loop-one.invariant
    c.in_ok-extend_from_slice-2.ensures.items

pub returns-clause-once : goal.returns-clause-once
returns-clause-once c = merged_rises c.args.left.now c.args.right.now c.extend_from_slice-2.new.self.items c.requires.left c.requires.right (whole c)

pub returns-clause-exact : goal.returns-clause-exact
returns-clause-exact c = merged_has c.args.left.now c.args.right.now c.extend_from_slice-2.new.self.items (whole c)
