use Rattle.std.proofs.Common.{◌≡◌, ◌++◌, ℕ, ◌+◌, map, flat_map, subst, arith}
use Rattle.std.specs.List.{range_with_len}
use Rattle.app_wire.specs.Framing.{asked}
use Rattle.sample_app.specs.Sample.{works as works_of}
use Rattle.sample_app.proofs.Pushed.{more_lists}
use Rattle.sample_app.proofs.making.push_works.Goals as goal

pub loop-before-preserved : goal.loop-before-preserved
loop-before-preserved c =
    more_lists works_of 1 (map asked c.args.all.now.items) (map asked c.loop-before.all.items) (map asked c.push_work.new.all.items) c.loop-before.before (c.loop-before.before + 1) (omega arith)
    c.loop-before.invariant c.in_ok-push_work.ensures

pub returns : goal.returns
returns c =
    let whole : c.loop-before.before ≡ 2000 = omega (arith, c.loop-before-test.false, c.loop-before.auto.before-end) in
    subst (λ (n : ℕ). map asked c.loop-before.all.items ≡ map asked c.args.all.now.items ++ flat_map works_of (range_with_len 1 n)) whole c.loop-before.invariant
