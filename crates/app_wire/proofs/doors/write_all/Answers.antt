use Rattle.std.proofs.Common.{ℕ, refl, ◌+◌, take, ◌∙◌, arith}
use Rattle.std.proofs.lemmas.List.{length-take, length-drop}
use Rattle.std.proofs.lemmas.Result.{err_from_is_err_and}
use Rattle.app_wire.specs.Doorway.{Writes, WritesPart}
use Rattle.fx_base.specs.Telling.{Stays}
use Rattle.fx_base.proofs.Chains.{then_told}
use Rattle.app_wire.proofs.Doorways.{writes_none, write_more, part_sent}
use Rattle.app_wire.proofs.doors.write_all.Goals as goal

pub returns-in_err-at-clause-err : goal.returns-in_err-at-clause-err
returns-in_err-at-clause-err g c = let p = err_from_is_err_and c.from_residual.result c.from_residual.ensures.1 in rw p.1
    (then_told (Writes (take c.loop-at.at c.args.bytes.now)) Stays (WritesPart c.args.bytes.now) (part_sent c.args.bytes.now c.loop-at.at c.loop-at-test.true) _ _ _ c.loop-at.invariant.told c.in_err-at.ensures.err)

pub loop-at-init : goal.loop-at-init
loop-at-init g c = record {
  within = omega arith;
  told = λ a e. (a, e, writes_none a);
  single = refl;
  later = omega arith;
}

pub loop-at-preserved : goal.loop-at-preserved
loop-at-preserved g c = record {
  within = omega (arith, c.in_ok-at.ensures.bound, length-take {A = ℕ}, length-drop {A = ℕ});
  told = then_told (Writes (take c.loop-at.at c.args.bytes.now)) _ (Writes (take (c.loop-at.at + c.in_ok-at.field-0) c.args.bytes.now)) (write_more c.args.bytes.now c.loop-at.at c.in_ok-at.field-0) _ _ _ c.loop-at.invariant.told c.in_ok-at.ensures.ok;
  single = c.in_ok-at.ensures.single ∙ c.loop-at.invariant.single;
  later = omega (arith, c.loop-at.invariant.later, c.in_ok-at.ensures.cause.later);
}
