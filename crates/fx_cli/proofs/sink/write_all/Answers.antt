use Rattle.std.proofs.Common.{ℕ, ◌+◌, ◌∙◌, take, arith}
use Rattle.std.proofs.lemmas.List.{length-take, length-drop}
use Rattle.std.proofs.lemmas.Result.{err_from_is_err_and}
use Rattle.fx_base.specs.Telling.{Stays}
use Rattle.fx_base.proofs.Chains.{then_told}
use Rattle.fx_cli.specs.Telling.{Grows, GrowsInPart}
use Rattle.fx_cli.proofs.Written.{grows_more, grows_part}
use Rattle.fx_cli.proofs.sink.write_all.Goals as goal

pub returns-in_err-at-clause-err : goal.returns-in_err-at-clause-err
returns-in_err-at-clause-err g c =
    let p = err_from_is_err_and c.from_residual.result c.from_residual.ensures.1 in
    let text = c.args.text.now in
    let n = c.writing.at in
    rw p.1 (then_told (Grows (take n text)) Stays (GrowsInPart text) (grows_part text n c.writing-test.true) _ _ _ c.writing.invariant.told c.in_err-at.ensures.err)

pub writing-preserved : goal.writing-preserved
writing-preserved g c =
    let text = c.args.text.now in
    let n = c.writing.at in
    let m = c.in_ok-at.field-0 in
    record {
      within = omega (arith, c.in_ok-at.ensures.bound, length-take {A = ℕ}, length-drop {A = ℕ});
      told = then_told (Grows (take n text)) _ (Grows (take (n + m) text)) (grows_more text n m) _ _ _ c.writing.invariant.told c.in_ok-at.ensures.ok;
      same = c.in_ok-at.ensures.still ∙ c.writing.invariant.same;
    }
