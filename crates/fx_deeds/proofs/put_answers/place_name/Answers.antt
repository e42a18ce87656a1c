use Rattle.std.proofs.Common.{◌≡◌, ◌-◌, arith, suc, Some, subst, sym}
use Rattle.std.specs.Prelude.{IfOk}
use Rattle.fx_deeds.specs.RowValues.{column_name}
use Rattle.fx_deeds.proofs.put_answers.place_name.Goals as goal

pub returns-then-place-eq0 : goal.returns-then-place-eq0
returns-then-place-eq0 c =
    let zero : c.args.place ≡ 0 = grind (arith, c.if-place-eq0.true) in
    subst (λ n. IfOk c.id_name.result (λ w. w ≡ column_name c.args.columns.now (Some n))) (sym zero) c.id_name.ensures

pub returns : goal.returns
returns c =
    let more : c.args.place ≡ suc (c.args.place - 1) = grind (arith, c.if-place-eq0.false) in
    subst (λ n. IfOk c.name_at.result (λ w. w ≡ column_name c.args.columns.now (Some n))) (sym more) c.name_at.ensures
