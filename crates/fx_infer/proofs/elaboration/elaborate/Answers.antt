use Rattle.std.proofs.Common.{option_map, refl}
use Rattle.std.proofs.lemmas.Result.{IfOk-weaker}
use Rattle.fx_types.specs.TypeView.{shape}
use Rattle.fx_core.specs.Rules.{rule_number}
use Rattle.fx_typing.specs.TypedView.{typed}
use Rattle.fx_infer.specs.Written.{formula_may_act, formula_place}
use Rattle.fx_infer.proofs.Wholes.{ends_admitted, ends_typed, ends_told, whole_broken}
use Rattle.fx_infer.proofs.elaboration.elaborate.Goals as goal

pub returns-clause-admitted : goal.returns-clause-admitted
returns-clause-admitted c =
    let w = c.args.cell.now in
    ends_admitted (formula_place c.args.names.now w) (formula_may_act w.place) (option_map shape w.wanted) w.expr w.cell c.judge_cell.result c.judge_cell.ensures

pub returns-clause-well_typed : goal.returns-clause-well_typed
returns-clause-well_typed c =
    let w = c.args.cell.now in
    ends_typed (formula_place c.args.names.now w) (formula_may_act w.place) (option_map shape w.wanted) w.expr w.cell c.judge_cell.result
    (λ x h. c.admitted_is_typed.ensures.typed (formula_place c.args.names.now w) (formula_may_act w.place) (option_map shape w.wanted) w.expr x c.requires.lawful h)
    c.judge_cell.ensures

pub returns-clause-broken : goal.returns-clause-broken
returns-clause-broken c =
    let w = c.args.cell.now in
    let p = formula_place c.args.names.now w in
    λ b k. whole_broken p (formula_may_act w.place) (option_map shape w.wanted) w.expr b.at (rule_number b.rule) b.detail
    (ends_told p (formula_may_act w.place) (option_map shape w.wanted) w.expr w.cell c.judge_cell.result b c.judge_cell.ensures k).0

pub returns-clause-told : goal.returns-clause-told
returns-clause-told c =
    let w = c.args.cell.now in
    λ b k. (ends_told (formula_place c.args.names.now w) (formula_may_act w.place) (option_map shape w.wanted) w.expr w.cell c.judge_cell.result b c.judge_cell.ensures k).0

pub returns-clause-cell : goal.returns-clause-cell
returns-clause-cell c =
    let w = c.args.cell.now in
    λ b k. (ends_told (formula_place c.args.names.now w) (formula_may_act w.place) (option_map shape w.wanted) w.expr w.cell c.judge_cell.result b c.judge_cell.ensures k).1

pub returns-clause-related : goal.returns-clause-related
returns-clause-related c =
    let w = c.args.cell.now in
    let p = formula_place c.args.names.now w in
    IfOk-weaker c.judge_cell.result _ _ (λ t h. c.admitted_elaborates.ensures.whole p (formula_may_act w.place) (option_map shape w.wanted) w.expr (typed t) refl h)
    (ends_admitted p (formula_may_act w.place) (option_map shape w.wanted) w.expr w.cell c.judge_cell.result c.judge_cell.ensures)

pub returns-clause-unrelated : goal.returns-clause-unrelated
returns-clause-unrelated c =
    let w = c.args.cell.now in
    let p = formula_place c.args.names.now w in
    λ b k. c.broken_elaborates_nothing.ensures.whole p (formula_may_act w.place) (option_map shape w.wanted) w.expr b.at (rule_number b.rule) refl
    (whole_broken p (formula_may_act w.place) (option_map shape w.wanted) w.expr b.at (rule_number b.rule) b.detail
    (ends_told p (formula_may_act w.place) (option_map shape w.wanted) w.expr w.cell c.judge_cell.result b c.judge_cell.ensures k).0)
