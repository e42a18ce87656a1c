use Rattle.std.specs.Prelude.{None}
use Rattle.fx_core.specs.Rules.{rule_number}
use Rattle.fx_infer.specs.Written.{formula_may_act, formula_place}
use Rattle.fx_infer.proofs.Wholes.{ends_admitted, ends_told, whole_broken}
use Rattle.fx_infer.proofs.elaboration.elaborate_alone.Goals as goal

pub returns-clause-admitted : goal.returns-clause-admitted
returns-clause-admitted c =
    let w = c.args.cell.now in
    ends_admitted (formula_place c.args.names.now w) (formula_may_act w.place) None w.expr w.cell c.judge_cell.result c.judge_cell.ensures

pub returns-clause-broken : goal.returns-clause-broken
returns-clause-broken c =
    let w = c.args.cell.now in
    let p = formula_place c.args.names.now w in
    λ b k. whole_broken p (formula_may_act w.place) None w.expr b.at (rule_number b.rule) b.detail
    (ends_told p (formula_may_act w.place) None w.expr w.cell c.judge_cell.result b c.judge_cell.ensures k).0
