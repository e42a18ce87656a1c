use Rattle.std.proofs.Common.{ℕ, List, map, subst, sym, ◌∙◌}
use Rattle.fx_core.specs.declared.functions.Fun.{Fun}
use Rattle.fx_tables.specs.Groups.{CanUngroup, last_name}
use Rattle.fx_value.specs.Columns.{Row}
use Rattle.fx_eval.specs.Given.{argument_values}
use Rattle.fx_eval.specs.TableCalls.{CanMake}
use Rattle.fx_eval.proofs.calls.over.Goals as goal

pub ungroup_by-requires : goal.ungroup_by-requires
ungroup_by-requires c =
    let gs = map argument_values c.args.answers.items in
    let can = subst (λ (f : Fun). CanMake f c.args.rows gs) c.in-Ungroup.is c.requires in
    let names = c.as_slice-in-Ungroup.ensures.value ∙ c.in_ok-names-in-Ungroup.ensures in
    subst (λ (rows : List Row). CanUngroup (last_name c.as_slice-in-Ungroup.result.now) rows) (sym c.rows-in-Ungroup.view_is)
    (subst (λ (ns : List (List ℕ)). CanUngroup (last_name ns) c.args.rows) (sym names) can.1)
