use Rattle.std.proofs.Common.{◌≡◌, ap, rules, subst, sym}
use Rattle.std.specs.Prelude.{flat_map}
use Rattle.std.specs.List.{All}
use Rattle.std.proofs.lemmas.List.Elements.{All-head, All-rest}
use Rattle.fx_tables.specs.Groups.{CanUngroup, IsApart, rows_under, value_of}
use Rattle.fx_tables.specs.TableRows.{rows_in}
use Rattle.fx_value.specs.Columns.{Row, fields_without}
use Rattle.fx_group.proofs.JoinedSteps.{groups_more}
use Rattle.fx_group.proofs.ungrouping.ungroup_rows.Goals as goal

pub loop-row-init : goal.loop-row-init
loop-row-init c =
    let g = c.args.group.now in
    let e : c.into_iter-row-iterator.result.rest.items ≡ c.args.rows = search rules in
    record {
      value = rw c.new-all.ensures.items (ap (flat_map (rows_under g)) e);
      can = subst (CanUngroup g) (sym e) c.requires;
    }

pub put_group-requires : goal.put_group-requires
put_group-requires c =
    let g = c.args.group.now in
    let P = λ (r : Row). All (IsApart (fields_without g r)) (rows_in (value_of g r)) in
    All-head P c.in-Some.row c.next.new.self.rest.items (subst (All P) c.in-Some.ensures.steps.0 c.loop-row.invariant.can)

pub loop-row-preserved : goal.loop-row-preserved
loop-row-preserved c =
    let g = c.args.group.now in
    let P = λ (r : Row). All (IsApart (fields_without g r)) (rows_in (value_of g r)) in
    let left = c.in-Some.ensures.steps.0 in
    record {
      value = groups_more g c.loop-row.all.items c.in-Some.row c.next.new.self.rest.items _ _ _ left c.in_ok-put_group.ensures c.loop-row.invariant.value;
      can = All-rest P c.in-Some.row c.next.new.self.rest.items _ left c.loop-row.invariant.can;
    }
