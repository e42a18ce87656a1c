use Rattle.std.proofs.Common.{ap, subst, sym, ◌∙◌}
use Rattle.std.specs.List.{All}
use Rattle.std.proofs.lemmas.List.Elements.{All-head, All-rest}
use Rattle.fx_tables.proofs.ColumnSteps.{step_rows}
use Rattle.fx_tables.specs.Groups.{IsApart, with_fields}
use Rattle.fx_value.specs.Columns.{Row}
use Rattle.fx_group.proofs.ungrouping.put_beside.Goals as goal

pub joined-requires : goal.joined-requires
joined-requires c =
    let others = c.args.others.now in
    let here = All-head (IsApart others) c.in-Some.row c.next.new.self.rest.items (subst (All (IsApart others)) c.in-Some.ensures.steps.0 c.loop-row.invariant.free) in
    subst (λ z. IsApart z c.in-Some.row) (sym c.in_ok-copy.ensures) here

pub loop-row-preserved : goal.loop-row-preserved
loop-row-preserved c =
    let others = c.args.others.now in
    let rest = c.next.new.self.rest.items in
    let left = c.in-Some.ensures.steps.0 in
    let made = c.in_ok-joined.ensures ∙ ap (λ o. with_fields c.in-Some.row o) c.in_ok-copy.ensures in
    record {
      value = rw c.in_ok-push.ensures.items (step_rows (λ (s : Row). with_fields s others) c.loop-row.all.items c.in-Some.row rest _ _ _ left made c.loop-row.invariant.value);
      free = All-rest (IsApart others) c.in-Some.row rest _ left c.loop-row.invariant.free;
    }
