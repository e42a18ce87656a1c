use Rattle.std.proofs.Common.{subst, sym}
use Rattle.fx_tables.specs.Groups.{CanUngroup}
use Rattle.fx_group.proofs.ungrouping.ungroup.Goals as goal

pub ungroup_rows-requires : goal.ungroup_rows-requires
ungroup_rows-requires c = subst (λ g. CanUngroup g c.args.rows) (sym c.in_ok-group.ensures) c.requires
