use Rattle.std.proofs.Common.{◌≡◌, Some, subst}
use Rattle.std.specs.Prelude.{slice_get}
use Rattle.fx_core.specs.declared.schema.Schema.{Schema}
use Rattle.fx_deeds.proofs.Tabling.{shape_there}
use Rattle.fx_deeds.proofs.table_rows.shape_of.Goals as goal

pub returns : goal.returns
returns g c =
    let t = c.in-Some.shape.now in
    shape_there (g.W.Env.fixed c.args.world.now).schema c.args.table t _ (g.met.W.World.lawful c.args.world.now)
    (subst (λ (s : Schema). slice_get s.tables c.args.table ≡ Some t) c.schema.ensures c.in-Some.ensures) (λ i. record { name = c.in_ok-name.ensures i; columns = c.in_ok-columns.ensures i })
