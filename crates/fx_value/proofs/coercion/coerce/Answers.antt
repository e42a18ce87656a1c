use Rattle.fx_types.specs.TypeView.{shape}
use Rattle.fx_types.specs.ValueView.{view}
use Rattle.fx_value.proofs.Coercions.{can_widen, is_wide}
use Rattle.fx_value.proofs.coercion.coerce.Goals as goal

pub widen-requires : goal.widen-requires
widen-requires c =
    can_widen (view c.args.v) (shape c.args.to.now)
    (is_wide c.args.to.now c.in_default.not-Blank c.in_default.not-Number c.in_default.not-Text c.in_default.not-Boolean)
    c.requires
