use Rattle.std.proofs.Common.{◌≡◌, ◌∙◌, subst, sym, true}
use Rattle.fx_types.specs.TypeView.{shape}
use Rattle.fx_typing.proofs.Same.{shape_same}
use Rattle.fx_typing.specs.Ways.{same_shape}
use Rattle.recalc.proofs.Finding.{shape_itself}
use Rattle.recalc.proofs.trees.is_same_type.Goals as goal

pub returns : goal.returns
returns c = (
  λ t. shape_same (shape c.args.a.now) (shape c.args.b.now) (sym c.same_shape.ensures ∙ t),
  λ e. c.same_shape.ensures ∙ subst (λ u. same_shape (shape c.args.a.now) u ≡ true) e (shape_itself (shape c.args.a.now)),
)
