use Rattle.std.proofs.Common.{subst, sym}
use Rattle.fx_types.specs.Types.{texts}
use Rattle.fx_types.specs.ValueView.{view}
use Rattle.fx_types.specs.declared.values.Value.{Value}
use Rattle.fx_value.specs.Coercion.{CanCoerce}
use Rattle.fx_scalar.proofs.ErrorLemmas.{text_coercion}
use Rattle.fx_scalar.proofs.errors.as_text.Goals as goal

pub coerce-requires : goal.coerce-requires
coerce-requires c =
    let P : Value → Type 0 = λ v. CanCoerce (view v) texts in
    subst P (sym c.in_ok-copy-in_default.ensures) (text_coercion c.args.value.now c.in_default.not-Rec c.in_default.not-Tab)
