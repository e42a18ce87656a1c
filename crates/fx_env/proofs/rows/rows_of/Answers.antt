use Rattle.std.proofs.Common.{◌≡◌, false, refl, subst, sym}
use Rattle.fx_types.specs.ValueView.{view}
use Rattle.fx_types.specs.declared.values.Value.{Value}
use Rattle.fx_semantics.specs.Rows.{rows_in}
use Rattle.fx_semantics.proofs.RowsBack.{rows_back}
use Rattle.fx_tables.specs.Unions.{is_fault}
use Rattle.fx_env.proofs.rows.rows_of.Goals as goal

pub returns-in-Tab : goal.returns-in-Tab
returns-in-Tab c =
    let P : Value → Type 0 = λ t. (c.in-Tab.rows ≡ rows_in (view t)) × (is_fault (view t) ≡ false) in
    subst P (sym c.in-Tab.is) (rows_back c.in-Tab.rows, refl)
