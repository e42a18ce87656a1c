use Rattle.std.proofs.Common.{◌≡◌, ◌∙◌, ◌∷◌, sym}
use Rattle.std.specs.Prelude.{option_map}
use Rattle.std.specs.List.{find}
use Rattle.std.proofs.lemmas.Result.{IfOk-weaker}
use Rattle.fx_types.specs.ValueView.{view}
use Rattle.fx_tables.specs.Unions.{is_fault}
use Rattle.fx_deeds.proofs.Tabling.{fault_found, not_fault, rest_faults}
use Rattle.fx_deeds.specs.Deeds.{row_id_value}
use Rattle.fx_deeds.specs.RowValues.{values_among}
use Rattle.fx_deeds.proofs.table_rows.error_of.Goals as goal

pub returns-in-Fault : goal.returns-in-Fault
returns-in-Fault c = fault_found (row_id_value (view c.args.base.now)) (values_among c.args.changes.now) c.in_ok-number.number c.in-Fault.fault c.in-Fault.is c.in_ok-number.ensures

pub returns : goal.returns
returns c =
    let d = row_id_value (view c.args.base.now) in
    let ds = values_among c.args.changes.now in
    IfOk-weaker c.error_among.result (λ e. option_map view e ≡ find is_fault ds) (λ e. option_map view e ≡ find is_fault (d ∷ ds))
    (λ o e. e ∙ sym (rest_faults d ds c.in_ok-number.number (not_fault c.in_ok-number.number c.in_default.not-Fault) c.in_ok-number.ensures)) c.error_among.ensures
