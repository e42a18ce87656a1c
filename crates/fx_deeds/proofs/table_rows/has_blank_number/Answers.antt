use Rattle.std.proofs.Common.{◌∙◌, ap, sym}
use Rattle.fx_types.specs.ValueView.{view}
use Rattle.fx_deeds.proofs.Tabling.{not_blank}
use Rattle.fx_deeds.specs.Deeds.{row_id_value}
use Rattle.fx_deeds.proofs.table_rows.has_blank_number.Goals as goal

pub returns-in-Blank-clause-blank : goal.returns-in-Blank-clause-blank
returns-in-Blank-clause-blank c = λ e. sym c.in_ok-number.ensures ∙ ap view c.in-Blank.is

pub returns-clause-other : goal.returns-clause-other
returns-clause-other c = λ e. not_blank c.in_ok-number.number (row_id_value (view c.args.base.now)) c.in_default.not-Blank c.in_ok-number.ensures
