use Rattle.std.proofs.Common.{◌≡◌, map, take}
use Rattle.session_requests.specs.recalc.Values.{value_of}
use Rattle.office.specs.NamedReply.{formulas_by_name, reply_row}
use Rattle.office.proofs.named.name_values.Given as goal

abbrev pub invariant-loop-formula : goal.invariant-loop-formula
invariant-loop-formula l = map reply_row l.rows.items ≡ map (formulas_by_name (value_of l.values)) (take l.formula-index l.app.names.formulas)
