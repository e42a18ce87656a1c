use Rattle.std.proofs.Common.{◌∙◌, Option, ap, sym}
use Rattle.std.specs.Prelude.{unwrap_or}
use Rattle.fx_types.specs.Values.{Data, blank}
use Rattle.row_files.specs.Batches.{key_rule}
use Rattle.row_files.proofs.Steps.{no_value}
use Rattle.row_files.proofs.lines.key_rule.Goals as goal

pub returns-in-Some : goal.returns-in-Some
returns-in-Some c = c.rule_of_key.ensures ∙ ap (λ (o : Option Data). key_rule c.args.place c.args.before.now (unwrap_or o blank)) (sym c.in-Some.ensures)

pub returns-in-None : goal.returns-in-None
returns-in-None c = ap (key_rule c.args.place c.args.before.now) (sym (no_value c.args.cells.now c.args.place c.in-None.ensures))
