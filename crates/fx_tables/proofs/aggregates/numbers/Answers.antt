use Rattle.std.proofs.Common.{◌∙◌, ap}
use Rattle.fx_primitives.specs.Folds.{nonblank}
use Rattle.fx_tables.proofs.Numbers.{present_numbers}
use Rattle.fx_tables.proofs.aggregates.numbers.Goals as goal

pub returns : goal.returns
returns c = ap nonblank c.in_ok-each_number.ensures ∙ present_numbers c.args.values.now
