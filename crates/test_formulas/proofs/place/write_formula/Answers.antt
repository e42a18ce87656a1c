use Rattle.std.specs.Str.{chars}
use Rattle.test_formulas.proofs.place.write_formula.Goals as goal

pub returns-in-Ok : goal.returns-in-Ok
returns-in-Ok c = record { shallow = c.no_deeper.ensures.formula 64 (chars c.args.text.now) c.in-Ok.expr c.in-Ok.ensures.tree }
