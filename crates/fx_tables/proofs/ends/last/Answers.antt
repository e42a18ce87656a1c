use Rattle.std.proofs.Common.{◌∙◌, sym}
use Rattle.fx_tables.proofs.FitRows.{last_fits}
use Rattle.fx_tables.proofs.ends.last.Goals as goal

pub returns-in-Some-clause-fits : goal.returns-in-Some-clause-fits
returns-in-Some-clause-fits c = λ cs h. last_fits c.pop.new.self.items c.in-Some.row c.args.rows cs (sym c.into_items-items.ensures ∙ c.in-Some.ensures.items) h
