use Rattle.session_state.proofs.Fitting.{fits_after}
use Rattle.session_state.proofs.session.Session.change.Goals as goal

pub returns-clause-fits : goal.returns-clause-fits
returns-clause-fits c = λ names f g. fits_after names c.args.change c.args.self.now c.make.new.self c.make.result c.make.ensures.changed c.make.ensures.err f g
