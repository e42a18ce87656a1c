use Rattle.session_state.proofs.Fitting.{held_fits}
use Rattle.session_state.proofs.session.Session.get.Goals as goal

pub returns-in-Gathered-clause-fits : goal.returns-in-Gathered-clause-fits
returns-in-Gathered-clause-fits c = λ names t f e. held_fits names c.args.self.now c.args.source t c.requires f e

pub returns-in-Some-clause-fits : goal.returns-in-Some-clause-fits
returns-in-Some-clause-fits c = λ names t f e. held_fits names c.args.self.now c.args.source t c.requires f e

pub returns-in-None-clause-fits : goal.returns-in-None-clause-fits
returns-in-None-clause-fits c = λ names t f e. held_fits names c.args.self.now c.args.source t c.requires f e

pub returns-in-Global-clause-fits : goal.returns-in-Global-clause-fits
returns-in-Global-clause-fits c = λ names t f e. held_fits names c.args.self.now c.args.source t c.requires f e
