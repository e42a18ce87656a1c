use Rattle.std.proofs.Common.{Option, subst, sym}
use Rattle.fx_core.specs.declared.sources.Source.{Source}
use Rattle.session_requests.specs.Caching.{IsTouchedIf}
use Rattle.session_requests.proofs.writing.note.Goals as goal

pub returns-in-Ok-clause-touched : goal.returns-in-Ok-clause-touched
returns-in-Ok-clause-touched c = λ a. subst (λ (o : Option Source). IsTouchedIf a o c.args.cache.now c.touched.new.self) (sym c.in-Some.is) (c.touched.ensures.told a)
