use Rattle.app_names.proofs.NameSteps.{name_more}
use Rattle.app_names.proofs.name_sets.put_name.Goals as goal

pub returns : goal.returns
returns c = λ xs h. name_more c.args.names.now c.insert.new.self c.args.name.now xs (rw c.in_ok-copy.ensures at c.in_ok-insert.ensures.updates.0) h
