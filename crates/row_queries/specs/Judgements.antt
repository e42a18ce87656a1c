-- What row tests come to, in the program.
use Rattle.row_queries.specs.RowTests.{Outcome, met, unmet, failed}
use Rattle.row_queries.specs.declared.outcomes.Judgement.{Judgement}
use Rattle.row_queries.specs.declared.outcomes.Judgement.TheVariants as j

abbrev pub judged_outcome : Judgement → Outcome
judged_outcome j.Met = met
judged_outcome j.Unmet = unmet
judged_outcome (j.Failed f) = failed f.now.kind f.now.message
