use Rattle.std.proofs.Common.{◌∙◌}
use Rattle.field_texts.proofs.Days.{spelled_is}
use Rattle.field_texts.proofs.spelled.spelled_day.Goals as goal

pub returns : goal.returns
returns c = c.ok.ensures.value ∙ spelled_is c.args.text.now c.date_value.result c.date_value.ensures.value
