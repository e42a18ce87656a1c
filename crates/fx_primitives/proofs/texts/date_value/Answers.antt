use Rattle.std.proofs.Common.{◌∙◌, sym}
use Rattle.fx_types.specs.Civil.{civil_of}
use Rattle.fx_types.proofs.CivilDays.{civil_is_date}
use Rattle.fx_primitives.proofs.DateTextLemmas.{value_is}
use Rattle.fx_primitives.proofs.texts.date_value.Goals as goal

pub returns-in-Some-clause-value : goal.returns-in-Some-clause-value
returns-in-Some-clause-value c =
    let same = sym c.as_bytes.ensures.value ∙ c.in-Some.ensures in
    rw c.ok_or.ensures.value (value_is c.day_of_date.result c.in-Some.date c.args.text.now c.day_of_date.ensures same)

pub returns-in-None-clause-value : goal.returns-in-None-clause-value
returns-in-None-clause-value c = λ z.
    (λ no. cc, λ p. absurd (c.in-None.ensures (civil_of z) (civil_is_date z p.0).0 (c.as_bytes.ensures.value ∙ p.1)))
