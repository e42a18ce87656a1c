use Rattle.std.proofs.Common.{◌∙◌, refl}
use Rattle.fx_types.proofs.date_texts.date_text.Goals as goal

pub returns : goal.returns
returns c =
    let date = c.from_plain-date.ensures in
    let year = c.plain_date.ensures.year in
    let month = c.plain_date.ensures.month in
    let day = c.plain_date.ensures.day in
    c.in_ok-format.ensures.ok ∙ rw (date, year, month, day) refl
