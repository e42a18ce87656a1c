use Rattle.std.proofs.Common.{◌∙◌, ◌-◌, ap, sym}
use Rattle.row_requests.specs.Changes.{column_name_at}
use Rattle.row_requests.proofs.Names.{empty_is, no_name}
use Rattle.csv_requests.proofs.refusals.name_at.Goals as goal

pub returns-in-None-get : goal.returns-in-None-get
returns-in-None-get c =
    empty_is ∙ no_name c.args.columns.now c.in-Some.number c.saturating_sub.result c.in-None-get.ensures.lookup.3 (c.saturating_sub.ensures ∙ ap (λ m. m - 1) c.from.ensures)
    ∙ sym (ap (column_name_at c.args.columns.now) c.in-Some.is)

pub returns-in-None : goal.returns-in-None
returns-in-None c = empty_is ∙ sym (ap (column_name_at c.args.columns.now) c.in-None.is)
