use Rattle.std.proofs.Common.{◌∷◌, ◌∙◌, None, ap}
use Rattle.row_books.specs.Numbers.{numbers_of}
use Rattle.row_totals.proofs.carrying.make_ready.Goals as goal

pub returns-clause-numbers : goal.returns-clause-numbers
returns-clause-numbers c = c.in_ok-put.ensures ∙ ap (λ values. None ∷ numbers_of values) c.as_slice.ensures
