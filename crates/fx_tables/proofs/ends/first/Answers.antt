use Rattle.std.proofs.Common.{◌≡◌, ◌∙◌, List, subst, sym, true}
use Rattle.fx_types.specs.Types.{tables}
use Rattle.fx_types.specs.Values.{tab, row_list}
use Rattle.fx_value.specs.Fits.{fits_in}
use Rattle.fx_value.specs.Columns.{Row}
use Rattle.fx_tables.proofs.FitRows.{first_fits}
use Rattle.fx_tables.proofs.ends.first.Goals as goal

pub returns-in-Some-clause-fits : goal.returns-in-Some-clause-fits
returns-in-Some-clause-fits c = λ cs h.
    let rest = c.next.new.self.rest.items in
    let all = sym c.into_items.ensures ∙ sym c.into_iter.ensures.rest ∙ c.in-Some.ensures.items in
    let P : List Row → Type 0 = λ rs. fits_in (tab (row_list rs)) (tables cs) ≡ true in
    first_fits c.in-Some.row rest cs (subst P all h)
