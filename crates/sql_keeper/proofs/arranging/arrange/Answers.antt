use Rattle.std.proofs.Common.{◌≡◌, true, List, subst, sym}
use Rattle.std.specs.List.{AllByRecursion}
use Rattle.row_queries.specs.Queries.{lies}
use Rattle.row_queries.specs.TableRows.{AreInIdOrder, IsHeldRow}
use Rattle.row_queries.specs.declared.rows.Row.{Row}
use Rattle.sql_keeper.proofs.AskedLemmas.{asked_of, fit_all, moved}
use Rattle.sql_keeper.proofs.arranging.arrange.Goals as goal

pub all_lie-requires : goal.all_lie-requires
all_lie-requires c =
    subst (λ (l : List Row). AllByRecursion (IsHeldRow c.args.table.now) l) (sym c.as_slice-2.ensures.value)
    (moved (IsHeldRow c.args.table.now) c.args.rows.items c.sort_rows.new.rows.items c.in_ok-sort_rows.ensures.permutation c.requires)

pub returns-clause-asked : goal.returns-clause-asked
returns-clause-asked c =
    let q = c.args.query.now in
    asked_of c.args.table.now q c.args.rows.items c.sort_rows.new.rows.items c.sort_rows-2.new.rows.items c.requires c.in_ok-sort_rows.ensures.permutation
    (subst (λ (l : List Row). AreInIdOrder l) c.as_slice.ensures.value (c.ids_rise.ensures c.if-not-ids_rise.false))
    (subst (λ (l : List Row). AllByRecursion (λ (r : Row). lies q r ≡ true) l) c.as_slice-2.ensures.value (c.in_ok-all_lie.ensures c.if-not-branch.false))
    c.in_ok-sort_rows-2.ensures.permutation c.in_ok-sort_rows-2.ensures.sorted

pub returns-clause-fit : goal.returns-clause-fit
returns-clause-fit c =
    let P = IsHeldRow c.args.table.now in
    fit_all c.args.table.now c.sort_rows-2.new.rows.items
    (moved P c.sort_rows.new.rows.items c.sort_rows-2.new.rows.items c.in_ok-sort_rows-2.ensures.permutation (moved P c.args.rows.items c.sort_rows.new.rows.items c.in_ok-sort_rows.ensures.permutation c.requires))
