use Rattle.std.proofs.Common.{◌≤◌, ◌∙◌, ◌++◌, ◌∷◌, [], ap, arith, subst, sym, take}
use Rattle.std.specs.List.{AllByRecursion}
use Rattle.std.proofs.lemmas.List.{take_more}
use Rattle.row_lines.proofs.CellLemmas.{all_more}
use Rattle.row_queries.specs.declared.rows.Row.{Row}
use Rattle.sql_keeper.proofs.moving.ids_are_given.Goals as goal

pub loop-row-preserved : goal.loop-row-preserved
loop-row-preserved c =
    let rows = c.args.rows.now in
    let i = c.loop-row.row-index in
    let r = c.row-item.result in
    subst (AllByRecursion (λ (x : Row). x.id ≤ c.args.last)) (sym (take_more rows i r c.loop-row-test.true ∙ ap (λ x. take i rows ++ x ∷ []) (sym c.row-item.is)))
    (all_more (λ (x : Row). x.id ≤ c.args.last) (take i rows) r c.loop-row.invariant (omega arith))
