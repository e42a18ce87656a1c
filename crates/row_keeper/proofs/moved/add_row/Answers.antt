use Rattle.std.proofs.Common.{◌≡◌, ◌∙◌, ◌+◌, ◌++◌, ◌∷◌, ◌-◌, [], ap, arith, max}
use Rattle.row_keeper.specs.TableView.{TableView}
use Rattle.row_keeper.proofs.moved.add_row.Goals as goal

pub returns : goal.returns
returns c =
    let was = c.args.table.now in
    let id = c.args.row.now.id in
    let number : max was.now.last (id - 1) + 1 ≡ id = omega (arith, c.requires.above) in
    let seen : TableView → TableView = λ t. record { columns = t.columns; now = record { rows = t.now.rows ++ record { id = t.now.last + 1; cells = c.in_ok-cells.cells } ∷ []; last = t.now.last + 1 }; then = t.then } in
    c.in_ok-insert.ensures.ok ∙ ap seen c.skip_to.ensures
    ∙ (λ k. record { columns = was.columns; now = record { rows = was.now.rows ++ record { id = number k; cells = c.in_ok-cells.ensures k } ∷ []; last = number k }; then = was.then })
