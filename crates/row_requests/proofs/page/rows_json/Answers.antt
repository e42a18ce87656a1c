use Rattle.row_requests.proofs.Given.{same_length}
use Rattle.row_requests.proofs.Pages.{shown_at}
use Rattle.row_requests.proofs.page.rows_json.Goals as goal

pub row_json-requires : goal.row_json-requires
row_json-requires c =
    same_length c.args.columns.now c.row-item.result.cells
    (shown_at c.args.columns.now c.args.rows.now c.loop-row.row-index c.row-item.result c.requires c.loop-row-test.true c.row-item.is)
