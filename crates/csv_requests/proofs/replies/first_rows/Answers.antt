use Rattle.csv_requests.proofs.Pages.{first_of_all}
use Rattle.csv_requests.proofs.replies.first_rows.Goals as goal

pub returns : goal.returns
returns c = first_of_all c.args.rows.now c.min.result c.min.ensures
