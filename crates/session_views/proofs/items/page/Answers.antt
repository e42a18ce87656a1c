use Rattle.session_views.proofs.Pages.{page_is}
use Rattle.session_views.proofs.items.page.Goals as goal

pub returns : goal.returns
returns c = page_is c.args.behind c.min-start.result c.min-end.result c.args.rows.now c.min-start.ensures c.min-end.ensures
