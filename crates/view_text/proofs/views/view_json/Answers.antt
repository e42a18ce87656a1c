use Rattle.view_text.proofs.Floats.{view_has_none}
use Rattle.view_text.proofs.views.view_json.Goals as goal

pub returns : goal.returns
returns c =
    let text = rw c.in_ok-whole.ensures at c.in_ok-to_string.ensures.text in
    text (view_has_none c.args.view.now)
