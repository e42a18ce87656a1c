use Rattle.view_text.proofs.Floats.{items_reply_has_none}
use Rattle.view_text.proofs.views.items_json.Goals as goal

pub returns : goal.returns
returns c =
    let text = rw c.in_ok-whole.ensures at c.in_ok-to_string.ensures.text in
    text (items_reply_has_none c.args.items.now)
