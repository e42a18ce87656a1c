use Rattle.view_text.proofs.Floats.{all_named_has_none}
use Rattle.view_text.proofs.replies.named_json.Goals as goal

pub returns : goal.returns
returns c =
    let text = rw c.in_ok-whole.ensures at c.in_ok-to_string.ensures.text in
    text (all_named_has_none c.args.rows.now)
