use Rattle.view_text.proofs.Floats.{refusal_has_none}
use Rattle.view_text.proofs.refused.refusal_json.Goals as goal

pub returns : goal.returns
returns c =
    let text = rw c.in_ok-whole.ensures at c.in_ok-to_string.ensures.text in
    text (refusal_has_none c.args.refusal.now)
