use Rattle.fx_types.specs.ValueView.{view}
use Rattle.view_text.proofs.Floats.{event_has_none}
use Rattle.view_text.proofs.views.event_json.Goals as goal

pub returns : goal.returns
returns c =
    let text = rw c.in_ok-whole.ensures at c.in_ok-to_string.ensures.text in
    text (event_has_none c.args.notices.now c.args.seq (view c.args.value.now))
