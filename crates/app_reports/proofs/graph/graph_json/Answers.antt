use Rattle.app_reports.specs.Graph.{graph_text}
use Rattle.app_reports.proofs.GraphFloats.{graph_has_none}
use Rattle.app_reports.proofs.graph.graph_json.Goals as goal

pub returns : goal.returns
unfolding graph_text
returns c =
    let text = rw c.in_ok-whole.ensures at c.in_ok-to_string.ensures.text in
    text (graph_has_none c.args.app.now)
