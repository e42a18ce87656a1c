use Rattle.std.proofs.Common.{ap, nat_eq, ◌∙◌}
use Rattle.serde_json.specs.View.{view}
use Rattle.app_file.proofs.Controls.{empty_elements, no_elements}
use Rattle.app_file.proofs.screens.is_empty_list.Goals as goal

pub returns-in-Some : goal.returns-in-Some
returns-in-Some c = c.is_empty.ensures ∙ ap (λ k. nat_eq k 0) c.in-Some.items.now.ok.0 ∙ empty_elements c.in-Some.items.now.items (view c.args.part.now) c.in-Some.ensures

pub returns-in-None : goal.returns-in-None
returns-in-None c = no_elements (view c.args.part.now) c.in-None.ensures
