use Rattle.std.proofs.Common.{◌≡◌, map, take}
use Rattle.std.specs.Prelude.{codes}
use Rattle.serde_json.specs.Data.{member, no_members, number, unsigned}
use Rattle.serde_json.specs.View.{members_view}
use Rattle.fx_types.specs.ValueView.{view}
use Rattle.row_requests.specs.Page.{with_values}
use Rattle.row_requests.proofs.page.row_json.Given as goal

abbrev pub invariant-loop-place : goal.invariant-loop-place
invariant-loop-place l =
    members_view l.members.entries
    ≡ with_values (take l.place l.columns) (take l.place (map view l.cells)) (member (codes "ID") (number (unsigned l.row.id)) no_members)
