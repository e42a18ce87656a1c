use Rattle.std.proofs.Common.{◌∙◌, ◌≡◌, ◌++◌, ap, subst, sym}
use Rattle.std.proofs.lemmas.List.{append-nil}
use Rattle.serde_json.specs.View.{members_view}
use Rattle.row_requests.specs.GivenRows.{AreScalars, given_in, given_view}
use Rattle.row_requests.proofs.GivenMembers.{given_scalars}
use Rattle.row_requests.proofs.bodies.given_in.Goals as goal

pub invariant_of-result : goal.invariant_of-result
invariant_of-result c =
    let done = given_view c.loop-key.items.items in
    let whole : done ≡ given_in (members_view c.args.members.now.entries) =
    sym (append-nil done) ∙ ap (λ es. done ++ given_in (members_view es)) (sym c.in-None.ensures.steps.0) ∙ c.loop-key.invariant in
    subst AreScalars (sym whole) (given_scalars (members_view c.args.members.now.entries))
