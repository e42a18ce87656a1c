use Rattle.std.proofs.Common.{◌≡◌, ◌∙◌, ◌+◌, ℕ, List, subst}
use Rattle.std.specs.Prelude.{IfOk}
use Rattle.app_wire.specs.Framing.{asked}
use Rattle.sample_app.specs.Sample.{changes as changes_of}
use Rattle.sample_app.proofs.making.checks.Goals as goal

pub returns : goal.returns
returns c =
    let text = c.as_str.ensures.value ∙ c.in_ok-list.ensures.ok in
    subst (λ (t : List ℕ). IfOk c.changes.result (λ r. asked r ≡ changes_of (20 + c.args.k) t)) text c.changes.ensures
