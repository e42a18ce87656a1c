use Rattle.std.proofs.Common.{◌≡◌, ◌↔◌, ◌⊎◌, Some, length, slice_get, refl, sym, ◌∙◌}
use Rattle.std.proofs.lemmas.Option.{slice_get_read}
use Rattle.std.proofs.lemmas.Result.{IfOk-weaker}
use Rattle.fx_core.specs.Reads.{IsAmong}
use Rattle.fx_core.specs.declared.sources.Source.{Source}
use Rattle.app_loader.specs.Supports.{IsBehind}
use Rattle.app_loader.proofs.Supporting.{behind_none, behind_past, behind_there}
use Rattle.app_loader.proofs.supports.with_behind.Goals as goal

pub returns-in_default-clause-exact : goal.returns-in_default-clause-exact
returns-in_default-clause-exact c = behind_none c.args.names.now c.args.supports.now c.args.source c.args.sources.items (sym c.cell_behind.ensures ∙ c.in_default.is)

pub returns-in-None-clause-exact : goal.returns-in-None-clause-exact
returns-in-None-clause-exact c =
    behind_past c.args.names.now c.args.supports.now c.args.source c.in-Some.cell c.args.sources.items (sym c.cell_behind.ensures ∙ c.in-Some.is) c.in-None.ensures.lookup.3

pub returns-in-Some-get-clause-exact : goal.returns-in-Some-get-clause-exact
returns-in-Some-get-clause-exact c =
    let there : slice_get c.args.supports.now c.in-Some.cell ≡ Some c.in-Some-get.support.now =
    slice_get_read c.args.supports.now (length c.args.supports.now) c.in-Some.cell c.in-Some-get.support.now refl c.in-Some-get.ensures.lookup.3.0 c.in-Some-get.ensures.lookup.1 in
    IfOk-weaker c.merge.result (λ r. (s : Source) → IsAmong s r.items ↔ (IsAmong s c.deref.result.now ⊎ IsAmong s c.as_slice.result.now))
    (λ r. (s : Source) → IsAmong s r.items ↔ (IsAmong s c.args.sources.items ⊎ IsBehind c.args.names.now c.args.supports.now c.args.source s))
    (λ r h. behind_there c.args.names.now c.args.supports.now c.args.source c.in-Some.cell c.in-Some-get.support.now c.as_slice.result.now c.args.sources.items c.deref.result.now r.items (sym c.cell_behind.ensures ∙ c.in-Some.is) there
    c.as_slice.ensures c.deref.ensures.value h)
    c.merge.ensures.exact
