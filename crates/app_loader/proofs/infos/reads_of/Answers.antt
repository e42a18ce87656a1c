use Rattle.std.proofs.Common.{List, subst, sym}
use Rattle.std.proofs.lemmas.Result.{IfOk-weaker}
use Rattle.std.specs.Prelude.{◌↔◌}
use Rattle.fx_core.specs.Reads.{AreSourcesRising, IsAmong, sources_in}
use Rattle.fx_core.specs.declared.sources.Source.{Source}
use Rattle.app_loader.proofs.infos.reads_of.Goals as goal

pub returns-clause-once : goal.returns-clause-once
returns-clause-once c = IfOk-weaker c.in_order.result _ _ (λ r e. subst AreSourcesRising (sym e) c.in_ok-named.ensures.once) c.in_order.ensures

pub returns-clause-exact : goal.returns-clause-exact
returns-clause-exact c =
    IfOk-weaker c.in_order.result _ _
    (λ r e s. subst (λ (ss : List Source). IsAmong s ss ↔ IsAmong s (sources_in c.args.core.now)) (sym e) (c.in_ok-named.ensures.exact s))
    c.in_order.ensures
