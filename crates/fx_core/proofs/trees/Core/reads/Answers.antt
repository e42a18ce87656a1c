use Rattle.std.proofs.Common.{◌≡◌, ap, ◌∙◌, ◌↔◌, List, [], subst, sym, rules, Vec, Global}
use Rattle.std.proofs.lemmas.Result.{IfOk-weaker}
use Rattle.fx_core.specs.declared.sources.Source.{Source}
use Rattle.fx_core.specs.Reads.{AreSourcesRising, IsAmong, sources_in}
use Rattle.fx_core.specs.Rising.{put_all}
use Rattle.fx_core.proofs.Ordered.{rising_put_all, same_sources}
use Rattle.fx_core.proofs.trees.Core.reads.Goals as goal

pub returns-clause-once : goal.returns-clause-once
returns-clause-once c =
    IfOk-weaker c.sort_sources.result (λ r. r.items ≡ put_all c.as_slice.result.now []) (λ r. AreSourcesRising r.items)
    (λ r e. subst AreSourcesRising (sym e) (rising_put_all c.as_slice.result.now [] tt)) c.sort_sources.ensures

pub returns-clause-exact : goal.returns-clause-exact
returns-clause-exact c =
    let named : c.as_slice.result.now ≡ sources_in c.args.self.now = search rules in
    IfOk-weaker c.sort_sources.result (λ r. r.items ≡ put_all c.as_slice.result.now [])
    (λ r. (s : Source) → IsAmong s r.items ↔ IsAmong s (sources_in c.args.self.now))
    (λ r e s. subst (λ (xs : List Source). IsAmong s xs ↔ IsAmong s (sources_in c.args.self.now)) (sym e)
    (subst (λ (xs : List Source). IsAmong s (put_all c.as_slice.result.now []) ↔ IsAmong s xs) named (same_sources s c.as_slice.result.now)))
    c.sort_sources.ensures
