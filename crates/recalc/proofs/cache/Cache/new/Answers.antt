use Rattle.std.proofs.Common.{◌≡◌, ◌≤◌, ◌<◌, ◌∙◌, ℕ, None, Option, ap, arith, length, replicate, refl, rules, subst}
use Rattle.std.specs.Prelude.{IfSome}
use Rattle.fx_types.specs.Values.{blank}
use Rattle.fx_core.specs.declared.sources.Source.{Source}
use Rattle.recalc.specs.Kept.{IsSourceOf, source_index}
use Rattle.recalc.proofs.Emptying.{new_order}
use Rattle.recalc.proofs.cache.Cache.new.Goals as goal

pub returns-clause-order : goal.returns-clause-order
returns-clause-order c =
    let few : length c.args.app.now.cells ≤ 2000 = omega arith in
    let hold : (s : Source) → IsSourceOf c.args.app.now.names s → source_index s < c.in_ok-places.places =
    subst (λ (o : Option ℕ). IfSome o (λ n. (s : Source) → IsSourceOf c.args.app.now.names s → source_index s < n)) c.in_ok-places.ensures.ok_part c.places_of.ensures in
    let long : c.len-count.result ≡ length c.args.app.now.cells = c.len-count.ensures in
    let versions : c.in_ok-versions.versions.items ≡ replicate c.in_ok-places.places 0 = search rules in
    let stamps : c.in_ok-stamps.stamps.items ≡ replicate c.len-count.result None = search rules in
    let values : c.in_ok-valued.valued.cells ≡ replicate c.len-count.result blank = c.in_ok-valued.ensures.cells in
    new_order c.args.app.now c.in_ok-places.places _ few hold refl refl versions (stamps ∙ ap (λ n. replicate n None) long) (values ∙ ap (λ n. replicate n blank) long)
