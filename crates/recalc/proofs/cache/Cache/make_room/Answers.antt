use Rattle.std.proofs.Common.{◌≡◌, ◌≤◌, ◌<◌, ◌∙◌, ℕ, None, Option, ap, arith, length, map, replicate, rules, subst, sym}
use Rattle.std.specs.Prelude.{IfSome}
use Rattle.std.proofs.lemmas.List.{length-map, length-replicate}
use Rattle.fx_types.specs.ValueView.{view}
use Rattle.fx_types.specs.Values.{blank}
use Rattle.fx_core.specs.declared.sources.Source.{Source}
use Rattle.recalc.specs.Kept.{IsSourceOf, CacheState, CacheRoom, source_index}
use Rattle.recalc.proofs.cache.Cache.make_room.Goals as goal

pub returns-clause-made : goal.returns-clause-made
returns-clause-made c =
    let few : length c.args.app.now.cells ≤ 2000 = omega arith in
    let hold : (s : Source) → IsSourceOf c.args.app.now.names s → source_index s < c.in_ok-places.places =
    subst (λ (o : Option ℕ). IfSome o (λ n. (s : Source) → IsSourceOf c.args.app.now.names s → source_index s < n)) c.in_ok-places.ensures.ok_part c.places_of.ensures in
    let long : c.len-count.result ≡ length c.args.app.now.cells = c.len-count.ensures in
    let zeros : c.in_ok-versions.versions.items ≡ replicate c.in_ok-places.places 0 = search rules in
    let nones : c.in_ok-stamps.stamps.items ≡ replicate c.len-count.result None = search rules in
    let blanks : map view c.in_ok-values.values.items ≡ replicate c.len-count.result blank = c.in_ok-values.ensures in
    let versions : length c.in_ok-versions.versions.items ≡ c.in_ok-places.places = ap length zeros ∙ length-replicate c.in_ok-places.places 0 in
    let stamps : length c.in_ok-stamps.stamps.items ≡ c.len-count.result = ap length nones ∙ length-replicate c.len-count.result None in
    let values : length c.in_ok-values.values.items ≡ c.len-count.result = sym (length-map c.in_ok-values.values.items view) ∙ ap length blanks ∙ length-replicate c.len-count.result blank in
    let room : CacheRoom = record { versions = length c.in_ok-versions.versions.items; stamps = length c.in_ok-stamps.stamps.items; values = length c.in_ok-values.values.items } in (
      room,
      record {
        few = few;
        places = λ s there. subst (λ n. source_index s < n) (sym versions) (hold s there);
        stamps = omega (arith, stamps, long);
        values = omega (arith, values, long);
      },
      ap (λ (w : CacheState). record w { room = room }) c.self.view_is,
    )
