use Rattle.std.proofs.Common.{◌≡◌, ◌∙◌, ap, arith, length, map}
use Rattle.std.proofs.lemmas.List.{with_items_is}
use Rattle.store_model.specs.Laws.{count_at_end}
use Rattle.store_writing.proofs.ending.end_counts.Goals as goal

pub returns : goal.returns
returns c =
    let len : length c.end_each_count.new.counts ≡ c.args.counts.now.len = omega (arith, c.end_each_count.auto.counts, c.deref_mut.ensures.len) in
    with_items_is c.args.counts.now c.end_each_count.new.counts len ∙ c.end_each_count.ensures ∙ ap (map (count_at_end c.args.with_changes)) c.deref_mut.ensures.value
