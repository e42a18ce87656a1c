use Rattle.std.proofs.Common.{ap, filter, sym, take, ◌∙◌, ◌++◌, ◌∷◌, []}
use Rattle.std.proofs.lemmas.List.{take_more}
use Rattle.row_keeper.specs.Entries.{ids_in, ids_of, lies_at}
use Rattle.row_keeper.proofs.PageLemmas.{more_found, take_twice}
use Rattle.row_keeper.proofs.index.Index.first_hits.Goals as goal

pub loop-range-preserved : goal.loop-range-preserved
loop-range-preserved c =
    let es = c.args.self.now.entries.entries in
    let before = take c.loop-range.range-index c.args.ranges.now in
    let next = ids_of (filter (lies_at c.args.column c.range-item.result) es) in
    c.in_ok-add_first_hits.ensures
    ∙ ap (λ l. take c.args.most (l ++ next)) c.loop-range.invariant
    ∙ take_twice c.args.most (ids_in c.args.column before es) next
    ∙ ap (take c.args.most) (sym (more_found c.args.column before c.range-item.result es)
    ∙ ap (λ rs. ids_in c.args.column rs es) (sym (take_more c.args.ranges.now c.loop-range.range-index c.range-item.result c.loop-range-test.true ∙ ap (λ y. before ++ y ∷ []) (sym c.range-item.is))))
