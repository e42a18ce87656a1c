use Rattle.std.proofs.Common.{List, [], ◌∷◌, length, refl, subst, sym, take}
use Rattle.std.proofs.lemmas.List.{take_all}
use Rattle.std.proofs.lemmas.Option.{slice_get_read}
use Rattle.row_queries.specs.declared.rows.Row.{Row}
use Rattle.row_books.specs.Numbers.{now_of}
use Rattle.row_counts.specs.Filling.{CountsMore}
use Rattle.row_counts.proofs.FillLemmas.{counts_none, counts_then, next_taken}
use Rattle.row_counts.proofs.filling.count_rows.Goals as goal

pub loop-row-init : goal.loop-row-init
loop-row-init c = counts_none (now_of c.args.book.now)

pub loop-row-preserved : goal.loop-row-preserved
loop-row-preserved c =
    let rows = c.args.rows.now in
    let i = c.loop-row.row-index in
    let row = c.row-item.result in
    let old = now_of c.args.book.now in
    let new = now_of c.count_row.new.book in
    subst (λ (l : List Row). CountsMore l old new) (sym (next_taken rows i row (slice_get_read rows (length rows) i row refl c.loop-row-test.true c.row-item.is)))
    (counts_then (take i rows) (row ∷ []) old (now_of c.loop-row.book) new c.loop-row.invariant c.in_ok-count_row.ensures)

pub returns : goal.returns
returns c = subst (λ rows. CountsMore rows (now_of c.args.book.now) (now_of c.loop-row.book)) (take_all c.loop-row.row-index c.args.rows.now c.loop-row-test.false) c.loop-row.invariant
