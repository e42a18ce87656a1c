use Rattle.std.proofs.Common.{List, subst, sym, ◌<◌, length, ◌≤◌}
use Rattle.std.specs.Prelude.{MatchOption, slice_get}
use Rattle.std.specs.List.{All}
use Rattle.row_queries.specs.declared.rows.Row.{Row}
use Rattle.row_keeper.specs.Tables.{shapes_of}
use Rattle.row_books.specs.Numbers.{now_of}
use Rattle.row_counts.specs.Filling.{CountsMore, IsLastOf}
use Rattle.row_counts.proofs.FillLemmas.{page_counted, page_numbered, proper_told}
use Rattle.row_counts.proofs.filling.count_page.Goals as goal

pub count_rows-requires : goal.count_rows-requires
count_rows-requires g c =
    subst (All (λ (r : Row). 1 ≤ r.id)) (sym c.deref.ensures.value)
    (page_numbered (slice_get (shapes_of (g.K.Keeper.shaped c.args.keeper.now).now) c.args.table) c.in_ok-rows.rows.items c.in_ok-rows.ensures.fit)

pub returns-clause-counted : goal.returns-clause-counted
returns-clause-counted g c =
    let told = g.K.Keeper.told c.next_rows.new.keeper in
    let rows = c.in_ok-rows.rows.items in
    page_counted told c.args.table c.args.after rows c.end_of_page.result (now_of c.args.book.now) (now_of c.count_rows.new.book) c.in_ok-rows.ensures.found
    (proper_told (slice_get (shapes_of (g.K.Keeper.shaped c.args.keeper.now).now) c.args.table) told c.args.table c.in_ok-rows.ensures.held)
    (subst (λ (l : List Row). MatchOption c.end_of_page.result (length l < 1000) (λ n. IsLastOf l n)) c.deref-2.ensures.value c.end_of_page.ensures)
    (subst (λ (l : List Row). CountsMore l (now_of c.args.book.now) (now_of c.count_rows.new.book)) c.deref.ensures.value c.in_ok-count_rows.ensures)
