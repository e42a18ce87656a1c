use Rattle.std.proofs.Common.{◌<◌, ◌^◌, map, rules}
use Rattle.fx_types.specs.ValueView.{view}
use Rattle.number_bags.specs.Bags.{now_in}
use Rattle.row_books.specs.Numbers.{by_columns, now_of}
use Rattle.row_counts.proofs.FillLemmas.{counts_put}
use Rattle.row_counts.proofs.filling.count_row.Goals as goal

pub returns : goal.returns
returns c =
    let row = c.args.row.now in
    let book = c.args.book.now in
    let few : row.id < 2 ^ 32 = search rules in
    counts_put row (now_in book.ids) (map now_in book.columns.items) (by_columns c.none-out.result) c.in_ok-put.put.cells.items c.fresh-put.result c.in_ok-put.put.id (map view c.as_slice.result.now) (now_of c.prepare.new.self) (now_of c.carry_out.new.self)
    c.requires few c.none-out.ensures c.in_ok-put.ensures c.as_slice.ensures c.fresh-put.ensures c.prepare.ensures.now c.carry_out.ensures.now
