use Rattle.std.proofs.Common.{◌≡◌, ◌≤◌, ◌-◌, List, Some, length, refl, rules, subst}
use Rattle.std.specs.Prelude.{slice_get}
use Rattle.std.proofs.lemmas.Option.{slice_get_read}
use Rattle.number_bags.specs.Bags.{now_in}
use Rattle.number_bags.specs.declared.bags.NumberBag.{NumberBag}
use Rattle.row_books.proofs.BagLoops.{total_behind}
use Rattle.row_books.proofs.book.Book.totals.Goals as goal

pub returns-in-Some-get : goal.returns-in-Some-get
returns-in-Some-get c =
    let book = c.args.self.now in
    let bag = c.in-Some-get.bag.now in
    let one : 1 ≤ c.args.column = search rules in
    let before : c.in-Some.place ≡ c.args.column - 1 = search rules in
    let read : slice_get c.deref.result.now c.in-Some.place ≡ Some bag = slice_get_read c.deref.result.now (length c.deref.result.now) c.in-Some.place bag refl c.in-Some-get.ensures.lookup.3.0 c.in-Some-get.ensures.lookup.1 in
    let there = subst (λ (bags : List NumberBag). slice_get bags c.in-Some.place ≡ Some bag) c.deref.ensures.value read in
    let t = c.totals-in-Some-get.ensures in
    total_behind (now_in book.ids) book.columns.items c.args.column c.in-Some.place bag c.totals-in-Some-get.result one before there (record { sums = t.sums; in_range = t.in_range; rising = t.rising; few = t.few })
