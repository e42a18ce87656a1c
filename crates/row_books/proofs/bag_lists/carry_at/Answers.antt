use Rattle.number_bags.specs.Bags.{IsReady}
use Rattle.number_bags.specs.declared.bags.NumberBag.{NumberBag}
use Rattle.row_books.specs.Numbers.{IsCarried}
use Rattle.row_books.proofs.Places.{changes_at, within_some}
use Rattle.row_books.proofs.bag_lists.carry_at.Goals as goal

pub returns : goal.returns
returns c =
    let l = within_some (λ (b : NumberBag). IsReady b c.args.out) c.args.bags.now c.args.place c.requires in
    changes_at (IsCarried c.args.out c.args.put) c.args.bags.now c.args.place c.index-bags-place.result c.carry_out.new.self l (c.carry_out.ensures.now, c.carry_out.ensures.then)
