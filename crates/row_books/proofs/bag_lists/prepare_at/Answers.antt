use Rattle.row_books.specs.Numbers.{IsPrepared, Stands}
use Rattle.row_books.proofs.Places.{changes_at, on_err, on_ok}
use Rattle.row_books.proofs.bag_lists.prepare_at.Goals as goal

pub returns-clause-ok : goal.returns-clause-ok
returns-clause-ok c =
    on_ok c.prepare.result (λ h. changes_at (IsPrepared c.args.out) c.args.bags.now c.args.place c.index-bags-place.result c.prepare.new.self c.requires (c.prepare.ensures.now, c.prepare.ensures.then, h))
    c.prepare.ensures.ready

pub returns-clause-err : goal.returns-clause-err
returns-clause-err c = on_err c.prepare.result (changes_at Stands c.args.bags.now c.args.place c.index-bags-place.result c.prepare.new.self c.requires (c.prepare.ensures.now, c.prepare.ensures.then))
