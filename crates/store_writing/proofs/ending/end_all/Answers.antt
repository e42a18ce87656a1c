use Rattle.std.proofs.Common.{◌≡◌, arith, length, subst, sym}
use Rattle.std.proofs.lemmas.List.{with_items_is}
use Rattle.store_model.specs.Laws.{AreEnded}
use Rattle.store_writing.proofs.ending.end_all.Goals as goal

pub returns : goal.returns
returns c =
    let len : length c.end_each.new.tables ≡ c.args.tables.now.len = omega (arith, c.end_each.auto.tables, c.deref_mut.ensures.len) in
    let items = with_items_is c.args.tables.now c.end_each.new.tables len in
    subst (λ l. AreEnded c.args.with_changes c.args.tables.now.items l) (sym items) (subst (λ l. AreEnded c.args.with_changes l c.end_each.new.tables) c.deref_mut.ensures.value c.end_each.ensures)
