use Rattle.std.proofs.Common.{◌≡◌, ◌∷◌, ℤ, List, Option, arith, length, map, subst, sym}
use Rattle.std.proofs.lemmas.List.{with_items_is}
use Rattle.number_bags.specs.Bags.{now_in}
use Rattle.number_bags.specs.declared.bags.NumberBag.{NumberBag}
use Rattle.row_books.specs.Numbers.{AreReady, IsChanged, by_columns, now_of}
use Rattle.row_books.proofs.BagLoops.{changed_first}
use Rattle.row_books.proofs.book.Book.carry_out.Goals as goal

pub carry_all-requires : goal.carry_all-requires
carry_all-requires c =
    subst (λ bags. AreReady c.deref.result.now bags) (sym c.deref_mut.ensures.value)
    (subst (λ numbers. AreReady numbers c.args.self.now.columns.items) (sym c.deref.ensures.value) c.requires.columns)

pub returns-clause-now : goal.returns-clause-now
returns-clause-now c =
    let out = c.args.out.now in
    let put = c.args.put.now in
    let old = c.args.self.now in
    let bags = c.carry_all.new.bags in
    let len : length bags ≡ old.columns.len = omega (arith, c.carry_all.auto.bags, c.deref_mut.ensures.len) in
    subst (λ (bags : List NumberBag). IsChanged (by_columns out) (by_columns put) (now_of old) (now_in c.carry_out.new.self ∷ map now_in bags)) (sym (with_items_is old.columns bags len))
    (changed_first out.id put.id out.cells.items put.cells.items (now_in old.ids) (now_in c.carry_out.new.self) (map now_in old.columns.items) (map now_in bags) c.carry_out.ensures.now
    (subst (λ (olds : List NumberBag). IsChanged out.cells.items put.cells.items (map now_in olds) (map now_in bags)) c.deref_mut.ensures.value
    (subst (λ (numbers : List (Option ℤ)). IsChanged out.cells.items numbers (map now_in c.deref_mut.result.now) (map now_in bags)) c.deref-2.ensures.value
    (subst (λ (numbers : List (Option ℤ)). IsChanged numbers c.deref-2.result.now (map now_in c.deref_mut.result.now) (map now_in bags)) c.deref.ensures.value c.carry_all.ensures.now))))
