use Rattle.std.proofs.Common.{◌∙◌, ℕ, suc, Option, Some, None, ap, subst, sym}
use Rattle.std.proofs.lemmas.List.{length-map}
use Rattle.std.specs.Prelude.{IsSome, slice_get}
use Rattle.fx_base.specs.Silence.{SilenceCause}
use Rattle.number_bags.specs.Bags.{now_in}
use Rattle.row_keeper.specs.Shaped.{Shaped}
use Rattle.row_keeper.specs.Tables.{shapes_of}
use Rattle.row_books.specs.Numbers.{now_of}
use Rattle.row_counts.specs.Filling.{CountsPage}
use Rattle.row_counts.proofs.FillLemmas.{filled_settled, none_numbered, reading_none, reads_on}
use Rattle.row_counts.proofs.Looks.{looks_none, looks_then}
use Rattle.row_counts.proofs.filling.fill_table.Goals as goal

pub returns-in_err-book-clause-looked : goal.returns-in_err-book-clause-looked
returns-in_err-book-clause-looked g c = looks_none g.K.Keeper c.args.keeper.now

pub returns-in_err-last-clause-looked : goal.returns-in_err-last-clause-looked
returns-in_err-last-clause-looked g c = looks_then g.K.Keeper c.args.keeper.now c.loop.keeper c.count_page.new.keeper c.loop.invariant.looked c.count_page.ensures.looked

pub returns-in-None-clause-looked : goal.returns-in-None-clause-looked
returns-in-None-clause-looked g c = looks_then g.K.Keeper c.args.keeper.now c.loop.keeper c.count_page.new.keeper c.loop.invariant.looked c.count_page.ensures.looked

pub loop-init : goal.loop-init
loop-init g c =
    let book = c.in_ok-book.book in
    let keeper = c.args.keeper.now in
    record {
      looked = looks_none g.K.Keeper keeper;
      columns = ap suc (length-map book.columns.items now_in ∙ c.in_ok-book.ensures.many);
      numbers = none_numbered (now_of book) c.in_ok-book.ensures.empty;
      read = reading_none (g.K.Keeper.shaped keeper).now (g.K.Keeper.told keeper) c.args.table (now_of book) c.fits.ensures c.requires c.in_ok-book.ensures.empty;
    }

pub count_page-requires : goal.count_page-requires
count_page-requires g c = subst (λ (s : Shaped). IsSome (slice_get (shapes_of s.now) c.args.table)) (sym c.loop.invariant.looked.shaped) c.requires

pub loop-preserved : goal.loop-preserved
loop-preserved g c =
    let k = g.K.Keeper in
    let l = c.loop in
    let keeper = c.count_page.new.keeper in
    let old = now_of l.book in
    let new = now_of c.count_page.new.book in
    let counted : CountsPage (k.told keeper) c.args.table l.after (Some c.in-Some.last) old new = subst (λ (o : Option ℕ). CountsPage (k.told keeper) c.args.table l.after o old new) c.in-Some.is c.in_ok-last.ensures.counted in
    record {
      looked = looks_then k c.args.keeper.now l.keeper keeper l.invariant.looked c.count_page.ensures.looked;
      columns = counted.columns ∙ l.invariant.columns;
      numbers = counted.numbers l.invariant.numbers;
      read = reads_on (SilenceCause (k.marks l.keeper) (k.marks keeper)) (k.told l.keeper) (k.told keeper) c.args.table l.after (Some c.in-Some.last) old new c.count_page.ensures.looked.told l.invariant.read counted;
    }

pub returns-in-None-clause-filled : goal.returns-in-None-clause-filled
returns-in-None-clause-filled g c =
    let k = g.K.Keeper in
    let l = c.loop in
    let keeper = c.count_page.new.keeper in
    let old = now_of l.book in
    let new = now_of c.count_page.new.book in
    let counted : CountsPage (k.told keeper) c.args.table l.after None old new = subst (λ (o : Option ℕ). CountsPage (k.told keeper) c.args.table l.after o old new) c.in-None.is c.in_ok-last.ensures.counted in
    filled_settled (k.told keeper) c.args.table c.args.columns c.count_page.new.book c.settle.new.self c.settle.ensures.now c.settle.ensures.then
    (reads_on (SilenceCause (k.marks l.keeper) (k.marks keeper)) (k.told l.keeper) (k.told keeper) c.args.table l.after None old new c.count_page.ensures.looked.told l.invariant.read counted)
    counted.proper (counted.numbers l.invariant.numbers) (counted.columns ∙ l.invariant.columns)
