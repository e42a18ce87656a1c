use Rattle.std.proofs.Common.{refl}
use Rattle.fx_base.specs.Silence.{SilenceCause}
use Rattle.row_keeper.specs.Changes.{TotalsUp}
use Rattle.row_keeper.specs.Tables.{rows_told}
use Rattle.row_books.specs.Numbers.{tables_now, tables_then}
use Rattle.row_counts.proofs.Looks.{looks_none, told_stays}
use Rattle.row_totals.proofs.Answering.{total_stays, total_there, total_whole}
use Rattle.row_totals.proofs.Keeping.{tallied_same}
use Rattle.row_totals.proofs.Unvisited.{asked, no_cause, visits_none}
use Rattle.row_totals.proofs.tallied.TalliedKeeper.total.Goals as goal

pub returns-in-Some-clause-answer : goal.returns-in-Some-clause-answer
returns-in-Some-clause-answer g c =
    let me = c.args.self.now in
    total_whole c.compare_is_total.ensures.total (g.K.Keeper.told me.keeper) (tables_now me.books) c.args.query.now c.in-Some.ensures.whole.0 me.is_filled (g.K.Keeper.shaped me.keeper).now c.args.column c.in-Some.totals c.requires.query c.requires.column c.fits.ensures me.kept.now_counted c.in-Some.ensures.whole.1

pub returns-in-Some-clause-totals : goal.returns-in-Some-clause-totals
returns-in-Some-clause-totals g c =
    let me = c.args.self.now in
    let marks = g.K.Keeper.marks me.keeper in
    total_stays c.compare_is_total.ensures.total (g.K.Keeper.told me.keeper) (tables_now me.books) c.args.query.now c.in-Some.ensures.whole.0 (SilenceCause marks marks) me.is_filled (g.K.Keeper.shaped me.keeper).now c.args.column c.in-Some.totals c.requires.query c.fits.ensures me.kept.now_counted c.in-Some.ensures.whole.1

pub returns-in-Some-clause-most : goal.returns-in-Some-clause-most
returns-in-Some-clause-most g c = visits_none (rows_told (g.K.Keeper.told c.args.self.now.keeper)) c.args.query.now (g.K.Keeper.visited c.args.self.now.keeper)

pub returns-in-Some-clause-looked : goal.returns-in-Some-clause-looked
returns-in-Some-clause-looked g c = looks_none g.K.Keeper c.args.self.now.keeper

pub returns-in-Some-clause-cause : goal.returns-in-Some-clause-cause
returns-in-Some-clause-cause g c = no_cause (g.K.Keeper.marks c.args.self.now.keeper) c.in-Some.totals

pub invariant_of-self : goal.invariant_of-self
invariant_of-self g c =
    let k = g.K.Keeper in
    let old = c.args.self.now in
    let new = c.total.new.self in
    let lost = SilenceCause (k.marks old.keeper) (k.marks new) in
    record {
      kept = tallied_same lost (tables_now old.books) (tables_then old.books) (k.shaped new) (k.in_transaction new) (k.told new) (k.began new) old.kept refl refl c.total.ensures.shaped c.total.ensures.mode
          (told_stays lost c.total.result (λ x. TotalsUp c.args.query.now c.args.column x) (λ x a b h. h.1) (k.told old.keeper) (k.told new) c.total.ensures.totals c.total.ensures.err) c.total.ensures.began;
    }

pub returns-in-None-clause-looked : goal.returns-in-None-clause-looked
returns-in-None-clause-looked g c =
    asked g.K.Keeper c.args.self.now.keeper c.total.new.self c.total.result (λ x. TotalsUp c.args.query.now c.args.column x) (λ x a b h. h.1) c.total.ensures.totals c.total.ensures.err
    (record { began = c.total.ensures.began; attached = c.total.ensures.attached; crash = c.total.ensures.crash; mode = c.total.ensures.mode; visited = c.total.ensures.visited; loan = c.total.ensures.loan })
    c.total.ensures.shaped c.total.ensures.cause.later

pub returns-in-None-clause-unvisited : goal.returns-in-None-clause-unvisited
returns-in-None-clause-unvisited g c =
    let me = c.args.self.now in
    λ w. absurd (total_there (g.K.Keeper.told me.keeper) (tables_now me.books) c.args.query.now me.is_filled (g.K.Keeper.shaped me.keeper).now c.args.column c.requires.query c.requires.column me.kept.now_counted (c.in-None.ensures.none w))
