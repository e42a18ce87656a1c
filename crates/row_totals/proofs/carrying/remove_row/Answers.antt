use Rattle.std.proofs.Common.{◌∙◌, Bool, ap, refl, subst, sym}
use Rattle.std.specs.Prelude.{Result, Err, Ok, IsSome, slice_get}
use Rattle.std.proofs.lemmas.Result.{err_from_is_err_and}
use Rattle.fx_base.specs.Silence.{MayFallSilent, SilenceCause}
use Rattle.row_keeper.specs.Changes.{Removes}
use Rattle.row_keeper.specs.Shaped.{Shaped}
use Rattle.row_keeper.specs.Tables.{shapes_of}
use Rattle.row_keeper.specs.declared.keeper.KeeperEnd.{KeeperEnd}
use Rattle.row_books.specs.Numbers.{by_columns, tables_now}
use Rattle.row_counts.specs.Right.{AreCounted}
use Rattle.row_counts.proofs.Telling.{counted_stays}
use Rattle.row_totals.specs.Calls.{Called}
use Rattle.row_totals.proofs.Calling.{absent_leaves, called_then, counted_over, counted_same, looked_only, looked_out}
use Rattle.row_totals.proofs.Inside.{removed_inside}
use Rattle.row_totals.proofs.carrying.remove_row.Goals as goal

pub returns-in-Err-clause-called : goal.returns-in-Err-clause-called
returns-in-Err-clause-called g c = looked_only g.K.Keeper (Removes c.args.table c.args.id) c.args.keeper.now c.row_numbers.new.keeper c.in-Err.end c.row_numbers.ensures.looked c.in-Err.ensures.cause

pub returns-in-Err-clause-counted : goal.returns-in-Err-clause-counted
returns-in-Err-clause-counted g c =
    let k = g.K.Keeper in
    let old = c.args.keeper.now in
    let new = c.row_numbers.new.keeper in
    counted_same (SilenceCause (k.marks old) (k.marks new)) (k.shaped old).now (tables_now c.args.books.now) (tables_now c.args.books.now) (k.told old) (k.told new) c.row_numbers.ensures.looked.told refl

pub returns-in_err-prepare-clause-called : goal.returns-in_err-prepare-clause-called
returns-in_err-prepare-clause-called g c =
    let P = Removes c.args.table c.args.id in
    let p = err_from_is_err_and c.from_residual.result c.from_residual.ensures.1 in
    subst (λ (r : Result Bool KeeperEnd). Called g.K.Keeper P c.args.keeper.now c.row_numbers.new.keeper r) (sym (p.1 ∙ ap (λ e. Err e) p.2)) (looked_out g.K.Keeper P c.args.keeper.now c.row_numbers.new.keeper c.row_numbers.ensures.looked)

pub returns-in_err-prepare-clause-counted : goal.returns-in_err-prepare-clause-counted
returns-in_err-prepare-clause-counted g c =
    let k = g.K.Keeper in
    let old = c.args.keeper.now in
    let new = c.row_numbers.new.keeper in
    counted_same (SilenceCause (k.marks old) (k.marks new)) (k.shaped old).now (tables_now c.args.books.now) (tables_now c.prepare.new.self) (k.told old) (k.told new) c.row_numbers.ensures.looked.told c.prepare.ensures.now

pub remove-requires-clause-begun : goal.remove-requires-clause-begun
remove-requires-clause-begun g c = c.row_numbers.ensures.looked.passes.mode ∙ c.requires.begun

pub remove-requires-clause-table : goal.remove-requires-clause-table
remove-requires-clause-table g c = subst (λ (s : Shaped). IsSome (slice_get (shapes_of s.now) c.args.table)) (sym c.row_numbers.ensures.looked.shaped) c.requires.table

pub returns-in-Ok-true-clause-called : goal.returns-in-Ok-true-clause-called
returns-in-Ok-true-clause-called g c =
    let k = g.K.Keeper in
    let old = c.args.keeper.now in
    let mid = c.row_numbers.new.keeper in
    let new = c.remove.new.self in
    let P = Removes c.args.table c.args.id in
    let ended : Called k P mid new c.remove.result = record { ok = c.remove.ensures.was; err = c.remove.ensures.err; shaped = c.remove.ensures.shaped; passes = (record { began = c.remove.ensures.began; attached = c.remove.ensures.attached; crash = c.remove.ensures.crash; mode = c.remove.ensures.mode; visited = c.remove.ensures.visited; loan = c.remove.ensures.loan }); cause = c.remove.ensures.cause } in
    let whole = called_then k P old mid new c.remove.result c.row_numbers.ensures.looked ended in
    subst (λ (b : Bool). Called k P old new (Ok b)) c.in-Ok-true.field-0-test (subst (λ (r : Result Bool KeeperEnd). Called k P old new r) c.in-Ok-true.is whole)

pub returns-in-Ok-true-clause-counted : goal.returns-in-Ok-true-clause-counted
returns-in-Ok-true-clause-counted g c =
    let k = g.K.Keeper in
    let old = c.args.keeper.now in
    let mid = c.row_numbers.new.keeper in
    let new = c.remove.new.self in
    let looked = c.row_numbers.ensures.looked in
    let inner = (k.shaped mid).now in
    let lost = SilenceCause (k.marks mid) (k.marks new) in
    let counted = tables_now c.args.books.now in
    let goes = subst (λ (b : Bool). MayFallSilent lost (Removes c.args.table c.args.id b) (k.told mid) (k.told new)) c.in-Ok-true.field-0-test c.in-Ok-true.ensures.was in
    let there = subst (λ (s : Shaped). IsSome (slice_get (shapes_of s.now) c.args.table)) (sym looked.shaped) c.requires.table in
    λ h. subst (λ (s : Shaped). AreCounted s.now (tables_now c.carry_out.new.self) (k.told new)) looked.shaped
    (removed_inside lost c.args.table (k.told mid) (k.told new) inner c.args.id (by_columns c.in-Ok.out) (by_columns c.none-put.result) counted (tables_now c.prepare.new.self) (tables_now c.carry_out.new.self)
    there c.fits.ensures goes c.in-Ok.ensures.found c.prepare.ensures.now c.none-put.ensures c.carry_out.ensures.now
    (counted_stays (SilenceCause (k.marks old) (k.marks mid)) (k.shaped old).now inner counted counted (k.told old) (k.told mid) looked.told (ap (λ (s : Shaped). s.now) looked.shaped) refl h))

pub returns-in-Ok-false-clause-called : goal.returns-in-Ok-false-clause-called
returns-in-Ok-false-clause-called g c =
    let k = g.K.Keeper in
    let old = c.args.keeper.now in
    let mid = c.row_numbers.new.keeper in
    let new = c.remove.new.self in
    let P = Removes c.args.table c.args.id in
    let ended : Called k P mid new c.remove.result = record { ok = c.remove.ensures.was; err = c.remove.ensures.err; shaped = c.remove.ensures.shaped; passes = (record { began = c.remove.ensures.began; attached = c.remove.ensures.attached; crash = c.remove.ensures.crash; mode = c.remove.ensures.mode; visited = c.remove.ensures.visited; loan = c.remove.ensures.loan }); cause = c.remove.ensures.cause } in
    let whole = called_then k P old mid new c.remove.result c.row_numbers.ensures.looked ended in
    subst (λ (b : Bool). Called k P old new (Ok b)) c.in-Ok-false.field-0-test (subst (λ (r : Result Bool KeeperEnd). Called k P old new r) c.in-Ok-false.is whole)

pub returns-in-Ok-false-clause-counted : goal.returns-in-Ok-false-clause-counted
returns-in-Ok-false-clause-counted g c =
    let k = g.K.Keeper in
    let old = c.args.keeper.now in
    let mid = c.row_numbers.new.keeper in
    let new = c.remove.new.self in
    let lost = SilenceCause (k.marks mid) (k.marks new) in
    let goes = subst (λ (b : Bool). MayFallSilent lost (Removes c.args.table c.args.id b) (k.told mid) (k.told new)) c.in-Ok-false.field-0-test c.in-Ok-false.ensures.was in
    counted_over (SilenceCause (k.marks old) (k.marks mid)) lost (k.shaped old).now (tables_now c.args.books.now) (tables_now c.prepare.new.self) (k.told old) (k.told mid) (k.told new) c.row_numbers.ensures.looked.told
    (absent_leaves lost c.args.table c.args.id (k.told mid) (k.told new) goes) c.prepare.ensures.now

pub returns-clause-called : goal.returns-clause-called
returns-clause-called g c =
    let k = g.K.Keeper in
    let old = c.args.keeper.now in
    let mid = c.row_numbers.new.keeper in
    let new = c.remove.new.self in
    let P = Removes c.args.table c.args.id in
    let ended : Called k P mid new c.remove.result = record { ok = c.remove.ensures.was; err = c.remove.ensures.err; shaped = c.remove.ensures.shaped; passes = (record { began = c.remove.ensures.began; attached = c.remove.ensures.attached; crash = c.remove.ensures.crash; mode = c.remove.ensures.mode; visited = c.remove.ensures.visited; loan = c.remove.ensures.loan }); cause = c.remove.ensures.cause } in
    let whole = called_then k P old mid new c.remove.result c.row_numbers.ensures.looked ended in
    subst (λ (r : Result Bool KeeperEnd). Called k P old new r) c.in-Err-remove.is whole

pub returns-clause-counted : goal.returns-clause-counted
returns-clause-counted g c =
    let k = g.K.Keeper in
    let old = c.args.keeper.now in
    let mid = c.row_numbers.new.keeper in
    let new = c.remove.new.self in
    counted_over (SilenceCause (k.marks old) (k.marks mid)) (SilenceCause (k.marks mid) (k.marks new)) (k.shaped old).now (tables_now c.args.books.now) (tables_now c.prepare.new.self) (k.told old) (k.told mid) (k.told new) c.row_numbers.ensures.looked.told
    c.in-Err-remove.ensures.err c.prepare.ensures.now
