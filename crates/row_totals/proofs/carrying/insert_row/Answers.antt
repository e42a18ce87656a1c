use Rattle.std.proofs.Common.{◌<◌, ◌^◌, ◌∙◌, ap, rules, subst, sym}
use Rattle.std.specs.Prelude.{Result, Err, Ok, slice_get}
use Rattle.std.proofs.lemmas.Result.{err_from_is_err_and}
use Rattle.fx_base.specs.Silence.{MayFallSilent, SilenceCause}
use Rattle.row_keeper.specs.Changes.{Inserts, IsInserted}
use Rattle.row_keeper.specs.Tables.{columns_at, shapes_of}
use Rattle.row_keeper.specs.declared.keeper.KeeperEnd.{KeeperEnd}
use Rattle.row_keeper.specs.declared.rows.Put.{Put}
use Rattle.row_keeper.specs.declared.rows.Put.TheVariants.{NoRow, Refused}
use Rattle.row_books.specs.Numbers.{by_columns, tables_now}
use Rattle.row_counts.proofs.Looks.{stays}
use Rattle.row_totals.specs.Calls.{Called}
use Rattle.row_totals.proofs.Calling.{counted_same, not_called, refused_leaves}
use Rattle.row_totals.proofs.Inside.{inserted_inside, later_ones}
use Rattle.row_totals.proofs.Shapes.{some_of}
use Rattle.row_totals.proofs.carrying.insert_row.Goals as goal

pub returns-in_err-put-clause-called : goal.returns-in_err-put-clause-called
returns-in_err-put-clause-called g c =
    let P = Inserts (columns_at (shapes_of (g.K.Keeper.shaped c.args.keeper.now).now) c.args.table) c.args.table c.args.cells.now in
    let p = err_from_is_err_and c.from_residual.result c.from_residual.ensures.1 in
    subst (λ (r : Result Put KeeperEnd). Called g.K.Keeper P c.args.keeper.now c.args.keeper.now r) (sym (p.1 ∙ ap (λ e. Err e) p.2)) (not_called g.K.Keeper P c.args.keeper.now)

pub returns-in_err-put-clause-counted : goal.returns-in_err-put-clause-counted
returns-in_err-put-clause-counted g c =
    let told = g.K.Keeper.told c.args.keeper.now in
    let lost = SilenceCause (g.K.Keeper.marks c.args.keeper.now) (g.K.Keeper.marks c.args.keeper.now) in
    counted_same lost (g.K.Keeper.shaped c.args.keeper.now).now (tables_now c.args.books.now) (tables_now c.make_ready.new.books) told told (stays lost told) c.make_ready.ensures.now

pub returns-in-Ok-Id-clause-called : goal.returns-in-Ok-Id-clause-called
returns-in-Ok-Id-clause-called g c =
    let k = g.K.Keeper in
    let old = c.args.keeper.now in
    let new = c.insert.new.self in
    let P = Inserts (columns_at (shapes_of (k.shaped old).now) c.args.table) c.args.table c.args.cells.now in
    let ended : Called k P old new c.insert.result = record { ok = c.insert.ensures.put; err = c.insert.ensures.err; shaped = c.insert.ensures.shaped; passes = (record { began = c.insert.ensures.began; attached = c.insert.ensures.attached; crash = c.insert.ensures.crash; mode = c.insert.ensures.mode; visited = c.insert.ensures.visited; loan = c.insert.ensures.loan }); cause = c.insert.ensures.cause } in
    subst (λ (p : Put). Called k P old new (Ok p)) c.in-Ok-Id.field-0-is (subst (λ (r : Result Put KeeperEnd). Called k P old new r) c.in-Ok-Id.is ended)

pub returns-in-Ok-Id-clause-sound : goal.returns-in-Ok-Id-clause-sound
returns-in-Ok-Id-clause-sound g c =
    subst (λ (p : Put). IsInserted (columns_at (shapes_of (g.K.Keeper.shaped c.args.keeper.now).now) c.args.table) p) c.in-Ok-Id.field-0-is c.in-Ok-Id.ensures.sound

pub returns-in-Ok-Id-clause-counted : goal.returns-in-Ok-Id-clause-counted
returns-in-Ok-Id-clause-counted g c =
    let k = g.K.Keeper in
    let old = c.args.keeper.now in
    let new = c.insert.new.self in
    let inner = (k.shaped old).now in
    let columns = columns_at (shapes_of inner) c.args.table in
    let lost = SilenceCause (k.marks old) (k.marks new) in
    let few : c.in-Ok-Id.id < 2 ^ 32 = search rules in
    let goes = subst (λ (p : Put). MayFallSilent lost (Inserts columns c.args.table c.args.cells.now p) (k.told old) (k.told new)) c.in-Ok-Id.field-0-is c.in-Ok-Id.ensures.put in
    let one = subst (λ (p : Put). IsInserted columns p) c.in-Ok-Id.field-0-is c.in-Ok-Id.ensures.sound in
    inserted_inside lost c.args.table (k.told old) (k.told new) inner c.in-Ok-Id.id c.args.cells.now (by_columns c.none-out.result) c.in_ok-put.put.cells.items c.fresh-put.result (tables_now c.args.books.now) (tables_now c.make_ready.new.books) (tables_now c.carry_out.new.self)
    (some_of (slice_get (shapes_of inner) c.args.table) _ c.requires.fit) c.fits.ensures goes one few c.cells_are_proper.ensures c.make_ready.ensures.now c.none-out.ensures (later_ones c.in_ok-put.put c.args.cells.now c.in_ok-put.ensures.numbers) c.fresh-put.ensures c.carry_out.ensures.now

pub returns-in-Ok-NoRow-clause-called : goal.returns-in-Ok-NoRow-clause-called
returns-in-Ok-NoRow-clause-called g c =
    let k = g.K.Keeper in
    let old = c.args.keeper.now in
    let new = c.insert.new.self in
    let P = Inserts (columns_at (shapes_of (k.shaped old).now) c.args.table) c.args.table c.args.cells.now in
    let ended : Called k P old new c.insert.result = record { ok = c.insert.ensures.put; err = c.insert.ensures.err; shaped = c.insert.ensures.shaped; passes = (record { began = c.insert.ensures.began; attached = c.insert.ensures.attached; crash = c.insert.ensures.crash; mode = c.insert.ensures.mode; visited = c.insert.ensures.visited; loan = c.insert.ensures.loan }); cause = c.insert.ensures.cause } in
    subst (λ (p : Put). Called k P old new (Ok p)) c.in-Ok-NoRow.field-0-is (subst (λ (r : Result Put KeeperEnd). Called k P old new r) c.in-Ok-NoRow.is ended)

pub returns-in-Ok-NoRow-clause-sound : goal.returns-in-Ok-NoRow-clause-sound
returns-in-Ok-NoRow-clause-sound g c =
    subst (λ (p : Put). IsInserted (columns_at (shapes_of (g.K.Keeper.shaped c.args.keeper.now).now) c.args.table) p) c.in-Ok-NoRow.field-0-is c.in-Ok-NoRow.ensures.sound

pub returns-in-Ok-NoRow-clause-counted : goal.returns-in-Ok-NoRow-clause-counted
returns-in-Ok-NoRow-clause-counted g c =
    let k = g.K.Keeper in
    let old = c.args.keeper.now in
    let new = c.insert.new.self in
    let columns = columns_at (shapes_of (k.shaped old).now) c.args.table in
    let lost = SilenceCause (k.marks old) (k.marks new) in
    let goes = subst (λ (p : Put). MayFallSilent lost (Inserts columns c.args.table c.args.cells.now p) (k.told old) (k.told new)) c.in-Ok-NoRow.field-0-is c.in-Ok-NoRow.ensures.put in
    counted_same lost (k.shaped old).now (tables_now c.args.books.now) (tables_now c.make_ready.new.books) (k.told old) (k.told new) (refused_leaves lost columns c.args.table c.args.cells.now NoRow (k.told old) (k.told new) (λ n e. absurd cc) goes) c.make_ready.ensures.now

pub returns-in-Ok-Refused-clause-called : goal.returns-in-Ok-Refused-clause-called
returns-in-Ok-Refused-clause-called g c =
    let k = g.K.Keeper in
    let old = c.args.keeper.now in
    let new = c.insert.new.self in
    let P = Inserts (columns_at (shapes_of (k.shaped old).now) c.args.table) c.args.table c.args.cells.now in
    let ended : Called k P old new c.insert.result = record { ok = c.insert.ensures.put; err = c.insert.ensures.err; shaped = c.insert.ensures.shaped; passes = (record { began = c.insert.ensures.began; attached = c.insert.ensures.attached; crash = c.insert.ensures.crash; mode = c.insert.ensures.mode; visited = c.insert.ensures.visited; loan = c.insert.ensures.loan }); cause = c.insert.ensures.cause } in
    subst (λ (p : Put). Called k P old new (Ok p)) c.in-Ok-Refused.field-0-is (subst (λ (r : Result Put KeeperEnd). Called k P old new r) c.in-Ok-Refused.is ended)

pub returns-in-Ok-Refused-clause-sound : goal.returns-in-Ok-Refused-clause-sound
returns-in-Ok-Refused-clause-sound g c =
    subst (λ (p : Put). IsInserted (columns_at (shapes_of (g.K.Keeper.shaped c.args.keeper.now).now) c.args.table) p) c.in-Ok-Refused.field-0-is c.in-Ok-Refused.ensures.sound

pub returns-in-Ok-Refused-clause-counted : goal.returns-in-Ok-Refused-clause-counted
returns-in-Ok-Refused-clause-counted g c =
    let k = g.K.Keeper in
    let old = c.args.keeper.now in
    let new = c.insert.new.self in
    let columns = columns_at (shapes_of (k.shaped old).now) c.args.table in
    let lost = SilenceCause (k.marks old) (k.marks new) in
    let goes = subst (λ (p : Put). MayFallSilent lost (Inserts columns c.args.table c.args.cells.now p) (k.told old) (k.told new)) c.in-Ok-Refused.field-0-is c.in-Ok-Refused.ensures.put in
    counted_same lost (k.shaped old).now (tables_now c.args.books.now) (tables_now c.make_ready.new.books) (k.told old) (k.told new) (refused_leaves lost columns c.args.table c.args.cells.now (Refused c.in-Ok-Refused.refusal) (k.told old) (k.told new) (λ n e. absurd cc) goes) c.make_ready.ensures.now

pub returns-clause-called : goal.returns-clause-called
returns-clause-called g c =
    let k = g.K.Keeper in
    let old = c.args.keeper.now in
    let new = c.insert.new.self in
    let P = Inserts (columns_at (shapes_of (k.shaped old).now) c.args.table) c.args.table c.args.cells.now in
    let ended : Called k P old new c.insert.result = record { ok = c.insert.ensures.put; err = c.insert.ensures.err; shaped = c.insert.ensures.shaped; passes = (record { began = c.insert.ensures.began; attached = c.insert.ensures.attached; crash = c.insert.ensures.crash; mode = c.insert.ensures.mode; visited = c.insert.ensures.visited; loan = c.insert.ensures.loan }); cause = c.insert.ensures.cause } in
    subst (λ (r : Result Put KeeperEnd). Called k P old new r) c.in-Err.is ended

pub returns-clause-counted : goal.returns-clause-counted
returns-clause-counted g c =
    let k = g.K.Keeper in
    let old = c.args.keeper.now in
    let new = c.insert.new.self in
    counted_same (SilenceCause (k.marks old) (k.marks new)) (k.shaped old).now (tables_now c.args.books.now) (tables_now c.make_ready.new.books) (k.told old) (k.told new) c.in-Err.ensures.err c.make_ready.ensures.now
