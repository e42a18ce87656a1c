use Rattle.std.proofs.Common.{◌∙◌, ◌∷◌, ℤ, None, Option, ap, refl, subst, sym}
use Rattle.std.specs.Prelude.{Result, Err, Ok, IsSome, IsSomeAnd, slice_get}
use Rattle.std.proofs.lemmas.Result.{err_from_is_err_and}
use Rattle.fx_base.specs.Silence.{MayFallSilent, SilenceCause}
use Rattle.fx_core.specs.declared.schema.TableShape.{TableShape}
use Rattle.row_queries.specs.TableRows.{AreCellsOf}
use Rattle.row_keeper.specs.Changes.{IsReplaced, Replaces}
use Rattle.row_keeper.specs.Shaped.{Shaped}
use Rattle.row_keeper.specs.Tables.{Tables, columns_at, shapes_of}
use Rattle.row_keeper.specs.declared.keeper.KeeperEnd.{KeeperEnd}
use Rattle.row_keeper.specs.declared.rows.Put.{Put}
use Rattle.row_keeper.specs.declared.rows.Put.TheVariants.{NoRow, Refused}
use Rattle.row_books.specs.Numbers.{IsChangedAt, by_columns, tables_now}
use Rattle.row_counts.specs.Right.{AreCounted}
use Rattle.row_counts.proofs.Telling.{counted_stays}
use Rattle.row_totals.specs.Calls.{Called}
use Rattle.row_totals.proofs.Calling.{called_then, counted_over, counted_same, looked_only, looked_out, unchanged_leaves}
use Rattle.row_totals.proofs.Inside.{later_ones, none_first, replaced_inside}
use Rattle.row_totals.proofs.Shapes.{some_of}
use Rattle.row_totals.proofs.carrying.replace_row.Goals as goal

pub row_numbers-requires : goal.row_numbers-requires
row_numbers-requires g c = some_of (slice_get (shapes_of (g.K.Keeper.shaped c.args.keeper.now).now) c.args.table) (λ (t : TableShape). AreCellsOf t.columns c.args.cells.now) c.requires.fit

pub returns-in-Err-clause-called : goal.returns-in-Err-clause-called
returns-in-Err-clause-called g c =
    let P = Replaces (columns_at (shapes_of (g.K.Keeper.shaped c.args.keeper.now).now) c.args.table) c.args.table c.args.id c.args.cells.now in
    looked_only g.K.Keeper P c.args.keeper.now c.row_numbers.new.keeper c.in-Err.end c.row_numbers.ensures.looked c.in-Err.ensures.cause

pub returns-in-Err-clause-counted : goal.returns-in-Err-clause-counted
returns-in-Err-clause-counted g c =
    let k = g.K.Keeper in
    let old = c.args.keeper.now in
    let new = c.row_numbers.new.keeper in
    counted_same (SilenceCause (k.marks old) (k.marks new)) (k.shaped old).now (tables_now c.args.books.now) (tables_now c.args.books.now) (k.told old) (k.told new) c.row_numbers.ensures.looked.told refl

pub returns-in_err-put-clause-called : goal.returns-in_err-put-clause-called
returns-in_err-put-clause-called g c =
    let P = Replaces (columns_at (shapes_of (g.K.Keeper.shaped c.args.keeper.now).now) c.args.table) c.args.table c.args.id c.args.cells.now in
    let p = err_from_is_err_and c.from_residual.result c.from_residual.ensures.1 in
    subst (λ (r : Result Put KeeperEnd). Called g.K.Keeper P c.args.keeper.now c.row_numbers.new.keeper r) (sym (p.1 ∙ ap (λ e. Err e) p.2)) (looked_out g.K.Keeper P c.args.keeper.now c.row_numbers.new.keeper c.row_numbers.ensures.looked)

pub returns-in_err-put-clause-counted : goal.returns-in_err-put-clause-counted
returns-in_err-put-clause-counted g c =
    let k = g.K.Keeper in
    let old = c.args.keeper.now in
    let new = c.row_numbers.new.keeper in
    counted_same (SilenceCause (k.marks old) (k.marks new)) (k.shaped old).now (tables_now c.args.books.now) (tables_now c.make_ready.new.books) (k.told old) (k.told new) c.row_numbers.ensures.looked.told c.make_ready.ensures.now

pub replace-requires-clause-begun : goal.replace-requires-clause-begun
replace-requires-clause-begun g c = c.row_numbers.ensures.looked.passes.mode ∙ c.requires.begun

pub replace-requires-clause-fit : goal.replace-requires-clause-fit
replace-requires-clause-fit g c =
    subst (λ (s : Shaped). IsSomeAnd (slice_get (shapes_of s.now) c.args.table) (λ (t : TableShape). AreCellsOf t.columns c.args.cells.now)) (sym c.row_numbers.ensures.looked.shaped) c.requires.fit

pub returns-in-Ok-Id-clause-called : goal.returns-in-Ok-Id-clause-called
returns-in-Ok-Id-clause-called g c =
    let k = g.K.Keeper in
    let old = c.args.keeper.now in
    let mid = c.row_numbers.new.keeper in
    let new = c.replace.new.self in
    let looked = c.row_numbers.ensures.looked in
    let P : Shaped → Put → Tables → Tables → Type 0 = λ s. Replaces (columns_at (shapes_of s.now) c.args.table) c.args.table c.args.id c.args.cells.now in
    let ended : Called k (P (k.shaped mid)) mid new c.replace.result = record { ok = c.replace.ensures.put; err = c.replace.ensures.err; shaped = c.replace.ensures.shaped; passes = (record { began = c.replace.ensures.began; attached = c.replace.ensures.attached; crash = c.replace.ensures.crash; mode = c.replace.ensures.mode; visited = c.replace.ensures.visited; loan = c.replace.ensures.loan }); cause = c.replace.ensures.cause } in
    let whole = subst (λ (s : Shaped). Called k (P s) old new c.replace.result) looked.shaped (called_then k (P (k.shaped mid)) old mid new c.replace.result looked ended) in
    subst (λ (p : Put). Called k (P (k.shaped old)) old new (Ok p)) c.in-Ok-Id.field-0-is (subst (λ (r : Result Put KeeperEnd). Called k (P (k.shaped old)) old new r) c.in-Ok-Id.is whole)

pub returns-in-Ok-Id-clause-sound : goal.returns-in-Ok-Id-clause-sound
returns-in-Ok-Id-clause-sound g c =
    subst (λ (p : Put). IsReplaced (columns_at (shapes_of (g.K.Keeper.shaped c.args.keeper.now).now) c.args.table) c.args.id p) c.in-Ok-Id.field-0-is
    (subst (λ (s : Shaped). IsReplaced (columns_at (shapes_of s.now) c.args.table) c.args.id c.in-Ok-Id.field-0) c.row_numbers.ensures.looked.shaped c.in-Ok-Id.ensures.sound)

pub returns-in-Ok-Id-clause-counted : goal.returns-in-Ok-Id-clause-counted
returns-in-Ok-Id-clause-counted g c =
    let k = g.K.Keeper in
    let old = c.args.keeper.now in
    let mid = c.row_numbers.new.keeper in
    let new = c.replace.new.self in
    let looked = c.row_numbers.ensures.looked in
    let inner = (k.shaped mid).now in
    let lost = SilenceCause (k.marks mid) (k.marks new) in
    let counted = tables_now c.args.books.now in
    let goes = subst (λ (p : Put). MayFallSilent lost (Replaces (columns_at (shapes_of inner) c.args.table) c.args.table c.args.id c.args.cells.now p) (k.told mid) (k.told new)) c.in-Ok-Id.field-0-is c.in-Ok-Id.ensures.put in
    let there = subst (λ (s : Shaped). IsSome (slice_get (shapes_of s.now) c.args.table)) (sym looked.shaped) (some_of (slice_get (shapes_of (k.shaped old).now) c.args.table) (λ (t : TableShape). AreCellsOf t.columns c.args.cells.now) c.requires.fit) in
    λ h. subst (λ (s : Shaped). AreCounted s.now (tables_now c.carry_out.new.self) (k.told new)) looked.shaped
    (replaced_inside lost c.args.table (k.told mid) (k.told new) inner c.args.id c.in-Ok-Id.same c.args.cells.now c.in-Ok.out.cells.items c.in_ok-put.put.cells.items (by_columns c.in-Ok.out) c.in-Ok.out.id counted (tables_now c.make_ready.new.books) (tables_now c.carry_out.new.self)
    there c.fits.ensures goes c.cells_are_proper.ensures c.in-Ok.ensures.found refl c.make_ready.ensures.now (later_ones c.in_ok-put.put c.args.cells.now c.in_ok-put.ensures.numbers)
    (subst (λ (o : Option ℤ). IsChangedAt c.args.table (None ∷ c.in-Ok.out.cells.items) (o ∷ c.in_ok-put.put.cells.items) (tables_now c.make_ready.new.books) (tables_now c.carry_out.new.self)) (none_first c.in_ok-put.put c.args.cells.now c.in_ok-put.ensures.numbers) c.carry_out.ensures.now)
    (counted_stays (SilenceCause (k.marks old) (k.marks mid)) (k.shaped old).now inner counted counted (k.told old) (k.told mid) looked.told (ap (λ (s : Shaped). s.now) looked.shaped) refl h))

pub returns-in-Ok-NoRow-clause-called : goal.returns-in-Ok-NoRow-clause-called
returns-in-Ok-NoRow-clause-called g c =
    let k = g.K.Keeper in
    let old = c.args.keeper.now in
    let mid = c.row_numbers.new.keeper in
    let new = c.replace.new.self in
    let looked = c.row_numbers.ensures.looked in
    let P : Shaped → Put → Tables → Tables → Type 0 = λ s. Replaces (columns_at (shapes_of s.now) c.args.table) c.args.table c.args.id c.args.cells.now in
    let ended : Called k (P (k.shaped mid)) mid new c.replace.result = record { ok = c.replace.ensures.put; err = c.replace.ensures.err; shaped = c.replace.ensures.shaped; passes = (record { began = c.replace.ensures.began; attached = c.replace.ensures.attached; crash = c.replace.ensures.crash; mode = c.replace.ensures.mode; visited = c.replace.ensures.visited; loan = c.replace.ensures.loan }); cause = c.replace.ensures.cause } in
    let whole = subst (λ (s : Shaped). Called k (P s) old new c.replace.result) looked.shaped (called_then k (P (k.shaped mid)) old mid new c.replace.result looked ended) in
    subst (λ (p : Put). Called k (P (k.shaped old)) old new (Ok p)) c.in-Ok-NoRow.field-0-is (subst (λ (r : Result Put KeeperEnd). Called k (P (k.shaped old)) old new r) c.in-Ok-NoRow.is whole)

pub returns-in-Ok-NoRow-clause-sound : goal.returns-in-Ok-NoRow-clause-sound
returns-in-Ok-NoRow-clause-sound g c =
    subst (λ (p : Put). IsReplaced (columns_at (shapes_of (g.K.Keeper.shaped c.args.keeper.now).now) c.args.table) c.args.id p) c.in-Ok-NoRow.field-0-is
    (subst (λ (s : Shaped). IsReplaced (columns_at (shapes_of s.now) c.args.table) c.args.id c.in-Ok-NoRow.field-0) c.row_numbers.ensures.looked.shaped c.in-Ok-NoRow.ensures.sound)

pub returns-in-Ok-NoRow-clause-counted : goal.returns-in-Ok-NoRow-clause-counted
returns-in-Ok-NoRow-clause-counted g c =
    let k = g.K.Keeper in
    let old = c.args.keeper.now in
    let mid = c.row_numbers.new.keeper in
    let new = c.replace.new.self in
    let columns = columns_at (shapes_of (k.shaped mid).now) c.args.table in
    let lost = SilenceCause (k.marks mid) (k.marks new) in
    let goes = subst (λ (p : Put). MayFallSilent lost (Replaces columns c.args.table c.args.id c.args.cells.now p) (k.told mid) (k.told new)) c.in-Ok-NoRow.field-0-is c.in-Ok-NoRow.ensures.put in
    counted_over (SilenceCause (k.marks old) (k.marks mid)) lost (k.shaped old).now (tables_now c.args.books.now) (tables_now c.make_ready.new.books) (k.told old) (k.told mid) (k.told new) c.row_numbers.ensures.looked.told
    (unchanged_leaves lost columns c.args.table c.args.id c.args.cells.now NoRow (k.told mid) (k.told new) (λ n e. absurd cc) goes) c.make_ready.ensures.now

pub returns-in-Ok-Refused-clause-called : goal.returns-in-Ok-Refused-clause-called
returns-in-Ok-Refused-clause-called g c =
    let k = g.K.Keeper in
    let old = c.args.keeper.now in
    let mid = c.row_numbers.new.keeper in
    let new = c.replace.new.self in
    let looked = c.row_numbers.ensures.looked in
    let P : Shaped → Put → Tables → Tables → Type 0 = λ s. Replaces (columns_at (shapes_of s.now) c.args.table) c.args.table c.args.id c.args.cells.now in
    let ended : Called k (P (k.shaped mid)) mid new c.replace.result = record { ok = c.replace.ensures.put; err = c.replace.ensures.err; shaped = c.replace.ensures.shaped; passes = (record { began = c.replace.ensures.began; attached = c.replace.ensures.attached; crash = c.replace.ensures.crash; mode = c.replace.ensures.mode; visited = c.replace.ensures.visited; loan = c.replace.ensures.loan }); cause = c.replace.ensures.cause } in
    let whole = subst (λ (s : Shaped). Called k (P s) old new c.replace.result) looked.shaped (called_then k (P (k.shaped mid)) old mid new c.replace.result looked ended) in
    subst (λ (p : Put). Called k (P (k.shaped old)) old new (Ok p)) c.in-Ok-Refused.field-0-is (subst (λ (r : Result Put KeeperEnd). Called k (P (k.shaped old)) old new r) c.in-Ok-Refused.is whole)

pub returns-in-Ok-Refused-clause-sound : goal.returns-in-Ok-Refused-clause-sound
returns-in-Ok-Refused-clause-sound g c =
    subst (λ (p : Put). IsReplaced (columns_at (shapes_of (g.K.Keeper.shaped c.args.keeper.now).now) c.args.table) c.args.id p) c.in-Ok-Refused.field-0-is
    (subst (λ (s : Shaped). IsReplaced (columns_at (shapes_of s.now) c.args.table) c.args.id c.in-Ok-Refused.field-0) c.row_numbers.ensures.looked.shaped c.in-Ok-Refused.ensures.sound)

pub returns-in-Ok-Refused-clause-counted : goal.returns-in-Ok-Refused-clause-counted
returns-in-Ok-Refused-clause-counted g c =
    let k = g.K.Keeper in
    let old = c.args.keeper.now in
    let mid = c.row_numbers.new.keeper in
    let new = c.replace.new.self in
    let columns = columns_at (shapes_of (k.shaped mid).now) c.args.table in
    let lost = SilenceCause (k.marks mid) (k.marks new) in
    let goes = subst (λ (p : Put). MayFallSilent lost (Replaces columns c.args.table c.args.id c.args.cells.now p) (k.told mid) (k.told new)) c.in-Ok-Refused.field-0-is c.in-Ok-Refused.ensures.put in
    counted_over (SilenceCause (k.marks old) (k.marks mid)) lost (k.shaped old).now (tables_now c.args.books.now) (tables_now c.make_ready.new.books) (k.told old) (k.told mid) (k.told new) c.row_numbers.ensures.looked.told
    (unchanged_leaves lost columns c.args.table c.args.id c.args.cells.now (Refused c.in-Ok-Refused.refusal) (k.told mid) (k.told new) (λ n e. absurd cc) goes) c.make_ready.ensures.now

pub returns-clause-called : goal.returns-clause-called
returns-clause-called g c =
    let k = g.K.Keeper in
    let old = c.args.keeper.now in
    let mid = c.row_numbers.new.keeper in
    let new = c.replace.new.self in
    let looked = c.row_numbers.ensures.looked in
    let P : Shaped → Put → Tables → Tables → Type 0 = λ s. Replaces (columns_at (shapes_of s.now) c.args.table) c.args.table c.args.id c.args.cells.now in
    let ended : Called k (P (k.shaped mid)) mid new c.replace.result = record { ok = c.replace.ensures.put; err = c.replace.ensures.err; shaped = c.replace.ensures.shaped; passes = (record { began = c.replace.ensures.began; attached = c.replace.ensures.attached; crash = c.replace.ensures.crash; mode = c.replace.ensures.mode; visited = c.replace.ensures.visited; loan = c.replace.ensures.loan }); cause = c.replace.ensures.cause } in
    let whole = subst (λ (s : Shaped). Called k (P s) old new c.replace.result) looked.shaped (called_then k (P (k.shaped mid)) old mid new c.replace.result looked ended) in
    subst (λ (r : Result Put KeeperEnd). Called k (P (k.shaped old)) old new r) c.in-Err-replace.is whole

pub returns-clause-counted : goal.returns-clause-counted
returns-clause-counted g c =
    let k = g.K.Keeper in
    let old = c.args.keeper.now in
    let mid = c.row_numbers.new.keeper in
    let new = c.replace.new.self in
    counted_over (SilenceCause (k.marks old) (k.marks mid)) (SilenceCause (k.marks mid) (k.marks new)) (k.shaped old).now (tables_now c.args.books.now) (tables_now c.make_ready.new.books) (k.told old) (k.told mid) (k.told new) c.row_numbers.ensures.looked.told
    c.in-Err-replace.ensures.err c.make_ready.ensures.now
