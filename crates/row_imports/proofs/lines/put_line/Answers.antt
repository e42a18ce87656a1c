use Rattle.std.proofs.Common.{Option, Some, None, subst, sym}
use Rattle.std.specs.Prelude.{IfSome, IsSomeAnd, slice_get}
use Rattle.fx_base.specs.Silence.{MayFallSilent, SilenceCause}
use Rattle.fx_types.specs.ValueView.{view}
use Rattle.fx_core.specs.declared.schema.TableShape.{TableShape}
use Rattle.row_queries.specs.TableRows.{IsRowOf}
use Rattle.row_queries.specs.declared.rows.Row.{Row}
use Rattle.row_keeper.specs.Shaped.{Shaped}
use Rattle.row_keeper.specs.Tables.{shapes_of}
use Rattle.row_imports.specs.Lines.{FindsKeyed, IsHeading}
use Rattle.row_imports.proofs.Acting.{fits_shape, has_key, key_sought, puts_told}
use Rattle.row_imports.proofs.lines.put_line.Goals as goal

pub key_of-requires : goal.key_of-requires
key_of-requires g c = has_key c.args.shape.now.columns c.args.heading.now c.args.line.now c.requires.line

pub find_keyed-requires : goal.find_keyed-requires
find_keyed-requires g c =
    key_sought (shapes_of (g.K.Keeper.shaped c.args.keeper.now).now) c.args.shape.now c.args.heading.now c.args.line.now (view c.key_of.result.now) c.requires.heading c.requires.line c.key_of.ensures

pub change_row-requires-clause-heading : goal.change_row-requires-clause-heading
change_row-requires-clause-heading g c =
    subst (λ (s : Shaped). IsHeading (shapes_of s.now) c.args.shape.now c.args.heading.now) (sym c.in_ok-found.ensures.shaped) c.requires.heading

pub change_row-requires-clause-row : goal.change_row-requires-clause-row
change_row-requires-clause-row g c =
    let there = slice_get (shapes_of (g.K.Keeper.shaped c.args.keeper.now).now) c.args.heading.now.table in
    fits_shape there c.args.shape.now c.in-Some.row c.requires.heading.table
    (subst (λ (o : Option Row). IfSome o (λ (r : Row). IsSomeAnd there (λ (t : TableShape). IsRowOf t r))) c.in-Some.is c.in_ok-found.ensures.fit)

pub add_row-requires-clause-heading : goal.add_row-requires-clause-heading
add_row-requires-clause-heading g c =
    subst (λ (s : Shaped). IsHeading (shapes_of s.now) c.args.shape.now c.args.heading.now) (sym c.in_ok-found.ensures.shaped) c.requires.heading

pub returns-in-Some-clause-done : goal.returns-in-Some-clause-done
returns-in-Some-clause-done g c =
    let told = g.K.Keeper.told in
    let marks = g.K.Keeper.marks in
    let columns = c.args.shape.now.columns in
    let heading = c.args.heading.now in
    let line = c.args.line.now in
    let key = view c.key_of.result.now in
    let lost = SilenceCause (marks c.args.keeper.now) (marks c.find_keyed.new.keeper) in
    let found = subst (λ o. MayFallSilent lost (FindsKeyed heading.table heading.key key o) (told c.args.keeper.now) (told c.find_keyed.new.keeper)) c.in-Some.is c.in_ok-found.ensures.found in
    puts_told columns heading line key (Some c.in-Some.row) c.change_row.result c.key_of.ensures
    (marks c.args.keeper.now) (marks c.find_keyed.new.keeper) (marks c.change_row.new.keeper) c.in_ok-found.ensures.cause.later c.change_row.ensures.cause.later
    (told c.args.keeper.now) (told c.find_keyed.new.keeper) (told c.change_row.new.keeper) found c.change_row.ensures.done

pub returns-in-None-clause-done : goal.returns-in-None-clause-done
returns-in-None-clause-done g c =
    let told = g.K.Keeper.told in
    let marks = g.K.Keeper.marks in
    let columns = c.args.shape.now.columns in
    let heading = c.args.heading.now in
    let line = c.args.line.now in
    let key = view c.key_of.result.now in
    let lost = SilenceCause (marks c.args.keeper.now) (marks c.find_keyed.new.keeper) in
    let found = subst (λ o. MayFallSilent lost (FindsKeyed heading.table heading.key key o) (told c.args.keeper.now) (told c.find_keyed.new.keeper)) c.in-None.is c.in_ok-found.ensures.found in
    puts_told columns heading line key None c.add_row.result c.key_of.ensures
    (marks c.args.keeper.now) (marks c.find_keyed.new.keeper) (marks c.add_row.new.keeper) c.in_ok-found.ensures.cause.later c.add_row.ensures.cause.later
    (told c.args.keeper.now) (told c.find_keyed.new.keeper) (told c.add_row.new.keeper) found c.add_row.ensures.done
