use Rattle.std.proofs.Common.{◌≡◌, ◌∙◌, ap}
use Rattle.std.specs.Prelude.{option_map}
use Rattle.fx_types.specs.ValueView.{view}
use Rattle.fx_env.specs.Telling.{tables_told}
use Rattle.fx_semantics.specs.Rows.{rows_in}
use Rattle.row_queries.specs.declared.rows.Row.{Row}
use Rattle.fx_deeds.proofs.Finding.{is_query}
use Rattle.fx_deeds.proofs.Tabling.{cells_found, found_there}
use Rattle.fx_deeds.proofs.Told.{state_holds, state_stays}
use Rattle.fx_deeds.specs.Deeds.{row_numbered}
use Rattle.fx_deeds.specs.Finding.{first_cells}
use Rattle.fx_deeds.proofs.Attempts.{look}
use Rattle.fx_deeds.proofs.table_rows.find_cells.Goals as goal

pub scan_row-requires : goal.scan_row-requires
scan_row-requires g c = is_query (g.W.Env.fixed c.args.world.now).schema.tables c.args.shape.now c.args.table c.args.id c.requires.0

pub returns-clause-found : goal.returns-clause-found
returns-clause-found g c =
    let old = c.args.world.now in
    let new = c.scan_row.new.world in
    let schema = (g.W.Env.fixed old).schema in
    let told = g.W.Env.told new in
    let d = view c.in_ok-found.found in
    let o = c.in_ok-first_cells.field-0 in
    let found = cells_found c.asked_once.ensures schema (tables_told told) c.args.table c.args.id c.args.shape.now d o c.requires
    c.in_ok-found.ensures.value
    (c.in_ok-first_cells.ensures ∙ ap (λ z. first_cells z (rows_in d)) c.as_slice.ensures) in
    state_holds _ _ _ (λ s. o ≡ option_map (λ (r : Row). r.cells) (row_numbered c.args.table c.args.id s))
    (state_stays _ (g.W.Env.told old) told _ _ (g.met.W.World.keeps old new) (g.met.W.World.lost old) (g.met.W.World.lost new) c.scan_row.ensures.told)
    (found_there (g.W.World.state new) told c.args.shape.now c.args.table c.args.id o (g.met.W.World.lost new) (g.met.W.World.rows new) found)

pub returns-clause-fit : goal.returns-clause-fit
returns-clause-fit g c =
    let schema = (g.W.Env.fixed c.args.world.now).schema in
    let told = g.W.Env.told c.scan_row.new.world in
    let d = view c.in_ok-found.found in
    let found = cells_found c.asked_once.ensures schema (tables_told told) c.args.table c.args.id c.args.shape.now d c.in_ok-first_cells.field-0 c.requires
    c.in_ok-found.ensures.value
    (c.in_ok-first_cells.ensures ∙ ap (λ z. first_cells z (rows_in d)) c.as_slice.ensures) in found.fit

pub returns-in_err-found-clause-look : goal.returns-in_err-found-clause-look
returns-in_err-found-clause-look g c =
    let old = c.args.world.now in
    let new = c.scan_row.new.world in
    look _ _ c.scan_row.ensures.fixed (state_stays _ (g.W.Env.told old) (g.W.Env.told new) _ _ (g.met.W.World.keeps old new) (g.met.W.World.lost old) (g.met.W.World.lost new) c.scan_row.ensures.told)
    c.scan_row.ensures.marks c.scan_row.ensures.visited

pub returns-in_err-first_cells-clause-look : goal.returns-in_err-first_cells-clause-look
returns-in_err-first_cells-clause-look g c =
    let old = c.args.world.now in
    let new = c.scan_row.new.world in
    look _ _ c.scan_row.ensures.fixed (state_stays _ (g.W.Env.told old) (g.W.Env.told new) _ _ (g.met.W.World.keeps old new) (g.met.W.World.lost old) (g.met.W.World.lost new) c.scan_row.ensures.told)
    c.scan_row.ensures.marks c.scan_row.ensures.visited

pub returns-clause-look : goal.returns-clause-look
returns-clause-look g c =
    let old = c.args.world.now in
    let new = c.scan_row.new.world in
    look _ _ c.scan_row.ensures.fixed (state_stays _ (g.W.Env.told old) (g.W.Env.told new) _ _ (g.met.W.World.keeps old new) (g.met.W.World.lost old) (g.met.W.World.lost new) c.scan_row.ensures.told)
    c.scan_row.ensures.marks c.scan_row.ensures.visited
