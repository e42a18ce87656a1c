use Rattle.std.proofs.Common.{◌∙◌, ap, length, subst, sym, vec_len}
use Rattle.std.specs.Prelude.{IsSomeAnd, slice_get}
use Rattle.std.specs.List.{All}
use Rattle.fx_base.specs.Silence.{MayFallSilent, SilenceCause}
use Rattle.fx_types.specs.ValueView.{view}
use Rattle.fx_core.specs.declared.schema.TableShape.{TableShape}
use Rattle.row_queries.specs.Answers.{IsScanAnswer}
use Rattle.row_queries.specs.Queries.{IsQuery}
use Rattle.row_queries.specs.TableRows.{IsRowOf}
use Rattle.row_queries.specs.declared.queries.Query.{Query}
use Rattle.row_keeper.specs.Changes.{Scans}
use Rattle.row_keeper.specs.Tables.{rows_told, shapes_of}
use Rattle.row_imports.proofs.Found.{can_seek, finds_keyed, fits_popped, seeks_scalar}
use Rattle.row_imports.proofs.finding.find_keyed.Goals as goal

pub query_of-requires : goal.query_of-requires
query_of-requires g c = seeks_scalar (shapes_of (g.K.Keeper.shaped c.args.keeper.now).now) c.args.table c.args.column (view c.args.key.now) c.requires

pub scan-requires : goal.scan-requires
scan-requires g c =
    let shapes = shapes_of (g.K.Keeper.shaped c.args.keeper.now).now in
    record { query = subst (λ (q : Query). IsQuery shapes q) (sym c.in_ok-query.ensures) (can_seek shapes c.args.table c.args.column (view c.args.key.now) c.requires) }

pub returns-in-Ok-clause-found : goal.returns-in-Ok-clause-found
returns-in-Ok-clause-found g c =
    let lost = SilenceCause (g.K.Keeper.marks c.args.keeper.now) (g.K.Keeper.marks c.scan.new.self) in
    let shapes = shapes_of (g.K.Keeper.shaped c.args.keeper.now).now in
    let before = g.K.Keeper.told c.args.keeper.now in
    let now = g.K.Keeper.told c.scan.new.self in
    finds_keyed c.asked_once.ensures c.keys_order.ensures.order shapes c.args.table c.args.column (view c.args.key.now) c.requires c.value_is_proper.ensures
    c.in-Ok.answer c.pop.result c.pop.new.self.items
    (vec_len c.into_items-rows.result) (vec_len c.pop.new.self) (c.into_items-rows.result.ok.0 ∙ ap length c.into_items-rows.ensures) c.pop.new.self.ok.0
    (sym c.into_items-rows.ensures ∙ c.pop.ensures.items) c.pop.ensures.cases lost before now
    (subst (λ (q : Query). IsScanAnswer shapes (rows_told now) q c.in-Ok.answer) c.in_ok-query.ensures c.in-Ok.ensures.answer)
    (subst (λ (q : Query). MayFallSilent lost (Scans q c.in-Ok.answer) before now) c.in_ok-query.ensures c.in-Ok.ensures.rows)

pub returns-in-Ok-clause-fit : goal.returns-in-Ok-clause-fit
returns-in-Ok-clause-fit g c =
    fits_popped (slice_get (shapes_of (g.K.Keeper.shaped c.args.keeper.now).now) c.args.table) c.in-Ok.answer.rows c.pop.new.self.items c.pop.result
    (sym c.into_items-rows.ensures ∙ c.pop.ensures.items)
    (subst (λ (q : Query). IsSomeAnd (slice_get (shapes_of (g.K.Keeper.shaped c.args.keeper.now).now) q.table) (λ (t : TableShape). All (IsRowOf t) c.in-Ok.answer.rows)) c.in_ok-query.ensures c.in-Ok.ensures.fit)
