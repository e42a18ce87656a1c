use Rattle.std.proofs.Common.{◌∙◌, ap, length, subst, sym, vec_len}
use Rattle.std.specs.Prelude.{IsSomeAnd, slice_get}
use Rattle.std.specs.List.{All}
use Rattle.fx_core.specs.declared.schema.TableShape.{TableShape}
use Rattle.row_queries.specs.TableRows.{IsRowOf}
use Rattle.row_queries.specs.declared.queries.Query.{Query}
use Rattle.row_keeper.specs.Tables.{shapes_of}
use Rattle.fx_base.specs.Silence.{SilenceCause}
use Rattle.fx_base.proofs.Silences.{goes_weaker}
use Rattle.row_keeper.specs.Changes.{Scans}
use Rattle.row_requests.specs.Queries.{FindsRow}
use Rattle.row_requests.proofs.Finds.{finds_row, fits_popped}
use Rattle.row_requests.proofs.finding.find_row.Goals as goal

pub returns-in-Ok-clause-found : goal.returns-in-Ok-clause-found
returns-in-Ok-clause-found g c =
    goes_weaker (SilenceCause (g.K.Keeper.marks c.args.keeper.now) (g.K.Keeper.marks c.scan.new.self)) (Scans c.in_ok-query.query c.in-Ok.answer) (FindsRow c.args.table c.args.id c.pop.result)
    (λ a b h. finds_row c.asked_once.ensures c.args.table c.args.id c.in-Ok.answer c.pop.result c.pop.new.self.items
    (vec_len c.into_items-rows.result) (vec_len c.pop.new.self) (c.into_items-rows.result.ok.0 ∙ ap length c.into_items-rows.ensures) c.pop.new.self.ok.0
    (sym c.into_items-rows.ensures ∙ c.pop.ensures.items) c.pop.ensures.cases a b (subst (λ q. Scans q c.in-Ok.answer a b) c.in_ok-query.ensures h))
    (g.K.Keeper.told c.args.keeper.now) (g.K.Keeper.told c.scan.new.self) c.in-Ok.ensures.rows

pub returns-in-Ok-clause-fit : goal.returns-in-Ok-clause-fit
returns-in-Ok-clause-fit g c =
    fits_popped (slice_get (shapes_of (g.K.Keeper.shaped c.args.keeper.now).now) c.args.table) c.in-Ok.answer.rows c.pop.new.self.items c.pop.result
    (sym c.into_items-rows.ensures ∙ c.pop.ensures.items)
    (subst (λ (q : Query). IsSomeAnd (slice_get (shapes_of (g.K.Keeper.shaped c.args.keeper.now).now) q.table) (λ (t : TableShape). All (IsRowOf t) c.in-Ok.answer.rows)) c.in_ok-query.ensures c.in-Ok.ensures.fit)
