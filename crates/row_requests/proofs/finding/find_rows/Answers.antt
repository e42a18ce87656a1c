use Rattle.std.proofs.Common.{◌<◌, ◌^◌, rules, subst, sym}
use Rattle.std.specs.Prelude.{IsSomeAnd, List, slice_get}
use Rattle.std.specs.List.{All}
use Rattle.fx_base.specs.Silence.{SilenceCause}
use Rattle.fx_base.proofs.Silences.{goes_weaker}
use Rattle.fx_core.specs.declared.schema.TableShape.{TableShape}
use Rattle.row_queries.specs.TableRows.{IsRowOf}
use Rattle.row_queries.specs.Visits.{VisitsTold}
use Rattle.row_queries.specs.declared.queries.Query.{Query}
use Rattle.row_queries.specs.declared.rows.Row.{Row}
use Rattle.row_keeper.specs.Changes.{Scans}
use Rattle.row_keeper.specs.Tables.{rows_told, shapes_of}
use Rattle.row_requests.specs.Queries.{FindsRows}
use Rattle.row_requests.proofs.Finds.{finds_rows, visits_none, visits_past}
use Rattle.row_requests.proofs.finding.find_rows.Goals as goal

pub returns-in_err-query-clause-visits : goal.returns-in_err-query-clause-visits
returns-in_err-query-clause-visits g c = visits_none c.args.table c.args.after (g.K.Keeper.visited c.args.keeper.now) (g.K.Keeper.told c.args.keeper.now)

pub returns-in-Ok-clause-found : goal.returns-in-Ok-clause-found
returns-in-Ok-clause-found g c =
    let most : c.args.after < 2 ^ 32 = search rules in
    goes_weaker (SilenceCause (g.K.Keeper.marks c.args.keeper.now) (g.K.Keeper.marks c.scan.new.self)) (Scans c.in_ok-query.query c.in-Ok.answer) (FindsRows c.args.table c.args.after c.into_items.result.items)
    (λ a b h. subst (λ rows. FindsRows c.args.table c.args.after rows a b) (sym c.into_items.ensures)
    (finds_rows c.asked_once.ensures c.keys_order.ensures.order c.args.table c.args.after most c.in-Ok.answer a b (subst (λ q. Scans q c.in-Ok.answer a b) c.in_ok-query.ensures h)))
    (g.K.Keeper.told c.args.keeper.now) (g.K.Keeper.told c.scan.new.self) c.in-Ok.ensures.rows

pub returns-in-Ok-clause-fit : goal.returns-in-Ok-clause-fit
returns-in-Ok-clause-fit g c =
    let shapes = shapes_of (g.K.Keeper.shaped c.args.keeper.now).now in
    subst (λ (rows : List Row). IsSomeAnd (slice_get shapes c.args.table) (λ (t : TableShape). All (IsRowOf t) rows)) (sym c.into_items.ensures)
    (subst (λ (q : Query). IsSomeAnd (slice_get shapes q.table) (λ (t : TableShape). All (IsRowOf t) c.in-Ok.answer.rows)) c.in_ok-query.ensures c.in-Ok.ensures.fit)

pub returns-in-Ok-clause-visits : goal.returns-in-Ok-clause-visits
returns-in-Ok-clause-visits g c =
    let most : c.args.after < 2 ^ 32 = search rules in
    visits_past c.keys_order.ensures.order c.args.table c.args.after most (g.K.Keeper.told c.scan.new.self) (g.K.Keeper.visited c.args.keeper.now) (g.K.Keeper.visited c.scan.new.self)
    (subst (λ q. VisitsTold (rows_told (g.K.Keeper.told c.scan.new.self)) q (g.K.Keeper.visited c.args.keeper.now) (g.K.Keeper.visited c.scan.new.self)) c.in_ok-query.ensures c.scan.ensures.most)

pub returns-clause-visits : goal.returns-clause-visits
returns-clause-visits g c =
    let most : c.args.after < 2 ^ 32 = search rules in
    visits_past c.keys_order.ensures.order c.args.table c.args.after most (g.K.Keeper.told c.scan.new.self) (g.K.Keeper.visited c.args.keeper.now) (g.K.Keeper.visited c.scan.new.self)
    (subst (λ q. VisitsTold (rows_told (g.K.Keeper.told c.scan.new.self)) q (g.K.Keeper.visited c.args.keeper.now) (g.K.Keeper.visited c.scan.new.self)) c.in_ok-query.ensures c.scan.ensures.most)
