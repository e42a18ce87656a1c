use Rattle.std.proofs.Common.{◌<◌, ◌^◌, List, rules, subst, sym}
use Rattle.std.specs.Prelude.{IfSome, IsSomeAnd, slice_get}
use Rattle.std.specs.List.{All}
use Rattle.fx_base.specs.Silence.{MayFallSilent, SilenceCause}
use Rattle.fx_core.specs.declared.schema.TableShape.{TableShape}
use Rattle.row_queries.specs.TableRows.{AreHeldRows, IsRowOf}
use Rattle.row_queries.specs.declared.queries.Query.{Query}
use Rattle.row_queries.specs.declared.rows.Row.{Row}
use Rattle.row_keeper.specs.Changes.{Scans}
use Rattle.row_keeper.specs.Tables.{shapes_of, state_at}
use Rattle.row_counts.specs.Looking.{IsPage}
use Rattle.row_counts.proofs.FindLemmas.{found_page, held_scanned}
use Rattle.row_counts.proofs.Looks.{looks_none, scanned}
use Rattle.row_counts.proofs.finding.next_rows.Goals as goal

pub returns-in_err-query-clause-looked : goal.returns-in_err-query-clause-looked
returns-in_err-query-clause-looked g c = looks_none g.K.Keeper c.args.keeper.now

pub returns-in-Ok-clause-looked : goal.returns-in-Ok-clause-looked
returns-in-Ok-clause-looked g c =
    scanned g.K.Keeper c.args.keeper.now c.scan.new.self c.in_ok-query.query c.scan.result c.scan.ensures.rows c.scan.ensures.err
    (record { began = c.scan.ensures.began; attached = c.scan.ensures.attached; crash = c.scan.ensures.crash; mode = c.scan.ensures.mode; visited = c.scan.ensures.visited; loan = c.scan.ensures.loan }) c.scan.ensures.shaped c.scan.ensures.cause.later

pub returns-clause-looked : goal.returns-clause-looked
returns-clause-looked g c =
    scanned g.K.Keeper c.args.keeper.now c.scan.new.self c.in_ok-query.query c.scan.result c.scan.ensures.rows c.scan.ensures.err
    (record { began = c.scan.ensures.began; attached = c.scan.ensures.attached; crash = c.scan.ensures.crash; mode = c.scan.ensures.mode; visited = c.scan.ensures.visited; loan = c.scan.ensures.loan }) c.scan.ensures.shaped c.scan.ensures.cause.later

pub returns-in-Ok-clause-found : goal.returns-in-Ok-clause-found
returns-in-Ok-clause-found g c =
    let most : c.args.after < 2 ^ 32 = search rules in
    let lost = SilenceCause (g.K.Keeper.marks c.args.keeper.now) (g.K.Keeper.marks c.scan.new.self) in
    subst (λ rows. IsPage (g.K.Keeper.told c.scan.new.self) c.args.table c.args.after rows) (sym c.into_items.ensures)
    (found_page c.asked_once.ensures c.keys_order.ensures.order lost c.args.table c.args.after most c.in-Ok.answer (g.K.Keeper.told c.args.keeper.now) (g.K.Keeper.told c.scan.new.self)
    (subst (λ q. MayFallSilent lost (Scans q c.in-Ok.answer) (g.K.Keeper.told c.args.keeper.now) (g.K.Keeper.told c.scan.new.self)) c.in_ok-query.ensures c.in-Ok.ensures.rows))

pub returns-in-Ok-clause-fit : goal.returns-in-Ok-clause-fit
returns-in-Ok-clause-fit g c =
    let shapes = shapes_of (g.K.Keeper.shaped c.args.keeper.now).now in
    subst (λ (rows : List Row). IsSomeAnd (slice_get shapes c.args.table) (λ (t : TableShape). All (IsRowOf t) rows)) (sym c.into_items.ensures)
    (subst (λ (q : Query). IsSomeAnd (slice_get shapes q.table) (λ (t : TableShape). All (IsRowOf t) c.in-Ok.answer.rows)) c.in_ok-query.ensures c.in-Ok.ensures.fit)

pub returns-in-Ok-clause-held : goal.returns-in-Ok-clause-held
returns-in-Ok-clause-held g c =
    let shapes = shapes_of (g.K.Keeper.shaped c.args.keeper.now).now in
    subst (λ (q : Query). IfSome (g.K.Keeper.told c.scan.new.self) (λ x. IsSomeAnd (slice_get shapes q.table) (λ t. AreHeldRows t (state_at x.states q.table).rows))) c.in_ok-query.ensures
    (held_scanned shapes (g.K.Keeper.told c.scan.new.self) c.in_ok-query.query c.in-Ok.answer c.in-Ok.ensures.answer)
