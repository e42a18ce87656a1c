use Rattle.std.proofs.Common.{◌∙◌, ap, length, sym, subst, vec_len}
use Rattle.fx_base.specs.Silence.{SilenceCause}
use Rattle.row_keeper.specs.Changes.{Scans}
use Rattle.row_counts.proofs.FindLemmas.{found_row}
use Rattle.row_counts.proofs.Looks.{looks_none, scanned}
use Rattle.row_counts.proofs.finding.find_row.Goals as goal

pub returns-in_err-query-clause-looked : goal.returns-in_err-query-clause-looked
returns-in_err-query-clause-looked g c = looks_none g.K.Keeper c.args.keeper.now

pub returns-in-Ok-clause-looked : goal.returns-in-Ok-clause-looked
returns-in-Ok-clause-looked g c =
    scanned g.K.Keeper c.args.keeper.now c.scan.new.self c.in_ok-query.query c.scan.result c.scan.ensures.rows c.scan.ensures.err
    (record { began = c.scan.ensures.began; attached = c.scan.ensures.attached; crash = c.scan.ensures.crash; mode = c.scan.ensures.mode; visited = c.scan.ensures.visited; loan = c.scan.ensures.loan }) c.scan.ensures.shaped c.scan.ensures.cause.later

pub returns-clause-looked : goal.returns-clause-looked
returns-clause-looked g c =
    scanned g.K.Keeper c.args.keeper.now c.scan.new.self c.in_ok-query.query c.scan.result c.scan.ensures.rows c.scan.ensures.err
    (record { began = c.scan.ensures.began; attached = c.scan.ensures.attached; crash = c.scan.ensures.crash; mode = c.scan.ensures.mode; visited = c.scan.ensures.visited; loan = c.scan.ensures.loan }) c.scan.ensures.shaped c.scan.ensures.cause.later

pub returns-in-Ok-clause-found : goal.returns-in-Ok-clause-found
returns-in-Ok-clause-found g c =
    let lost = SilenceCause (g.K.Keeper.marks c.args.keeper.now) (g.K.Keeper.marks c.scan.new.self) in
    found_row c.asked_once.ensures lost c.args.table c.args.id c.in-Ok.answer c.pop.result c.pop.new.self.items
    (vec_len c.into_items-rows.result) (vec_len c.pop.new.self) (c.into_items-rows.result.ok.0 ∙ ap length c.into_items-rows.ensures) c.pop.new.self.ok.0
    (sym c.into_items-rows.ensures ∙ c.pop.ensures.items) c.pop.ensures.cases (g.K.Keeper.told c.args.keeper.now) (g.K.Keeper.told c.scan.new.self)
    (subst (λ q. Rattle.fx_base.specs.Silence.MayFallSilent lost (Scans q c.in-Ok.answer) (g.K.Keeper.told c.args.keeper.now) (g.K.Keeper.told c.scan.new.self)) c.in_ok-query.ensures c.in-Ok.ensures.rows)
