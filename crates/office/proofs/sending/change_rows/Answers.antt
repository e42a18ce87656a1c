use Rattle.std.proofs.Common.{[], List, subst, sym}
use Rattle.fx_base.specs.Silence.{MayFallSilent, SilenceCause}
use Rattle.fx_core.specs.Reads.{IsAmong}
use Rattle.fx_core.specs.declared.sources.Source.{Source}
use Rattle.row_requests.specs.Written.{SameTablesExcept, IsNamedBy}
use Rattle.office.specs.Caches.{tables_in}
use Rattle.office.proofs.Leaving.{among_tables, each_same, each_told, left_none}
use Rattle.office.proofs.Sent.{kept_still, kept_told, named_sources}
use Rattle.office.proofs.sending.change_rows.Goals as goal

pub returns-in_err-reply-clause-kept : goal.returns-in_err-reply-clause-kept
returns-in_err-reply-clause-kept g c = λ m sessions kept.
    kept_still c.args.app.now m (SilenceCause (g.K.Keeper.marks c.args.keeper.now) (g.K.Keeper.marks c.post_rows.new.keeper)) (g.K.Keeper.told c.args.keeper.now) (g.K.Keeper.told c.post_rows.new.keeper) sessions c.args.caches.now.items c.in_err-reply.ensures.stopped kept

pub touch_others-requires-clause-sources : goal.touch_others-requires-clause-sources
touch_others-requires-clause-sources g c = λ x among.
    let named = c.post_rows.ensures.named x (subst (λ (ws : List Source). IsAmong x ws) c.deref.ensures.value among) in
    named_sources c.args.app.now.names named.posted.changes x named.named

pub returns-clause-kept : goal.returns-clause-kept
returns-clause-kept g c = λ m sessions kept.
    let told = g.K.Keeper.told in
    let lost = SilenceCause (g.K.Keeper.marks c.args.keeper.now) (g.K.Keeper.marks c.post_rows.new.keeper) in
    kept_told c.args.app.now m lost c.deref.result.now (told c.args.keeper.now) (told c.post_rows.new.keeper) sessions c.args.caches.now.items c.touch_others.new.caches.items c.requires.sound
    (subst (λ (ws : List Source). MayFallSilent lost (SameTablesExcept ws) (told c.args.keeper.now) (told c.post_rows.new.keeper)) (sym c.deref.ensures.value) c.in_ok-reply.ensures.wrote) kept c.touch_others.ensures.told

pub returns-in_err-reply-clause-clean : goal.returns-in_err-reply-clause-clean
returns-in_err-reply-clause-clean g c =
    let cs = c.args.caches.now.items in
    left_none c.args.app.now (IsNamedBy c.args.app.now.names.schema.tables c.args.desks.now.items c.args.name.now c.args.body.now) cs cs (each_same c.args.app.now [] cs)

pub returns-clause-clean : goal.returns-clause-clean
returns-clause-clean g c =
    let ws = c.deref.result.now in (
      tables_in ws,
      (λ x among. c.post_rows.ensures.named x (subst (λ (l : List Source). IsAmong x l) c.deref.ensures.value (among_tables x ws among))),
      each_told c.args.app.now (tables_in ws) c.args.caches.now.items c.touch_others.new.caches.items c.touch_others.ensures.told,
    )
