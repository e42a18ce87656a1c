use Rattle.std.proofs.Common.{◌≡◌, ◌∙◌, Err, List, None, ap, inr, map, subst}
use Rattle.std.specs.Prelude.{flat_map}
use Rattle.std.proofs.lemmas.Result.{IfOk-weaker}
use Rattle.office.proofs.of_recalc.Tableless.{reads_none}
use Rattle.office.specs.NamedReply.{IsNamedList, reply_row}
use Rattle.office.specs.app_semantics.Present.{present}
use Rattle.row_keeper.specs.declared.keeper.KeeperEnd.TheVariants.{Failed}
use Rattle.session_state.specs.Sessions.{SessionState}
use Rattle.view_text.specs.declared.replies.Named.{Named}
use Rattle.fx_cli.specs.Plain.{value_line}
use Rattle.fx_cli.proofs.view.view_text.Goals as goal

pub named_list-requires-clause-asks : goal.named_list-requires-clause-asks
named_list-requires-clause-asks g c = inr (reads_none c.args.app.now c.requires.sound c.requires.bare)

pub unreachable-requires : goal.unreachable-requires
unreachable-requires g c =
    let failed : c.named_list.result ≡ Err Failed = cc in
    c.named_list.ensures.reached failed (reads_none c.args.app.now c.requires.sound c.requires.bare)

pub returns-in-Ok : goal.returns-in-Ok
returns-in-Ok g c =
    let listed =
    subst (λ (s : SessionState). IsNamedList (present c.args.app.now s None c.args.moment) (map reply_row c.in-Ok.values.items)) c.in_ok-session.ensures.opened (c.in-Ok.ensures.list None tt) in
    IfOk-weaker c.values_text.result _ _ (λ text is. (map reply_row c.in-Ok.values.items, listed, is ∙ ap (λ (named : List Named). flat_map value_line (map reply_row named)) c.deref.ensures.value)) c.values_text.ensures
