use Rattle.std.proofs.Common.{◌∙◌, List, Ok, ap, subst, sym}
use Rattle.app_cells.specs.declared.app.App.{App}
use Rattle.app_loader.specs.Edits.{IsLoaded, JudgedEdit}
use Rattle.app_loader.specs.app_texts.Frames.{app_frame}
use Rattle.app_loader.specs.app_semantics.Sound.{IsSoundApp}
use Rattle.fx_types.specs.Words.{scalars_of}
use Rattle.numbered_requests.specs.Checked.{SessionsKeepReplies}
use Rattle.numbered_requests.specs.Replies.{IsAcceptedReply, KeepReplies, said}
use Rattle.numbered_requests.specs.declared.directory.Named.{Named}
use Rattle.serde_json.specs.Written.{compact_text}
use Rattle.session_state.specs.Changes.{HoldsTables}
use Rattle.session_state.specs.Once.{LastRequest}
use Rattle.session_state.specs.Sessions.{SessionState}
use Rattle.office.specs.DeskEdits.{seq_data}
use Rattle.session_views.specs.Shows.{LiveSessionsFit}
use Rattle.office.proofs.Desks.{kept_so}
use Rattle.office.proofs.Directories.{put_all}
use Rattle.office.proofs.Edits.{alike, carried_fit, carried_keep}
use Rattle.office.proofs.posting.make_edit.Goals as goal

pub returns-in-Ok-clause-done : goal.returns-in-Ok-clause-done
returns-in-Ok-clause-done c =
    let sessions = c.in_ok-go_over-in-Ok.ensures.sessions in
    let desks = kept_so c.args.name.now c.args.body.now c.in_ok-accepted.accepted.name c.in_ok-accepted.accepted.body.items c.in_ok-accepted.accepted.kept.items c.args.asked.now.seq c.args.desks.now.items _ c.keep.new.desks.items
    c.in_ok-accepted.ensures.name c.in_ok-accepted.ensures.body c.in_ok-accepted.ensures.kept c.in_ok-reserve.ensures.items c.keep.ensures.kept in
    record {
      verdict = Ok c.in-Ok.edited;
      judged = subst (λ cell. JudgedEdit c.args.app.now cell c.args.asked.now.text (Ok c.in-Ok.edited)) c.as_str.ensures.scalars (subst (λ text. JudgedEdit c.args.app.now (scalars_of c.as_str.result.now) text (Ok c.in-Ok.edited)) c.as_str-2.ensures.scalars c.in-Ok.ensures.app);
      ends = (ap said c.keep.ensures.reply ∙ c.in_ok-accepted.ensures.reply, λ i. record { app = c.in_ok-go_over-in-Ok.ensures.app i; sessions = sessions i; desks = desks i });
    }

pub returns-in-Ok-clause-fit : goal.returns-in-Ok-clause-fit
returns-in-Ok-clause-fit c =
    subst (λ (a : App). LiveSessionsFit a.names c.go_over.new.sessions.items) (sym c.in_ok-go_over-in-Ok.ensures.app)
    (subst (λ (l : List (Named SessionState)). LiveSessionsFit c.in-Ok.edited.names l) (sym c.in_ok-go_over-in-Ok.ensures.sessions)
    (carried_fit c.args.app.now.names c.in-Ok.edited.names c.args.sessions.now.items (alike c.args.app.now c.in-Ok.edited c.in-Ok.ensures.frame) c.in-Ok.ensures.tables c.requires.fit))

pub returns-in-Ok-clause-kept : goal.returns-in-Ok-clause-kept
returns-in-Ok-clause-kept c =
    let desk : LastRequest = record { last = c.args.asked.now.seq; body = c.in_ok-accepted.accepted.body.items; reply = c.in_ok-accepted.accepted.kept.items } in
    subst KeepReplies (sym c.keep.ensures.kept)
    (put_all LastRequest (λ (n : Named LastRequest). IsAcceptedReply n.it.reply) c.in_ok-accepted.accepted.name desk c.reserve.new.self.items (subst KeepReplies (sym c.in_ok-reserve.ensures.items) c.requires.kept)
    (compact_text (seq_data c.args.asked.now.seq), c.in_ok-accepted.ensures.kept))

pub returns-in-Ok-clause-replies : goal.returns-in-Ok-clause-replies
returns-in-Ok-clause-replies c =
    subst SessionsKeepReplies (sym c.in_ok-go_over-in-Ok.ensures.sessions) (carried_keep c.args.app.now.names c.in-Ok.edited.names c.args.sessions.now.items c.requires.replies)

pub returns-in-Ok-clause-caches : goal.returns-in-Ok-clause-caches
returns-in-Ok-clause-caches c = c.go_over.ensures.kept

pub returns-in-Ok-clause-over : goal.returns-in-Ok-clause-over
returns-in-Ok-clause-over c = c.go_over.ensures.over

-- there is no memory to go over
pub returns-in_err-go_over-in-Ok-clause-fit : goal.returns-in_err-go_over-in-Ok-clause-fit
returns-in_err-go_over-in-Ok-clause-fit c =
    subst (λ (a : App). LiveSessionsFit a.names c.go_over.new.sessions.items) (sym c.in_err-go_over-in-Ok.ensures.stopped)
    (subst (λ (l : List (Named SessionState)). LiveSessionsFit c.args.app.now.names l) (sym c.in_err-go_over-in-Ok.ensures.stayed) c.requires.fit)

pub returns-in_err-go_over-in-Ok-clause-replies : goal.returns-in_err-go_over-in-Ok-clause-replies
returns-in_err-go_over-in-Ok-clause-replies c = subst SessionsKeepReplies (sym c.in_err-go_over-in-Ok.ensures.stayed) c.requires.replies

pub returns-in_err-go_over-in-Ok-clause-caches : goal.returns-in_err-go_over-in-Ok-clause-caches
returns-in_err-go_over-in-Ok-clause-caches c = c.go_over.ensures.kept

pub returns-in_err-go_over-in-Ok-clause-over : goal.returns-in_err-go_over-in-Ok-clause-over
returns-in_err-go_over-in-Ok-clause-over c = c.go_over.ensures.over

pub returns-in-Ok-clause-loaded : goal.returns-in-Ok-clause-loaded
returns-in-Ok-clause-loaded c = subst IsLoaded (sym c.in_ok-go_over-in-Ok.ensures.app) c.in-Ok.ensures.loaded

pub returns-in-Ok-clause-sound : goal.returns-in-Ok-clause-sound
returns-in-Ok-clause-sound c = subst IsSoundApp (sym c.in_ok-go_over-in-Ok.ensures.app) c.in-Ok.ensures.sound

pub returns-in-Ok-clause-tables : goal.returns-in-Ok-clause-tables
returns-in-Ok-clause-tables c = subst (λ (a : App). HoldsTables a.names) (sym c.in_ok-go_over-in-Ok.ensures.app) c.in-Ok.ensures.tables

pub returns-in-Ok-clause-frame : goal.returns-in-Ok-clause-frame
returns-in-Ok-clause-frame c = ap app_frame c.in_ok-go_over-in-Ok.ensures.app ∙ c.in-Ok.ensures.frame

pub returns-in_err-go_over-in-Ok-clause-loaded : goal.returns-in_err-go_over-in-Ok-clause-loaded
returns-in_err-go_over-in-Ok-clause-loaded c = subst IsLoaded (sym c.in_err-go_over-in-Ok.ensures.stopped) c.requires.loaded

pub returns-in_err-go_over-in-Ok-clause-sound : goal.returns-in_err-go_over-in-Ok-clause-sound
returns-in_err-go_over-in-Ok-clause-sound c = subst IsSoundApp (sym c.in_err-go_over-in-Ok.ensures.stopped) c.requires.sound

pub returns-in_err-go_over-in-Ok-clause-tables : goal.returns-in_err-go_over-in-Ok-clause-tables
returns-in_err-go_over-in-Ok-clause-tables c = subst (λ (a : App). HoldsTables a.names) (sym c.in_err-go_over-in-Ok.ensures.stopped) c.requires.tables

pub returns-in_err-go_over-in-Ok-clause-frame : goal.returns-in_err-go_over-in-Ok-clause-frame
returns-in_err-go_over-in-Ok-clause-frame c = ap app_frame c.in_err-go_over-in-Ok.ensures.stopped
