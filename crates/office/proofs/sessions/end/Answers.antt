use Rattle.std.proofs.Common.{List, sym, subst}
use Rattle.numbered_requests.specs.Checked.{KeepsReply, SessionsKeepReplies}
use Rattle.numbered_requests.specs.declared.directory.Named.{Named}
use Rattle.session_state.specs.Changes.{FitsNames}
use Rattle.session_state.specs.Sessions.{SessionState}
use Rattle.session_views.specs.Shows.{LiveSessionsFit}
use Rattle.office.specs.Sessions.{sessions_without}
use Rattle.recalc.specs.Kept.{CacheState}
use Rattle.office.specs.Caches.{AreKept}
use Rattle.office.specs.Leaving.{SessionsLeft, nothing}
use Rattle.office.proofs.Leaving.{left_unchanged, left_without}
use Rattle.office.proofs.Caching.{kept_without}
use Rattle.office.proofs.Directories.{without_all}
use Rattle.office.proofs.sessions.end.Goals as goal

pub returns-clause-fit : goal.returns-clause-fit
returns-clause-fit c = λ names fit.
    subst (λ (l : List (Named SessionState)). LiveSessionsFit names l) (sym c.remove.ensures)
    (without_all SessionState (λ (s : Named SessionState). FitsNames names s.it) c.args.name.now c.args.sessions.now.items fit)

pub returns-clause-replies : goal.returns-clause-replies
returns-clause-replies c = λ replies.
    subst (λ (l : List (Named SessionState)). SessionsKeepReplies l) (sym c.remove.ensures)
    (without_all SessionState (λ (s : Named SessionState). KeepsReply s.it.kept) c.args.name.now c.args.sessions.now.items replies)

pub returns-clause-kept : goal.returns-clause-kept
returns-clause-kept c = λ app told m kept.
    subst (λ (l : List (Named SessionState)). AreKept app told m l c.remove-2.new.list.items) (sym c.remove.ensures)
    (subst (λ (l : List (Named CacheState)). AreKept app told m (sessions_without c.args.name.now c.args.sessions.now.items) l) (sym c.remove-2.ensures) (kept_without app told m c.args.name.now c.args.sessions.now.items c.args.caches.now.items kept))

pub returns-in_err-reply-clause-clean : goal.returns-in_err-reply-clause-clean
returns-in_err-reply-clause-clean c = λ app. left_unchanged app c.args.caches.now.items

pub returns-clause-clean : goal.returns-clause-clean
returns-clause-clean c = λ app.
    subst (λ (l : List (Named CacheState)). SessionsLeft app nothing c.args.caches.now.items l) (sym c.remove-2.ensures) (left_without app c.args.name.now c.args.caches.now.items)
