use Rattle.std.proofs.Common.{◌≡◌, ℕ, List, Result, Ok, Err, subst, sym}
use Rattle.std.specs.Prelude.{IsSome}
use Rattle.numbered_requests.specs.Directory.{find}
use Rattle.numbered_requests.specs.declared.directory.Named.{Named}
use Rattle.session_requests.proofs.Passing.{live}
use Rattle.session_requests.specs.Bodies.{input_in}
use Rattle.session_requests.specs.declared.input.Input.{Input}
use Rattle.session_state.specs.Sessions.{SessionState}
use Rattle.std.proofs.lemmas.Result.{IfOk-weaker, on_err_weaker}
use Rattle.fx_base.specs.Silence.{SilenceCause}
use Rattle.numbered_requests.specs.Checks.{checks, session_of}
use Rattle.numbered_requests.specs.Replies.{said}
use Rattle.office.specs.Leaving.{AreStopped, InputLeaves, input_cut, nothing}
use Rattle.office.proofs.Leaving.{acted_same, err_always, stopped_same}
use Rattle.office.proofs.sending.post_input.Goals as goal

pub act_input-requires-clause-live : goal.act_input-requires-clause-live
act_input-requires-clause-live g c =
    let is = rw c.in-Acts.is at c.in_ok-reply.ensures.is in
    subst (λ (l : List (Named SessionState)). IsSome (find c.args.name.now l)) c.deref.ensures.value
    (live Input input_in (λ (i : Input). i.seq) c.args.name.now c.args.body.now c.in-Acts.input c.deref.result.now is)

pub returns-in-Acts-clause-own : goal.returns-in-Acts-clause-own
returns-in-Acts-clause-own g c =
    let told = g.K.Keeper.told in
    let name = c.args.name.now in
    let lost = SilenceCause (g.K.Keeper.marks c.args.keeper.now) (g.K.Keeper.marks c.act_input.new.keeper) in
    let passed = rw c.in-Acts.is at c.in_ok-reply.ensures.is in
    let is = subst (λ (l : List (Named SessionState)). checks input_in (λ (i : Input). i.seq) (session_of name l) c.args.body.now ≡ Ok c.in-Acts.input) c.deref.ensures.value passed in
    IfOk-weaker c.act_input.result _ _ (λ r own.
    subst (λ (x : Result Input (List ℕ)). InputLeaves lost c.args.app.now c.args.moment name nothing c.args.body.now x (told c.args.keeper.now) c.args.sessions.now.items (said r) (told c.act_input.new.keeper) c.act_input.new.sessions.items c.args.caches.now.items c.act_input.new.caches.items) (sym is) own) c.act_input.ensures.own

pub returns-in-Says-clause-own : goal.returns-in-Says-clause-own
returns-in-Says-clause-own g c =
    let told = g.K.Keeper.told c.args.keeper.now in
    let name = c.args.name.now in
    let lost = SilenceCause (g.K.Keeper.marks c.args.keeper.now) (g.K.Keeper.marks c.args.keeper.now) in
    let passed = rw c.in-Says.is at c.in_ok-reply.ensures.is in
    let is = subst (λ (l : List (Named SessionState)). checks input_in (λ (i : Input). i.seq) (session_of name l) c.args.body.now ≡ Err (said c.in-Says.reply)) c.deref.ensures.value passed in
    subst (λ (x : Result Input (List ℕ)). InputLeaves lost c.args.app.now c.args.moment name nothing c.args.body.now x told c.args.sessions.now.items (said c.in-Says.reply) told c.args.sessions.now.items c.args.caches.now.items c.args.caches.now.items) (sym is)
    (acted_same c.args.app.now name c.args.caches.now.items)

pub returns-in_err-reply-clause-cut : goal.returns-in_err-reply-clause-cut
returns-in_err-reply-clause-cut g c = err_always _ _ (stopped_same c.args.app.now c.args.name.now _ (g.K.Keeper.told c.args.keeper.now) c.args.caches.now.items)

pub returns-in-Acts-clause-cut : goal.returns-in-Acts-clause-cut
returns-in-Acts-clause-cut g c =
    let name = c.args.name.now in
    let passed = rw c.in-Acts.is at c.in_ok-reply.ensures.is in
    let is = subst (λ (l : List (Named SessionState)). checks input_in (λ (i : Input). i.seq) (session_of name l) c.args.body.now ≡ Ok c.in-Acts.input) c.deref.ensures.value passed in
    on_err_weaker c.act_input.result (λ stopped.
    subst (λ (x : Result Input (List ℕ)). AreStopped c.args.app.now name nothing (input_cut c.args.app.now c.args.moment name (g.K.Keeper.told c.args.keeper.now) c.args.sessions.now.items x) (g.K.Keeper.told c.act_input.new.keeper) c.args.caches.now.items c.act_input.new.caches.items) (sym is) stopped) c.act_input.ensures.cut
