use Rattle.std.proofs.Common.{◌≡◌, ℕ, List, Option, Result, Ok, Err, true, false, inl, refl, ap, sym, ◌∙◌, subst}
use Rattle.std.specs.Prelude.{is_some, option_and_then, option_map}
use Rattle.serde_json.specs.Data.{Data}
use Rattle.serde_json.specs.View.{view as json_view}
use Rattle.app_replacements.specs.Bodies.{app_in}
use Rattle.app_replacements.specs.declared.body.Replacement.{Replacement}
use Rattle.numbered_requests.specs.Bodies.{json_of}
use Rattle.numbered_requests.specs.Replies.{KeepReplies, said}
use Rattle.numbered_requests.specs.declared.directory.Named.{Named}
use Rattle.session_state.specs.Once.{LastRequest}
use Rattle.office.specs.Replacing.{ReplacesChecked, app_given, replace_checks}
use Rattle.office.specs.Served.{office_of, served, silence}
use Rattle.office.proofs.Leaving.{err_always, left_unchanged}
use Rattle.office.proofs.Replacements.{given_there, read_through}
use Rattle.office.proofs.Served.{ends_clean, ends_ready}
use Rattle.office.proofs.StepLemmas.{left_all}
use Rattle.office.proofs.replacing.post_app.Goals as goal

-- there is no memory
pub returns-in_err-json-clause-stopped : goal.returns-in_err-json-clause-stopped
returns-in_err-json-clause-stopped g c = err_always _ _ (left_all _ _ _ refl)

pub returns-in_err-json-clause-clean : goal.returns-in_err-json-clause-clean
returns-in_err-json-clause-clean g c = inl (refl, left_unchanged c.args.app.now c.args.caches.now.items)

pub returns-in_err-reply-clause-stopped : goal.returns-in_err-reply-clause-stopped
returns-in_err-reply-clause-stopped g c = err_always _ _ (left_all _ _ _ refl)

pub returns-in_err-reply-clause-clean : goal.returns-in_err-reply-clause-clean
returns-in_err-reply-clause-clean g c = inl (refl, left_unchanged c.args.app.now c.args.caches.now.items)

-- the checks
pub check_desk_json-requires-clause-kept : goal.check_desk_json-requires-clause-kept
check_desk_json-requires-clause-kept g c = subst (λ (l : List (Named LastRequest)). KeepReplies l) (sym c.deref.ensures.value) c.requires.1.kept

pub check_desk_json-requires-clause-read : goal.check_desk_json-requires-clause-read
check_desk_json-requires-clause-read g c = read_through _ json_view c.as_ref.result ∙ ap (option_map json_view) c.as_ref.ensures.value ∙ c.in_ok-json.ensures

pub returns-in-Says-clause-done : goal.returns-in-Says-clause-done
returns-in-Says-clause-done g c =
    let s = office_of g.K.Keeper c.args.app.now c.args.keeper.now c.args.sessions.now.items c.args.desks.now.items in
    let lost = silence g.K.Keeper c.args.keeper.now c.args.keeper.now in
    let passed = rw c.in-Says.is at c.in_ok-reply.ensures.is in
    let is = subst (λ (l : List (Named LastRequest)). replace_checks l c.args.name.now c.args.body.now ≡ Err (said c.in-Says.reply)) c.deref.ensures.value passed in
    subst (λ (x : Result Replacement (List ℕ)). ReplacesChecked lost c.args.name.now c.args.body.now x s (said c.in-Says.reply) s) (sym is) (refl, refl)

pub returns-in-Says-clause-clean : goal.returns-in-Says-clause-clean
returns-in-Says-clause-clean g c = inl (refl, left_unchanged c.args.app.now c.args.caches.now.items)

-- what passed them has an app, and the one that the JSON has is the one that the body gives
given_is : (body : List ℕ) (given json : Option Data) → given ≡ option_and_then app_in json → json ≡ json_of body → app_given body ≡ given
given_is body given json e f = sym (e ∙ ap (option_and_then app_in) f)

pub replace-requires-clause-ready : goal.replace-requires-clause-ready
replace-requires-clause-ready g c = c.requires

pub replace-requires-clause-given : goal.replace-requires-clause-given
replace-requires-clause-given g c =
    given_is c.args.body.now _ _ c.given_in.ensures (read_through _ json_view c.as_ref-in-Acts.result ∙ ap (option_map json_view) c.as_ref-in-Acts.ensures.value ∙ c.in_ok-json.ensures)
    ∙ ap (option_map (λ app. json_view app.now)) c.in-Some.is

pub unreachable-requires : goal.unreachable-requires
unreachable-requires g c =
    let passed = rw c.in-Acts.is at c.in_ok-reply.ensures.is in
    let is = subst (λ (l : List (Named LastRequest)). replace_checks l c.args.name.now c.args.body.now ≡ Ok c.in-Acts.asked) c.deref.ensures.value passed in
    let given = given_is c.args.body.now _ _ c.given_in.ensures (read_through _ json_view c.as_ref-in-Acts.result ∙ ap (option_map json_view) c.as_ref-in-Acts.ensures.value ∙ c.in_ok-json.ensures) in
    let there : true ≡ false = sym (given_there c.args.desks.now.items c.args.name.now c.args.body.now c.in-Acts.asked is) ∙ ap is_some (given ∙ ap (option_map (λ app. json_view app.now)) c.in-None.is) in
    cc

pub returns-in-Some-clause-ready : goal.returns-in-Some-clause-ready
returns-in-Some-clause-ready g c =
    let old = served g.K.Keeper c.args.app.now c.args.keeper.now c.args.sessions.now.items c.args.desks.now.items c.args.caches.now.items in
    let new = served g.K.Keeper c.replace.new.app c.replace.new.keeper c.replace.new.sessions.items c.replace.new.desks.items c.replace.new.caches.items in
    let lost = silence g.K.Keeper c.args.keeper.now c.replace.new.keeper in
    ends_ready lost c.args.name.now c.args.body.now c.in-Acts.asked old new c.replace.result c.replace.ensures.becomes c.replace.ensures.stopped

pub returns-in-Some-clause-clean : goal.returns-in-Some-clause-clean
returns-in-Some-clause-clean g c =
    let passed = rw c.in-Acts.is at c.in_ok-reply.ensures.is in
    let is = subst (λ (l : List (Named LastRequest)). replace_checks l c.args.name.now c.args.body.now ≡ Ok c.in-Acts.asked) c.deref.ensures.value passed in
    let old = served g.K.Keeper c.args.app.now c.args.keeper.now c.args.sessions.now.items c.args.desks.now.items c.args.caches.now.items in
    let new = served g.K.Keeper c.replace.new.app c.replace.new.keeper c.replace.new.sessions.items c.replace.new.desks.items c.replace.new.caches.items in
    let lost = silence g.K.Keeper c.args.keeper.now c.replace.new.keeper in
    ends_clean lost c.args.name.now c.args.body.now c.in-Acts.asked old new is c.replace.result c.replace.ensures.becomes c.replace.ensures.stopped
