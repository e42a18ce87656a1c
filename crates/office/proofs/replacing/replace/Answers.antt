use Rattle.std.proofs.Common.{◌≡◌, List, Ok, Err, inl, refl, subst}
use Rattle.std.proofs.lemmas.Result.{IfOk-weaker}
use Rattle.fx_core.specs.declared.broken.Broken.{Broken}
use Rattle.numbered_requests.specs.Replies.{refusal_reply, said}
use Rattle.serde_json.specs.View.{view as json_view}
use Rattle.office.specs.DeskEdits.{refusal_of}
use Rattle.office.proofs.Leaving.{err_always}
use Rattle.office.proofs.Served.{stays_same}
use Rattle.office.proofs.replacing.replace.Goals as goal

-- the app is accepted
pub go_over-requires-clause-accepted : goal.go_over-requires-clause-accepted
go_over-requires-clause-accepted g c = record {
  sound = c.in-Ok.ensures.sound;
  loaded = c.loaded_value.ensures (json_view c.args.given.now) c.in-Ok.coming c.in-Ok.ensures.app;
  tables = c.in-Ok.ensures.tables;
  opens = c.in-Ok.ensures.opens;
}

pub returns-in-Ok-clause-done : goal.returns-in-Ok-clause-done
returns-in-Ok-clause-done g c =
    IfOk-weaker c.go_over.result _ _ (λ r ends. record {
      app = json_view c.args.given.now;
      given = c.requires.given;
      verdict = Ok c.in-Ok.coming;
      judged = c.in-Ok.ensures.app;
      ends = (
        record {
          sound = c.in-Ok.ensures.sound;
          loaded = c.loaded_value.ensures (json_view c.args.given.now) c.in-Ok.coming c.in-Ok.ensures.app;
          tables = c.in-Ok.ensures.tables;
          opens = c.in-Ok.ensures.opens;
        },
        ends,
      );
    }) c.go_over.ensures.done

pub returns-in-Ok-clause-reached : goal.returns-in-Ok-clause-reached
returns-in-Ok-clause-reached g c = λ failed.
    record { app = json_view c.args.given.now; given = c.requires.given; new = c.in-Ok.coming; judged = c.in-Ok.ensures.app; fine = c.go_over.ensures.fine failed }

-- or it breaks rules
pub returns-in_ok-refuse-in-Err-Refused-clause-done : goal.returns-in_ok-refuse-in-Err-Refused-clause-done
returns-in_ok-refuse-in-Err-Refused-clause-done g c =
    let told = subst (λ (bs : List Broken). said c.in_ok-refuse-in-Err-Refused.field-0 ≡ refusal_reply (refusal_of bs)) c.deref.ensures.value c.in_ok-refuse-in-Err-Refused.ensures.said in
    record {
      app = json_view c.args.given.now;
      given = c.requires.given;
      verdict = Err c.in-Err-Refused.breaks.items;
      judged = rw c.in-Err-Refused.field-0-is at c.in-Err-Refused.ensures.refused;
      ends = (told, refl);
    }

pub returns-in_ok-refuse-in-Err-Refused-clause-becomes : goal.returns-in_ok-refuse-in-Err-Refused-clause-becomes
returns-in_ok-refuse-in-Err-Refused-clause-becomes g c = inl (stays_same _ _ c.requires.ready.0 c.requires.ready.1)

pub returns-in_err-refuse-in-Err-Refused-clause-stopped : goal.returns-in_err-refuse-in-Err-Refused-clause-stopped
returns-in_err-refuse-in-Err-Refused-clause-stopped g c = err_always _ _ (stays_same _ _ c.requires.ready.0 c.requires.ready.1)

pub returns-in-Err-Memory-clause-stopped : goal.returns-in-Err-Memory-clause-stopped
returns-in-Err-Memory-clause-stopped g c = stays_same _ _ c.requires.ready.0 c.requires.ready.1
