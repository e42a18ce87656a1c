-- What a service leaves that was not cut off.
use Rattle.std.proofs.Common.{◌≡◌, ◌⊎◌, inl, inr, ℕ, List, String, refl, subst}
use Rattle.std.specs.declared.alloc.Global.{Global}
use Rattle.fx_cli.specs.Conversations.{service_at}
use Rattle.fx_cli.specs.Outside.{Outside, Sight}
use Rattle.fx_cli.specs.Report.{Wants}
use Rattle.fx_cli.specs.Run.{Reports, Run}
use Rattle.fx_cli.specs.Statuses.{LeavesServing}
use Rattle.fx_cli.specs.Words.{service, wanted}
use Rattle.fx_cli.specs.declared.replay.ReplayEnd.{ReplayEnd}
use Rattle.fx_cli.specs.declared.replay.ReplayEnd.TheVariants.{Done, Fault, Full}
use Rattle.fx_cli.specs.declared.report.Report.TheVariants.{Replayed}
use Rattle.fx_cli.specs.declared.words.Form.TheVariants.{Serve}
use Rattle.fx_cli.proofs.Completed.{asks_for_no_sample}
use Rattle.fx_cli.proofs.Runs.{ends, shows}
use Rattle.fx_cli.proofs.Said.{is_done, is_full, said_with}
use Rattle.fx_cli.proofs.Served.{still_listens}

module _ {D K F O C : Type 0} (see : Sight D K F O C) (words : List (String Global)) (old new : Outside D K F O C) where
  -- one that came to such an end
  served_to : (end : ReplayEnd) → (end ≡ Fault → ⊥) → Reports see.work words old.work new.work (Replayed end) → LeavesServing see words old new
  served_to end on is = record {
    opened = is.ended.opened;
    named = is.ended.is_opened.named;
    app = is.ended.state.app;
    shaped = is.ended.served.1;
    listens = still_listens (service words).port (service words).most (service_at see.work.doors see.work.clock _ old.work.doors old.work.clock)
        (service_at see.work.doors see.work.clock _ new.work.doors new.work.clock) end on is.ended.served.0;
  }

  pub leaves_serving : (status : ℕ) → Run see words old new status → Wants Serve (wanted words) → (status ≡ 0) ⊎ (status ≡ 9) → LeavesServing see words old new
  leaves_serving status run serve (inl zero) =
      let report = run.report (asks_for_no_sample words Serve serve.0 serve.1) in
      let ended = said_with see.out old.out new.out report.0 status 0 report.3 refl zero in
      let done : report.0 ≡ Replayed Done = is_done see.work.files old.work.files new.work.files (shows see.work old.work new.work) (ends see.work words old.work new.work) (wanted words) report.0 report.1 ended.0 serve.0 serve.1 in
      served_to Done (λ e. let same : Done ≡ Fault = e in cc) (subst (Reports see.work words old.work new.work) done report.1)
  leaves_serving status run serve (inr nine) =
      let report = run.report (asks_for_no_sample words Serve serve.0 serve.1) in
      let ended = said_with see.out old.out new.out report.0 status 9 report.3 refl nine in
      served_to Full (λ e. let same : Full ≡ Fault = e in cc) (subst (Reports see.work words old.work new.work) (is_full report.0 ended.0) report.1)
