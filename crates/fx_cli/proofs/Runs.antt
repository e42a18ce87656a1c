-- Runs as a whole, and what a status says of one.
use Rattle.std.proofs.Common.{◌≡◌, ℕ, List, Option, Some, None, Ok, String, refl, sym, ◌∙◌, subst, false, nat_eq, string_bytes}
use Rattle.std.specs.declared.alloc.Global.{Global}
use Rattle.app_cells.specs.declared.app.App.{App}
use Rattle.fx_base.specs.Faults.{Rose}
use Rattle.fx_core.specs.declared.schema.Schema.{Schema}
use Rattle.office.specs.State.{schema_of}
use Rattle.office.specs.app_loader.Verdicts.{IsOneApp, IsOneVerdict}
use Rattle.fx_cli.specs.Conversations.{service_at}
use Rattle.fx_cli.specs.Opening.{IsAsked}
use Rattle.fx_cli.specs.Outside.{Outside, Sight, Work, WorkSight}
use Rattle.fx_cli.specs.Plain.{IsShownNow}
use Rattle.fx_cli.specs.Report.{EndsOver, HasFile, IsSaid, IsService, JudgedAs, Wants, status_of}
use Rattle.fx_cli.specs.Run.{EndsByVerdict, EndsWell, LeavesAlone, NoCountFell, Reports, Run, ServesApp, ServesTo}
use Rattle.fx_cli.specs.Sampled.{IsGenerated}
use Rattle.fx_cli.specs.Words.{sample, service, wanted}
use Rattle.fx_cli.specs.declared.report.Report.{Report}
use Rattle.fx_cli.specs.declared.report.Report.TheVariants.{KeeperFault, OtherSchema, Replayed}
use Rattle.fx_cli.specs.declared.replay.ReplayEnd.TheVariants.{Done, Fault}
use Rattle.fx_cli.specs.declared.words.Form.{Form}
use Rattle.fx_cli.specs.declared.words.Form.TheVariants.{View, Check, Serve}
use Rattle.fx_cli.proofs.Opened.{stopped_rose}
use Rattle.fx_cli.proofs.Reported.{built_at, checked_at, refused_at, replayed_at}
use Rattle.fx_cli.proofs.Said.{is_done, is_fault, is_keeper_fault, is_other_schema, or_fault, or_fault_replayed, replay_at, said_with}
use Rattle.fx_cli.proofs.Samples.{is_generated, never_six, sample_fault}
use Rattle.fx_cli.proofs.Served.{service_rose}

-- what is said of the values of an app, and of its service
abbrev pub shows : {D K F C : Type 0} → WorkSight D K F C → Work D K F C → Work D K F C → App → String Global → Type 0
shows see old new app text = IsShownNow (see.clock.told old.clock) (see.clock.told new.clock) app (string_bytes text)

abbrev pub ends : {D K F C : Type 0} → WorkSight D K F C → List (String Global) → Work D K F C → Work D K F C → App → Report → Type 0
ends see words old new = EndsOver see.keeper (service words).store old.keeper new.keeper (ServesTo see words old new)

no_number : (words : List (String Global)) (n : ℕ) → sample words ≡ None → sample words ≡ Some n → ⊥
no_number words n h k = let same : None ≡ Some n = sym h ∙ k in cc

module _ {D K F O C : Type 0} (see : Sight D K F O C) (words : List (String Global)) (old new : Outside D K F O C) where
  -- a file of each form ends as it is judged
  ends_well : IsOneVerdict → IsOneApp → (r : Report) (status : ℕ) → Reports see.work words old.work new.work r → IsSaid see.out old.out new.out r status
      → (form : Form) (bytes : List ℕ) (app : App) → HasFile see.work.files old.work.files (wanted words) form bytes → JudgedAs form bytes (Ok app) → EndsWell see words old new form status
  ends_well texts apps r status h said View bytes app has is = or_fault see.out old.out new.out 0 status r _ said
      (built_at texts apps see.work.files old.work.files new.work.files (shows see.work old.work new.work) (ends see.work words old.work new.work) (wanted words) r _ bytes app h has is)
  ends_well texts apps r status h said Check bytes app has is = or_fault see.out old.out new.out 0 status r _ said
      (checked_at texts apps see.work.files old.work.files new.work.files (shows see.work old.work new.work) (ends see.work words old.work new.work) (wanted words) r _ bytes app h has is)
  ends_well texts apps r status h said Serve bytes app has is = or_fault_replayed see.out old.out new.out status r _ said
      (replayed_at texts apps see.work.files old.work.files new.work.files (shows see.work old.work new.work) (ends see.work words old.work new.work) (wanted words) r _ bytes app h has is)

  by_verdict : IsOneVerdict → IsOneApp → (r : Report) (status : ℕ) → Reports see.work words old.work new.work r → IsSaid see.out old.out new.out r status
      → (form : Form) (bytes : List ℕ) → HasFile see.work.files old.work.files (wanted words) form bytes → EndsByVerdict see words old new form bytes status
  by_verdict texts apps r status h said form bytes has = record {
    accepted = λ app is. ends_well texts apps r status h said form bytes app has is;
    refused = λ breaks is. or_fault see.out old.out new.out 1 status r _ said
        (refused_at texts apps see.work.files old.work.files new.work.files (shows see.work old.work new.work) (ends see.work words old.work new.work) (wanted words) r _ form bytes breaks h has is);
  }

  -- a run whose words ask for no sample load
  pub ran : IsOneVerdict → IsOneApp → (r : Report) (status : ℕ) → sample words ≡ None → Reports see.work words old.work new.work r → LeavesAlone see.work words old.work new.work r
      → IsSaid see.out old.out new.out r status → see.work.files.told new.work.files ≡ see.work.files.told old.work.files → NoCountFell see words old new → Run see words old new status
  ran texts apps r status none h left said contents later = record {
    report = λ _. (r, h, left, said);
    sampled = λ n some. absurd (no_number words n none some);
    spoilt = λ n breaks some is. absurd (no_number words n none some);
    told = by_verdict texts apps r status h said;
    contents = contents;
    later = later;
  }

  -- one that serves an app and ends with 0
  pub served_app : (r : Report) (status : ℕ) → Reports see.work words old.work new.work r → IsSaid see.out old.out new.out r status → status ≡ 0 → Wants Serve (wanted words)
      → ServesApp see words old new
  served_app r status h said zero serve =
      let ended = said_with see.out old.out new.out r status 0 said refl zero in
      let done : r ≡ Replayed Done = is_done see.work.files old.work.files new.work.files (shows see.work old.work new.work) (ends see.work words old.work new.work) (wanted words) r h ended.0 serve.0 serve.1 in
      let is = replay_at Done see.work.files old.work.files new.work.files (shows see.work old.work new.work) (ends see.work words old.work new.work) (wanted words) r h done (see.out.told old.out) (see.out.told new.out) ended.1 in
      record { served = is.0; silent = is.1 }

-- ---- statuses

module _ {D K F O C : Type 0} (see : Sight D K F O C) (words : List (String Global)) (old new : Outside D K F O C) where
  -- the report of a run that asks for no sample load is the one that goes with its status
  reported : (status : ℕ) (is : Report) → ((r : Report) → status_of r ≡ status → r ≡ is) → nat_eq status 7 ≡ false → Run see words old new status → sample words ≡ None
      → Reports see.work words old.work new.work is
  reported status is one other run none =
      let report = run.report none in
      subst (Reports see.work words old.work new.work) (one report.0 (said_with see.out old.out new.out report.0 status status report.3 other refl).0) report.1

  pub zero_is_generated : (n : ℕ) → Run see words old new 0 → sample words ≡ Some n
      → IsGenerated see.work.keeper n old.work.keeper new.work.keeper (see.out.told old.out) (see.out.told new.out)
  zero_is_generated n run some =
      let ended = run.sampled n some in
      is_generated see.work.keeper see.out n old.work.keeper new.work.keeper ended.0 0 old.out new.out ended.1 ended.5 refl

  pub five_is_a_fault : (number : Option ℕ) → sample words ≡ number → Run see words old new 5 → Rose (see.work.keeper.marks old.work.keeper).faults (see.work.keeper.marks new.work.keeper).faults
  five_is_a_fault None none run =
      let is = reported 5 KeeperFault is_keeper_fault refl run none in
      stopped_rose see.work.keeper (service words).store old.work.keeper new.work.keeper is.ended
  five_is_a_fault (Some n) some run =
      let ended = run.sampled n some in
      sample_fault see.work.keeper see.out n old.work.keeper new.work.keeper ended.0 5 old.out new.out ended.1 ended.5 refl

  pub six_is_a_fault : (number : Option ℕ) → sample words ≡ number → Run see words old new 6 → Rose (see.work.doors.faults old.work.doors) (see.work.doors.faults new.work.doors)
  six_is_a_fault None none run =
      let is = reported 6 (Replayed Fault) is_fault refl run none in
      service_rose (service words).port (service words).most (service_at see.work.doors see.work.clock _ old.work.doors old.work.clock)
      (service_at see.work.doors see.work.clock _ new.work.doors new.work.clock) is.ended.served.0
  six_is_a_fault (Some n) some run =
      let ended = run.sampled n some in
      absurd (never_six see.work.keeper see.out n old.work.keeper new.work.keeper ended.0 6 old.out new.out ended.1 ended.5 refl)

  pub eight_is_another : Run see words old new 8 → sample words ≡ None → IsService see.work.files old.work.files new.work.files (wanted words)
      (λ app. (other : Schema) × IsAsked see.work.keeper (service words).store (schema_of app) (Some other) old.work.keeper new.work.keeper)
  eight_is_another run none = reported 8 OtherSchema is_other_schema refl run none
