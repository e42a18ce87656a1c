-- What a run does: what becomes of all that it has outside, and the status that it ends with.
use Rattle.std.specs.Prelude.{◌≡◌, ◌≤◌, ◌⊎◌, ℕ, List, [], Some, None, Ok, Err, String, string_bytes}
use Rattle.std.specs.declared.alloc.Global.{Global}
use Rattle.fx_base.specs.Faults.{Rose}
use Rattle.fx_base.specs.Silence.{IsLater}
use Rattle.fx_base.specs.Telling.{Tells}
use Rattle.app_cells.specs.declared.app.App.{App}
use Rattle.fx_core.specs.declared.broken.Broken.{Broken as Break}
use Rattle.office.specs.app_loader.Judged.{JudgedApp}
use Rattle.sample_app.specs.Sample.{app_text}
use Rattle.fx_cli.specs.Conversations.{OfficeAt, Serves, service_at}
use Rattle.fx_cli.specs.Opening.{IsServed, IsShapedFor, IsStopped, Unsaid}
use Rattle.fx_cli.specs.Outside.{Outside, Sight, Work, WorkSight}
use Rattle.fx_cli.specs.Plain.{IsShownNow}
use Rattle.fx_cli.specs.Report as by_parts
use Rattle.fx_cli.specs.Report.{EndsOver, EndsService, RunEndsWith, HasFile, IsReadOnceAtMost}
use Rattle.fx_cli.specs.Report.{IsSaid, IsService, JudgedAs, Wants}
use Rattle.fx_cli.specs.Sampled.{ReportsSample}
use Rattle.fx_cli.specs.Telling.{Grows}
use Rattle.fx_cli.specs.Words.{sample, service, wanted}
use Rattle.fx_cli.specs.declared.replay.ReplayEnd.{ReplayEnd}
use Rattle.fx_cli.specs.declared.replay.ReplayEnd.TheVariants.{Done}
use Rattle.fx_cli.specs.declared.report.Report.{Report}
use Rattle.fx_cli.specs.declared.report.Report.TheVariants.{Shown, Checked, Broken, Usage}
use Rattle.fx_cli.specs.declared.report.Report.TheVariants.{OutOfMemory, Unread, KeeperFault}
use Rattle.fx_cli.specs.declared.report.Report.TheVariants.{OtherSchema, Replayed}
use Rattle.fx_cli.specs.declared.words.Form.{Form}
use Rattle.fx_cli.specs.declared.words.Form.TheVariants.{View, Check, Serve}

module _ {D K F C : Type 0} (see : WorkSight D K F C) (words : List (String Global))
    (old new : Work D K F C) where
  -- an app was served as the words say, which brought its office from one standing to another and
  -- ended so
  abbrev pub ServesTo : ReplayEnd → OfficeAt → OfficeAt → Type 0
  ServesTo end a b = Serves (service words).port (service words).most
      (service_at see.doors see.clock a old.doors old.clock)
      (service_at see.doors see.clock b new.doors new.clock) end

  -- when a run comes to each report
  abbrev pub Reports : Report → Type 0
  Reports = by_parts.Reports see.files old.files new.files
      (λ app text. IsShownNow (see.clock.told old.clock) (see.clock.told new.clock) app
      (string_bytes text))
      (EndsOver see.keeper (service words).store old.keeper new.keeper ServesTo) (wanted words)

  -- It left the keeper alone, or a call stopped that opens it.
  abbrev pub KeeperStopped : Type 0
  KeeperStopped = (new.keeper ≡ old.keeper) ⊎ IsStopped see.keeper (service words).store Unsaid
      old.keeper new.keeper

  -- What a run that came to a report left alone. For want of memory where an app is served a call
  -- may have stopped that opens the keeper, and where a file is viewed the clock may have been read
  -- once.
  abbrev pub LeavesAlone : Report → Type 0
  LeavesAlone (Shown text) = (new.doors ≡ old.doors) × (new.keeper ≡ old.keeper)
  LeavesAlone (Checked text) = (new.doors ≡ old.doors) × (new.clock ≡ old.clock)
      × (new.keeper ≡ old.keeper)
  LeavesAlone (Broken text) = (new.doors ≡ old.doors) × (new.clock ≡ old.clock)
      × (new.keeper ≡ old.keeper)
  LeavesAlone Usage = (new.files ≡ old.files) × (new.doors ≡ old.doors) × (new.clock ≡ old.clock)
      × (new.keeper ≡ old.keeper)
  LeavesAlone OutOfMemory = (new.doors ≡ old.doors)
      × (Wants Serve (wanted words) → (new.clock ≡ old.clock) × KeeperStopped)
      × (Wants View (wanted words) → IsReadOnceAtMost see.clock.told old.clock new.clock
      × (new.keeper ≡ old.keeper))
      × (Wants Check (wanted words) → (new.clock ≡ old.clock) × (new.keeper ≡ old.keeper))
  LeavesAlone (Unread text) = (new.doors ≡ old.doors) × (new.clock ≡ old.clock)
      × (new.keeper ≡ old.keeper)
  LeavesAlone KeeperFault = (new.doors ≡ old.doors) × (new.clock ≡ old.clock)
  LeavesAlone OtherSchema = (new.doors ≡ old.doors) × (new.clock ≡ old.clock)
  LeavesAlone (Replayed end) = Unit {0}

module _ {D K F O C : Type 0} (see : Sight D K F O C) (words : List (String Global))
    (old new : Outside D K F O C) where
  -- The file was read and is an app, the keeper was opened for it over the store that the words
  -- name, the doors listened on their port, if they name one, and all conversations, or as many as
  -- the words ask for, were answered as the office that serves it answers them, from the tables
  -- that were there then, no session and no desk. The keeper is shaped by the tables of the app
  -- that is served in the end. Nothing is said.
  pub record ServesApp : Type 0 where
    pub served : IsService see.work.files old.work.files new.work.files (wanted words)
        (λ app. IsServed see.work.keeper (service words).store old.work.keeper new.work.keeper app
        (λ a b. ServesTo see.work words old.work new.work Done a b
        × IsShapedFor see.work.keeper new.work.keeper b))
    pub silent : Tells (Grows []) (see.out.told old.out) (see.out.told new.out)

  -- a fault was counted
  abbrev pub FilesRose : Type 0
  FilesRose = Rose (see.work.files.faults old.work.files) (see.work.files.faults new.work.files)

  abbrev pub SinkRose : Type 0
  SinkRose = Rose (see.out.faults old.out) (see.out.faults new.out)

  -- It ended with this status, or for want of memory, or by a counted fault of the files or of the
  -- sink.
  abbrev pub EndsBut : ℕ → ℕ → Type 0
  EndsBut wanted status = RunEndsWith wanted status FilesRose SinkRose

  -- A file that breaks no rule is shown or checked, and an app is served up to an end, where its
  -- keeper doesn't fail and keeps no other schema.
  abbrev pub EndsWell : Form → ℕ → Type 0
  EndsWell View status = EndsBut 0 status
  EndsWell Check status = EndsBut 0 status
  EndsWell Serve status = EndsService status FilesRose SinkRose

  -- It ended as a file of these bytes is judged.
  pub record EndsByVerdict (form : Form) (bytes : List ℕ) (status : ℕ) : Type 0 where
    pub accepted : (app : App) → JudgedAs form bytes (Ok app) → EndsWell form status
    pub refused : (breaks : List Break) → JudgedAs form bytes (Err breaks) → EndsBut 1 status

  -- no count fell
  pub record NoCountFell : Type 0 where
    pub files : see.work.files.faults old.work.files ≤ see.work.files.faults new.work.files
    pub doors : see.work.doors.faults old.work.doors ≤ see.work.doors.faults new.work.doors
    pub keeper : IsLater (see.work.keeper.marks old.work.keeper)
        (see.work.keeper.marks new.work.keeper)
    pub out : see.out.faults old.out ≤ see.out.faults new.out

  pub record Run (status : ℕ) : Type 0 where
    -- It came to a report, which was said: with its status and its text, or with 7, by a fault of
    -- the sink, and in part.
    pub report : sample words ≡ None → (r : Report) × Reports see.work words old.work new.work r
        × LeavesAlone see.work words old.work new.work r × IsSaid see.out old.out new.out r status
    -- So did a sample load, which leaves files, doors and the clock alone.
    pub sampled : (n : ℕ) → sample words ≡ Some n
        → (r : Report) × ReportsSample see.work.keeper n old.work.keeper new.work.keeper r
        × (new.work.files ≡ old.work.files) × (new.work.doors ≡ old.work.doors)
        × (new.work.clock ≡ old.work.clock)
        × IsSaid see.out old.out new.out r status
    -- It ended with 1 where its app breaks a rule, but for want of memory and counted faults of the
    -- sink.
    pub spoilt : (n : ℕ) (breaks : List Break) → sample words ≡ Some n
        → JudgedApp app_text (Err breaks)
        → RunEndsWith 1 status ⊥ SinkRose
    -- Where the file that the words name is told, it ended as that is judged.
    pub told : (form : Form) (bytes : List ℕ)
        → HasFile see.work.files old.work.files (wanted words) form bytes
        → EndsByVerdict form bytes status
    -- What the files hold doesn't change.
    pub contents : see.work.files.told new.work.files ≡ see.work.files.told old.work.files
    pub later : NoCountFell
