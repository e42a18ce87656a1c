-- That what is asked for is done.
use Rattle.std.specs.Prelude.{◌≡◌, ◌⊎◌, ℕ, List, [], Some, IfSome, IsSomeAnd, Ok, Err, String}
use Rattle.std.specs.declared.alloc.Global.{Global}
use Rattle.app_cells.specs.declared.app.App.{App}
use Rattle.fx_base.specs.Faults.{Rose}
use Rattle.fx_base.specs.Silence.{SilenceCause}
use Rattle.fx_core.specs.declared.broken.Broken.{Broken as Break}
use Rattle.office.specs.State.{schema_of}
use Rattle.office.specs.app_loader.Judged.{JudgedApp}
use Rattle.row_keeper.specs.Tables.{Tables}
use Rattle.sample_app.specs.Sample.{app_text}
use Rattle.fx_cli.specs.Opening.{IsAttached}
use Rattle.fx_cli.specs.Outside.{Outside, Sight}
use Rattle.fx_cli.specs.Report.{HasFile, JudgedAs}
use Rattle.fx_cli.specs.Words.{sample, service, wanted}
use Rattle.fx_cli.specs.declared.words.Form.{Form}
use Rattle.fx_cli.specs.declared.words.Form.TheVariants.{View, Check, Serve}

-- a status that says so: done, or out of memory; of an app that is served also that the most came
abbrev pub IsDone : Form → ℕ → Type 0
IsDone View status = (status ≡ 0) ⊎ (status ≡ 3)
IsDone Check status = (status ≡ 0) ⊎ (status ≡ 3)
IsDone Serve status = (status ≡ 0) ⊎ (status ≡ 9) ⊎ (status ≡ 3)

module _ {D K F O C : Type 0} (see : Sight D K F O C) (words : List (String Global))
    (old new : Outside D K F O C) where
  -- No count of faults rose, and no doubt has come up of what the keeper gives back.
  pub record NothingFailed : Type 0 where
    pub files : Rose (see.work.files.faults old.work.files) (see.work.files.faults new.work.files)
        → ⊥
    pub doors : Rose (see.work.doors.faults old.work.doors) (see.work.doors.faults new.work.doors)
        → ⊥
    pub keeper : SilenceCause (see.work.keeper.marks old.work.keeper)
        (see.work.keeper.marks new.work.keeper) → ⊥
    pub out : Rose (see.out.faults old.out) (see.out.faults new.out) → ⊥

  -- Attached to the store of this name, the keeper tells its tables, and keeps no schema but that
  -- of the app which these bytes are.
  abbrev pub KeepsNoOther : List ℕ → List ℕ → Type 0
  KeepsNoOther store bytes = (k : K) (app : App)
      → IsAttached see.work.keeper store old.work.keeper k → JudgedApp bytes (Ok app)
      → IsSomeAnd (see.work.keeper.told k) (λ (t : Tables). IfSome t.kept (λ s. s ≡ schema_of app))

  -- WHAT IS ASKED FOR IS DONE, where memory is there.
  pub record Completes (status : ℕ) : Type 0 where
    -- The file that the words name is told and breaks no rule.
    pub file : (form : Form) (bytes : List ℕ) (app : App)
        → HasFile see.work.files old.work.files (wanted words) form bytes
        → JudgedAs form bytes (Ok app)
        → NothingFailed → (form ≡ Serve → KeepsNoOther (service words).store bytes)
        → IsDone form status
    -- The words ask for a sample load, whose text breaks no rule.
    pub sampled : (n : ℕ) → sample words ≡ Some n
        → ((breaks : List Break) → JudgedApp app_text (Err breaks) → ⊥)
        → NothingFailed → KeepsNoOther [] app_text → (status ≡ 0) ⊎ (status ≡ 3)
