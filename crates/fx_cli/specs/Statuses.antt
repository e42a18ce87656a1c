-- What a status says of a run.
use Rattle.std.specs.Prelude.{◌≡◌, ◌⊎◌, ℕ, List, Some, None, IfSome, String}
use Rattle.std.specs.declared.alloc.Global.{Global}
use Rattle.app_cells.specs.declared.app.App.{App}
use Rattle.app_wire.specs.Doorway.{Doorway}
use Rattle.fx_base.specs.Faults.{Rose}
use Rattle.fx_base.specs.Telling.{Tells}
use Rattle.fx_core.specs.declared.schema.Schema.{Schema}
use Rattle.office.specs.State.{schema_of}
use Rattle.row_keeper.specs.Shaped.{by}
use Rattle.fx_cli.specs.Opening.{HasName, IsAsked}
use Rattle.fx_cli.specs.Outside.{Outside, Sight}
use Rattle.fx_cli.specs.Report.{IsService, Wants}
use Rattle.fx_cli.specs.Run.{Run}
use Rattle.fx_cli.specs.Sampled.{IsGenerated}
use Rattle.fx_cli.specs.Words.{sample, service, wanted}
use Rattle.fx_cli.specs.declared.words.Form.TheVariants.{Serve}

module _ {D K F O C : Type 0} (see : Sight D K F O C) where
  -- A sample load that ends with 0: the sample was put to its requests, and what is told of that
  -- was written.
  abbrev pub ZeroOfASampleIsGenerated : Type 0
  ZeroOfASampleIsGenerated = (words : List (String Global)) (old new : Outside D K F O C) (n : ℕ)
      → Run see words old new 0 → sample words ≡ Some n
      → IsGenerated see.work.keeper n old.work.keeper new.work.keeper (see.out.told old.out)
      (see.out.told new.out)

  -- 5: a fault of the keeper was counted.
  abbrev pub FiveIsAKeeperFault : Type 0
  FiveIsAKeeperFault = (words : List (String Global)) (old new : Outside D K F O C)
      → Run see words old new 5
      → Rose (see.work.keeper.marks old.work.keeper).faults
      (see.work.keeper.marks new.work.keeper).faults

  -- 6: one of the doors.
  abbrev pub SixIsAFaultOfDoors : Type 0
  SixIsAFaultOfDoors = (words : List (String Global)) (old new : Outside D K F O C)
      → Run see words old new 6
      → Rose (see.work.doors.faults old.work.doors) (see.work.doors.faults new.work.doors)

  -- 8: the file is an app, and the keeper that was opened for it answered another schema than that
  -- of the app.
  abbrev pub EightIsAnotherSchema : Type 0
  EightIsAnotherSchema = (words : List (String Global)) (old new : Outside D K F O C)
      → Run see words old new 8 → sample words ≡ None
      → IsService see.work.files old.work.files new.work.files (wanted words)
      (λ app. (other : Schema) × IsAsked see.work.keeper (service words).store (schema_of app)
      (Some other) old.work.keeper new.work.keeper)

  -- What a service has left that was not cut off: a keeper that was attached to the store of the
  -- words as it was opened, and is shaped by the tables of the app that is served in the end; and
  -- doors that listen on the port of the words, if they name one.
  pub record LeavesServing (words : List (String Global)) (old new : Outside D K F O C) :
      Type 0 where
    pub opened : K
    pub named : HasName see.work.keeper (service words).store old.work.keeper opened
    pub app : App
    pub shaped : see.work.keeper.shaped new.work.keeper ≡ by (schema_of app)
    pub listens : IfSome (service words).port (λ port. Tells
        (λ (a b : Doorway). b.port ≡ Some port)
        (see.work.doors.told old.work.doors) (see.work.doors.told new.work.doors))

  -- 0 or 9, where the words serve an app: that is left.
  abbrev pub ServiceIsLeftServing : Type 0
  ServiceIsLeftServing = (words : List (String Global)) (old new : Outside D K F O C) (status : ℕ)
      → Run see words old new status → Wants Serve (wanted words)
      → (status ≡ 0) ⊎ (status ≡ 9) → LeavesServing words old new
