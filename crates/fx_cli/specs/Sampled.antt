-- What comes of a sample load.
use Rattle.std.specs.Prelude.{◌≡◌, ℕ, List, [], ◌∷◌, length, map, flat_map, Option, Some, None}
use Rattle.std.specs.Prelude.{Result, Ok, Err, String, string_bytes}
use Rattle.std.specs.declared.alloc.Global.{Global}
use Rattle.fx_base.specs.Faults.{Rose}
use Rattle.fx_base.specs.Silence.{MayFallSilent, IsLater, SilenceCause, Marks}
use Rattle.fx_base.specs.Telling.{Tells}
use Rattle.app_cells.specs.declared.app.App.{App}
use Rattle.app_wire.specs.Framing.{Asked}
use Rattle.fx_core.specs.BrokenText.{ended_line}
use Rattle.fx_core.specs.declared.broken.Broken.{Broken as Break}
use Rattle.fx_core.specs.declared.schema.Schema.{Schema}
use Rattle.office.specs.Answers.{Exchange}
use Rattle.office.specs.State.{OfficeState, schema_of}
use Rattle.office.specs.Step.{Step}
use Rattle.office.specs.app_loader.Judged.{JudgedApp}
use Rattle.row_keeper.specs.declared.keeper.Keeper.{Ghosts}
use Rattle.row_keeper.specs.declared.keeper.KeeperEnd.{KeeperEnd}
use Rattle.row_keeper.specs.declared.keeper.KeeperEnd.TheVariants.{Failed, Memory}
use Rattle.sample_app.specs.Counts.{HasRowCount}
use Rattle.sample_app.specs.Sample.{app_text, requests}
use Rattle.sample_app.specs.Summary.{summary}
use Rattle.fx_cli.specs.Conversations.{OfficeAt}
use Rattle.fx_cli.specs.Opening.{IsAsked, IsServed}
use Rattle.fx_cli.specs.Telling.{Grows}
use Rattle.fx_cli.specs.declared.report.Report.{Report}
use Rattle.fx_cli.specs.declared.report.Report.TheVariants.{Shown, Checked, Broken, Usage}
use Rattle.fx_cli.specs.declared.report.Report.TheVariants.{OutOfMemory, Unread, KeeperFault}
use Rattle.fx_cli.specs.declared.report.Report.TheVariants.{OtherSchema, Replayed}

-- the moment of all requests: 2024-01-01 in UTC
abbrev pub sample_moment : ℕ
sample_moment = 1704067200

-- From old the office answers these, one after another, each by its step at this moment, and is new
-- then: none by want of memory or by a fault.
abbrev pub PlaysSample : ℕ → OfficeState → Marks → List Exchange → OfficeState → Marks → Type 0
PlaysSample moment old before [] new now = (new ≡ old) × (now ≡ before)
PlaysSample moment old before (x ∷ xs) new now =
    (x.moment ≡ moment) × IsLater before x.marks
    × Step (SilenceCause before x.marks) old moment x.asked x.said x.state
    × PlaysSample moment x.state x.marks xs new now

-- these requests were answered so, at the moment of the sample, with these replies
pub record IsPlayed (asked : List Asked) (replies : List (List ℕ)) (old new : OfficeAt) :
    Type 0 where
  pub exchanges : List Exchange
  pub asked_are : map (λ (x : Exchange). x.asked) exchanges ≡ asked
  pub replies_are : map (λ (x : Exchange). x.said) exchanges ≡ replies
  pub performed : PlaysSample sample_moment old.state old.marks exchanges new.state new.marks

-- These requests were answered so, the rows were counted then, and this is told of it.
pub record IsSampled (asked : List Asked) (old new : OfficeAt) (text : List ℕ) : Type 0 where
  pub replies : List (List ℕ)
  pub between : OfficeAt
  pub played : IsPlayed asked replies old between
  pub rows : ℕ
  pub counted : MayFallSilent (SilenceCause between.marks new.marks) (HasRowCount rows)
      between.state.tables new.state.tables
  pub others : new.state ≡ record between.state { tables = new.state.tables }
  pub later : IsLater between.marks new.marks
  pub told : text ≡ summary rows (length between.state.sessions) replies

-- when putting an app to the requests comes to each report, over a keeper that is opened with the
-- store of the empty name
abbrev pub EndsSample : {K : Type 0} → Ghosts K → ℕ → K → K → App → Report → Type 0
EndsSample g n old new app (Shown text) = IsServed g [] old new app
    (λ a b. IsSampled (requests n) a b (string_bytes text))
EndsSample g n old new app KeeperFault = Rose (g.marks old).faults (g.marks new).faults
EndsSample g n old new app OtherSchema = (other : Schema)
    × IsAsked g [] (schema_of app) (Some other) old new
EndsSample g n old new app OutOfMemory = Unit {0}
EndsSample g n old new app r = ⊥

-- the text of the sample is an app, and putting it to the requests came to this
pub record IsSample (ended : App → Type 0) : Type 0 where
  pub app : App
  pub judged : JudgedApp app_text (Ok app)
  pub ends : ended app

-- when a run comes to each report that wants the sample load of a number
abbrev pub ReportsSample : {K : Type 0} → Ghosts K → ℕ → K → K → Report → Type 0
ReportsSample g n old new (Shown text) = IsSample (λ app. EndsSample g n old new app (Shown text))
ReportsSample g n old new (Broken text) = (bs : List Break) × JudgedApp app_text (Err bs)
    × (string_bytes text ≡ flat_map ended_line bs)
ReportsSample g n old new OutOfMemory = Unit {0}
ReportsSample g n old new KeeperFault = IsSample (λ app. EndsSample g n old new app KeeperFault)
ReportsSample g n old new OtherSchema = IsSample (λ app. EndsSample g n old new app OtherSchema)
ReportsSample g n old new r = ⊥

-- The sample was put to its requests, over a keeper that was opened for it, and what is told of
-- that was written.
pub record IsGenerated {K : Type 0} (g : Ghosts K) (n : ℕ) (old new : K)
    (out out_now : Option (List ℕ)) : Type 0 where
  pub text : List ℕ
  pub sample : IsSample (λ app. IsServed g [] old new app (λ a b. IsSampled (requests n) a b text))
  pub written : Tells (Grows text) out out_now

-- the report of what is told, or of what stopped the requests
abbrev pub IsSampleReport : Result (String Global) KeeperEnd → Report → Type 0
IsSampleReport (Ok text) r = r ≡ Shown text
IsSampleReport (Err Memory) r = r ≡ OutOfMemory
IsSampleReport (Err Failed) r = r ≡ KeeperFault
