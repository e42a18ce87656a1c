-- What a run says before it ends, and when.
use Rattle.std.specs.Prelude.{◌≡◌, ℕ, ◌+◌, ◌++◌, [], ◌∷◌, ◌⊎◌, List, Option, Some, None, IsSome}
use Rattle.std.specs.Prelude.{Result, Ok, Err, String, codes, flat_map, option_map, string_bytes}
use Rattle.std.specs.Prelude.{take}
use Rattle.std.specs.declared.alloc.Global.{Global}
use Rattle.fx_base.specs.Faults.{Rose}
use Rattle.fx_base.specs.Telling.{Tells}
use Rattle.app_cells.specs.declared.app.App.{App}
use Rattle.app_reports.specs.Plans.{checked_text}
use Rattle.office.specs.app_loader.Judged.{Judged, JudgedApp, most_source_bytes}
use Rattle.app_wire.specs.Moments.{Tick}
use Rattle.fx_core.specs.BrokenText.{ended_line}
use Rattle.fx_core.specs.declared.broken.Broken.{Broken as Break}
use Rattle.fx_core.specs.declared.app_end.AppEnd.{AppEnd}
use Rattle.fx_core.specs.declared.app_end.AppEnd.TheVariants as end
use Rattle.fx_core.specs.declared.schema.Schema.{Schema}
use Rattle.row_keeper.specs.declared.keeper.Keeper as keeper
use Rattle.app_file.specs.Files.{most_file_bytes}
use Rattle.office.specs.State.{schema_of}
use Rattle.fx_cli.specs.Conversations.{OfficeAt}
use Rattle.fx_cli.specs.Opening.{Counted, IsAsked, IsServed, IsShapedFor, IsStopped, Unsaid}
use Rattle.fx_cli.specs.declared.files.Files as files
use Rattle.fx_cli.specs.declared.replay.ReplayEnd.{ReplayEnd}
use Rattle.fx_cli.specs.declared.replay.ReplayEnd.TheVariants as replay
use Rattle.fx_cli.specs.declared.report.Report.{Report}
use Rattle.fx_cli.specs.declared.report.Report.TheVariants.{Shown, Checked, Broken, Usage}
use Rattle.fx_cli.specs.declared.report.Report.TheVariants.{OutOfMemory, Unread, KeeperFault}
use Rattle.fx_cli.specs.declared.report.Report.TheVariants.{OtherSchema, Replayed}
use Rattle.fx_cli.specs.declared.sink.Sink as sink
use Rattle.fx_cli.specs.declared.words.Form.{Form}
use Rattle.fx_cli.specs.declared.words.Form.TheVariants.{View, Check, Serve}
use Rattle.fx_cli.specs.Telling.{AreFirstBytes, Contents, Grows, GrowsInPart}

unfoldable pub usage_text : List ℕ
usage_text = codes "usage: pfx view FILE | check APP | replay APP | serve APP DB PORT [COUNT] | gen N\n"

unfoldable pub memory_text : List ℕ
memory_text = codes "pfx: out of memory\n"

unfoldable pub keeper_text : List ℕ
keeper_text = codes "pfx: keeper fault\n"

unfoldable pub fault_text : List ℕ
fault_text = codes "pfx: connection fault\n"

unfoldable pub schema_text : List ℕ
schema_text = codes "pfx: the database has another schema\n"

unfoldable pub limit_text : List ℕ
limit_text = codes "pfx: request limit\n"

abbrev pub unread_text : List ℕ → List ℕ
unread_text name = codes "pfx: cannot read " ++ (name ++ codes "\n")

-- one byte more than the longest file of each form
abbrev pub most_file_read : Form → ℕ
most_file_read View = most_source_bytes + 1
most_file_read Check = most_file_bytes + 1
most_file_read Serve = most_file_bytes + 1

-- a form of words, and a file that goes with it
abbrev pub Wanted : Type 0
Wanted = Option (Form × List ℕ)

-- this form is wanted
abbrev pub Wants : Form → Wanted → Type 0
Wants form wanted = (name : List ℕ) × (wanted ≡ Some (form, name))

-- This name is the file that is wanted, and the one that the files were asked for.
pub record AsksFor {F : Type 0} (f : files.Ghosts F) (old new : F) (wanted : Wanted) (form : Form)
    (name : List ℕ) : Type 0 where
  pub is_wanted : wanted ≡ Some (form, name)
  pub grown : f.asked new ≡ f.asked old ++ name ∷ []

-- The file that is wanted is the one that was asked for, and these are its first bytes, where that
-- is told.
pub record MatchesFile {F : Type 0} (f : files.Ghosts F) (old new : F) (wanted : Wanted)
    (form : Form) (bytes : List ℕ) : Type 0 where
  pub name : List ℕ
  pub asks : AsksFor f old new wanted form name
  pub first : AreFirstBytes (f.told old) name (most_file_read form) bytes

-- it is told that these are the first bytes of the file that is wanted
pub record HasFile {F : Type 0} (f : files.Ghosts F) (files : F) (wanted : Wanted) (form : Form)
    (bytes : List ℕ) : Type 0 where
  pub name : List ℕ
  pub contents : Contents
  pub is_wanted : wanted ≡ Some (form, name)
  pub is_told : f.told files ≡ Some contents
  pub first : option_map (take (most_file_read form)) (contents name) ≡ Some bytes

-- the bytes of a file, judged as its form is: a text of named formulas, or an app file
abbrev pub JudgedAs : Form → List ℕ → Result App (List Break) → Type 0
JudgedAs View = Judged
JudgedAs Check = JudgedApp
JudgedAs Serve = JudgedApp

-- The file is named formulas that break no rule, and was shown so.
pub record ReportsView {F : Type 0} (f : files.Ghosts F) (old new : F) (wanted : Wanted)
    (shows : App → Type 0) : Type 0 where
  pub bytes : List ℕ
  pub app : App
  pub takes : MatchesFile f old new wanted View bytes
  pub judged : Judged bytes (Ok app)
  pub shown : shows app

-- The file is an app, of which this is told: how many formulas and tables it has, and where
-- formulas take rows.
pub record IsCheck {F : Type 0} (f : files.Ghosts F) (old new : F) (wanted : Wanted)
    (text : List ℕ) : Type 0 where
  pub bytes : List ℕ
  pub app : App
  pub takes : MatchesFile f old new wanted Check bytes
  pub judged : JudgedApp bytes (Ok app)
  pub lines : text ≡ checked_text app

-- The file is an app, and serving it came to this.
pub record IsService {F : Type 0} (f : files.Ghosts F) (old new : F) (wanted : Wanted)
    (ends : App → Type 0) : Type 0 where
  pub bytes : List ℕ
  pub app : App
  pub takes : MatchesFile f old new wanted Serve bytes
  pub judged : JudgedApp bytes (Ok app)
  pub ended : ends app

-- The file breaks rules, and this is a line for each break.
pub record IsBroken {F : Type 0} (f : files.Ghosts F) (old new : F) (wanted : Wanted)
    (text : List ℕ) : Type 0 where
  pub form : Form
  pub bytes : List ℕ
  pub breaks : List Break
  pub takes : MatchesFile f old new wanted form bytes
  pub judged : JudgedAs form bytes (Err breaks)
  pub lines : text ≡ flat_map ended_line breaks

-- A fault of the files was counted, which were asked for the file alone, and this says so.
pub record IsMissed {F : Type 0} (f : files.Ghosts F) (old new : F) (wanted : Wanted)
    (text : List ℕ) : Type 0 where
  pub form : Form
  pub name : List ℕ
  pub asks : AsksFor f old new wanted form name
  pub rose : Rose (f.faults old) (f.faults new)
  pub line : text ≡ unread_text name

-- When serving an app comes to each report: a call failed that opens the keeper over the store of a
-- name, the keeper keeps another schema, or it was served up to an end, as `serves` says, and the
-- keeper is shaped then for the app that is served at the end.
abbrev pub EndsOver : {K : Type 0} → keeper.Ghosts K → List ℕ → K → K
    → (ReplayEnd → OfficeAt → OfficeAt → Type 0) → App → Report → Type 0
EndsOver g store old new serves app KeeperFault = IsStopped g store Counted old new
EndsOver g store old new serves app OtherSchema
    = (other : Schema) × IsAsked g store (schema_of app) (Some other) old new
EndsOver g store old new serves app (Replayed end)
    = IsServed g store old new app (λ a b. serves end a b × IsShapedFor g new b)
EndsOver g store old new serves app OutOfMemory = Unit {0}
EndsOver g store old new serves app r = ⊥

-- When a run that wants this comes to each report. The values of an app were shown so, as `shows`
-- says, and serving an app came to the report, as `ends` says.
abbrev pub Reports : {F : Type 0} → files.Ghosts F → F → F → (App → String Global → Type 0)
    → (App → Report → Type 0) → Wanted → Report → Type 0
Reports f old new shows ends wanted (Shown text)
    = ReportsView f old new wanted (λ app. shows app text)
Reports f old new shows ends wanted (Checked text) = IsCheck f old new wanted (string_bytes text)
Reports f old new shows ends wanted (Broken text) = IsBroken f old new wanted (string_bytes text)
Reports f old new shows ends wanted Usage = wanted ≡ None
Reports f old new shows ends wanted OutOfMemory = IsSome wanted
Reports f old new shows ends wanted (Unread text) = IsMissed f old new wanted (string_bytes text)
Reports f old new shows ends wanted KeeperFault
    = IsService f old new wanted (λ app. ends app KeeperFault)
Reports f old new shows ends wanted OtherSchema
    = IsService f old new wanted (λ app. ends app OtherSchema)
Reports f old new shows ends wanted (Replayed end)
    = IsService f old new wanted (λ app. ends app (Replayed end))

-- nothing was shown, and nothing was served
abbrev pub no_show : App → String Global → Type 0
no_show app text = ⊥

abbrev pub no_service : App → Report → Type 0
no_service app report = ⊥

-- no conversation was begun
abbrev pub NothingBegun : Report → Type 0
NothingBegun (Replayed end) = ⊥
NothingBegun (Shown text) = Unit {0}
NothingBegun (Checked text) = Unit {0}
NothingBegun (Broken text) = Unit {0}
NothingBegun Usage = Unit {0}
NothingBegun OutOfMemory = Unit {0}
NothingBegun (Unread text) = Unit {0}
NothingBegun KeeperFault = Unit {0}
NothingBegun OtherSchema = Unit {0}

-- nothing was evaluated
abbrev pub IsTimeless : Report → Type 0
IsTimeless (Checked text) = Unit {0}
IsTimeless (Broken text) = Unit {0}
IsTimeless Usage = Unit {0}
IsTimeless (Unread text) = Unit {0}
IsTimeless (Shown text) = ⊥
IsTimeless OutOfMemory = ⊥
IsTimeless KeeperFault = Unit {0}
IsTimeless OtherSchema = Unit {0}
IsTimeless (Replayed end) = ⊥

-- a clock was left alone, or was read once
abbrev pub IsReadOnceAtMost : {C : Type 0} → (C → Option (List ℕ)) → C → C → Type 0
IsReadOnceAtMost told old new = (new ≡ old) ⊎ ((moment : ℕ) × Tick moment (told old) (told new))

-- What a run that serves an app and came to a report left alone of the keeper: all, but where it
-- was opened. For want of memory a call may have stopped that opens it.
abbrev pub LeavesKeeper : {K : Type 0} → keeper.Ghosts K → List ℕ → K → K → Report → Type 0
LeavesKeeper g store old new (Shown text) = new ≡ old
LeavesKeeper g store old new (Checked text) = new ≡ old
LeavesKeeper g store old new (Broken text) = new ≡ old
LeavesKeeper g store old new Usage = new ≡ old
LeavesKeeper g store old new OutOfMemory = (new ≡ old) ⊎ IsStopped g store Unsaid old new
LeavesKeeper g store old new (Unread text) = new ≡ old
LeavesKeeper g store old new KeeperFault = Unit {0}
LeavesKeeper g store old new OtherSchema = Unit {0}
LeavesKeeper g store old new (Replayed end) = Unit {0}

-- it says that a file of this name could not be read, or memory ran out
abbrev pub IsUnread : List ℕ → Report → Type 0
IsUnread name (Unread text) = string_bytes text ≡ unread_text name
IsUnread name OutOfMemory = Unit {0}
IsUnread name (Shown text) = ⊥
IsUnread name (Checked text) = ⊥
IsUnread name (Broken text) = ⊥
IsUnread name Usage = ⊥
IsUnread name KeeperFault = ⊥
IsUnread name OtherSchema = ⊥
IsUnread name (Replayed end) = ⊥

-- it shows a text of which this holds, or memory ran out
abbrev pub IsShowing : (List ℕ → Type 0) → Report → Type 0
IsShowing P (Shown text) = P (string_bytes text)
IsShowing P OutOfMemory = Unit {0}
IsShowing P r = ⊥

-- it tells of an app where its formulas take rows, or memory ran out
abbrev pub IsChecking : App → Report → Type 0
IsChecking app (Checked text) = string_bytes text ≡ checked_text app
IsChecking app OutOfMemory = Unit {0}
IsChecking app r = ⊥

-- it tells of the breaks that an end has, or memory ran out
abbrev pub IsRefusal : AppEnd → Report → Type 0
IsRefusal (end.Refused all) (Broken text) = string_bytes text ≡ flat_map ended_line all.items
IsRefusal e OutOfMemory = Unit {0}
IsRefusal e r = ⊥

-- the status that goes with the end of a service
abbrev pub status_of_end : ReplayEnd → ℕ
status_of_end replay.Done = 0
status_of_end replay.Fault = 6
status_of_end replay.Full = 9

-- the status that goes with a report
abbrev pub status_of : Report → ℕ
status_of (Shown text) = 0
status_of (Checked text) = 0
status_of (Broken text) = 1
status_of Usage = 2
status_of OutOfMemory = 3
status_of (Unread text) = 4
status_of KeeperFault = 5
status_of OtherSchema = 8
status_of (Replayed end) = status_of_end end

-- what is said at the end of a service
abbrev pub text_of_end : ReplayEnd → List ℕ
text_of_end replay.Done = []
text_of_end replay.Fault = fault_text
text_of_end replay.Full = limit_text

-- what a report says
abbrev pub report_text : Report → List ℕ
report_text (Shown text) = string_bytes text
report_text (Checked text) = string_bytes text
report_text (Broken text) = string_bytes text
report_text Usage = usage_text
report_text OutOfMemory = memory_text
report_text (Unread text) = string_bytes text
report_text KeeperFault = keeper_text
report_text OtherSchema = schema_text
report_text (Replayed end) = text_of_end end

-- A report was said: the run ends with its status, wrote its text and counted no fault of the sink;
-- or one was counted, and the run ends with 7 and wrote a first part of the text.
abbrev pub IsSaid : {O : Type 0} → sink.Ghosts O → O → O → Report → ℕ → Type 0
IsSaid o old new report status =
    ((status ≡ status_of report) × Tells (Grows (report_text report)) (o.told old) (o.told new)
    × (o.faults new ≡ o.faults old))
    ⊎ ((status ≡ 7) × Rose (o.faults old) (o.faults new)
    × Tells (GrowsInPart (report_text report)) (o.told old) (o.told new))

-- a run ended with this status, or for want of memory, or by a counted fault
abbrev pub RunEndsWith : ℕ → ℕ → Type 0 → Type 0 → Type 0
RunEndsWith wanted status files_rose sink_rose
    = (status ≡ wanted) ⊎ (status ≡ 3) ⊎ files_rose ⊎ sink_rose

-- a run that serves an app ended so: its keeper failed or keeps another schema, the doors failed,
-- the most was answered, or all was
abbrev pub EndsService : ℕ → Type 0 → Type 0 → Type 0
EndsService status files_rose sink_rose = (status ≡ 5) ⊎ (status ≡ 6) ⊎ (status ≡ 8) ⊎ (status ≡ 9)
    ⊎ RunEndsWith 0 status files_rose sink_rose
