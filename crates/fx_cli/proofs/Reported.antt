-- How a run ends where the first bytes of its file are told.
use Rattle.std.proofs.Common.{◌≡◌, ℕ, inl, inr, List, [], Some, None, Result, Ok, Err, String, refl, ap, sym, ◌∙◌, subst}
use Rattle.std.specs.declared.alloc.Global.{Global}
use Rattle.app_cells.specs.declared.app.App.{App}
use Rattle.office.specs.app_loader.Judged.{Judged, JudgedApp}
use Rattle.office.specs.app_loader.JudgedFormulas as judged
use Rattle.office.specs.app_loader.Verdicts.{IsOneApp, IsOneVerdict}
use Rattle.fx_base.specs.Faults.{Rose}
use Rattle.fx_core.specs.declared.broken.Broken.{Broken as Break}
use Rattle.fx_core.specs.declared.app_end.AppEnd.{AppEnd}
use Rattle.fx_core.specs.declared.app_end.AppEnd.TheVariants as end
use Rattle.row_keeper.specs.declared.keeper.Keeper as keeper
use Rattle.fx_cli.specs.Conversations.{OfficeAt}
use Rattle.fx_cli.specs.declared.files.Files as files
use Rattle.fx_cli.specs.declared.replay.ReplayEnd.{ReplayEnd}
use Rattle.fx_cli.specs.declared.replay.ReplayEnd.TheVariants as replay
use Rattle.fx_cli.specs.declared.report.Report.{Report}
use Rattle.fx_cli.specs.declared.report.Report.TheVariants.{Shown, Checked, Broken, Usage, OutOfMemory, Unread, KeeperFault, OtherSchema, Replayed}
use Rattle.fx_cli.specs.declared.words.Form.{Form}
use Rattle.fx_cli.specs.declared.words.Form.TheVariants.{View, Check, Serve}
use Rattle.fx_cli.specs.Report.{EndsOver, EndsService, RunEndsWith, HasFile, IsChecking, IsRefusal, JudgedAs, Reports, MatchesFile, Wanted, no_service, no_show, status_of}

abbrev form_in : Form → Wanted → Form
form_in other None = other
form_in other (Some w) = w.0

abbrev name_in : Wanted → List ℕ
name_in None = []
name_in (Some w) = w.1

-- the words are of one form
same_form : (wanted : Wanted) (f g : Form) (name other : List ℕ) → wanted ≡ Some (f, name) → wanted ≡ Some (g, other) → f ≡ g
same_form wanted f g name other h k = ap (form_in f) (sym h ∙ k)

pub not_both : (wanted : Wanted) (name other : List ℕ) → wanted ≡ Some (View, name) → wanted ≡ Some (Serve, other) → ⊥
not_both wanted name other h k = let same : View ≡ Serve = same_form wanted View Serve name other h k in cc

pub not_view : (wanted : Wanted) (name other : List ℕ) → wanted ≡ Some (Check, name) → wanted ≡ Some (View, other) → ⊥
not_view wanted name other h k = let same : Check ≡ View = same_form wanted Check View name other h k in cc

pub not_served : (wanted : Wanted) (name other : List ℕ) → wanted ≡ Some (Check, name) → wanted ≡ Some (Serve, other) → ⊥
not_served wanted name other h k = let same : Check ≡ Serve = same_form wanted Check Serve name other h k in cc

-- bytes that were read of a told file are its first bytes
pub same_bytes : {F : Type 0} (f : files.Ghosts F) (old new : F) (wanted : Wanted) (form : Form) (bytes read : List ℕ)
    → HasFile f old wanted form bytes → MatchesFile f old new wanted form read → read ≡ bytes
same_bytes f old new wanted form bytes read has takes =
    let first = takes.first has.contents has.is_told in
    let told_first = has.first in
    let names : takes.name ≡ has.name = ap name_in (sym takes.asks.is_wanted ∙ has.is_wanted) in
    let moved = rw names at first in
    cc

-- what was read is what is told, and is judged as it is
moved : {F : Type 0} (f : files.Ghosts F) (old new : F) (wanted : Wanted) (form other : Form) (bytes read : List ℕ) (v : Result App (List Break))
    → HasFile f old wanted form bytes → MatchesFile f old new wanted other read → JudgedAs other read v → JudgedAs form bytes v
moved f old new wanted form other bytes read v has takes is =
    let same : other ≡ form = same_form wanted other form takes.name has.name takes.asks.is_wanted has.is_wanted in
    let taken = subst (λ (x : Form). MatchesFile f old new wanted x read) same takes in
    let bytes_are = same_bytes f old new wanted form bytes read has taken in
    subst (λ (bs : List ℕ). JudgedAs form bs v) bytes_are (subst (λ (x : Form). JudgedAs x read v) same is)

-- none is both accepted and refused
differ : IsOneVerdict → IsOneApp → (form : Form) (bytes : List ℕ) (a : App) (bs : List Break) → JudgedAs form bytes (Ok a) → JudgedAs form bytes (Err bs) → ⊥
differ texts apps View bytes a bs p q = texts bytes a bs p q
differ texts apps Check bytes a bs p q = apps bytes a bs p q
differ texts apps Serve bytes a bs p q = apps bytes a bs p q

-- formulas end with 0
pub built_at : IsOneVerdict → IsOneApp → {F : Type 0} (f : files.Ghosts F) (old new : F) (shows : App → String Global → Type 0) (ends : App → Report → Type 0) (wanted : Wanted) (r : Report)
    (sink_rose : Type 0) (bytes : List ℕ) (a : App)
    → Reports f old new shows ends wanted r → HasFile f old wanted View bytes → Judged bytes (Ok a)
    → RunEndsWith 0 (status_of r) (Rose (f.faults old) (f.faults new)) sink_rose
built_at texts apps f old new shows ends wanted (Shown text) s bytes a h has is = inl refl
built_at texts apps f old new shows ends wanted (Checked text) s bytes a h has is = absurd (not_view wanted h.takes.name has.name h.takes.asks.is_wanted has.is_wanted)
built_at texts apps f old new shows ends wanted (Broken text) s bytes a h has is =
    absurd (differ texts apps View bytes a h.breaks is (moved f old new wanted View h.form bytes h.bytes (Err h.breaks) has h.takes h.judged))
built_at texts apps f old new shows ends wanted Usage s bytes a h has is = let some = has.is_wanted in cc
built_at texts apps f old new shows ends wanted OutOfMemory s bytes a h has is = inr (inl refl)
built_at texts apps f old new shows ends wanted (Unread text) s bytes a h has is = inr (inr (inl h.rose))
built_at texts apps f old new shows ends wanted KeeperFault s bytes a h has is = absurd (not_both wanted has.name h.takes.name has.is_wanted h.takes.asks.is_wanted)
built_at texts apps f old new shows ends wanted OtherSchema s bytes a h has is = absurd (not_both wanted has.name h.takes.name has.is_wanted h.takes.asks.is_wanted)
built_at texts apps f old new shows ends wanted (Replayed end) s bytes a h has is = absurd (not_both wanted has.name h.takes.name has.is_wanted h.takes.asks.is_wanted)

-- a file that breaks a rule ends with 1
pub refused_at : IsOneVerdict → IsOneApp → {F : Type 0} (f : files.Ghosts F) (old new : F) (shows : App → String Global → Type 0) (ends : App → Report → Type 0) (wanted : Wanted) (r : Report)
    (sink_rose : Type 0) (form : Form) (bytes : List ℕ) (bs : List Break)
    → Reports f old new shows ends wanted r → HasFile f old wanted form bytes → JudgedAs form bytes (Err bs)
    → RunEndsWith 1 (status_of r) (Rose (f.faults old) (f.faults new)) sink_rose
refused_at texts apps f old new shows ends wanted (Shown text) s form bytes bs h has is =
    absurd (differ texts apps form bytes h.app bs (moved f old new wanted form View bytes h.bytes (Ok h.app) has h.takes h.judged) is)
refused_at texts apps f old new shows ends wanted (Checked text) s form bytes bs h has is =
    absurd (differ texts apps form bytes h.app bs (moved f old new wanted form Check bytes h.bytes (Ok h.app) has h.takes h.judged) is)
refused_at texts apps f old new shows ends wanted (Broken text) s form bytes bs h has is = inl refl
refused_at texts apps f old new shows ends wanted Usage s form bytes bs h has is = let some = has.is_wanted in cc
refused_at texts apps f old new shows ends wanted OutOfMemory s form bytes bs h has is = inr (inl refl)
refused_at texts apps f old new shows ends wanted (Unread text) s form bytes bs h has is = inr (inr (inl h.rose))
refused_at texts apps f old new shows ends wanted KeeperFault s form bytes bs h has is =
    absurd (differ texts apps form bytes h.app bs (moved f old new wanted form Serve bytes h.bytes (Ok h.app) has h.takes h.judged) is)
refused_at texts apps f old new shows ends wanted OtherSchema s form bytes bs h has is =
    absurd (differ texts apps form bytes h.app bs (moved f old new wanted form Serve bytes h.bytes (Ok h.app) has h.takes h.judged) is)
refused_at texts apps f old new shows ends wanted (Replayed end) s form bytes bs h has is =
    absurd (differ texts apps form bytes h.app bs (moved f old new wanted form Serve bytes h.bytes (Ok h.app) has h.takes h.judged) is)

-- an app is served up to an end, but where the keeper can't be opened for it
ends_at : (end : ReplayEnd) (files_rose sink_rose : Type 0) → EndsService (status_of (Replayed end)) files_rose sink_rose
ends_at replay.Done f s = inr (inr (inr (inr (inl refl))))
ends_at replay.Fault f s = inr (inl refl)
ends_at replay.Full f s = inr (inr (inr (inl refl)))

pub replayed_at : IsOneVerdict → IsOneApp → {F : Type 0} (f : files.Ghosts F) (old new : F) (shows : App → String Global → Type 0) (ends : App → Report → Type 0) (wanted : Wanted) (r : Report)
    (sink_rose : Type 0) (bytes : List ℕ) (a : App)
    → Reports f old new shows ends wanted r → HasFile f old wanted Serve bytes → JudgedApp bytes (Ok a)
    → EndsService (status_of r) (Rose (f.faults old) (f.faults new)) sink_rose
replayed_at texts apps f old new shows ends wanted (Shown text) s bytes a h has is = absurd (not_both wanted h.takes.name has.name h.takes.asks.is_wanted has.is_wanted)
replayed_at texts apps f old new shows ends wanted (Checked text) s bytes a h has is = absurd (not_served wanted h.takes.name has.name h.takes.asks.is_wanted has.is_wanted)
replayed_at texts apps f old new shows ends wanted (Broken text) s bytes a h has is =
    absurd (differ texts apps Serve bytes a h.breaks is (moved f old new wanted Serve h.form bytes h.bytes (Err h.breaks) has h.takes h.judged))
replayed_at texts apps f old new shows ends wanted Usage s bytes a h has is = let some = has.is_wanted in cc
replayed_at texts apps f old new shows ends wanted OutOfMemory s bytes a h has is = inr (inr (inr (inr (inr (inl refl)))))
replayed_at texts apps f old new shows ends wanted (Unread text) s bytes a h has is = inr (inr (inr (inr (inr (inr (inl h.rose))))))
replayed_at texts apps f old new shows ends wanted KeeperFault s bytes a h has is = inl refl
replayed_at texts apps f old new shows ends wanted OtherSchema s bytes a h has is = inr (inr (inl refl))
replayed_at texts apps f old new shows ends wanted (Replayed end) s bytes a h has is = ends_at end (Rose (f.faults old) (f.faults new)) s

-- an app ends with 0, where it is checked
pub checked_at : IsOneVerdict → IsOneApp → {F : Type 0} (f : files.Ghosts F) (old new : F) (shows : App → String Global → Type 0) (ends : App → Report → Type 0) (wanted : Wanted) (r : Report)
    (sink_rose : Type 0) (bytes : List ℕ) (a : App)
    → Reports f old new shows ends wanted r → HasFile f old wanted Check bytes → JudgedApp bytes (Ok a)
    → RunEndsWith 0 (status_of r) (Rose (f.faults old) (f.faults new)) sink_rose
checked_at texts apps f old new shows ends wanted (Shown text) s bytes a h has is = absurd (not_view wanted has.name h.takes.name has.is_wanted h.takes.asks.is_wanted)
checked_at texts apps f old new shows ends wanted (Checked text) s bytes a h has is = inl refl
checked_at texts apps f old new shows ends wanted (Broken text) s bytes a h has is =
    absurd (differ texts apps Check bytes a h.breaks is (moved f old new wanted Check h.form bytes h.bytes (Err h.breaks) has h.takes h.judged))
checked_at texts apps f old new shows ends wanted Usage s bytes a h has is = let some = has.is_wanted in cc
checked_at texts apps f old new shows ends wanted OutOfMemory s bytes a h has is = inr (inl refl)
checked_at texts apps f old new shows ends wanted (Unread text) s bytes a h has is = inr (inr (inl h.rose))
checked_at texts apps f old new shows ends wanted KeeperFault s bytes a h has is = absurd (not_served wanted has.name h.takes.name has.is_wanted h.takes.asks.is_wanted)
checked_at texts apps f old new shows ends wanted OtherSchema s bytes a h has is = absurd (not_served wanted has.name h.takes.name has.is_wanted h.takes.asks.is_wanted)
checked_at texts apps f old new shows ends wanted (Replayed end) s bytes a h has is = absurd (not_served wanted has.name h.takes.name has.is_wanted h.takes.asks.is_wanted)

-- a file was read, and is refused
pub reports_refused : {F : Type 0} (f : files.Ghosts F) (old new : F) (shows : App → String Global → Type 0) (ends : App → Report → Type 0) (form : Form) (name bytes : List ℕ) (e : AppEnd) (r : Report)
    → MatchesFile f old new (Some (form, name)) form bytes → judged.ReportsBreaks (λ bs. JudgedAs form bytes (Err bs)) e → IsRefusal e r → Reports f old new shows ends (Some (form, name)) r
reports_refused f old new shows ends form name bytes (end.Refused all) (Broken text) takes tells is =
    record { form = form; bytes = bytes; breaks = all.items; takes = takes; judged = tells; lines = is }
reports_refused f old new shows ends form name bytes e OutOfMemory takes tells is = refl
reports_refused f old new shows ends form name bytes e r takes tells is = absurd is

-- a file was read, and is an app, and serving it came to a report
pub reports_over : {F K : Type 0} (f : files.Ghosts F) (g : keeper.Ghosts K) (store : List ℕ) (old new : F) (k l : K)
    (serves : ReplayEnd → OfficeAt → OfficeAt → Type 0) (name bytes : List ℕ) (a : App) (r : Report)
    → MatchesFile f old new (Some (Serve, name)) Serve bytes → JudgedApp bytes (Ok a) → EndsOver g store k l serves a r
    → Reports f old new no_show (EndsOver g store k l serves) (Some (Serve, name)) r
reports_over f g store old new k l serves name bytes a (Shown text) takes judged h = absurd h
reports_over f g store old new k l serves name bytes a (Checked text) takes judged h = absurd h
reports_over f g store old new k l serves name bytes a (Broken text) takes judged h = absurd h
reports_over f g store old new k l serves name bytes a Usage takes judged h = absurd h
reports_over f g store old new k l serves name bytes a OutOfMemory takes judged h = refl
reports_over f g store old new k l serves name bytes a (Unread text) takes judged h = absurd h
reports_over f g store old new k l serves name bytes a KeeperFault takes judged h = record { bytes = bytes; app = a; takes = takes; judged = judged; ended = h }
reports_over f g store old new k l serves name bytes a OtherSchema takes judged h = record { bytes = bytes; app = a; takes = takes; judged = judged; ended = h }
reports_over f g store old new k l serves name bytes a (Replayed end) takes judged h = record { bytes = bytes; app = a; takes = takes; judged = judged; ended = h }

-- a file was read, and is an app, and what is told of it came to a report
pub reports_checked : {F : Type 0} (f : files.Ghosts F) (old new : F) (name bytes : List ℕ) (a : App) (r : Report)
    → MatchesFile f old new (Some (Check, name)) Check bytes → JudgedApp bytes (Ok a) → IsChecking a r → Reports f old new no_show no_service (Some (Check, name)) r
reports_checked f old new name bytes a (Checked text) takes judged h = record { bytes = bytes; app = a; takes = takes; judged = judged; lines = h }
reports_checked f old new name bytes a OutOfMemory takes judged h = refl
reports_checked f old new name bytes a r takes judged h = absurd h

-- a view serves nothing
viewed_by : {F : Type 0} (f : files.Ghosts F) (old new : F) (shows : App → String Global → Type 0) (ends : App → Report → Type 0) (w : Wanted) (r : Report)
    → Reports f old new shows no_service w r → Reports f old new shows ends w r
viewed_by f old new shows ends w (Shown text) h = h
viewed_by f old new shows ends w (Checked text) h = h
viewed_by f old new shows ends w (Broken text) h = h
viewed_by f old new shows ends w Usage h = h
viewed_by f old new shows ends w OutOfMemory h = h
viewed_by f old new shows ends w (Unread text) h = h
viewed_by f old new shows ends w KeeperFault h = absurd h.ended
viewed_by f old new shows ends w OtherSchema h = absurd h.ended
viewed_by f old new shows ends w (Replayed end) h = absurd h.ended

pub viewed : {F : Type 0} (f : files.Ghosts F) (old new : F) (shows : App → String Global → Type 0) (ends : App → Report → Type 0) (v w : Wanted) (r : Report)
    → v ≡ w → Reports f old new shows no_service v r → Reports f old new shows ends w r
viewed f old new shows ends v w r e h = subst (λ (x : Wanted). Reports f old new shows ends x r) e (viewed_by f old new shows ends v r h)

-- a service shows nothing
replayed_by : {F : Type 0} (f : files.Ghosts F) (old new : F) (shows : App → String Global → Type 0) (ends : App → Report → Type 0) (w : Wanted) (r : Report)
    → Reports f old new no_show ends w r → Reports f old new shows ends w r
replayed_by f old new shows ends w (Shown text) h = absurd h.shown
replayed_by f old new shows ends w (Checked text) h = h
replayed_by f old new shows ends w (Broken text) h = h
replayed_by f old new shows ends w Usage h = h
replayed_by f old new shows ends w OutOfMemory h = h
replayed_by f old new shows ends w (Unread text) h = h
replayed_by f old new shows ends w KeeperFault h = h
replayed_by f old new shows ends w OtherSchema h = h
replayed_by f old new shows ends w (Replayed end) h = h

pub replayed_so : {F : Type 0} (f : files.Ghosts F) (old new : F) (shows : App → String Global → Type 0) (ends : App → Report → Type 0) (v w : Wanted) (r : Report)
    → v ≡ w → Reports f old new no_show ends v r → Reports f old new shows ends w r
replayed_so f old new shows ends v w r e h = subst (λ (x : Wanted). Reports f old new shows ends x r) e (replayed_by f old new shows ends v r h)

-- a check neither shows nor serves
checked_by : {F : Type 0} (f : files.Ghosts F) (old new : F) (shows : App → String Global → Type 0) (ends : App → Report → Type 0) (w : Wanted) (r : Report)
    → Reports f old new no_show no_service w r → Reports f old new shows ends w r
checked_by f old new shows ends w r h = replayed_by f old new shows ends w r (viewed_by f old new no_show ends w r h)

pub checked_so : {F : Type 0} (f : files.Ghosts F) (old new : F) (shows : App → String Global → Type 0) (ends : App → Report → Type 0) (v w : Wanted) (r : Report)
    → v ≡ w → Reports f old new no_show no_service v r → Reports f old new shows ends w r
checked_so f old new shows ends v w r e h = subst (λ (x : Wanted). Reports f old new shows ends x r) e (checked_by f old new shows ends v r h)
