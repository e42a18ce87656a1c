-- What comes of a sample load, and how its run ends.
use Rattle.std.proofs.Common.{◌≡◌, ℕ, ◌++◌, inl, inr, Bool, true, false, if◌then◌else◌, List, [], ◌∷◌, length, Option, Some, None, Result, Ok, Err, String, refl, ap, sym, ◌∙◌, subst, nat_eq, eq-eqb, string_bytes}
use Rattle.std.specs.Prelude.{IfOk, bytes_eq, codes}
use Rattle.std.specs.declared.alloc.Global.{Global}
use Rattle.std.proofs.lemmas.Slice.Eq.{bytes_eq-Decides}
use Rattle.app_cells.specs.declared.app.App.{App}
use Rattle.fx_base.specs.Faults.{Rose}
use Rattle.fx_base.specs.Silence.{MayFallSilent, IsLater, SilenceCause, Marks}
use Rattle.fx_base.proofs.Silences.{rose_before}
use Rattle.fx_core.specs.declared.app_end.AppEnd.{AppEnd}
use Rattle.fx_core.specs.declared.app_end.AppEnd.TheVariants as end
use Rattle.fx_core.specs.declared.broken.Broken.{Broken as Break}
use Rattle.office.specs.Answers.{Exchange}
use Rattle.office.specs.session_requests.Opening.{CanOpen}
use Rattle.office.specs.State.{OfficeState, schema_of, started}
use Rattle.office.specs.Step.{Step}
use Rattle.office.specs.app_loader.Judged.{JudgedApp}
use Rattle.office.specs.app_loader.JudgedFormulas as judged
use Rattle.office.specs.app_loader.Verdicts.{IsOneApp}
use Rattle.office.specs.app_semantics.Sound.{IsSoundApp}
use Rattle.app_wire.specs.Framing.{Asked}
use Rattle.row_keeper.specs.Causes.{HasCause}
use Rattle.row_keeper.specs.declared.keeper.Keeper.{Ghosts}
use Rattle.row_keeper.specs.declared.keeper.KeeperEnd.{KeeperEnd}
use Rattle.row_keeper.specs.declared.keeper.KeeperEnd.TheVariants.{Failed, Memory}
use Rattle.sample_app.specs.Counts.{HasRowCount}
use Rattle.sample_app.specs.Sample.{app_text, requests}
use Rattle.sample_app.specs.Summary.{summary}
use Rattle.fx_cli.specs.Conversations.{OfficeAt}
use Rattle.fx_cli.specs.Opening.{IsAsked}
use Rattle.fx_cli.specs.Report.{RunEndsWith, IsRefusal, IsSaid}
use Rattle.fx_cli.specs.Sampled.{EndsSample, IsGenerated, IsPlayed, IsSampled, IsSampleReport, PlaysSample, ReportsSample}
use Rattle.fx_cli.specs.Words.{app_if, wanted}
use Rattle.fx_cli.specs.declared.report.Report.{Report}
use Rattle.fx_cli.specs.declared.report.Report.TheVariants.{Shown, Checked, Broken, Usage, OutOfMemory, Unread, KeeperFault, OtherSchema, Replayed}
use Rattle.fx_cli.specs.declared.sink.Sink as sink
use Rattle.fx_cli.specs.declared.words.Form.{Form}
use Rattle.fx_cli.specs.declared.words.Form.TheVariants.{View, Check}

-- one exchange more
pub performs_more : (moment : ℕ) (old : OfficeState) (before : Marks) (xs : List Exchange) (mid : OfficeState) (between : Marks) → PlaysSample moment old before xs mid between
    → (x : Exchange) → x.moment ≡ moment → IsLater between x.marks → Step (SilenceCause between x.marks) mid moment x.asked x.said x.state
    → PlaysSample moment old before (xs ++ x ∷ []) x.state x.marks
performs_more moment old before [] mid between h x at later step = (
  at,
  subst (λ b. IsLater b x.marks) h.1 later,
  subst (λ b. Step (SilenceCause b x.marks) old moment x.asked x.said x.state) h.1 (subst (λ m. Step (SilenceCause between x.marks) m moment x.asked x.said x.state) h.0 step),
  (refl, refl),
)
performs_more moment old before (y ∷ ys) mid between h x at later step = (h.0, h.1, h.2, performs_more moment y.state y.marks ys mid between h.3 x at later step)

-- the requests were put over a keeper that was given back, and the rows were counted then
pub sampled_over : {K : Type 0} (g : Ghosts K) (all : List Asked) (replies : List (List ℕ)) (old : OfficeAt) (sessions : ℕ) (k l : K) (t : Result (String Global) KeeperEnd)
    → (state : OfficeState) × (state.tables ≡ g.told k) × (sessions ≡ length state.sessions) × IsPlayed all replies old (record { state = state; marks = g.marks k })
    → IsLater (g.marks k) (g.marks l)
    → IfOk t (λ text. (rows : ℕ) × MayFallSilent (SilenceCause (g.marks k) (g.marks l)) (HasRowCount rows) (g.told k) (g.told l) × (string_bytes text ≡ summary rows sessions replies))
    → IfOk t (λ text. (state : OfficeState) × (state.tables ≡ g.told l) × IsSampled all old (record { state = state; marks = g.marks l }) (string_bytes text))
sampled_over g all replies old sessions k l (Err e) played later h = tt
sampled_over g all replies old sessions k l (Ok text) played later h = (
  record played.0 { tables = g.told l },
  refl,
  record {
    replies = replies;
    between = record { state = played.0; marks = g.marks k };
    played = played.3;
    rows = h.0;
    counted = subst (λ y. MayFallSilent (SilenceCause (g.marks k) (g.marks l)) (HasRowCount h.0) y (g.told l)) (sym played.1) h.1;
    others = refl;
    later = later;
    told = h.2 ∙ ap (λ (n : ℕ). summary h.0 n replies) played.2;
  },
)

-- an app that was put to the requests is the sample
pub sample_app : {K : Type 0} (g : Ghosts K) (n : ℕ) (old new : K) (a : App) (r : Report)
    → JudgedApp app_text (Ok a) → EndsSample g n old new a r → ReportsSample g n old new r
sample_app g n old new a (Shown text) judged h = record { app = a; judged = judged; ends = h }
sample_app g n old new a (Checked text) judged h = absurd h
sample_app g n old new a (Broken text) judged h = absurd h
sample_app g n old new a Usage judged h = absurd h
sample_app g n old new a OutOfMemory judged h = tt
sample_app g n old new a (Unread text) judged h = absurd h
sample_app g n old new a KeeperFault judged h = record { app = a; judged = judged; ends = h }
sample_app g n old new a OtherSchema judged h = record { app = a; judged = judged; ends = h }
sample_app g n old new a (Replayed end) judged h = absurd h

-- a text that is refused
pub sample_refused : {K : Type 0} (g : Ghosts K) (n : ℕ) (old new : K) (e : AppEnd) (r : Report)
    → judged.ReportsBreaks (λ bs. JudgedApp app_text (Err bs)) e → IsRefusal e r → ReportsSample g n old new r
sample_refused g n old new (end.Refused all) (Broken text) tells is = (all.items, tells, is)
sample_refused g n old new e OutOfMemory tells is = tt
sample_refused g n old new e r tells is = absurd is

-- what is told of requests that were put over an opened keeper, or of what stopped them
pub told_ends : {K : Type 0} (g : Ghosts K) (n : ℕ) (old opened new : K) (a : App)
    (t : Result (String Global) KeeperEnd) (r : Report)
    → IsSoundApp a → CanOpen a.names → IsAsked g [] (schema_of a) None old opened
    → IfOk t (λ text. (state : OfficeState) × (state.tables ≡ g.told new)
    × IsSampled (requests n) (record { state = started a (g.told opened); marks = g.marks opened }) (record { state = state; marks = g.marks new }) (string_bytes text))
    → HasCause (g.marks opened) (g.marks new) t → IsLater (g.marks old) (g.marks opened) → IsSampleReport t r → EndsSample g n old new a r
told_ends g n old opened new a (Ok text) r sound opens asked sampled cause later is =
    subst (λ x. EndsSample g n old new a x) (sym is)
    (record { accepted = sound; opens = opens; opened = opened; is_opened = asked; state = sampled.0; tables = sampled.1; served = sampled.2 })
told_ends g n old opened new a (Err Memory) r sound opens asked sampled cause later is =
    subst (λ x. EndsSample g n old new a x) (sym is) tt
told_ends g n old opened new a (Err Failed) r sound opens asked sampled cause later is =
    subst (λ x. EndsSample g n old new a x) (sym is) (rose_before (g.marks old).faults (g.marks opened).faults (g.marks new).faults later.faults (cause.failed refl))

-- ---- statuses

apart : (m n status : ℕ) → nat_eq m n ≡ false → status ≡ m → status ≡ n → ⊥
apart m n status h e k = let same : nat_eq m n ≡ true = eq-eqb m n (sym e ∙ k) in cc

-- one that ends with 0 was put to the requests
pub is_generated : {K O : Type 0} (g : Ghosts K) (see : sink.Ghosts O) (n : ℕ) (old new : K) (r : Report) (status : ℕ) (o o' : O)
    → ReportsSample g n old new r → IsSaid see o o' r status → status ≡ 0 → IsGenerated g n old new (see.told o) (see.told o')
is_generated g see n old new r status o o' h (inr k) e = absurd (apart 7 0 status refl k.0 e)
is_generated g see n old new (Shown text) status o o' h (inl k) e = record { text = string_bytes text; sample = h; written = k.1 }
is_generated g see n old new (Checked text) status o o' h (inl k) e = absurd h
is_generated g see n old new (Broken text) status o o' h (inl k) e = absurd (apart 1 0 status refl k.0 e)
is_generated g see n old new Usage status o o' h (inl k) e = absurd h
is_generated g see n old new OutOfMemory status o o' h (inl k) e = absurd (apart 3 0 status refl k.0 e)
is_generated g see n old new (Unread text) status o o' h (inl k) e = absurd h
is_generated g see n old new KeeperFault status o o' h (inl k) e = absurd (apart 5 0 status refl k.0 e)
is_generated g see n old new OtherSchema status o o' h (inl k) e = absurd (apart 8 0 status refl k.0 e)
is_generated g see n old new (Replayed end) status o o' h (inl k) e = absurd h

-- one that ends with 5 counted a fault of the keeper
pub sample_fault : {K O : Type 0} (g : Ghosts K) (see : sink.Ghosts O) (n : ℕ) (old new : K) (r : Report) (status : ℕ) (o o' : O)
    → ReportsSample g n old new r → IsSaid see o o' r status → status ≡ 5 → Rose (g.marks old).faults (g.marks new).faults
sample_fault g see n old new r status o o' h (inr k) e = absurd (apart 7 5 status refl k.0 e)
sample_fault g see n old new (Shown text) status o o' h (inl k) e = absurd (apart 0 5 status refl k.0 e)
sample_fault g see n old new (Checked text) status o o' h (inl k) e = absurd h
sample_fault g see n old new (Broken text) status o o' h (inl k) e = absurd (apart 1 5 status refl k.0 e)
sample_fault g see n old new Usage status o o' h (inl k) e = absurd h
sample_fault g see n old new OutOfMemory status o o' h (inl k) e = absurd (apart 3 5 status refl k.0 e)
sample_fault g see n old new (Unread text) status o o' h (inl k) e = absurd h
sample_fault g see n old new KeeperFault status o o' h (inl k) e = h.ends
sample_fault g see n old new OtherSchema status o o' h (inl k) e = absurd (apart 8 5 status refl k.0 e)
sample_fault g see n old new (Replayed end) status o o' h (inl k) e = absurd h

-- none ends with 6
pub never_six : {K O : Type 0} (g : Ghosts K) (see : sink.Ghosts O) (n : ℕ) (old new : K) (r : Report) (status : ℕ) (o o' : O)
    → ReportsSample g n old new r → IsSaid see o o' r status → status ≡ 6 → ⊥
never_six g see n old new r status o o' h (inr k) e = apart 7 6 status refl k.0 e
never_six g see n old new (Shown text) status o o' h (inl k) e = apart 0 6 status refl k.0 e
never_six g see n old new (Checked text) status o o' h (inl k) e = h
never_six g see n old new (Broken text) status o o' h (inl k) e = apart 1 6 status refl k.0 e
never_six g see n old new Usage status o o' h (inl k) e = h
never_six g see n old new OutOfMemory status o o' h (inl k) e = apart 3 6 status refl k.0 e
never_six g see n old new (Unread text) status o o' h (inl k) e = h
never_six g see n old new KeeperFault status o o' h (inl k) e = apart 5 6 status refl k.0 e
never_six g see n old new OtherSchema status o o' h (inl k) e = apart 8 6 status refl k.0 e
never_six g see n old new (Replayed end) status o o' h (inl k) e = h

-- a sample that breaks a rule ends with 1
pub sample_spoilt : IsOneApp → {K O : Type 0} (g : Ghosts K) (see : sink.Ghosts O) (n : ℕ) (old new : K) (r : Report) (status : ℕ) (o o' : O)
    → ReportsSample g n old new r → IsSaid see o o' r status → (bs : List Break) → JudgedApp app_text (Err bs) → RunEndsWith 1 status ⊥ (Rose (see.faults o) (see.faults o'))
sample_spoilt apps g see n old new r status o o' h (inr k) bs is = inr (inr (inr k.1))
sample_spoilt apps g see n old new (Shown text) status o o' h (inl k) bs is = absurd (apps app_text h.app bs h.judged is)
sample_spoilt apps g see n old new (Checked text) status o o' h (inl k) bs is = absurd h
sample_spoilt apps g see n old new (Broken text) status o o' h (inl k) bs is = inl k.0
sample_spoilt apps g see n old new Usage status o o' h (inl k) bs is = absurd h
sample_spoilt apps g see n old new OutOfMemory status o o' h (inl k) bs is = inr (inl k.0)
sample_spoilt apps g see n old new (Unread text) status o o' h (inl k) bs is = absurd h
sample_spoilt apps g see n old new KeeperFault status o o' h (inl k) bs is = absurd (apps app_text h.app bs h.judged is)
sample_spoilt apps g see n old new OtherSchema status o o' h (inl k) bs is = absurd (apps app_text h.app bs h.judged is)
sample_spoilt apps g see n old new (Replayed end) status o o' h (inl k) bs is = absurd h

-- ---- words

-- what two words want
abbrev pair_wanted : List ℕ → List ℕ → Option (Form × List ℕ)
pair_wanted command file =
    if bytes_eq command (codes "view") then Some (View, file)
    else (if bytes_eq command (codes "check") then Some (Check, file) else app_if (bytes_eq command (codes "replay")) file)

-- those that ask for a sample load want no file
pub sample_alone : (command number : String Global) → bytes_eq (string_bytes command) (codes "gen") ≡ true → wanted (command ∷ number ∷ []) ≡ None
sample_alone command number e =
    let same : string_bytes command ≡ codes "gen" = (bytes_eq-Decides (string_bytes command) (codes "gen")).0 e in
    subst (λ c. pair_wanted c (string_bytes number) ≡ None) (sym same) refl
