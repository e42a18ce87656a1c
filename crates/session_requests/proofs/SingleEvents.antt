-- What the formulas of one request do, is one.
use Rattle.std.proofs.Common.{◌≡◌, ℕ, Bool, true, false, Option, Some, None, refl, ap, sym, ◌∙◌, subst}
use Rattle.std.specs.Prelude.{slice_get}
use Rattle.session_requests.specs.Performing.{PerformsCell}
use Rattle.session_requests.specs.OneActing.{OneActing}
use Rattle.fx_types.specs.Values.{Data}
use Rattle.recalc.specs.app_cells.declared.app.App.{App}
use Rattle.recalc.specs.app_cells.declared.app.CellInfo.{CellInfo}
use Rattle.session_requests.specs.EventLaws.{OneOpening, OneRunning}
use Rattle.session_requests.specs.Running.{IsActed, IsFollowed, IsPerformed, ShowsScreen, IsTriggered}
use Rattle.session_requests.specs.Scenes.{TablesAndSession, arrived, scene}
use Rattle.session_requests.specs.Triggers.{cell_at}
use Rattle.session_requests.specs.declared.trigger.Trigger.{Trigger}
use Rattle.session_requests.specs.declared.trigger.Trigger.TheVariants.{OnStart, OnVisible}

-- the same value, and the same end
abbrev pub AreSame : Data → Data → TablesAndSession → TablesAndSession → Type 0
AreSame x y t u = (x ≡ y) × (t ≡ u)

module _ (one : OneActing) (a : App) (m : ℕ) where
  performed_one : (k : ℕ) (item : Option Data) (s t u : TablesAndSession) (x y : Data) → IsPerformed a m k item s x t → IsPerformed a m k item s y u → AreSame x y t u
  performed_one k item s t u x y h l =
      let both : Some l.cell ≡ Some h.cell = sym l.there ∙ h.there in
      let same : l.cell ≡ h.cell = cc in
      let w = one a m h.cell item s.tables s.session x y t.tables u.tables t.session u.session h.wrote l.wrote h.acts
      (subst (λ (c : CellInfo). PerformsCell a m c item s.tables s.session y u.tables u.session l.wrote) same l.acts) in
      (w.0, λ i. scene (w.1 i) (w.2 i))

  acted_one : (o : Option ℕ) (item : Option Data) (s t u : TablesAndSession) (x y : Data) → IsActed a m o item s x t → IsActed a m o item s y u → AreSame x y t u
  acted_one None item s t u x y h l = (h.0 ∙ sym l.0, h.1 ∙ sym l.1)
  acted_one (Some k) item s t u x y h l = performed_one k item s t u x y h l

  triggered_one : (trigger : Trigger) (item : Option Data) (s t u : TablesAndSession) (x y : Data) → IsTriggered a m trigger item s x t → IsTriggered a m trigger item s y u → AreSame x y t u
  triggered_one trigger item s t u x y h l = acted_one (cell_at trigger a) item s t u x y h l

  shown_one : (s t u : TablesAndSession) → ShowsScreen a m s t → ShowsScreen a m s u → t ≡ u
  shown_one s t u h l =
      let w = triggered_one (OnVisible s.session.screen) None (scene s.tables (arrived s.session)) h.end l.end h.value l.value h.acts l.acts in
      h.is ∙ ap (λ (e : TablesAndSession). scene e.tables (arrived e.session)) w.1 ∙ sym l.is

  followed_one : (b : Bool) (s t u : TablesAndSession) → IsFollowed a m b s t → IsFollowed a m b s u → t ≡ u
  followed_one true s t u h l = shown_one s t u h l
  followed_one false s t u h l = h ∙ sym l

pub one_running : OneActing → OneRunning
one_running one a m trigger item s t u x y h l =
    let w = triggered_one one a m trigger item s h.end l.end x y h.acts l.acts in
    (w.0, followed_one one a m h.end.session.navigated h.end t u h.follows (subst (λ (e : TablesAndSession). IsFollowed a m e.session.navigated e u) (sym w.1) l.follows))

pub one_opening : OneActing → OneOpening
one_opening one a m s t u h l =
    let w = triggered_one one a m OnStart None s h.end l.end h.value l.value h.acts l.acts in
    shown_one one a m h.end t u h.shown (subst (λ (e : TablesAndSession). ShowsScreen a m e u) (sym w.1) l.shown)
