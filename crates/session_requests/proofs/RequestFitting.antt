-- Sessions go on fitting an app, and what acts can be performed.
use Rattle.std.proofs.Common.{◌≡◌, ℕ, ◌<◌, Bool, true, false, List, [], length, get_or, Option, Some, refl, ap, sym, ◌∙◌, subst}
use Rattle.std.specs.Prelude.{slice_get}
use Rattle.std.proofs.lemmas.Option.{slice_get_read}
use Rattle.session_requests.specs.Performing.{IsActingCell}
use Rattle.fx_types.specs.TypeView.{shape}
use Rattle.fx_types.specs.Values.{Data}
use Rattle.fx_semantics.specs.Laws.{AllTypingsLawful}
use Rattle.fx_semantics.specs.Sound.{IsItemFit}
use Rattle.fx_core.specs.declared.names.Names.{Names}
use Rattle.fx_core.specs.declared.sources.Source.{Source}
use Rattle.fx_core.specs.declared.sources.Source.TheVariants as source
use Rattle.fx_typing.specs.Typing.{item_context}
use Rattle.fx_value.specs.Fits.{fits_in}
use Rattle.recalc.specs.app_cells.declared.app.App.{App}
use Rattle.recalc.specs.app_cells.declared.app.CellInfo.{CellInfo}
use Rattle.recalc.specs.app_semantics.Sound.{IsSoundApp, context_at}
use Rattle.session_state.specs.Changes.{FitsNames}
use Rattle.session_state.specs.Once.{LastRequest, nobody}
use Rattle.session_state.specs.Sessions.{Holds, SessionState, stored_value}
use Rattle.session_requests.specs.Scenes.{arrived, begun, quiet, unasked}
use Rattle.session_requests.specs.Triggers.{ItemFits, cell_at}
use Rattle.session_requests.specs.declared.trigger.Trigger.{Trigger}
use Rattle.session_requests.proofs.Placed.{trigger_acts}

-- ---- what a request leaves beside what its session holds

abbrev pub with_rest : Bool → LastRequest → List (List ℕ) → SessionState → SessionState
with_rest b k ns s = record s { navigated = b; kept = k; notices = ns }

still_holds : (b : Bool) (k : LastRequest) (ns : List (List ℕ)) (s : SessionState) (x : Source) → Holds s x → Holds (with_rest b k ns s) x
still_holds b k ns s (source.Global j) h = h
still_holds b k ns s (source.Context j) h = h
still_holds b k ns s (source.Gathered j) h = h
still_holds b k ns s (source.Input j) h = h
still_holds b k ns s (source.Cell j) h = h
still_holds b k ns s (source.Chosen j) h = h
still_holds b k ns s (source.Table j) h = h
still_holds b k ns s source.Today h = h

pub still_held : (b : Bool) (k : LastRequest) (ns : List (List ℕ)) (s : SessionState) (x : Source) → stored_value (with_rest b k ns s) x ≡ stored_value s x
still_held b k ns s (source.Global j) = refl
still_held b k ns s (source.Context j) = refl
still_held b k ns s (source.Gathered j) = refl
still_held b k ns s (source.Input j) = refl
still_held b k ns s (source.Cell j) = refl
still_held b k ns s (source.Chosen j) = refl
still_held b k ns s (source.Table j) = refl
still_held b k ns s source.Today = refl

-- it fits, whatever its notices, its last request and where it navigated
pub fits_with : (n : Names) (b : Bool) (k : LastRequest) (ns : List (List ℕ)) (s : SessionState) → FitsNames n s → FitsNames n (with_rest b k ns s)
fits_with n b k ns s f = record {
  screen = f.screen;
  controls = f.controls;
  sources_held = λ x t own e. still_holds b k ns s x (f.sources_held x t own e);
  values_fit = λ x t own e. subst (λ (d : Data). fits_in d t ≡ true) (sym (still_held b k ns s x)) (f.values_fit x t own e);
  spare = f.spare;
}

pub fits_arrived : (n : Names) (s r : SessionState) → r ≡ arrived s → FitsNames n s → FitsNames n r
fits_arrived n s r e f = subst (FitsNames n) (sym e) (fits_with n false s.kept s.notices s f)

pub fits_begun : (n : Names) (s q r : SessionState) → q ≡ quiet s → r ≡ arrived q → FitsNames n s → FitsNames n r
fits_begun n s q r e d f = fits_arrived n q r d (subst (FitsNames n) (sym e) (fits_with n s.navigated s.kept [] s f))

pub fits_quiet : (n : Names) (s r : SessionState) → r ≡ quiet s → FitsNames n s → FitsNames n r
fits_quiet n s r e f = subst (FitsNames n) (sym e) (fits_with n s.navigated s.kept [] s f)

pub fits_unasked : (n : Names) (s r : SessionState) → r ≡ unasked (quiet s) → FitsNames n s → FitsNames n r
fits_unasked n s r e f = subst (FitsNames n) (sym e) (fits_with n s.navigated nobody [] s f)

-- ---- how a request begins and ends

pub is_begun : (s q r : SessionState) → q ≡ quiet s → r ≡ arrived q → r ≡ begun s
is_begun s q r e d = d ∙ ap arrived e

pub is_unasked : (end q r : SessionState) (body reply : List ℕ) → q ≡ quiet end → r ≡ record q { kept = record { last = 0; body = body; reply = reply } } → body ≡ [] → reply ≡ [] → r ≡ unasked (quiet end)
is_unasked end q r body reply e d b c = d ∙ (λ i. record (e i) { kept = record { last = 0; body = b i; reply = c i } })

-- ---- what acts

-- a formula that was looked up is one of the app's
pub there_at : (cells lent : List CellInfo) (k : ℕ) (c : CellInfo) → lent ≡ cells → k < length cells → c ≡ get_or lent k c → slice_get cells k ≡ Some c
there_at cells lent k c same l e = slice_get_read cells (length cells) k c refl l (e ∙ ap (λ (xs : List CellInfo). get_or xs k c) same)

-- the formula of a trigger can be performed
pub is_acting : AllTypingsLawful → (a : App) (trigger : Trigger) (k : ℕ) (c : CellInfo) → IsSoundApp a → cell_at trigger a ≡ Some k → slice_get a.cells k ≡ Some c → IsActingCell a c
is_acting law a trigger k c sound at there =
    let cell = sound.cells k c there in
    let can = cell.acting (trigger_acts a trigger k c sound at there).0 in
    record { typed = cell.typed; lawful = law (context_at a.names c.cell.item) c.core (shape c.ty) cell.typed can.context can.lawful; placed = can.placed }

-- its item fits
pub item_fits : (a : App) (trigger : Trigger) (item : Option Data) (k : ℕ) (c : CellInfo) → IsSoundApp a → cell_at trigger a ≡ Some k → slice_get a.cells k ≡ Some c → ItemFits a trigger item
    → IsItemFit item (item_context a.names c.cell.item)
item_fits a trigger item k c sound at there h = subst (λ (g : Option ℕ). IsItemFit item (item_context a.names g)) (sym (trigger_acts a trigger k c sound at there).1) h
