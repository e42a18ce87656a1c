-- A formula visits one number of rows at most, where all that is read is told.
use Rattle.std.proofs.Common.{◌≡◌, ◌∙◌, ◌<◌, ℕ, List, Bool, true, false, Option, None, Some, length, subst, sym}
use Rattle.std.proofs.lemmas.Option.{same_Some, slice_get_within}
use Rattle.std.specs.List.{Contains, slice_get}
use Rattle.app_semantics.proofs.FreshAt.{fits_at}
use Rattle.app_semantics.proofs.Freshness.{AllFit, given_in, given_told, got, read_behind, today_is}
use Rattle.app_semantics.proofs.Given.{told_agrees}
use Rattle.app_semantics.proofs.Ordered.{by_order, leaning_edge}
use Rattle.app_semantics.specs.Telling.{told_on}
use Rattle.fx_types.specs.Values.{Data}
use Rattle.fx_eval.proofs.Single.{one_visits}
use Rattle.fx_eval.proofs.Widening.{visits_stay}
use Rattle.fx_eval.specs.Laws.{AreHeld}
use Rattle.fx_eval.specs.Visits.{AskedTables, Visits}
use Rattle.fx_plan.specs.Limited.{limited}
use Rattle.fx_semantics.specs.Sources.{Gives as GivesTold}
use Rattle.fx_semantics.specs.Unique.{OneValue}
use Rattle.fx_core.specs.SourceTypes.{sources}
use Rattle.fx_core.specs.Term.{Term}
use Rattle.fx_core.specs.declared.sources.Source.{Source}
use Rattle.recalc.proofs.Tellings.{outermost}
use Rattle.recalc.specs.ItemVisits.{OneItemVisits}
use Rattle.recalc.specs.Visits.{FormulaVisits, OneCellVisits}
use Rattle.recalc.specs.app_cells.Leaning.{LeansOn, edges_of}
use Rattle.recalc.specs.app_cells.declared.app.App.{App}
use Rattle.recalc.specs.app_cells.declared.app.CellInfo.{CellInfo}
use Rattle.recalc.specs.app_semantics.Fresh.{AreKnown, IsWhere, reads_table, formula_context}
use Rattle.recalc.specs.app_semantics.Holding.{HoldsFitting}
use Rattle.recalc.specs.app_semantics.Laws.{OneFreshAt}
use Rattle.recalc.specs.app_semantics.Needed.{IsFreshAt, itself}
use Rattle.recalc.specs.app_semantics.Present.{Present, present}
use Rattle.recalc.specs.app_semantics.Sound.{IsSoundApp}
use Rattle.row_queries.specs.declared.rows.Row.{Row}
use Rattle.session_state.specs.Sessions.{SessionState}

-- the values of cells are fresh on which a formula leans
abbrev AreFreshFor : Present → (ℕ → Data) → CellInfo → Type 0
AreFreshFor p values c = (d : ℕ) → LeansOn p.app.names c d → IsFreshAt p values d

-- what a cell leans on has one fresh value
leaned_one : OneFreshAt → (p : Present) (values others : ℕ → Data) (k : ℕ) (c : CellInfo) → IsSoundApp p.app → HoldsFitting p.app.names p.session → AreKnown p.app p.tables → slice_get p.app.cells k ≡ Some c →
    AreFreshFor p values c → AreFreshFor p others c → (d : ℕ) → LeansOn p.app.names c d → values d ≡ others d
leaned_one law p values others k c s n known there fresh also d leans =
    (by_order (length p.app.cells) (edges_of p.app.names p.app.cells) p.app.order s.order Both step k (slice_get_within p.app.cells k c there)).1 d (leaning_edge p.app.names p.app.cells k c d there leans) (fresh d leans) (also d leans)
  where
    One : ℕ → Type 0
    One j = IsFreshAt p values j → IsFreshAt p others j → values j ≡ others j

    Both : ℕ → Type 0
    Both j = One j × ((e : ℕ) → Contains (edges_of p.app.names p.app.cells) (j, e) → One e)

    step : (j : ℕ) → j < length p.app.cells → ((e : ℕ) → Contains (edges_of p.app.names p.app.cells) (j, e) → Both e) → Both j
    step j within before = (λ x y. let e = got p.app.cells j within in law p values others j e.0 s n known e.1 x y, λ e edge. (before e edge).0)

-- what a formula visits over such values
formula_one : OneValue → OneFreshAt → (a : App) (s : SessionState) (rows : List (List Row)) (m : ℕ) (values others : ℕ → Data) (item : Option Data) (k : ℕ) (c : CellInfo) (n l : ℕ) → IsSoundApp a → HoldsFitting a.names s → AreKnown a (Some rows) →
    AreHeld (record { shapes = a.names.schema.tables; rows = rows }) → slice_get a.cells k ≡ Some c → AreFreshFor (present a s (Some rows) m) values c → AreFreshFor (present a s (Some rows) m) others c →
    FormulaVisits a s rows m values item c n → FormulaVisits a s rows m others item c l → n ≡ l
formula_one one law a s rows m values others item k c n l sound holds known held there fresh also h j = by (reads_table c.reads) h j
  where
    p : Present
    p = present a s (Some rows) m

    w : AskedTables
    w = record { shapes = a.names.schema.tables; rows = rows }

    tree : Term
    tree = limited a.names.schema.tables a.limit 0 false c.core

    led : (vs : ℕ → Data) → AreFreshFor p vs c → AllFit a vs c.reads
    led vs f x among d e behind found = fits_at p vs d sound holds known.fit (f d (x, among, behind)) d e found (itself d)

    by : (b : Bool) → IsWhere b (Visits w tree (formula_context p values c.reads item) n) (n ≡ 0) → IsWhere b (Visits w tree (formula_context p others c.reads item) l) (l ≡ 0) → n ≡ l
    by false x y = x ∙ sym y
    by true x y =
        let day = today_is m in
        let T : Source → Data = told_on day.0 a.names s (Some rows) others in
        one_visits one w (sources a.names) T (outermost item) tree n l held
        (visits_stay w (GivesTold (sources a.names) (Some T)) tree (formula_context p values c.reads item) n
        (λ z d g. (
          given_in p values c z d sound holds known.fit (sound.cells k c there) (led values fresh) g.0 g.1,
          given_told p values day.0 z d day.1 g.1
              ∙ told_agrees day.0 a.names s (Some rows) values others z (λ e q. leaned_one law p values others k c sound holds known there fresh also e (z, read_behind a.names c.reads z e g.0 q, q)),
        )) x)
        (visits_stay w (GivesTold (sources a.names) (Some T)) tree (formula_context p others c.reads item) l
        (λ z d g. (given_in p others c z d sound holds known.fit (sound.cells k c there) (led others also) g.0 g.1, given_told p others day.0 z d day.1 g.1)) y)

pub one_cell_visits : OneValue → OneFreshAt → OneCellVisits
one_cell_visits one law a s rows m k n l sound holds known held h j =
    let same : h.1 ≡ j.1 = same_Some h.1 j.1 (sym h.2 ∙ j.2) in
    let fresh : AreFreshFor (present a s (Some rows) m) j.0 h.1 = subst (λ (c : CellInfo). AreFreshFor (present a s (Some rows) m) j.0 c) (sym same) j.3 in
    let visits : FormulaVisits a s rows m j.0 None h.1 l = subst (λ (c : CellInfo). FormulaVisits a s rows m j.0 None c l) (sym same) j.4 in
    formula_one one law a s rows m h.0 j.0 None k h.1 n l sound holds known held h.2 h.3 fresh h.4 visits

pub one_item_visits : OneValue → OneFreshAt → OneItemVisits
one_item_visits one law a s rows m values others item None n l sound holds known held fresh also h j = h ∙ sym j
one_item_visits one law a s rows m values others item (Some k) n l sound holds known held fresh also h j =
    let same : h.0 ≡ j.0 = same_Some h.0 j.0 (sym h.1 ∙ j.1) in
    let visits : FormulaVisits a s rows m others (Some item) h.0 l = subst (λ (c : CellInfo). FormulaVisits a s rows m others (Some item) c l) (sym same) j.2 in
    formula_one one law a s rows m values others (Some item) k h.0 n l sound holds known held h.1 (λ d leans. fresh h.0 d h.1 leans) (λ d leans. also h.0 d h.1 leans) h.2 visits
