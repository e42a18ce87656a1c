-- What sources give fits their types, and hangs on the cells alone to which they lead.
use Rattle.std.proofs.Common.{◌≡◌, ℕ, zero, suc, List, [], ◌∷◌, Bool, true, false, Option, Some, None, Ok, Err, refl, sym, subst, ap, if◌then◌else◌}
use Rattle.std.specs.List.{find, slice_get}
use Rattle.std.specs.Prelude.{option_map, slice_index_or}
use Rattle.std.proofs.lemmas.List.Elements.{recursion_from_All}
use Rattle.app_cells.specs.Leaning.{cell_behind, default_cell, items_cell}
use Rattle.app_cells.specs.declared.app.App.{App}
use Rattle.app_cells.specs.declared.app.CellInfo.{CellInfo}
use Rattle.app_semantics.proofs.CellTypes.{HasCell, default_has, items_have, source_cell, then_some}
use Rattle.app_semantics.specs.Chosen.{chosen_of, chosen_row, is_item_of_id, row_at_position, row_or_blank}
use Rattle.app_semantics.specs.Present.{SourceGives, GivesTable, Present, given_or, input_of, items_of, selected_of, unset, unset_value, cell_value_or}
use Rattle.app_semantics.specs.Sound.{IsSoundApp}
use Rattle.app_semantics.specs.Telling.{told_on}
use Rattle.fx_types.specs.TypeView.{shape}
use Rattle.fx_types.specs.Types.{ColumnList, Shape, booleans, dates, numbers, records, tables}
use Rattle.fx_types.specs.Types as types
use Rattle.fx_types.specs.Values.{Data, blank, number, text, boolean, date, rec, tab, fault, no_rows}
use Rattle.fx_types.specs.declared.controls.Control.TheVariants as control
use Rattle.fx_types.specs.declared.controls.Control.{Control}
use Rattle.fx_scalar.specs.ScalarFunctions.{IsToday}
use Rattle.fx_semantics.proofs.Tables.{RowsFit, rows_in_fit}
use Rattle.fx_semantics.specs.Rows.{rows_in}
use Rattle.fx_tables.proofs.FitRows.{RowFits}
use Rattle.fx_value.specs.Columns.{Row}
use Rattle.fx_core.specs.Controls.{input_type}
use Rattle.fx_core.specs.SourceTypes.{chosen_shape as chosen_type, columns_of, item_columns, item_type, sources}
use Rattle.fx_core.specs.declared.names.ControlName.{ControlName}
use Rattle.fx_core.specs.declared.names.Names.{Names}
use Rattle.fx_core.specs.declared.sources.Source.TheVariants as source
use Rattle.fx_core.specs.declared.sources.Source.{Source}
use Rattle.fx_value.specs.Fits.{fits_in}
use Rattle.app_semantics.specs.Holding.{HoldRows, HoldsFitting}
use Rattle.fx_core.specs.declared.schema.TableShape.{TableShape}
use Rattle.fx_core.specs.Lawful.{IsLawful, IsLawfulTable}
use Rattle.fx_plan.proofs.Placing.{lawful_at}
use Rattle.row_queries.proofs.Fitting.{all_fit}
use Rattle.row_queries.specs.declared.rows.Row.{Row as RowOfTable}
use Rattle.row_queries.specs.TableRows.{rows_at, rows_table}
use Rattle.session_state.specs.Sessions.{SessionState, stored_value}

-- ---- chosen rows
abbrev IsFit : ColumnList → Option Row → Type 0
IsFit cs (Some r) = RowFits cs r
IsFit cs None = Unit {0}

row_got : (cs : ColumnList) (rows : List Row) (i : ℕ) → RowsFit cs rows → IsFit cs (slice_get rows i)
row_got cs [] i h = tt
row_got cs (r ∷ rs) zero h = h.0
row_got cs (r ∷ rs) (suc i) h = row_got cs rs i h.1

row_found : (cs : ColumnList) (test : Row → Bool) (rows : List Row) → RowsFit cs rows → IsFit cs (find test rows)
row_found cs test [] h = tt
row_found cs test (r ∷ rs) h = by (test r) (row_found cs test rs h.1)
  where
    by : (b : Bool) → IsFit cs (find test rs) → IsFit cs (if b then Some r else find test rs)
    by true later = h.0
    by false later = later

row_placed : (cs : ColumnList) (at : ℕ) (rows : List Row) → RowsFit cs rows → IsFit cs (row_at_position at rows)
row_placed cs zero rows h = tt
row_placed cs (suc i) rows h = row_got cs rows i h

row_chosen : (cs : ColumnList) (c : Option (ℕ × Option ℕ)) (rows : List Row) → RowsFit cs rows → IsFit cs (chosen_row c rows)
row_chosen cs None rows h = row_got cs rows 0 h
row_chosen cs (Some (at, Some id)) rows h = row_found cs (is_item_of_id id) rows h
row_chosen cs (Some (at, None)) rows h = row_placed cs at rows h

shown_fits : (cs : ColumnList) (o : Option Row) → IsFit cs o → fits_in (row_or_blank o) (records cs) ≡ true
shown_fits cs (Some r) h = h
shown_fits cs None h = refl

pub chosen_fits : (c : Option (ℕ × Option ℕ)) (d : Data) (cs : ColumnList) → fits_in d (tables cs) ≡ true → fits_in (chosen_of c d) (records cs) ≡ true
chosen_fits c (fault k m) cs h = refl
chosen_fits c blank cs h = shown_fits cs (chosen_row c []) (row_chosen cs c [] tt)
chosen_fits c (number z) cs h = absurd cc
chosen_fits c (text x) cs h = absurd cc
chosen_fits c (boolean b) cs h = absurd cc
chosen_fits c (date z) cs h = absurd cc
chosen_fits c (rec fs) cs h = absurd cc
chosen_fits c (tab rs) cs h = shown_fits cs (chosen_row c (rows_in (tab rs))) (row_chosen cs c (rows_in (tab rs)) (rows_in_fit (tab rs) cs h))

-- ---- cells that are led to
-- the value of each cell that a source leads to fits the cell's type
abbrev pub LedFit : App → (ℕ → Data) → Source → Type 0
LedFit a values x = (d : ℕ) (c : CellInfo) → cell_behind a.names x ≡ Some d → slice_get a.cells d ≡ Some c → fits_in (values d) (shape c.ty) ≡ true

cell_fits : (a : App) (values : ℕ → Data) (x : Source) (d : ℕ) (t : Shape) → LedFit a values x → cell_behind a.names x ≡ Some d → HasCell a.cells d t → fits_in (values d) t ≡ true
cell_fits a values x d t f e h = subst (λ u. fits_in (values d) u ≡ true) h.2 (f d h.0 e h.1)

unset_fits : (c : Control) (t : Shape) → input_type c ≡ Some t → fits_in (unset c) t ≡ true
unset_fits control.Label t e = refl
unset_fits control.Button t e = refl
unset_fits control.TextInput t e = refl
unset_fits control.Slider t e = let q : numbers ≡ t = cc in subst (λ u. fits_in (unset control.Slider) u ≡ true) q refl
unset_fits control.Checkbox t e = let q : booleans ≡ t = cc in subst (λ u. fits_in (unset control.Checkbox) u ≡ true) q refl
unset_fits control.DatePicker t e = refl
unset_fits control.Gallery t e = refl

default_fits : (a : App) (values : ℕ → Data) (k : ℕ) (c : ControlName) (t : Shape) → IsSoundApp a → LedFit a values (source.Input k) → slice_get a.names.controls k ≡ Some c → input_type c.kind ≡ Some t →
    fits_in (cell_value_or values (unset_value (slice_get a.names.controls k)) (default_cell a.names k)) t ≡ true
default_fits a values k c t s f there ty = by (default_cell a.names k) refl
  where
    by : (o : Option ℕ) → default_cell a.names k ≡ o → fits_in (cell_value_or values (unset_value (slice_get a.names.controls k)) o) t ≡ true
    by (Some d) e = cell_fits a values (source.Input k) d t f e (default_has a k d c t s e there ty)
    by None e = subst (λ o. fits_in (unset_value o) t ≡ true) (sym there) (unset_fits c.kind t ty)

given_or_fits : (v d : Data) (t : Shape) → fits_in v t ≡ true → fits_in d t ≡ true → fits_in (given_or v d) t ≡ true
given_or_fits blank d t h f = f
given_or_fits (number z) d t h f = h
given_or_fits (text x) d t h f = h
given_or_fits (boolean b) d t h f = h
given_or_fits (date z) d t h f = h
given_or_fits (rec fs) d t h f = h
given_or_fits (tab rs) d t h f = h
given_or_fits (fault k m) d t h f = h

input_fits : (p : Present) (values : ℕ → Data) (k : ℕ) (t : Shape) → IsSoundApp p.app → HoldsFitting p.app.names p.session → LedFit p.app values (source.Input k) → sources p.app.names (source.Input k) ≡ Some t →
    fits_in (input_of p.app.names p.session values k) t ≡ true
input_fits p values k t s n f e =
    let control = then_some (λ (c : ControlName). input_type c.kind) (slice_get p.app.names.controls k) t e in
    given_or_fits (stored_value p.session (source.Input k)) (cell_value_or values (unset_value (slice_get p.app.names.controls k)) (default_cell p.app.names k)) t
    (n.values_fit (source.Input k) t tt e) (default_fits p.app values k control.0 t s f control.1 control.2)

is_gallery : (c : Control) (r t : Shape) → chosen_type c r ≡ Some t → (c ≡ control.Gallery) × (r ≡ t)
is_gallery control.Gallery r t e = (refl, cc)
is_gallery control.Label r t e = absurd cc
is_gallery control.Button r t e = absurd cc
is_gallery control.TextInput r t e = absurd cc
is_gallery control.Slider r t e = absurd cc
is_gallery control.Checkbox r t e = absurd cc
is_gallery control.DatePicker r t e = absurd cc

-- the items of a gallery fit its columns
pub items_fit : (a : App) (values : ℕ → Data) (g : ℕ) (c : ControlName) → IsSoundApp a → LedFit a values (source.Chosen g) → slice_get a.names.controls g ≡ Some c → c.kind ≡ control.Gallery →
    fits_in (items_of a.names values g) (tables (item_columns (shape c.items))) ≡ true
items_fit a values g c s f there kind = by (items_cell a.names g) refl
  where
    by : (o : Option ℕ) → items_cell a.names g ≡ o → fits_in (cell_value_or values (tab no_rows) o) (tables (item_columns (shape c.items))) ≡ true
    by (Some d) e = cell_fits a values (source.Chosen g) d (tables (item_columns (shape c.items))) f e (items_have a g d c s e there kind)
    by None e = refl

selected_fits : (p : Present) (values : ℕ → Data) (g : ℕ) (t : Shape) → IsSoundApp p.app → LedFit p.app values (source.Chosen g) → sources p.app.names (source.Chosen g) ≡ Some t →
    fits_in (selected_of p.app.names p.session values g) t ≡ true
selected_fits p values g t s f e =
    let control = then_some (λ (c : ControlName). chosen_type c.kind (item_type c)) (slice_get p.app.names.controls g) t e in
    let kind = is_gallery (control.0).kind (item_type control.0) t control.2 in
    let cs : ColumnList = item_columns (shape (control.0).items) in
    subst (λ u. fits_in (selected_of p.app.names p.session values g) u ≡ true) kind.1
    (chosen_fits (slice_index_or p.session.chosen g None) (items_of p.app.names values g) cs (items_fit p.app values g control.0 s f control.1 kind.0))

today_fits : (moment : ℕ) (v : Data) → IsToday moment v → fits_in v dates ≡ true
today_fits moment v (Ok d, h, e) = subst (λ x. fits_in x dates ≡ true) (sym e) refl
today_fits moment v (Err k, h, e) = subst (λ x. fits_in x dates ≡ true) (sym e) refl

-- a table of rows that fit it
pub rows_fit : (n : Names) (ts : List (List RowOfTable)) (k : ℕ) (x : TableShape) → IsLawful n → HoldRows n.schema (Some ts) → slice_get n.schema.tables k ≡ Some x →
    fits_in (rows_table x (rows_at ts k)) (types.tables (columns_of x)) ≡ true
rows_fit n ts k x lawful r q =
    all_fit x (rows_at ts k) (lawful_at n.schema.tables k x (recursion_from_All IsLawfulTable n.schema.tables lawful.schema.2) q) (r k x q)

table_fits : (p : Present) (k : ℕ) (t : Shape) (v : Data) → IsSoundApp p.app → HoldRows p.app.names.schema p.tables → sources p.app.names (source.Table k) ≡ Some t →
    GivesTable (slice_get p.app.names.schema.tables k) p.tables k v → fits_in v t ≡ true
table_fits p k t v s r e h = by (slice_get p.app.names.schema.tables k) p.tables refl r e h
  where
    by : (o : Option TableShape) (rs : Option (List (List RowOfTable))) → slice_get p.app.names.schema.tables k ≡ o → HoldRows p.app.names.schema rs →
        option_map (λ (x : TableShape). types.tables (columns_of x)) o ≡ Some t → GivesTable o rs k v → fits_in v t ≡ true
    by None None q r e h = absurd h
    by None (Some ts) q r e h = absurd h
    by (Some x) None q r e h = absurd h
    by (Some x) (Some ts) q r e h =
        let type : types.tables (columns_of x) ≡ t = cc in
        subst (λ (d : Data). fits_in d t ≡ true) (sym h) (subst (λ (u : Shape). fits_in (rows_table x (rows_at ts k)) u ≡ true) type (rows_fit p.app.names ts k x s.names r q))

-- WHAT A SOURCE GIVES FITS ITS TYPE, where the cells to which it leads do
pub given_fits : (p : Present) (values : ℕ → Data) (x : Source) (t : Shape) (v : Data) → IsSoundApp p.app → HoldsFitting p.app.names p.session → HoldRows p.app.names.schema p.tables → LedFit p.app values x → sources p.app.names x ≡ Some t → SourceGives p values x v → fits_in v t ≡ true
given_fits p values (source.Cell k) t v s n r f e h = subst (λ d. fits_in d t ≡ true) (sym h) (cell_fits p.app values (source.Cell k) k t f refl (source_cell p.app k t s e))
given_fits p values (source.Global k) t v s n r f e h = subst (λ d. fits_in d t ≡ true) (sym h) (n.values_fit (source.Global k) t tt e)
given_fits p values (source.Context k) t v s n r f e h = subst (λ d. fits_in d t ≡ true) (sym h) (n.values_fit (source.Context k) t tt e)
given_fits p values (source.Gathered k) t v s n r f e h = subst (λ d. fits_in d t ≡ true) (sym h) (n.values_fit (source.Gathered k) t tt e)
given_fits p values (source.Input k) t v s n r f e h = subst (λ d. fits_in d t ≡ true) (sym h) (input_fits p values k t s n f e)
given_fits p values (source.Chosen k) t v s n r f e h = subst (λ d. fits_in d t ≡ true) (sym h) (selected_fits p values k t s f e)
given_fits p values (source.Table k) t v s n r f e h = table_fits p k t v s r e h
given_fits p values source.Today t v s n r f e h = let q : dates ≡ t = cc in subst (λ u. fits_in v u ≡ true) q (today_fits p.moment v h)

-- ---- other values of cells
value_agrees : (values others : ℕ → Data) (d : Data) (o : Option ℕ) → ((k : ℕ) → o ≡ Some k → values k ≡ others k) → cell_value_or values d o ≡ cell_value_or others d o
value_agrees values others d (Some k) h = h k refl
value_agrees values others d None h = refl

-- what a source is worth hangs on the cell alone to which it leads
pub told_agrees : (day : Data) (n : Names) (s : SessionState) (rows : Option (List (List RowOfTable))) (values others : ℕ → Data) (x : Source) → ((d : ℕ) → cell_behind n x ≡ Some d → values d ≡ others d) →
    told_on day n s rows values x ≡ told_on day n s rows others x
told_agrees day n s rows values others (source.Cell k) h = h k refl
told_agrees day n s rows values others (source.Global k) h = refl
told_agrees day n s rows values others (source.Context k) h = refl
told_agrees day n s rows values others (source.Gathered k) h = refl
told_agrees day n s rows values others (source.Input k) h = ap (given_or (stored_value s (source.Input k))) (value_agrees values others (unset_value (slice_get n.controls k)) (default_cell n k) h)
told_agrees day n s rows values others (source.Chosen k) h = ap (chosen_of (slice_index_or s.chosen k None)) (value_agrees values others (tab no_rows) (items_cell n k) h)
told_agrees day n s rows values others (source.Table k) h = refl
told_agrees day n s rows values others source.Today h = refl
