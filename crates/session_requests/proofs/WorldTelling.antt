-- What a session tells over the rows of a keeper.
use Rattle.std.proofs.Common.{◌≡◌, ℕ, true, List, Option, None, Some, refl, sym, subst, ap, ◌∙◌}
use Rattle.std.specs.Prelude.{IsSome, option_map}
use Rattle.std.proofs.Math.Bool.{Bool-set}
use Rattle.std.proofs.Math.Logic.{∥∥₁_elim}
use Rattle.std.proofs.lemmas.List.Elements.{recursion_from_All}
use Rattle.fx_types.specs.Types.{Shape, tables}
use Rattle.fx_types.specs.Values.{Data}
use Rattle.fx_env.specs.Telling.{values_told}
use Rattle.fx_eval.proofs.of_fx_plan.Placing.{lawful_at}
use Rattle.fx_scalar.specs.ScalarFunctions.{IsToday}
use Rattle.fx_semantics.specs.Sources.{FitsIn, Gives as GivesTold, IsTold}
use Rattle.fx_core.specs.Lawful.{IsLawfulSchema, IsLawfulTable}
use Rattle.fx_core.specs.SourceTypes.{columns_of, sources}
use Rattle.fx_core.specs.declared.names.Names.{Names}
use Rattle.fx_core.specs.declared.schema.TableShape.{TableShape}
use Rattle.fx_core.specs.declared.sources.Source.{Source}
use Rattle.fx_core.specs.declared.sources.Source.TheVariants as source
use Rattle.fx_value.specs.Fits.{fits_in}
use Rattle.recalc.proofs.of_app_semantics.Freshness.{told_given}
use Rattle.recalc.proofs.of_app_semantics.Given.{given_fits}
use Rattle.recalc.specs.app_semantics.Holding.{HoldsFitting}
use Rattle.recalc.specs.app_semantics.Present.{present}
use Rattle.recalc.specs.app_semantics.Sound.{IsSoundApp}
use Rattle.recalc.specs.app_semantics.Telling.{table_told, told_on}
use Rattle.recalc.specs.app_cells.declared.app.App.{App}
use Rattle.recalc.specs.Queries.{IsTableValue}
use Rattle.recalc.specs.Reading.{cell_value, told_by}
use Rattle.recalc.specs.Values.{CellsFit}
use Rattle.row_keeper.specs.Tables.{Tables, rows_of_tables, rows_told}
use Rattle.row_queries.specs.Laws.{RowsFit}
use Rattle.row_queries.specs.TableRows.{rows_table}
use Rattle.row_queries.specs.declared.rows.Row.{Row}
use Rattle.session_state.specs.Changes.{FitsNames, IsOwn}
use Rattle.session_state.specs.Sessions.{Holds, SessionState}
use Rattle.session_requests.specs.WorldContext.{WorldContext}
use Rattle.session_requests.specs.Worlds.{FitsAll, IsNoTableSource, told_in}

-- ---- what sources are worth fits
pub holding : (n : Names) (s : SessionState) → FitsNames n s → HoldsFitting n s
holding n s f = record { sources_held = f.sources_held; values_fit = f.values_fit }

pub all_fit : (a : App) → IsSoundApp a → FitsAll a
all_fit a sound s moment day values x t fits cells today apart e =
    ∥∥₁_elim today (Bool-set _ _) (λ is.
    given_fits (present a s None moment) (cell_value values) x t (told_on day a.names s None (cell_value values) x) sound (holding a.names s fits) tt (λ d c behind there. cells d c there) e
    (told_given (present a s None moment) (cell_value values) day x is apart))

-- ---- reads
pub own_held : (n : Names) (s : SessionState) (x : Source) → FitsNames n s → IsSome (sources n x) → IsOwn x → Holds s x
own_held n s x f h own = by (sources n x) refl h
  where
    by : (o : Option Shape) → sources n x ≡ o → IsSome o → Holds s x
    by (Some t) e h = f.sources_held x t own e
    by None e h = absurd cc

-- what a table gives
pub table_given : RowsFit → (day : Data) (g : WorldContext) (s : SessionState) (values : List Data) (ws : List Source) (y : Option Tables) (k : ℕ) (x : Source) (v : Data) →
    IsLawfulSchema g.app.names.schema → x ≡ source.Table k → IsTableValue g.app.names.schema.tables (rows_told y) k v →
    GivesTold (sources g.app.names) (values_told (option_map (told_in day g s values ws) y)) x v
table_given fit day g s values ws y k x v lawful e h =
    subst (λ z. GivesTold (sources g.app.names) (values_told (option_map (told_in day g s values ws) y)) z v) (sym e) (fits, by y h)
  where
    shape_at : IsLawfulTable h.table
    shape_at = lawful_at g.app.names.schema.tables k h.table (recursion_from_All IsLawfulTable g.app.names.schema.tables lawful.2) h.is_table

    fits : FitsIn (sources g.app.names (source.Table k)) v
    fits =
        let type : sources g.app.names (source.Table k) ≡ Some (tables (columns_of h.table)) = ap (λ (o : Option TableShape). option_map (λ (x : TableShape). tables (columns_of x)) o) h.is_table in
        subst (λ (o : Option Shape). FitsIn o v) (sym type)
        (subst (λ d. fits_in d (tables (columns_of h.table)) ≡ true) (sym h.is) (fit h.table h.rows shape_at (λ i d l. (h.held.1 i d l).0)))

    by : (y : Option Tables) → IsTableValue g.app.names.schema.tables (rows_told y) k v → IsTold (values_told (option_map (told_in day g s values ws) y)) (source.Table k) v
    by None t = tt
    by (Some a) t = t.is ∙ ap (rows_table t.table) t.told_rows ∙ sym (ap (λ (o : Option TableShape). table_told o (Some (rows_of_tables a.states)) k) t.is_table)

-- what another source gives
told_same : (day : Data) (n : Names) (s : SessionState) (values : ℕ → Data) (rows : List (List Row)) (x : Source) → IsNoTableSource x → told_on day n s None values x ≡ told_on day n s (Some rows) values x
told_same day n s values rows (source.Cell k) u = refl
told_same day n s values rows (source.Global k) u = refl
told_same day n s values rows (source.Context k) u = refl
told_same day n s values rows (source.Gathered k) u = refl
told_same day n s values rows (source.Input k) u = refl
told_same day n s values rows (source.Chosen k) u = refl
told_same day n s values rows (source.Table k) u = absurd (u k refl)
told_same day n s values rows source.Today u = refl

pub other_given : (day : Data) (g : WorldContext) (s : SessionState) (values : List Data) (ws : List Source) (y : Option Tables) (x : Source) (v : Data) → FitsAll g.app → FitsNames g.app.names s →
    CellsFit g.app (cell_value values) → ∥ IsToday g.moment day ∥₁ → IsNoTableSource x → IsSome (sources g.app.names x) → v ≡ told_by day g.app.names s values x →
    GivesTold (sources g.app.names) (values_told (option_map (told_in day g s values ws) y)) x v
other_given day g s values ws y x v all fits cells today apart h e = (typed (sources g.app.names x) refl h, by y)
  where
    typed : (o : Option Shape) → sources g.app.names x ≡ o → IsSome o → FitsIn o v
    typed (Some t) q h = subst (λ d. fits_in d t ≡ true) (sym e) (all s g.moment day values x t fits cells today apart q)
    typed None q h = absurd cc

    by : (y : Option Tables) → IsTold (values_told (option_map (told_in day g s values ws) y)) x v
    by None = tt
    by (Some a) = e ∙ told_same day g.app.names s (cell_value values) (rows_of_tables a.states) x apart
