-- What an environment over a keeper tells.
use Rattle.std.proofs.Common.{◌≡◌, ℕ, Bool, true, List, Option, None, Some, refl, sym, subst, ap, ◌∙◌}
use Rattle.std.specs.Prelude.{IsSome, option_map}
use Rattle.std.specs.List.{slice_get}
use Rattle.std.proofs.lemmas.List.Elements.{recursion_from_All}
use Rattle.app_semantics.proofs.Freshness.{IsNoTable}
use Rattle.app_semantics.specs.Holding.{HoldsFitting}
use Rattle.app_semantics.specs.Telling.{table_told, told_on}
use Rattle.fx_types.specs.Types.{Shape, tables}
use Rattle.fx_types.specs.Values.{Data}
use Rattle.fx_eval.proofs.of_fx_plan.Placing.{lawful_at}
use Rattle.fx_env.specs.Queries.{AreValuesOf, KeepsTables}
use Rattle.fx_env.specs.Telling.{EnvState, tables_told, values_told}
use Rattle.fx_semantics.specs.Sources.{FitsIn, Gives, IsTold}
use Rattle.fx_core.specs.Lawful.{IsLawfulSchema, IsLawfulTable}
use Rattle.fx_core.specs.SourceTypes.{columns_of}
use Rattle.fx_core.specs.declared.names.Names.{Names}
use Rattle.fx_core.specs.declared.schema.TableShape.{TableShape}
use Rattle.fx_core.specs.declared.sources.Source.TheVariants as source
use Rattle.fx_core.specs.declared.sources.Source.{Source}
use Rattle.fx_value.specs.Fits.{fits_in}
use Rattle.recalc.proofs.Tellings.{is_held, typed_fits}
use Rattle.recalc.specs.Queries.{IsTableValue}
use Rattle.recalc.specs.Reading.{KeeperState, cell_value, fixed_over, told_by, told_over, types_over}
use Rattle.row_keeper.specs.Tables.{Tables, rows_of_tables, rows_told}
use Rattle.row_queries.specs.Laws.{RowsFit}
use Rattle.row_queries.specs.TableRows.{rows_table}
use Rattle.row_queries.specs.declared.rows.Row.{Row}
use Rattle.session_state.specs.Changes.{IsOwn}
use Rattle.session_state.specs.Sessions.{Holds, SessionState}

-- a source of a session's own that has a type is held
pub over_held : (n : Names) (s : SessionState) (reads : List Source) (told : Source → Data) (x : Source) → HoldsFitting n s → IsSome (types_over n reads told x) → IsOwn x → Holds s x
over_held n s reads told (source.Global k) f h o = is_held n s reads told (source.Global k) f h o
over_held n s reads told (source.Context k) f h o = is_held n s reads told (source.Context k) f h o
over_held n s reads told (source.Gathered k) f h o = is_held n s reads told (source.Gathered k) f h o
over_held n s reads told (source.Input k) f h o = is_held n s reads told (source.Input k) f h o
over_held n s reads told (source.Cell k) f h o = absurd o
over_held n s reads told (source.Chosen k) f h o = absurd o
over_held n s reads told (source.Table k) f h o = absurd o
over_held n s reads told source.Today f h o = absurd o

-- a table that has a type is there
pub some_shape : (o : Option TableShape) → IsSome (option_map (λ (t : TableShape). tables (columns_of t)) o) → IsSome o
some_shape (Some t) h = refl
some_shape None h = absurd cc

pub table_there : (n : Names) (reads : List Source) (told : Source → Data) (x : Source) (k : ℕ) → IsSome (types_over n reads told x) → x ≡ source.Table k → IsSome (slice_get n.schema.tables k)
table_there n reads told x k h e = some_shape (slice_get n.schema.tables k) (subst (λ y. IsSome (types_over n reads told y)) e h)

-- the rows that are told are the keeper's
pub tables_over : (day : Data) (n : Names) (s : SessionState) (values : List Data) (b y : Option Tables) → tables_told (option_map (told_over day n s values b) y) ≡ rows_told y
tables_over day n s values b None = refl
tables_over day n s values b (Some t) = refl

-- each table may be read, and its value is that of its rows
pub keeps_tables : (day : Data) (n : Names) (s : SessionState) (values : List Data) (reads : List Source) (told : Source → Data) (limit : ℕ) (loans : List (Option ℕ)) (mode : Bool) (b y : Option Tables) →
    IsLawfulSchema n.schema → KeepsTables (fixed_over n reads told limit loans mode) (option_map (told_over day n s values b) y)
keeps_tables day n s values reads told limit loans mode b y lawful = record {
  lawful = lawful;
  read = λ k t e. ap (λ (o : Option TableShape). option_map (λ (x : TableShape). tables (columns_of x)) o) e;
  values = λ w e. by y w e;
}
  where
    by : (y : Option Tables) (w : EnvState KeeperState) → option_map (told_over day n s values b) y ≡ Some w → AreValuesOf n.schema.tables w.values w.tables
    by None w e = absurd cc
    by (Some a) w e =
        let same : told_over day n s values b a ≡ w = cc in
        subst (λ (x : EnvState KeeperState). AreValuesOf n.schema.tables x.values x.tables) same (λ k t there. ap (λ (o : Option TableShape). table_told o (Some (rows_of_tables a.states)) k) there)

-- what a table gives
pub table_given : RowsFit → (day : Data) (n : Names) (s : SessionState) (values : List Data) (reads : List Source) (told : Source → Data) (b y : Option Tables) (k : ℕ) (x : Source) (v : Data) →
    IsLawfulSchema n.schema → x ≡ source.Table k → IsTableValue n.schema.tables (rows_told y) k v → Gives (types_over n reads told) (values_told (option_map (told_over day n s values b) y)) x v
table_given fit day n s values reads told b y k x v lawful e h =
    subst (λ z. Gives (types_over n reads told) (values_told (option_map (told_over day n s values b) y)) z v) (sym e) (fits, by y h)
  where
    shape_at : IsLawfulTable h.table
    shape_at = lawful_at n.schema.tables k h.table (recursion_from_All IsLawfulTable n.schema.tables lawful.2) h.is_table

    fits : FitsIn (types_over n reads told (source.Table k)) v
    fits =
        let type : types_over n reads told (source.Table k) ≡ Some (tables (columns_of h.table)) = ap (λ (o : Option TableShape). option_map (λ (x : TableShape). tables (columns_of x)) o) h.is_table in
        subst (λ (o : Option Shape). FitsIn o v) (sym type)
        (subst (λ d. fits_in d (tables (columns_of h.table)) ≡ true) (sym h.is) (fit h.table h.rows shape_at (λ i d l. (h.held.1 i d l).0)))

    by : (y : Option Tables) → IsTableValue n.schema.tables (rows_told y) k v → IsTold (values_told (option_map (told_over day n s values b) y)) (source.Table k) v
    by None t = tt
    by (Some a) t = t.is ∙ ap (rows_table t.table) t.told_rows ∙ sym (ap (λ (o : Option TableShape). table_told o (Some (rows_of_tables a.states)) k) t.is_table)

-- what another source gives
told_same : (day : Data) (n : Names) (s : SessionState) (values : List Data) (rows : List (List Row)) (x : Source) → IsNoTable x → told_by day n s values x ≡ told_on day n s (Some rows) (cell_value values) x
told_same day n s values rows (source.Cell k) u = refl
told_same day n s values rows (source.Global k) u = refl
told_same day n s values rows (source.Context k) u = refl
told_same day n s values rows (source.Gathered k) u = refl
told_same day n s values rows (source.Input k) u = refl
told_same day n s values rows (source.Chosen k) u = refl
told_same day n s values rows (source.Table k) u = absurd (u k refl)
told_same day n s values rows source.Today u = refl

over_fits : (n : Names) (reads : List Source) (told : Source → Data) (x : Source) → IsNoTable x → IsSome (types_over n reads told x) → FitsIn (types_over n reads told x) (told x)
over_fits n reads told (source.Cell k) u h = typed_fits n reads told (source.Cell k) h
over_fits n reads told (source.Global k) u h = typed_fits n reads told (source.Global k) h
over_fits n reads told (source.Context k) u h = typed_fits n reads told (source.Context k) h
over_fits n reads told (source.Gathered k) u h = typed_fits n reads told (source.Gathered k) h
over_fits n reads told (source.Input k) u h = typed_fits n reads told (source.Input k) h
over_fits n reads told (source.Chosen k) u h = typed_fits n reads told (source.Chosen k) h
over_fits n reads told (source.Table k) u h = absurd (u k refl)
over_fits n reads told source.Today u h = typed_fits n reads told source.Today h

pub other_given : (day : Data) (n : Names) (s : SessionState) (values : List Data) (reads : List Source) (b y : Option Tables) (x : Source) (v : Data) → IsNoTable x →
    IsSome (types_over n reads (told_by day n s values) x) → v ≡ told_by day n s values x → Gives (types_over n reads (told_by day n s values)) (values_told (option_map (told_over day n s values b) y)) x v
other_given day n s values reads b y x v u h e =
    (subst (FitsIn (types_over n reads (told_by day n s values) x)) (sym e) (over_fits n reads (told_by day n s values) x u h), by y)
  where
    by : (y : Option Tables) → IsTold (values_told (option_map (told_over day n s values b) y)) x v
    by None = tt
    by (Some a) = e ∙ told_same day n s values (rows_of_tables a.states) x u
