-- What stays where nothing changes, and what is ready.
use Rattle.std.proofs.Common.{◌≡◌, ℕ, Bool, true, false, List, Option, None, Some, refl, sym, subst, ap, ◌∙◌}
use Rattle.std.proofs.Math.Logic.{∥∥₁_elim, ∥∥₁_map, ∥∥₁_prop}
use Rattle.std.specs.Prelude.{IsSome, option_map, unwrap_or}
use Rattle.std.specs.List.{slice_get}
use Rattle.fx_base.specs.Silence.{MayFallSilent}
use Rattle.fx_base.specs.Telling.{Stays}
use Rattle.fx_types.specs.Types.{Shape, tables}
use Rattle.fx_types.specs.Values.{Data, blank}
use Rattle.fx_deeds.specs.State.{AreReady, WorldState}
use Rattle.fx_env.specs.Telling.{values_told}
use Rattle.fx_scalar.specs.ScalarFunctions.{IsToday}
use Rattle.fx_core.specs.Reads.{IsAmong}
use Rattle.fx_core.specs.SourceTypes.{columns_of, sources}
use Rattle.fx_core.specs.declared.schema.Schema.{Schema}
use Rattle.fx_core.specs.declared.schema.TableShape.{TableShape}
use Rattle.fx_core.specs.declared.sources.Source.{Source}
use Rattle.fx_core.specs.declared.sources.Source.TheVariants as source
use Rattle.recalc.specs.Asking.{IsHeardOf, ToldRows}
use Rattle.recalc.specs.app_cells.Leaning.{cell_behind}
use Rattle.recalc.specs.app_cells.declared.app.CellInfo.{CellInfo}
use Rattle.recalc.specs.app_semantics.Fresh.{IsByItself, IsCellValue, IsValueOf}
use Rattle.recalc.specs.app_semantics.Needed.{IsFreshAt, Needs, further, is_alone, itself, stands_alone, stands_by}
use Rattle.recalc.specs.app_semantics.Present.{SourceGives, GivesTable, Present, present}
use Rattle.recalc.specs.app_semantics.Sound.{IsSoundApp}
use Rattle.recalc.specs.app_semantics.Telling.{table_told, told_on}
use Rattle.recalc.specs.app_cells.declared.app.App.{App}
use Rattle.recalc.specs.Reading.{cell_value}
use Rattle.row_keeper.specs.Tables.{AreStatesOf, Tables, rows_of_tables}
use Rattle.row_queries.specs.declared.rows.Row.{Row}
use Rattle.row_requests.specs.Sound.{AreSound}
use Rattle.session_state.specs.Changes.{FitsNames}
use Rattle.session_state.specs.Sessions.{SessionState}
use Rattle.session_requests.specs.WorldContext.{WorldContext, IsFit, IsFreshBehind, source_gives, state_on}
use Rattle.session_requests.specs.WorldLaws.{state_told}
use Rattle.session_requests.specs.Worlds.{told_in}

-- ---- calls that read
-- what is heard is told
pub not_heard : (d : Option Tables) → d ≡ None → IsSome d → ⊥
not_heard d e h = let no = subst (λ (z : Option Tables). IsSome z) e h in absurd cc

-- tables that fit do so still
pub sound_stays : (lost : Type 0) (s : Schema) (x y : Option Tables) → MayFallSilent lost Stays x y → AreSound s x → AreSound s y
sound_stays lost s None y h f = subst (λ (o : Option Tables). AreSound s o) (sym h) f
sound_stays lost s (Some t) None h f = tt
sound_stays lost s (Some t) (Some u) h f = subst (λ (z : Tables). AreStatesOf s.tables z.states) (sym h) f

-- ---- what is ready
given_now : (a : App) (moment : ℕ) (day : Data) (s : SessionState) (rows : List (List Row)) (values : ℕ → Data) (x : Source) (t : Shape) → IsToday moment day → sources a.names x ≡ Some t →
    SourceGives (present a s (Some rows) moment) values x (told_on day a.names s (Some rows) values x)
given_now a moment day s rows values (source.Table k) t is e = by (slice_get a.names.schema.tables k) e
  where
    by : (o : Option TableShape) → option_map (λ (x : TableShape). tables (columns_of x)) o ≡ Some t → GivesTable o (Some rows) k (table_told o (Some rows) k)
    by (Some y) e = refl
    by None e = absurd cc
given_now a moment day s rows values (source.Cell k) t is e = refl
given_now a moment day s rows values (source.Global k) t is e = refl
given_now a moment day s rows values (source.Context k) t is e = refl
given_now a moment day s rows values (source.Gathered k) t is e = refl
given_now a moment day s rows values (source.Input k) t is e = refl
given_now a moment day s rows values (source.Chosen k) t is e = refl
given_now a moment day s rows values source.Today t is e = is

-- values are fresh behind each of these sources, over all that is heard of the rows of tables
abbrev pub AreFreshBehind : App → SessionState → Option Tables → ℕ → (ℕ → Data) → List Source → Type 0
AreFreshBehind a s told m values reads = (tables : ToldRows) (x : Source) → IsHeardOf told tables → IsAmong x reads → IsFreshBehind (present a s tables m) values x

pub ready_now : (day : Data) (g : WorldContext) (s : SessionState) (values : List Data) (ws : List Source) (reads : List Source) (y : Option Tables) →
    IsSoundApp g.app → FitsNames g.app.names s → AreSound g.app.names.schema y → ∥ IsToday g.moment day ∥₁ → ∥ AreFreshBehind g.app s y g.moment (cell_value values) reads ∥₁ →
    AreReady (sources g.app.names) source_gives reads (state_told (option_map (told_in day g s values ws) y)) (values_told (option_map (told_in day g s values ws) y))
ready_now day g s values ws reads y accepted fits sound today fresh = by y sound fresh
  where
    one : (t : Tables) (x : Source) (u : Shape) → IsFit g.app s t → ∥ AreFreshBehind g.app s (Some t) g.moment (cell_value values) reads ∥₁ → IsAmong x reads → sources g.app.names x ≡ Some u →
        source_gives (state_on g t s ws) x (told_on day g.app.names s (Some (rows_of_tables t.states)) (cell_value values) x)
    one t x u fit f among e =
        ∥∥₁_elim today ∥∥₁_prop (λ is. ∥∥₁_map f (λ h.
        (fit, cell_value values, h (Some (rows_of_tables t.states)) x refl among, given_now g.app g.moment day s (rows_of_tables t.states) (cell_value values) x u is e)))

    by : (y : Option Tables) → AreSound g.app.names.schema y → ∥ AreFreshBehind g.app s y g.moment (cell_value values) reads ∥₁ →
        AreReady (sources g.app.names) source_gives reads (state_told (option_map (told_in day g s values ws) y)) (values_told (option_map (told_in day g s values ws) y))
    by None k f st told p q x u among e = absurd cc
    by (Some t) k f st told p q x u among e =
        let p' : state_on g t s ws ≡ st = cc in
        let q' : told_on day g.app.names s (Some (rows_of_tables t.states)) (cell_value values) ≡ told = cc in
        subst (λ (z : WorldState WorldContext). source_gives z x (told x)) p' (subst (λ (f : Source → Data). source_gives (state_on g t s ws) x (f x)) q' (one t x u (record { accepted = accepted; session = fits; tables = k }) f among e))

-- ---- the cells behind what is read
-- a formula that has no value by itself needs no other
needs_none : (a : App) (k d : ℕ) → Needs a k d → is_alone a.cells k ≡ false → d ≡ k
needs_none a k d (itself j) aside = refl
needs_none a k d (further j e f c need there alone leans) aside =
    let at : e ≡ j = needs_none a j e need aside in
    let yes : is_alone a.cells j ≡ true = subst (λ i. is_alone a.cells i ≡ true) at (ap (λ (o : Option CellInfo). unwrap_or (option_map stands_alone o) false) there ∙ alone) in
    let both : true ≡ false = sym yes ∙ aside in absurd cc

-- it is fresh where it is blank
aside_is : (p : Present) (values : ℕ → Data) (c : CellInfo) (v : Data) → stands_alone c ≡ false → v ≡ blank → IsCellValue p values c v
aside_is p values c v e h = by c.cell.acts c.cell.item e
  where
    by : (b : Bool) (o : Option ℕ) → stands_by b o ≡ false → IsByItself b o (IsValueOf p values None c v) v
    by false None q = absurd cc
    by false (Some g) q = h
    by true o q = h

aside_fresh : (p : Present) (values : ℕ → Data) (k : ℕ) → is_alone p.app.cells k ≡ false → values k ≡ blank → IsFreshAt p values k
aside_fresh p values k aside is d c need there =
    let same : d ≡ k = needs_none p.app k d need aside in
    let no : stands_alone c ≡ false = sym (ap (λ (o : Option CellInfo). unwrap_or (option_map stands_alone o) false) there) ∙ subst (λ i. is_alone p.app.cells i ≡ false) (sym same) aside in
    aside_is p values c (values d) no (ap values same ∙ is)

beyond_aside : (cells : List CellInfo) (k : ℕ) → slice_get cells k ≡ None → is_alone cells k ≡ false
beyond_aside cells k e = ap (λ (o : Option CellInfo). unwrap_or (option_map stands_alone o) false) e

-- values that are fresh at the cells that have one by themselves, and blank at the others, are fresh behind a source
pub fresh_behind : (p : Present) (values : ℕ → Data) (x : Source) → ((k : ℕ) → is_alone p.app.cells k ≡ false → values k ≡ blank) →
    ((k : ℕ) → cell_behind p.app.names x ≡ Some k → is_alone p.app.cells k ≡ true → IsFreshAt p values k) → IsFreshBehind p values x
fresh_behind p values x bare fresh k behind = (by (is_alone p.app.cells k) refl, λ beyond. bare k (beyond_aside p.app.cells k beyond))
  where
    by : (b : Bool) → is_alone p.app.cells k ≡ b → IsFreshAt p values k
    by true e = fresh k behind e
    by false e = aside_fresh p values k e (bare k e)
