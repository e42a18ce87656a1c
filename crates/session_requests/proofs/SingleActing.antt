-- What a behaviour formula does is one thing at most.
use Rattle.std.proofs.Common.{◌≡◌, ℕ, List, [], Bool, true, Option, None, Some, refl, ap, sym, subst, ◌∙◌}
use Rattle.std.proofs.Math.Logic.{∥∥₁_elim}
use Rattle.std.specs.Coded.{Coded-set}
use Rattle.std.specs.List.{All, slice_get, slice_index_or}
use Rattle.fx_behave.proofs.SingleAll.{one_performing}
use Rattle.fx_behave.specs.Unique.{GivesOne}
use Rattle.fx_types.specs.ValueCode.{data_code}
use Rattle.fx_types.specs.Values.{Data, no_rows, tab}
use Rattle.fx_deeds.proofs.Single.{Outcome, Same}
use Rattle.fx_deeds.specs.State.{WorldState}
use Rattle.fx_scalar.specs.ScalarFunctions.{IsToday}
use Rattle.fx_semantics.proofs.SingleRows.{Once}
use Rattle.fx_core.specs.declared.names.Names.{Names}
use Rattle.fx_core.specs.declared.schema.Schema.{Schema}
use Rattle.fx_core.specs.declared.schema.TableShape.{TableShape}
use Rattle.fx_core.specs.declared.sources.Source.{Source}
use Rattle.fx_core.specs.declared.sources.Source.TheVariants as source
use Rattle.recalc.proofs.of_app_semantics.Freshness.{given_told, today_is}
use Rattle.recalc.specs.app_cells.declared.app.App.{App}
use Rattle.recalc.specs.app_cells.Leaning.{cell_behind, default_cell, items_cell}
use Rattle.recalc.specs.app_cells.declared.app.CellInfo.{CellInfo}
use Rattle.recalc.specs.app_semantics.Chosen.{chosen_of}
use Rattle.recalc.specs.app_semantics.Fresh.{AreKnown}
use Rattle.recalc.specs.app_semantics.Holding.{FittingHolds, HoldRows, HoldsFitting}
use Rattle.recalc.specs.app_semantics.Laws.{OneFreshAt}
use Rattle.recalc.specs.app_semantics.Present.{Present, given_or, unset_value, cell_value_or}
use Rattle.recalc.specs.app_semantics.Sound.{IsSoundApp}
use Rattle.recalc.specs.app_semantics.Telling.{told_on}
use Rattle.row_keeper.specs.Tables.{Tables, rows_of_tables, state_at}
use Rattle.row_queries.specs.TableRows.{IsRowOf, rows_at}
use Rattle.row_queries.specs.declared.rows.Row.{Row}
use Rattle.row_requests.proofs.Soundness.{state_is}
use Rattle.row_requests.specs.Sound.{AreSound}
use Rattle.session_state.specs.Sessions.{SessionState, stored_value}
use Rattle.row_keeper.proofs.NumberedRows.{rows_are}
use Rattle.session_requests.proofs.Beginnings.{performs}
use Rattle.session_requests.specs.Performing.{PerformsCell, outermost_scope}
use Rattle.session_requests.specs.WorldContext.{WorldContext, IsFit, IsFreshBehind, source_gives, ground_of, grounds, present_in, state_on}
use Rattle.session_requests.specs.OneActing.{OneActing}

-- ---- rows

-- the rows of tables that are sound fit
rows_hold : (schema : Schema) (t : Tables) → AreSound schema (Some t) → HoldRows schema (Some (rows_of_tables t.states))
rows_hold schema t are k shape e = subst (λ (rows : List Row). All (IsRowOf shape) rows) (sym (rows_are t.states k)) (state_is schema.tables t.states k shape are e).fit

-- ---- sources

value_alike : (values others : ℕ → Data) (d : Data) (o : Option ℕ) → ((k : ℕ) → o ≡ Some k → values k ≡ others k) → cell_value_or values d o ≡ cell_value_or others d o
value_alike values others d None h = refl
value_alike values others d (Some k) h = h k refl

-- what a source is worth is the same where the value of the cell behind it is
worth_alike : (day : Data) (n : Names) (s : SessionState) (rows : Option (List (List Row))) (values others : ℕ → Data) (x : Source) → ((k : ℕ) → cell_behind n x ≡ Some k → values k ≡ others k) →
    told_on day n s rows values x ≡ told_on day n s rows others x
worth_alike day n s rows values others (source.Cell k) h = h k refl
worth_alike day n s rows values others (source.Input k) h = ap (λ d. given_or (stored_value s (source.Input k)) d) (value_alike values others (unset_value (slice_get n.controls k)) (default_cell n k) h)
worth_alike day n s rows values others (source.Chosen k) h = ap (λ d. chosen_of (slice_index_or s.chosen k None) d) (value_alike values others (tab no_rows) (items_cell n k) h)
worth_alike day n s rows values others (source.Global k) h = refl
worth_alike day n s rows values others (source.Context k) h = refl
worth_alike day n s rows values others (source.Gathered k) h = refl
worth_alike day n s rows values others (source.Table k) h = refl
worth_alike day n s rows values others source.Today h = refl

-- fresh values are the same behind a source
behind_alike : OneFreshAt → (p : Present) (values others : ℕ → Data) (x : Source) → IsSoundApp p.app → HoldsFitting p.app.names p.session → AreKnown p.app p.tables → IsFreshBehind p values x → IsFreshBehind p others x →
    (k : ℕ) → cell_behind p.app.names x ≡ Some k → values k ≡ others k
behind_alike once p values others x sound holds known f g k behind = by (slice_get p.app.cells k) refl
  where
    by : (o : Option CellInfo) → slice_get p.app.cells k ≡ o → values k ≡ others k
    by (Some c) e = once p values others k c sound holds known e (f k behind).0 (g k behind).0
    by None e = (f k behind).1 e ∙ sym ((g k behind).1 e)

-- each source gives one value at most in a state: the value of the cell behind it is fresh, and there is one such
pub gives_one : OneFreshAt → FittingHolds → GivesOne source_gives
gives_one once holds s x v w g k =
    ∥∥₁_elim g (Coded-set data_code v w) (λ i.
    ∥∥₁_elim k (Coded-set data_code v w) (λ j.
    let p = present_in s in
    let day = today_is s.app.moment in
    let known : AreKnown s.app.app (Some (rows_of_tables s.tables.states)) = record { told = λ n c e. refl; fit = rows_hold s.app.app.names.schema s.tables (i.0).tables } in
    let same = behind_alike once p i.1 j.1 x (i.0).accepted (holds s.app.app.names s.session (i.0).session) known i.2 j.2 in
    given_told p i.1 day.0 x v day.1 i.3 ∙ worth_alike day.0 s.app.app.names s.session (Some (rows_of_tables s.tables.states)) i.1 j.1 x same ∙ sym (given_told p j.1 day.0 x w day.1 j.3)))

-- ---- formulas

-- A BEHAVIOUR FORMULA DOES ONE THING AT MOST
pub one_acting : Once → OneFreshAt → FittingHolds → OneActing
one_acting once fresh holds a moment c item t s x y u v q r ws zs h k =
    let start = state_on (grounds a moment None) t s [] in
    let first = state_on (grounds a moment None) u q ws in
    let second = state_on (grounds a moment None) v r zs in
    let same : Same x first y second =
    one_performing (ground_of a) once (gives_one fresh holds) c.core (outermost_scope item) start x y first second
    (performs None a c.core (outermost_scope item) (state_on (grounds a moment h.began) t s []) x (state_on (grounds a moment h.began) u q ws) h.performs)
    (performs None a c.core (outermost_scope item) (state_on (grounds a moment k.began) t s []) y (state_on (grounds a moment k.began) v r zs) k.performs) in
    (ap (λ (o : Outcome WorldContext). o.0) same, ap (λ (o : Outcome WorldContext). o.1.tables) same, ap (λ (o : Outcome WorldContext). o.1.session) same, ap (λ (o : Outcome WorldContext). o.1.wrote) same)
