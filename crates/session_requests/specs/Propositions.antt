-- That a session fits, that tables are sound, and what is said of caches, are facts.
use Rattle.std.specs.Prelude.{◌≡◌, ℕ, ◌≤◌, List, [], ◌∷◌, Option, Some, None, unwrap_or}
use Rattle.std.specs.Coded.{Coded-set, code_by, coded×, coded_option, coded_ℕ}
use Rattle.std.proofs.Common.{ap, refl, sym, ◌∙◌}
use mathlib.Core.HLevel.{Σ_prop_path}
use Rattle.std.proofs.Math.Bool.{Bool-set}
use Rattle.std.proofs.Props.{props}
use Rattle.fx_types.specs.ValueCode.{data_code}
use Rattle.fx_types.specs.Values.{Data, blank, number, text, boolean, date, rec, tab, fault}
use Rattle.fx_core.specs.declared.names.Names.{Names}
use Rattle.fx_core.specs.declared.schema.Column.{Column}
use Rattle.fx_core.specs.declared.schema.Schema.{Schema}
use Rattle.fx_core.specs.declared.schema.TableShape.{TableShape}
use Rattle.fx_core.specs.declared.sources.Source.{Source}
use Rattle.fx_core.specs.declared.sources.Source.TheVariants as source
use Rattle.fx_value.specs.Order.{IsScalar}
use Rattle.recalc.specs.app_cells.declared.app.App.{App}
use Rattle.recalc.specs.Holds.{holds_prop}
use Rattle.recalc.specs.Changes.{StaysCleanExcept}
use Rattle.recalc.specs.Kept.{AreLow, IsClean, IsCurrent, IsInOrder, IsSettled, IsSourceOf}
use Rattle.recalc.specs.Kept.{CacheState, stamp_of}
use Rattle.recalc.specs.declared.stamps.Stamp.{Stamp}
use Rattle.row_keeper.specs.Tables.{AreStatesOf, IsStateOf, TableState, Tables}
use Rattle.row_queries.specs.TableRows.{AreCellsOf, AreInIdOrder, IsBelowAll, IsRowOf}
use Rattle.row_queries.specs.declared.rows.Row.{Row}
use Rattle.row_requests.specs.Sound.{AreSound}
use Rattle.session_state.specs.Changes.{FitsNames}
use Rattle.session_state.specs.Sessions.{SessionState}
use Rattle.session_requests.specs.Caching.{SameSessionExcept, AreSources}

pub names_prop : (n : Names) (s : SessionState) → IsProp (FitsNames n s)
names_prop n s = hlevel (holds_prop, Bool-set, props)

scalar_prop : (d : Data) → IsProp (IsScalar d)
scalar_prop blank = hlevel props
scalar_prop (number z) = hlevel props
scalar_prop (text x) = hlevel props
scalar_prop (boolean b) = hlevel props
scalar_prop (date z) = hlevel props
scalar_prop (rec fs) = hlevel props
scalar_prop (tab rs) = hlevel props
scalar_prop (fault k m) = hlevel props

cells_prop : (cs : List Column) (ds : List Data) → IsProp (AreCellsOf cs ds)
cells_prop [] [] = hlevel props
cells_prop [] (d ∷ ds) = hlevel props
cells_prop (c ∷ cs) [] = hlevel props
cells_prop (c ∷ cs) (d ∷ ds) = hlevel (scalar_prop d, Bool-set, cells_prop cs ds, props)

row_prop : (t : TableShape) (r : Row) → IsProp (IsRowOf t r)
row_prop t r = hlevel (cells_prop, props)

below_prop : (id : ℕ) (rs : List Row) → IsProp (IsBelowAll id rs)
below_prop id [] = hlevel props
below_prop id (r ∷ rs) = hlevel (below_prop id rs, props)

order_prop : (rs : List Row) → IsProp (AreInIdOrder rs)
order_prop [] = hlevel props
order_prop (r ∷ rs) = hlevel (below_prop, order_prop rs, props)

state_prop : (t : TableShape) (s : TableState) → IsProp (IsStateOf t s)
state_prop t s = hlevel (row_prop, order_prop, props)

states_prop : (ts : List TableShape) (ss : List TableState) → IsProp (AreStatesOf ts ss)
states_prop [] [] = hlevel props
states_prop [] (s ∷ ss) = hlevel props
states_prop (t ∷ ts) [] = hlevel props
states_prop (t ∷ ts) (s ∷ ss) = hlevel (state_prop, states_prop ts ss, props)

pub sound_prop : (schema : Schema) (told : Option Tables) → IsProp (AreSound schema told)
sound_prop schema None = hlevel props
sound_prop schema (Some t) = states_prop schema.tables t.states

-- ---- caches

data_set : IsSet Data
data_set = Coded-set data_code

stamp_set : IsSet Stamp
stamp_set = Coded-set (code_by (ℕ × ℕ) (coded× coded_ℕ coded_ℕ)
    (λ (e : Stamp). (e.checked, e.moved)) (λ p. record { checked = p.0; moved = p.1 }) (λ _. refl))

chosen_set : IsSet (Option (ℕ × Option ℕ))
chosen_set = Coded-set (coded_option (coded× coded_ℕ (coded_option coded_ℕ)))

under_stamp : (o : Option Stamp) (P : Stamp → Type 0) (e : Stamp) → IsProp (P e)
    → IsProp ((o ≡ Some e) × P e)
under_stamp o P e h = hlevel (stamp_set, h, props)

-- a place has one stamp at most
paired_prop : (o : Option Stamp) (P : Stamp → Type 0) → ((e : Stamp) → IsProp (P e))
    → IsProp ((e : Stamp) × ((o ≡ Some e) × P e))
paired_prop o P h s t = let same : s.0 ≡ t.0 = ap (λ (x : Option Stamp). unwrap_or x s.0) (sym s.1.0 ∙ t.1.0) in Σ_prop_path (λ (e : Stamp). under_stamp o P e (h e)) same

stamped_prop : (o : Option Stamp) (P : Stamp → Type 0) → ((e : Stamp) → IsProp (P e))
    → IsProp ((e : Stamp) × (o ≡ Some e) × P e)
stamped_prop o P h s t =
    let apart : ((e : Stamp) × ((o ≡ Some e) × P e)) → (e : Stamp) × (o ≡ Some e) × P e = λ x. (x.0, x.1.0, x.1.1) in
    ap apart (paired_prop o P h (s.0, (s.1, s.2)) (t.0, (t.1, t.2)))

current_prop : (a : App) (c : CacheState) (k n : ℕ) → IsProp (IsCurrent a c k n)
current_prop a c k n = hlevel props

clean_prop : (a : App) (c : CacheState) (k : ℕ) → IsProp (IsClean a c k)
clean_prop a c k = stamped_prop (stamp_of c k) (λ (e : Stamp). IsCurrent a c k e.checked)
    (λ e. current_prop a c k e.checked)

settled_prop : (c : CacheState) (d n : ℕ) → IsProp (IsSettled c d n)
settled_prop c d n = stamped_prop (stamp_of c d) (λ (f : Stamp). f.moved ≤ n) (λ f. hlevel props)

low_prop : (c : CacheState) → IsProp (AreLow c)
low_prop c = hlevel props

pub left_prop : (a : App) (xs : List Source) (c d : CacheState) → IsProp (StaysCleanExcept a xs c d)
left_prop a xs c d = hlevel (clean_prop, props)

pub cache_prop : (a : App) (c : CacheState) → IsProp (IsInOrder a c)
cache_prop a c = hlevel (clean_prop, settled_prop, low_prop, data_set, Bool-set, props)

source_prop : (n : Names) (x : Source) → IsProp (IsSourceOf n x)
source_prop n (source.Cell k) = hlevel props
source_prop n (source.Global k) = hlevel props
source_prop n (source.Context k) = hlevel props
source_prop n (source.Gathered k) = hlevel props
source_prop n (source.Input k) = hlevel props
source_prop n (source.Chosen k) = hlevel props
source_prop n (source.Table k) = hlevel props
source_prop n source.Today = hlevel props

pub sources_prop : (n : Names) (ws : List Source) → IsProp (AreSources n ws)
sources_prop n ws = hlevel (source_prop, props)

pub sessions_prop : (n : Names) (ws : List Source) (s r : SessionState)
    → IsProp (SameSessionExcept n ws s r)
sessions_prop n ws s r = hlevel (data_set, chosen_set, props)
