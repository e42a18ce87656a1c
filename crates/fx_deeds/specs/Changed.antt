-- What one change makes of a state.
use Rattle.std.specs.Prelude.{◌≡◌, ℕ, ◌++◌, List, [], ◌∷◌, Bool, true, false, not}
use Rattle.fx_types.specs.Values.{Data}
use Rattle.fx_core.specs.declared.schema.Column.{Column}
use Rattle.fx_core.specs.declared.sources.Source.{Source}
use Rattle.fx_core.specs.declared.sources.Source.TheVariants as source
use Rattle.session_state.specs.declared.change.Change.{Change}
use Rattle.session_state.specs.declared.change.Change.TheVariants.{Global, Context, Gather, Empty}
use Rattle.session_state.specs.declared.change.Change.TheVariants.{Input, Choose, Screen, Notice}
use Rattle.session_state.specs.Changes.{is_change_refused, made}
use Rattle.row_keeper.specs.Changes.{Inserts, Removes, Replaces}
use Rattle.row_keeper.specs.Tables.{Tables}
use Rattle.row_keeper.specs.declared.rows.Put.{Put}
use Rattle.row_keeper.specs.declared.rows.Put.TheVariants.{Id}
use Rattle.fx_deeds.specs.State.{WorldState}

-- the source that a change of a session writes; a screen and a notice are none
abbrev pub written : Change → List Source
written (Global k v) = source.Global k ∷ []
written (Context k v) = source.Context k ∷ []
written (Gather k v) = source.Gathered k ∷ []
written (Empty k) = source.Gathered k ∷ []
written (Input k v) = source.Input k ∷ []
written (Choose k position id) = source.Chosen k ∷ []
written (Screen k) = []
written (Notice w) = []

-- a change that is made changes the session, and one that is refused changes nothing
abbrev pub by_done : {A : Type 0} → Bool → Change → WorldState A → WorldState A
by_done true c s = record s { session = made c s.session; wrote = s.wrote ++ written c }
by_done false c s = s

-- a change of the session is made, unless it is refused
abbrev pub IsChanged : {A : Type 0} → Change → Bool → WorldState A → WorldState A → Type 0
IsChanged c done s t = (done ≡ not (is_change_refused c s.session)) × (t ≡ by_done done c s)

-- other tables, of which this one was written
abbrev pub with_table : {A : Type 0} → ℕ → Tables → WorldState A → WorldState A
with_table k b s = record s { tables = b; wrote = s.wrote ++ source.Table k ∷ [] }

-- a row that is kept was written, and one that is not changes nothing
abbrev pub by_put : {A : Type 0} → Put → ℕ → Tables → WorldState A → WorldState A
by_put (Id n) k b s = with_table k b s
by_put p k b s = s

abbrev pub by_found : {A : Type 0} → Bool → ℕ → Tables → WorldState A → WorldState A
by_found true k b s = with_table k b s
by_found false k b s = s

-- a new row of a table, or the rule that it breaks
abbrev pub IsRowMade : {A : Type 0} → List Column → ℕ → List Data → Put → WorldState A
    → WorldState A → Type 0
IsRowMade columns k cells p s t = (b : Tables) × Inserts columns k cells p s.tables b
    × (t ≡ by_put p k b s)

-- other cells in a row of a table, or that there is none, or the rule that they break
abbrev pub IsRowChanged : {A : Type 0} → List Column → ℕ → ℕ → List Data → Put → WorldState A
    → WorldState A → Type 0
IsRowChanged columns k id cells p s t = (b : Tables) × Replaces columns k id cells p s.tables b
    × (t ≡ by_put p k b s)

-- a row of a table is taken out, or there is none
abbrev pub IsRowRemoved : {A : Type 0} → ℕ → ℕ → Bool → WorldState A → WorldState A → Type 0
IsRowRemoved k id found s t = (b : Tables) × Removes k id found s.tables b
    × (t ≡ by_found found k b s)
