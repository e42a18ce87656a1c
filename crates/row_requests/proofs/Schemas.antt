-- The tables of a schema by their places.
use Rattle.std.proofs.Common.{◌≡◌, ℕ, zero, suc, ◌<◌, ◌^◌, ◌≤◌, Bool, List, [], ◌∷◌, map, length, Option, Some, None, refl, arith, sym, subst}
use Rattle.std.specs.Prelude.{IfSome, IsSomeAnd, slice_get}
use Rattle.std.specs.List.{AllByRecursion}
use Rattle.std.proofs.lemmas.List.Elements.{recursion_from_All}
use Rattle.fx_base.specs.Silence.{MayFallSilent}
use Rattle.fx_types.specs.Values.{Data}
use Rattle.fx_core.specs.Lawful.{AreDistinct, IsLawfulSchema, IsLawfulTable, id_name}
use Rattle.fx_core.specs.declared.schema.Column.{Column}
use Rattle.fx_core.specs.declared.schema.Schema.{Schema}
use Rattle.fx_core.specs.declared.schema.TableShape.{TableShape}
use Rattle.row_queries.specs.TableRows.{AreCellsOf, AreInIdOrder, IsRowOf}
use Rattle.row_queries.specs.declared.rows.Row.{Row}
use Rattle.row_keeper.specs.Changes.{Inserts, Removes, Replaces}
use Rattle.row_keeper.specs.Tables.{AreStatesOf, Tables, columns_at, state_at}
use Rattle.row_keeper.specs.declared.rows.Put.{Put}
use Rattle.row_requests.specs.Queries.{HasNumberedRows, FindsRow, FindsRows}
use Rattle.row_requests.specs.Sound.{AreSound}
use Rattle.row_requests.proofs.Soundness.{sound_inserts, sound_removes, sound_replaces, state_is}

-- the table at a place
record Stands (ts : List TableShape) (k : ℕ) : Type 0 where
  pub table : TableShape
  pub is : slice_get ts k ≡ Some table
  pub columns : columns_at ts k ≡ table.columns

stands : (ts : List TableShape) (k : ℕ) → k < length ts → Stands ts k
stands [] k h = absurd (omega (arith, h))
stands (t ∷ ts) zero h = record { table = t; is = refl; columns = refl }
stands (t ∷ ts) (suc k) h = let s = stands ts k (omega (arith, h)) in record { table = s.table; is = s.is; columns = s.columns }

-- cells that fit the columns fit the table
pub fits_there : (ts : List TableShape) (k : ℕ) (cells : List Data) → k < length ts → AreCellsOf (columns_at ts k) cells → IsSomeAnd (slice_get ts k) (λ (t : TableShape). AreCellsOf t.columns cells)
fits_there [] k cells h fit = absurd (omega (arith, h))
fits_there (t ∷ ts) zero cells h fit = fit
fits_there (t ∷ ts) (suc k) cells h fit = fits_there ts k cells (omega (arith, h)) fit

-- and the other way
pub fits_columns : (ts : List TableShape) (k : ℕ) (cells : List Data) → IsSomeAnd (slice_get ts k) (λ (t : TableShape). AreCellsOf t.columns cells) → AreCellsOf (columns_at ts k) cells
fits_columns [] k cells h = absurd h
fits_columns (t ∷ ts) zero cells h = h
fits_columns (t ∷ ts) (suc k) cells h = fits_columns ts k cells h

columns_apart : (ts : List TableShape) (k : ℕ) → AllByRecursion IsLawfulTable ts → k < length ts → AreDistinct (id_name ∷ map (λ (c : Column). c.name) (columns_at ts k))
columns_apart [] k all h = absurd (omega (arith, h))
columns_apart (t ∷ ts) zero all h = all.0.2
columns_apart (t ∷ ts) (suc k) all h = columns_apart ts k all.1 (omega (arith, h))

-- no two columns of a table have one name
pub are_apart : (s : Schema) (k : ℕ) → IsLawfulSchema s → k < length s.tables → AreDistinct (id_name ∷ map (λ (c : Column). c.name) (columns_at s.tables k))
are_apart s k lawful h = columns_apart s.tables k (recursion_from_All IsLawfulTable s.tables lawful.2) h

-- ---- the calls of a keeper leave tables that fit

pub inserts_sound : (s : Schema) (lost : Type 0) (columns : List Column) (k : ℕ) (cells : List Data) (put : Put) → k < length s.tables → AreCellsOf (columns_at s.tables k) cells
    → (x y : Option Tables) → AreSound s x → MayFallSilent lost (Inserts columns k cells put) x y → AreSound s y
inserts_sound s lost columns k cells put h fit x y sound g =
    let t = stands s.tables k h in sound_inserts s lost columns k t.table cells put t.is (subst (λ cs. AreCellsOf cs cells) t.columns fit) x y sound g

pub replaces_sound : (s : Schema) (lost : Type 0) (columns : List Column) (k id : ℕ) (cells : List Data) (put : Put) → k < length s.tables → AreCellsOf (columns_at s.tables k) cells
    → (x y : Option Tables) → AreSound s x → MayFallSilent lost (Replaces columns k id cells put) x y → AreSound s y
replaces_sound s lost columns k id cells put h fit x y sound g =
    let t = stands s.tables k h in sound_replaces s lost columns k id t.table cells put t.is (subst (λ cs. AreCellsOf cs cells) t.columns fit) x y sound g

pub removes_sound : (s : Schema) (lost : Type 0) (k id : ℕ) (was : Bool) → k < length s.tables
    → (x y : Option Tables) → AreSound s x → MayFallSilent lost (Removes k id was) x y → AreSound s y
removes_sound s lost k id was h x y sound g = let t = stands s.tables k h in sound_removes s lost k id t.table was t.is x y sound g

-- rows of tables that fit stand by rising numbers
pub rows_in_order : (s : Schema) (k : ℕ) → k < length s.tables → (x : Option Tables) → AreSound s x → IfSome x (λ (t : Tables). AreInIdOrder (state_at t.states k).rows)
rows_in_order s k h None sound = tt
rows_in_order s k h (Some t) sound = let u = stands s.tables k h in (state_is s.tables t.states k u.table sound u.is).rising

-- .. each of 32 bits
pub rows_numbered : (s : Schema) (k : ℕ) → k < length s.tables → (x : Option Tables) → AreSound s x → IfSome x (λ (t : Tables). HasNumberedRows (state_at t.states k))
rows_numbered s k h None sound = tt
rows_numbered s k h (Some t) sound =
    let u = stands s.tables k h in
    let is = state_is s.tables t.states k u.table sound u.is in
    record { rising = is.rising; bounded = λ i d l. lower _ _ (is.given i d l) is.bounded }
  where
    lower : (a b : ℕ) → a ≤ b → b < 2 ^ 32 → a < 2 ^ 32
    lower a b le lt = omega (arith, le, lt)

-- the cells of a row that fits
pub row_cells : (o : Option TableShape) (r : Row) → IsSomeAnd o (λ (t : TableShape). IsRowOf t r) → IsSomeAnd o (λ (t : TableShape). AreCellsOf t.columns r.cells)
row_cells None r h = absurd h
row_cells (Some t) r h = h.1

-- finding rows leaves the tables
pub found_sound : (s : Schema) (k id : ℕ) (lost : Type 0) (o : Option Row) (x y : Option Tables) → AreSound s x → MayFallSilent lost (FindsRow k id o) x y → AreSound s y
found_sound s k id lost o None None sound h = tt
found_sound s k id lost o None (Some b) sound h = absurd cc
found_sound s k id lost o (Some a) None sound h = tt
found_sound s k id lost o (Some a) (Some b) sound h = subst (λ (t : Tables). AreStatesOf s.tables t.states) (sym h.1) sound

pub found_rows_sound : (s : Schema) (k after : ℕ) (lost : Type 0) (found : List Row) (x y : Option Tables) → AreSound s x → MayFallSilent lost (FindsRows k after found) x y → AreSound s y
found_rows_sound s k after lost found None None sound h = tt
found_rows_sound s k after lost found None (Some b) sound h = absurd cc
found_rows_sound s k after lost found (Some a) None sound h = tt
found_rows_sound s k after lost found (Some a) (Some b) sound h = subst (λ (t : Tables). AreStatesOf s.tables t.states) (sym h.1) sound
