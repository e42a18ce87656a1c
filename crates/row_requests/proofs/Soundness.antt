-- Tables that fit a schema go on fitting it.
use Rattle.std.proofs.Common.{◌≡◌, ℕ, zero, suc, ◌+◌, ◌-◌, ◌^◌, ◌<◌, ◌≤◌, Bool, true, false, not, cond, List, [], ◌∷◌, set, Option, Some, None, sym, subst, arith}
use Rattle.std.specs.Prelude.{slice_get, IfSome}
use Rattle.std.specs.List.{All}
use Rattle.std.proofs.lemmas.List.Elements.{All-append, All-cons, All-filter, All-map, All-nil, recursion_from_All}
use Rattle.fx_base.specs.Silence.{MayFallSilent}
use Rattle.fx_base.specs.Telling.{Stays}
use Rattle.fx_types.specs.Values.{Data}
use Rattle.fx_core.specs.declared.schema.Column.{Column}
use Rattle.fx_core.specs.declared.schema.Schema.{Schema}
use Rattle.fx_core.specs.declared.schema.TableShape.{TableShape}
use Rattle.row_queries.specs.TableRows.{AreCellsOf, IsRowOf}
use Rattle.row_queries.specs.declared.rows.Row.{Row}
use Rattle.row_keeper.specs.Changes.{Inserts, Removes, Replaces}
use Rattle.row_keeper.specs.Tables.{AreStatesOf, IsStateOf, TableState, Tables, all_rows, has_id, state_at, with_cells, with_row, without_row}
use Rattle.row_keeper.specs.declared.rows.Put.{Put}
use Rattle.row_keeper.specs.declared.rows.Put.TheVariants.{Id, NoRow, Refused}
use Rattle.row_keeper.proofs.PutLemmas.{has_room}
use Rattle.row_keeper.proofs.RowLists.{changed, order_changed, order_less, order_more}
use Rattle.row_requests.specs.Sound.{AreSound}

-- ---- one table

more : (t : TableShape) (s : TableState) (cells : List Data) → AreCellsOf t.columns cells → s.last < 2 ^ 32 - 1 → IsStateOf t s → IsStateOf t (with_row cells s)
more t s cells fit room is = record {
  fit = All-append (IsRowOf t) s.rows (new ∷ []) is.fit (All-cons (IsRowOf t) new [] (omega arith, fit) (All-nil (IsRowOf t)));
  rising = order_more s.last s.rows new (omega arith) (recursion_from_All (λ (r : Row). r.id ≤ s.last) s.rows is.given) is.rising;
  given = All-append (λ (r : Row). r.id ≤ s.last + 1) s.rows (new ∷ []) (higher s.rows is.given)
      (All-cons (λ (r : Row). r.id ≤ s.last + 1) new [] (omega arith) (All-nil (λ (r : Row). r.id ≤ s.last + 1)));
  bounded = omega (arith, room);
}
  where
    new : Row
    new = record { id = s.last + 1; cells = cells }

    higher : (rows : List Row) → All (λ (r : Row). r.id ≤ s.last) rows → All (λ (r : Row). r.id ≤ s.last + 1) rows
    higher rows h k d l = let b = h k d l in omega (arith, b)

changed_fits : (t : TableShape) (id : ℕ) (cells : List Data) → AreCellsOf t.columns cells → (r : Row) → IsRowOf t r → IsRowOf t (changed id cells r)
changed_fits t id cells fit r h = by (has_id id r)
  where
    by : (b : Bool) → IsRowOf t (cond b (record { id = r.id; cells = cells }) r)
    by true = (h.0, fit)
    by false = h

changed_below : (n id : ℕ) (cells : List Data) (r : Row) → r.id ≤ n → (changed id cells r).id ≤ n
changed_below n id cells r h = by (has_id id r)
  where
    by : (b : Bool) → (let x : Row = cond b (record { id = r.id; cells = cells }) r in x.id) ≤ n
    by true = h
    by false = h

other : (t : TableShape) (s : TableState) (id : ℕ) (cells : List Data) → AreCellsOf t.columns cells → IsStateOf t s → IsStateOf t (with_cells id cells s)
other t s id cells fit is = record {
  fit = All-map (IsRowOf t) (changed id cells) s.rows (λ k d l. changed_fits t id cells fit _ (is.fit k d l));
  rising = order_changed id cells s.rows is.rising;
  given = All-map (λ (r : Row). r.id ≤ s.last) (changed id cells) s.rows (λ k d l. changed_below s.last id cells _ (is.given k d l));
  bounded = is.bounded;
}

less : (t : TableShape) (s : TableState) (id : ℕ) → IsStateOf t s → IsStateOf t (without_row id s)
less t s id is = record {
  fit = All-filter (λ r. not (has_id id r)) (IsRowOf t) s.rows is.fit;
  rising = order_less (λ r. not (has_id id r)) s.rows is.rising;
  given = All-filter (λ r. not (has_id id r)) (λ (r : Row). r.id ≤ s.last) s.rows is.given;
  bounded = is.bounded;
}

-- ---- all tables

pub state_is : (ts : List TableShape) (ss : List TableState) (k : ℕ) (t : TableShape) → AreStatesOf ts ss → slice_get ts k ≡ Some t → IsStateOf t (state_at ss k)
state_is [] ss k t h e = absurd cc
state_is (u ∷ ts) [] k t h e = absurd h
state_is (u ∷ ts) (s ∷ ss) zero t h e = subst (λ (x : TableShape). IsStateOf x s) (same e) h.0
  where
    same : Some u ≡ Some t → u ≡ t
    same e = cc
state_is (u ∷ ts) (s ∷ ss) (suc k) t h e = state_is ts ss k t h.1 e

with_one : (ts : List TableShape) (ss : List TableState) (k : ℕ) (t : TableShape) (s : TableState) → AreStatesOf ts ss → slice_get ts k ≡ Some t → IsStateOf t s → AreStatesOf ts (set ss k s)
with_one [] [] k t s h e is = absurd cc
with_one [] (x ∷ ss) k t s h e is = absurd h
with_one (u ∷ ts) [] k t s h e is = absurd h
with_one (u ∷ ts) (x ∷ ss) zero t s h e is = (subst (λ (y : TableShape). IsStateOf y s) (sym (same e)) is, h.1)
  where
    same : Some u ≡ Some t → u ≡ t
    same e = cc
with_one (u ∷ ts) (x ∷ ss) (suc k) t s h e is = (h.0, with_one ts ss k t s h.1 e is)

-- ---- the calls of a keeper

-- what holds of tables that are told, after a call
kept : (P : Tables → Type 0) (lost : Type 0) (Q : Tables → Tables → Type 0) → ((a b : Tables) → P a → Q a b → P b) → (x y : Option Tables) → IfSome x P → MayFallSilent lost Q x y → IfSome y P
kept P lost Q step None None h g = tt
kept P lost Q step None (Some b) h g = absurd cc
kept P lost Q step (Some a) None h g = tt
kept P lost Q step (Some a) (Some b) h g = step a b h g

pub sound_stays : (s : Schema) (lost : Type 0) (x y : Option Tables) → AreSound s x → MayFallSilent lost Stays x y → AreSound s y
sound_stays s lost x y h g = kept (λ (t : Tables). AreStatesOf s.tables t.states) lost Stays (λ a b p q. subst (λ (t : Tables). AreStatesOf s.tables t.states) (sym q) p) x y h g

pub sound_inserts : (s : Schema) (lost : Type 0) (columns : List Column) (k : ℕ) (t : TableShape) (cells : List Data) (put : Put) → slice_get s.tables k ≡ Some t → AreCellsOf t.columns cells
    → (x y : Option Tables) → AreSound s x → MayFallSilent lost (Inserts columns k cells put) x y → AreSound s y
sound_inserts s lost columns k t cells put e fit x y h g = kept (λ (t : Tables). AreStatesOf s.tables t.states) lost (Inserts columns k cells put) (step put) x y h g
  where
    step : (put : Put) (a b : Tables) → AreStatesOf s.tables a.states → Inserts columns k cells put a b → AreStatesOf s.tables b.states
    step (Id id) a b p q =
        let is = state_is s.tables a.states k t p e in
        let room = has_room columns (state_at a.states k) (all_rows a.states) cells q.0 is.bounded in
        subst (λ (w : Tables). AreStatesOf s.tables w.states) (sym q.2) (with_one s.tables a.states k t (with_row cells (state_at a.states k)) p e (more t (state_at a.states k) cells fit room.0 is))
    step NoRow a b p q = absurd q
    step (Refused r) a b p q = subst (λ (w : Tables). AreStatesOf s.tables w.states) (sym q.1) p

pub sound_replaces : (s : Schema) (lost : Type 0) (columns : List Column) (k id : ℕ) (t : TableShape) (cells : List Data) (put : Put) → slice_get s.tables k ≡ Some t → AreCellsOf t.columns cells
    → (x y : Option Tables) → AreSound s x → MayFallSilent lost (Replaces columns k id cells put) x y → AreSound s y
sound_replaces s lost columns k id t cells put e fit x y h g = kept (λ (t : Tables). AreStatesOf s.tables t.states) lost (Replaces columns k id cells put) (step put) x y h g
  where
    step : (put : Put) (a b : Tables) → AreStatesOf s.tables a.states → Replaces columns k id cells put a b → AreStatesOf s.tables b.states
    step (Id n) a b p q = subst (λ (w : Tables). AreStatesOf s.tables w.states) (sym q.3) (with_one s.tables a.states k t (with_cells id cells (state_at a.states k)) p e (other t (state_at a.states k) id cells fit (state_is s.tables a.states k t p e)))
    step NoRow a b p q = subst (λ (w : Tables). AreStatesOf s.tables w.states) (sym q.1) p
    step (Refused r) a b p q = subst (λ (w : Tables). AreStatesOf s.tables w.states) (sym q.2) p

pub sound_removes : (s : Schema) (lost : Type 0) (k id : ℕ) (t : TableShape) (was : Bool) → slice_get s.tables k ≡ Some t
    → (x y : Option Tables) → AreSound s x → MayFallSilent lost (Removes k id was) x y → AreSound s y
sound_removes s lost k id t was e x y h g = kept (λ (t : Tables). AreStatesOf s.tables t.states) lost (Removes k id was) (step was) x y h g
  where
    step : (was : Bool) (a b : Tables) → AreStatesOf s.tables a.states → Removes k id was a b → AreStatesOf s.tables b.states
    step true a b p q = subst (λ (w : Tables). AreStatesOf s.tables w.states) (sym q.1) (with_one s.tables a.states k t (without_row id (state_at a.states k)) p e (less t (state_at a.states k) id (state_is s.tables a.states k t p e)))
    step false a b p q = subst (λ (w : Tables). AreStatesOf s.tables w.states) (sym q.1) p
