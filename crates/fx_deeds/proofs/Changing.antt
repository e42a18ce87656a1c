-- What one change leaves as it was.
use Rattle.std.proofs.Common.{◌≡◌, ℕ, zero, suc, List, [], ◌∷◌, Bool, true, false, set, refl, ap, sym, subst, inl}
use Rattle.std.specs.Prelude.{slice_get, slice_set}
use Rattle.fx_types.specs.Values.{Data}
use Rattle.fx_core.specs.declared.schema.Column.{Column}
use Rattle.fx_core.specs.declared.sources.Source.TheVariants as source
use Rattle.session_state.specs.declared.change.Change.{Change}
use Rattle.session_state.specs.declared.change.Change.TheVariants as change
use Rattle.row_keeper.specs.Tables.{TableState, Tables, with_state}
use Rattle.row_keeper.specs.declared.rows.Put.{Put}
use Rattle.row_keeper.specs.declared.rows.Put.TheVariants.{Id, NoRow, Refused}
use Rattle.fx_deeds.proofs.Passing.{within_nowhere}
use Rattle.fx_deeds.specs.Changed.{IsChanged, IsRowChanged, IsRowMade, IsRowRemoved, by_done, with_table, written}
use Rattle.fx_deeds.specs.State.{WorldState}
use Rattle.fx_deeds.specs.Within.{SameBut, Within}

get_set_other : {A : Type 0} (xs : List A) (k j : ℕ) (x : A) → (k ≡ j → ⊥) → slice_get (slice_set xs k x) j ≡ slice_get xs j
get_set_other [] k j x n = refl
get_set_other (y ∷ xs) zero zero x n = absurd (n refl)
get_set_other (y ∷ xs) zero (suc j) x n = refl
get_set_other (y ∷ xs) (suc k) zero x n = refl
get_set_other (y ∷ xs) (suc k) (suc j) x n = get_set_other xs k j x (λ e. n (ap suc e))

-- a change writes all that it changes
made_within : {A : Type 0} (c : Change) (s : WorldState A) → SameBut (written c) s (by_done true c s)
made_within (change.Global k x) s = record {
  app = refl;
  kept = refl;
  tables = λ j n. refl;
  variables = λ j n m. get_set_other s.session.variables k j _ (λ e. n (inl (ap source.Global e)));
  collections = λ j n. refl;
  inputs = λ j n. refl;
  chosen = λ j n. refl;
  accepted = refl;
  room = refl;
}
made_within (change.Context k x) s = record {
  app = refl;
  kept = refl;
  tables = λ j n. refl;
  variables = λ j n m. get_set_other s.session.variables k j _ (λ e. m (inl (ap source.Context e)));
  collections = λ j n. refl;
  inputs = λ j n. refl;
  chosen = λ j n. refl;
  accepted = refl;
  room = refl;
}
made_within (change.Gather k x) s = record {
  app = refl;
  kept = refl;
  tables = λ j n. refl;
  variables = λ j n m. refl;
  collections = λ j n. get_set_other s.session.collections k j _ (λ e. n (inl (ap source.Gathered e)));
  inputs = λ j n. refl;
  chosen = λ j n. refl;
  accepted = refl;
  room = refl;
}
made_within (change.Empty k) s = record {
  app = refl;
  kept = refl;
  tables = λ j n. refl;
  variables = λ j n m. refl;
  collections = λ j n. get_set_other s.session.collections k j _ (λ e. n (inl (ap source.Gathered e)));
  inputs = λ j n. refl;
  chosen = λ j n. refl;
  accepted = refl;
  room = refl;
}
made_within (change.Input k x) s = record {
  app = refl;
  kept = refl;
  tables = λ j n. refl;
  variables = λ j n m. refl;
  collections = λ j n. refl;
  inputs = λ j n. get_set_other s.session.inputs k j _ (λ e. n (inl (ap source.Input e)));
  chosen = λ j n. refl;
  accepted = refl;
  room = refl;
}
made_within (change.Choose k position id) s = record {
  app = refl;
  kept = refl;
  tables = λ j n. refl;
  variables = λ j n m. refl;
  collections = λ j n. refl;
  inputs = λ j n. refl;
  chosen = λ j n. get_set_other s.session.chosen k j _ (λ e. n (inl (ap source.Chosen e)));
  accepted = refl;
  room = refl;
}
made_within (change.Screen k) s = record {
  app = refl;
  kept = refl;
  tables = λ j n. refl;
  variables = λ j n m. refl;
  collections = λ j n. refl;
  inputs = λ j n. refl;
  chosen = λ j n. refl;
  accepted = refl;
  room = refl;
}
made_within (change.Notice w) s = record {
  app = refl;
  kept = refl;
  tables = λ j n. refl;
  variables = λ j n m. refl;
  collections = λ j n. refl;
  inputs = λ j n. refl;
  chosen = λ j n. refl;
  accepted = refl;
  room = refl;
}

pub changed_within : {A : Type 0} (c : Change) (done : Bool) (a b : WorldState A) → IsChanged c done a b → Within a b
changed_within c false a b h = subst (λ z. Within a z) (sym h.1) (within_nowhere a)
changed_within c true a b h = subst (λ z. Within a z) (sym h.1) (record { more = written c; wrote = refl; same = made_within c a })

-- ---- rows

state_other : (xs : List TableState) (k j : ℕ) (x : TableState) → (k ≡ j → ⊥) → slice_get (set xs k x) j ≡ slice_get xs j
state_other [] k j x n = refl
state_other (y ∷ xs) zero zero x n = absurd (n refl)
state_other (y ∷ xs) zero (suc j) x n = refl
state_other (y ∷ xs) (suc k) zero x n = refl
state_other (y ∷ xs) (suc k) (suc j) x n = state_other xs k j x (λ e. n (ap suc e))

table_within : {A : Type 0} (s : WorldState A) (k : ℕ) (x : TableState) (b : Tables) → b ≡ with_state s.tables k x → Within s (with_table k b s)
table_within s k x b e = subst (λ z. Within s (with_table k z s)) (sym e) (record {
  more = source.Table k ∷ [];
  wrote = refl;
  same = record {
    app = refl;
    kept = refl;
    tables = λ j n. state_other s.tables.states k j x (λ q. n (inl (ap source.Table q)));
    variables = λ j n m. refl;
    collections = λ j n. refl;
    inputs = λ j n. refl;
    chosen = λ j n. refl;
    accepted = refl;
    room = refl;
  };
})

pub row_made_within : {A : Type 0} (columns : List Column) (k : ℕ) (cells : List Data) (p : Put) (s t : WorldState A) → IsRowMade columns k cells p s t → Within s t
row_made_within columns k cells (Id n) s t h = subst (λ z. Within s z) (sym h.2) (table_within s k _ h.0 h.1.2)
row_made_within columns k cells (Refused r) s t h = subst (λ z. Within s z) (sym h.2) (within_nowhere s)
row_made_within columns k cells NoRow s t h = absurd h.1

pub row_changed_within : {A : Type 0} (columns : List Column) (k id : ℕ) (cells : List Data) (p : Put) (s t : WorldState A) → IsRowChanged columns k id cells p s t → Within s t
row_changed_within columns k id cells (Id n) s t h = subst (λ z. Within s z) (sym h.2) (table_within s k _ h.0 h.1.3)
row_changed_within columns k id cells (Refused r) s t h = subst (λ z. Within s z) (sym h.2) (within_nowhere s)
row_changed_within columns k id cells NoRow s t h = subst (λ z. Within s z) (sym h.2) (within_nowhere s)

pub row_removed_within : {A : Type 0} (k id : ℕ) (found : Bool) (s t : WorldState A) → IsRowRemoved k id found s t → Within s t
row_removed_within k id true s t h = subst (λ z. Within s z) (sym h.2) (table_within s k _ h.0 h.1.1)
row_removed_within k id false s t h = subst (λ z. Within s z) (sym h.2) (within_nowhere s)
