-- A cache stays right: over tables that were written, once it was told of them, on another day, and over an edited app.
use Rattle.std.proofs.Common.{◌≡◌, ◌⊎◌, ℕ, zero, suc, ◌/◌, false, List, [], ◌∷◌, Option, Some, None, refl, ap, sym, ◌∙◌, subst, inl, inr}
use Rattle.std.proofs.Math.Logic.{∥∥₁_map}
use Rattle.std.specs.Prelude.{slice_get}
use Rattle.app_cells.specs.declared.app.App.{App}
use Rattle.app_loader.specs.app_semantics.Sound.{IsSoundApp}
use Rattle.fx_base.specs.Silence.{MayFallSilent}
use Rattle.fx_base.specs.Telling.{Stays}
use Rattle.fx_types.specs.Types.{Shape}
use Rattle.fx_types.specs.Values.{Data}
use Rattle.fx_scalar.specs.ScalarFunctions.{IsToday}
use Rattle.fx_core.specs.Reads.{IsAmong}
use Rattle.fx_core.specs.SourceTypes.{sources}
use Rattle.fx_core.specs.declared.schema.TableShape.{TableShape}
use Rattle.fx_core.specs.declared.sources.Source.{Source}
use Rattle.fx_core.specs.declared.sources.Source.TheVariants as source
use Rattle.recalc.proofs.Agreeing.{changed}
use Rattle.recalc.proofs.Touching.{day_order, day_right, empty_right}
use Rattle.recalc.specs.Changes.{AreSameBut}
use Rattle.recalc.specs.Kept.{IsRight, CacheState}
use Rattle.recalc.specs.Outcomes.{IsRightOver}
use Rattle.recalc.specs.Asking.{IsHeardOf, ToldRows}
use Rattle.recalc.specs.app_cells.Reach.{is_cell}
use Rattle.recalc.specs.app_semantics.Present.{SourceGives, GivesTable, present}
use Rattle.row_keeper.specs.Tables.{TableState, Tables, rows_of_tables, rows_told, state_at}
use Rattle.row_queries.specs.TableRows.{rows_at, rows_table}
use Rattle.row_queries.specs.declared.rows.Row.{Row}
use Rattle.row_requests.specs.Written.{SameTablesExcept}
use Rattle.session_requests.specs.Caching.{IsCached}
use Rattle.session_state.specs.Sessions.{SessionState}
use Rattle.office.specs.Caches.{CacheTouched, IsNew, IsTurned, tables_in}

-- ---- what is heard of tables

-- it was heard before, where tables stay
heard_back : (lost : Type 0) (x y : Option Tables) (f : ToldRows) → MayFallSilent lost Stays x y → IsHeardOf y f → IsHeardOf x f
heard_back lost x y None k h = tt
heard_back lost None y (Some g) k h = subst (λ z. rows_told z ≡ Some g) k h
heard_back lost (Some a) None (Some g) k h = absurd cc
heard_back lost (Some a) (Some b) (Some g) k h = subst (λ z. rows_told (Some z) ≡ Some g) k h

rows_are : (ss : List TableState) (k : ℕ) → rows_at (rows_of_tables ss) k ≡ (state_at ss k).rows
rows_are [] k = refl
rows_are (s ∷ ss) zero = refl
rows_are (s ∷ ss) (suc k) = rows_are ss k

-- sources give the same over other rows, but for tables that were written
rows_but : (xs : List Source) (t u : Tables) → SameTablesExcept xs t u → (shape : Option TableShape) (k : ℕ) (v : Data) → (IsAmong (source.Table k) xs → ⊥) → GivesTable shape (Some (rows_of_tables t.states)) k v → GivesTable shape (Some (rows_of_tables u.states)) k v
rows_but xs t u but None k v far h = h
rows_but xs t u but (Some shape) k v far h =
    h ∙ ap (λ (rows : List Row). rows_table shape rows) (rows_are t.states k ∙ sym (ap (λ (s : TableState). s.rows) (but k far)) ∙ sym (rows_are u.states k))

same_but : (a : App) (s : SessionState) (m : ℕ) (xs : List Source) (t u : Tables) → SameTablesExcept xs t u → AreSameBut xs (present a s (Some (rows_of_tables t.states)) m) (present a s (Some (rows_of_tables u.states)) m)
same_but a s m xs t u but = record { told = λ rows told. (rows_of_tables t.states, refl); gives = by }
  where
    by : (x : Source) (y : Shape) (values : ℕ → Data) (v : Data) → sources a.names x ≡ Some y → (IsAmong x xs → ⊥) → is_cell x ≡ false → SourceGives (present a s (Some (rows_of_tables t.states)) m) values x v → SourceGives (present a s (Some (rows_of_tables u.states)) m) values x v
    by (source.Cell k) y values v typed far plain g = g
    by (source.Global k) y values v typed far plain g = g
    by (source.Context k) y values v typed far plain g = g
    by (source.Gathered k) y values v typed far plain g = g
    by (source.Input k) y values v typed far plain g = g
    by (source.Chosen k) y values v typed far plain g = g
    by (source.Table k) y values v typed far plain g = rows_but xs t u but (slice_get a.names.schema.tables k) k v far g
    by source.Today y values v typed far plain g = g

-- where no rows are told nothing is written
untold : (a : App) (s : SessionState) (m : ℕ) (xs : List Source) → AreSameBut xs (present a s None m) (present a s None m)
untold a s m xs = record { told = λ rows told. let no : None ≡ Some rows = told in absurd cc; gives = λ x y values v typed far plain g. g }

-- ---- tables that were written

among_tables : (k : ℕ) (xs : List Source) → IsAmong (source.Table k) xs → IsAmong (source.Table k) (tables_in xs)
among_tables k [] h = h
among_tables k (x ∷ xs) h = by x h (λ l. among_tables k xs l)
  where
    by : (y : Source) → (y ≡ source.Table k) ⊎ IsAmong (source.Table k) xs → (IsAmong (source.Table k) xs → IsAmong (source.Table k) (tables_in xs)) → IsAmong (source.Table k) (tables_in (y ∷ xs))
    by (source.Table j) (inl e) rest = inl e
    by (source.Table j) (inr l) rest = inr (rest l)
    by (source.Cell j) (inl e) rest = absurd cc
    by (source.Cell j) (inr l) rest = rest l
    by (source.Global j) (inl e) rest = absurd cc
    by (source.Global j) (inr l) rest = rest l
    by (source.Context j) (inl e) rest = absurd cc
    by (source.Context j) (inr l) rest = rest l
    by (source.Gathered j) (inl e) rest = absurd cc
    by (source.Gathered j) (inr l) rest = rest l
    by (source.Input j) (inl e) rest = absurd cc
    by (source.Input j) (inr l) rest = rest l
    by (source.Chosen j) (inl e) rest = absurd cc
    by (source.Chosen j) (inr l) rest = rest l
    by source.Today (inl e) rest = absurd cc
    by source.Today (inr l) rest = rest l

fewer_but : (xs : List Source) (t u : Tables) → SameTablesExcept xs t u → SameTablesExcept (tables_in xs) t u
fewer_but xs t u but k far = but k (λ l. far (among_tables k xs l))

-- what was right over the tables as they were is right over those that they are, where it is still to be told what was written
pending_over : (a : App) (s : SessionState) (m : ℕ) (lost : Type 0) (xs : List Source) (x y : Option Tables) (c : CacheState) → IsSoundApp a → MayFallSilent lost (SameTablesExcept xs) x y → IsRightOver a s x m c
    → (tables : ToldRows) → IsHeardOf y tables → IsRight (present a s tables m) (tables_in xs) c
pending_over a s m lost xs x y c sound goes right None heard =
    changed a s s None None m m [] (tables_in xs) c sound (λ z l. absurd l) (untold a s m (tables_in xs)) (right None tt)
pending_over a s m lost xs None y c sound goes right (Some rows) heard =
    let told : rows_told y ≡ Some rows = heard in
    let no : None ≡ Some rows = sym (ap rows_told goes) ∙ told in
    absurd cc
pending_over a s m lost xs (Some t) None c sound goes right (Some rows) heard = absurd cc
pending_over a s m lost xs (Some t) (Some u) c sound goes right (Some rows) heard =
    let is : rows_of_tables u.states ≡ rows = cc in
    subst (λ (r : List (List Row)). IsRight (present a s (Some r) m) (tables_in xs) c) is
    (changed a s s (Some (rows_of_tables t.states)) (Some (rows_of_tables u.states)) m m [] (tables_in xs) c sound (λ z l. absurd l) (same_but a s m (tables_in xs) t u (fewer_but xs t u goes)) (right (Some (rows_of_tables t.states)) refl))

-- a cache that was told which tables were written is right over them
pub told_cached : (a : App) (s : SessionState) (m : ℕ) (lost : Type 0) (xs : List Source) (x y : Option Tables) (c d : CacheState) → IsSoundApp a → MayFallSilent lost (SameTablesExcept xs) x y → CacheTouched a (tables_in xs) c d
    → IsCached a s x m c → IsCached a s y m d
told_cached a s m lost xs x y c d sound goes touched h = record {
  order = touched.order h.order;
  right = ∥∥₁_map h.right (λ right tables heard. touched.right s tables m (pending_over a s m lost xs x y c sound goes right tables heard));
  day = subst (IsToday m) (sym touched.day) h.day;
}

-- where tables stay all stays right
pub still_cached : (a : App) (s : SessionState) (m : ℕ) (lost : Type 0) (x y : Option Tables) (c : CacheState) → MayFallSilent lost Stays x y → IsCached a s x m c → IsCached a s y m c
still_cached a s m lost x y c goes h = record { order = h.order; right = ∥∥₁_map h.right (λ right tables heard. right tables (heard_back lost x y tables goes heard)); day = h.day }

-- ---- days

same_day : (a : App) (s : SessionState) (tables : ToldRows) (m n : ℕ) → m / 86400 ≡ n / 86400 → AreSameBut [] (present a s tables m) (present a s tables n)
same_day a s tables m n e = record { told = λ rows told. (rows, told); gives = by }
  where
    by : (x : Source) (y : Shape) (values : ℕ → Data) (v : Data) → sources a.names x ≡ Some y → (IsAmong x [] → ⊥) → is_cell x ≡ false → SourceGives (present a s tables m) values x v → SourceGives (present a s tables n) values x v
    by (source.Cell k) y values v typed far plain g = g
    by (source.Global k) y values v typed far plain g = g
    by (source.Context k) y values v typed far plain g = g
    by (source.Gathered k) y values v typed far plain g = g
    by (source.Input k) y values v typed far plain g = g
    by (source.Chosen k) y values v typed far plain g = g
    by (source.Table k) y values v typed far plain g = g
    by source.Today y values v typed far plain g = rw e at g

-- within a day nothing changes
pub day_cached : (a : App) (s : SessionState) (x : Option Tables) (m n : ℕ) (c : CacheState) → IsSoundApp a → m / 86400 ≡ n / 86400 → IsCached a s x m c → IsCached a s x n c
day_cached a s x m n c sound e h = record {
  order = h.order;
  right = ∥∥₁_map h.right (λ right tables heard. changed a s s tables tables m n [] [] c sound (λ z l. l) (same_day a s tables m n e) (right tables heard));
  day = let day : IsToday m c.values.day = h.day in rw e at day;
}

other_day : (a : App) (s : SessionState) (tables : ToldRows) (m n : ℕ) → AreSameBut (source.Today ∷ []) (present a s tables m) (present a s tables n)
other_day a s tables m n = record { told = λ rows told. (rows, told); gives = by }
  where
    by : (x : Source) (y : Shape) (values : ℕ → Data) (v : Data) → sources a.names x ≡ Some y → (IsAmong x (source.Today ∷ []) → ⊥) → is_cell x ≡ false → SourceGives (present a s tables m) values x v → SourceGives (present a s tables n) values x v
    by (source.Cell k) y values v typed far plain g = g
    by (source.Global k) y values v typed far plain g = g
    by (source.Context k) y values v typed far plain g = g
    by (source.Gathered k) y values v typed far plain g = g
    by (source.Input k) y values v typed far plain g = g
    by (source.Chosen k) y values v typed far plain g = g
    by (source.Table k) y values v typed far plain g = g
    by source.Today y values v typed far plain g = absurd (far (inl refl))

-- on another day a cache that was told of it is right
pub turned_cached : (a : App) (s : SessionState) (x : Option Tables) (m n : ℕ) (c d : CacheState) → IsSoundApp a → IsTurned n c d → IsCached a s x m c → IsCached a s x n d
turned_cached a s x m n c d sound turned h =
    subst (λ (k : CacheState). IsCached a s x n k) (sym turned.is) (record {
      order = day_order a turned.told turned.day ((turned.touched a).order h.order);
      right = ∥∥₁_map h.right (λ right tables heard.
          day_right (present a s tables n) [] turned.told turned.day
          ((turned.touched a).right s tables n [] (changed a s s tables tables m n [] (source.Today ∷ []) c sound (λ z l. absurd l) (other_day a s tables m n) (right tables heard))));
      day = turned.today;
    })

-- ---- new ones

-- a cache in which nothing is kept is that of any session
pub new_cached : (a : App) (s : SessionState) (x : Option Tables) (m : ℕ) (c : CacheState) → IsNew a m c → IsCached a s x m c
new_cached a s x m c new = record {
  order = new.order;
  right = ∣ (λ tables heard. empty_right (present a s tables m) [] c new.order new.empty.stamps) ∣₁;
  day = new.day;
}
