-- The records of rows, column by column.
use Rattle.std.proofs.Common.{◌≡◌, ◌≢◌, ℕ, zero, suc, ◌+◌, ◌<◌, ◌≤◌, List, [], ◌∷◌, map, drop, length, get_or, bytes_eq, Bool, true, false, Option, Some, None, refl, sym, ap, subst, ◌∙◌, arith, if◌then◌else◌}
use Rattle.std.specs.Prelude.{slice_get, unwrap_or}
use Rattle.std.specs.List.{AllByRecursion}
use Rattle.std.specs.Cmp.Lexicographic.{slice_cmp}
use Rattle.std.specs.Ordering.{is_lt, nat_cmp}
use Rattle.std.proofs.lemmas.Slice.Eq.{bytes_eq-Decides}
use Rattle.std.proofs.lemmas.List.Elements.{All-from_recursion}
use Rattle.std.proofs.Math.Seq.{drop-cons}
use Rattle.std.proofs.lemmas.List.{length-map}
use Rattle.fx_types.specs.Lookup.{item_named}
use Rattle.fx_types.specs.ValueView.{view}
use Rattle.fx_types.specs.Values.{Data, blank, row_list, tab}
use Rattle.fx_types.specs.declared.faults.Fault.{Fault}
use Rattle.fx_types.specs.declared.values.Value.{Value}
use Rattle.fx_value.specs.Columns.{LacksColumn, rows_with_column, with_field}
use Rattle.fx_value.specs.Columns.{Row as Fields}
use Rattle.fx_core.specs.declared.schema.Column.{Column}
use Rattle.fx_core.specs.declared.schema.TableShape.{TableShape}
use Rattle.fx_core.specs.Lawful.{AreDistinct, DiffersFromAll, IsLawfulTable, id_name}
use Rattle.row_queries.specs.declared.rows.Row.{Row}
use Rattle.row_queries.specs.Answers.{count_rows, rows_counted, table_or_fault}
use Rattle.row_queries.specs.TableRows.{AreCellsOf, IsRowOf, id_value, record_of_row, rows_table, cells_by_name}

-- a record has none of these columns
abbrev pub LacksAll : List Column → Fields → Type 0
LacksAll [] f = Unit {0}
LacksAll (c ∷ cs) f = (item_named c.name f ≡ None) × LacksAll cs f

-- a record that lacks these columns comes to that of the row, with the cells that are left
abbrev pub Comes : TableShape → Row → List Column → List Data → Fields → Type 0
Comes t r cs ds f = (cells_by_name cs ds f ≡ record_of_row t r) × LacksAll cs f × (length ds ≡ length cs)

-- so do the records of rows, from a place of the columns on
abbrev pub AllCome : TableShape → ℕ → List Row → List Fields → Type 0
AllCome t i [] [] = Unit {0}
AllCome t i (r ∷ rs) (f ∷ fs) = Comes t r (drop i t.columns) (drop i r.cells) f × AllCome t i rs fs
AllCome t i rs fs = ⊥

-- ---- a name that isn't there

other_name : (n m : List ℕ) → n ≢ m → bytes_eq m n ≡ false
other_name n m a = by (bytes_eq m n) refl
  where
    by : (b : Bool) → bytes_eq m n ≡ b → b ≡ false
    by true e = absurd (a (sym ((bytes_eq-Decides m n).0 e)))
    by false e = refl

lacks_with : (n m : List ℕ) (d : Data) (f : Fields) → n ≢ m → item_named n f ≡ None → item_named n (with_field m d f) ≡ None
lacks_with n m d [] a l = rw (other_name n m a) refl
lacks_with n m d (x ∷ f) a l = by (is_lt (slice_cmp nat_cmp m x.0)) (λ e. lacks_with n m d f a e)
  where
    behind : (b : Bool) → (item_named n f ≡ None → item_named n (with_field m d f) ≡ None) → (if b then Some x.1 else item_named n f) ≡ None → (if b then Some x.1 else item_named n (with_field m d f)) ≡ None
    behind true go e = absurd cc
    behind false go e = go e

    by : (b : Bool) → (item_named n f ≡ None → item_named n (with_field m d f) ≡ None) → item_named n (if b then (m, d) ∷ x ∷ f else x ∷ with_field m d f) ≡ None
    by true go = rw (other_name n m a) l
    by false go = behind (bytes_eq x.0 n) go l

all_lack_with : (m : List ℕ) (d : Data) (cs : List Column) (f : Fields) → DiffersFromAll m (map (λ (c : Column). c.name) cs) → LacksAll cs f → LacksAll cs (with_field m d f)
all_lack_with m d [] f a l = tt
all_lack_with m d (c ∷ cs) f a l = (lacks_with c.name m d f (λ e. a.0 (sym e)) l.0, all_lack_with m d cs f a.1 l.1)

all_lack_id : (n : ℕ) (cs : List Column) → DiffersFromAll id_name (map (λ (c : Column). c.name) cs) → LacksAll cs ((id_name, id_value n) ∷ [])
all_lack_id n [] a = tt
all_lack_id n (c ∷ cs) a = (rw (other_name c.name id_name (λ e. a.0 (sym e))) refl, all_lack_id n cs a.1)

-- ---- as they begin

cells_long : (cs : List Column) (ds : List Data) → AreCellsOf cs ds → length ds ≡ length cs
cells_long [] [] h = refl
cells_long (c ∷ cs) (d ∷ ds) h = ap suc (cells_long cs ds h.2)
cells_long [] (d ∷ ds) h = absurd h
cells_long (c ∷ cs) [] h = absurd h

pub begins : (t : TableShape) (rows : List Row) (fs : List Fields) → IsLawfulTable t → AllByRecursion (IsRowOf t) rows → fs ≡ map (λ (r : Row). (id_name, id_value r.id) ∷ []) rows → AllCome t 0 rows fs
begins t rows fs lawful fit e = subst (AllCome t 0 rows) (sym e) (go rows fit)
  where
    go : (rs : List Row) → AllByRecursion (IsRowOf t) rs → AllCome t 0 rs (map (λ (r : Row). (id_name, id_value r.id) ∷ []) rs)
    go [] h = tt
    go (r ∷ rs) h = ((refl, all_lack_id r.id t.columns lawful.2.0, cells_long t.columns r.cells h.0.1), go rs h.1)

-- ---- one column more

-- the cell and what is behind it
next_cell : (ds : List Data) (i : ℕ) (c : Column) (cs : List Column) → length (drop i ds) ≡ length (c ∷ cs) → drop i ds ≡ unwrap_or (slice_get ds i) blank ∷ drop (suc i) ds
next_cell [] zero c cs e = absurd cc
next_cell [] (suc i) c cs e = absurd cc
next_cell (d ∷ ds) zero c cs e = refl
next_cell (d ∷ ds) (suc i) c cs e = next_cell ds i c cs e

one_comes : (t : TableShape) (r : Row) (i : ℕ) (c : Column) (cs : List Column) (f : Fields) → AreDistinct (map (λ (x : Column). x.name) (c ∷ cs)) → Comes t r (c ∷ cs) (drop i r.cells) f →
    Comes t r cs (drop (suc i) r.cells) (with_field c.name (unwrap_or (slice_get r.cells i) blank) f)
one_comes t r i c cs f distinct h =
    let cell = unwrap_or (slice_get r.cells i) blank in
    let next = next_cell r.cells i c cs h.2 in
    let long : suc (length (drop (suc i) r.cells)) ≡ suc (length cs) = ap length (sym next) ∙ h.2 in (
      subst (λ (ds : List Data). cells_by_name (c ∷ cs) ds f ≡ record_of_row t r) next h.0,
      all_lack_with c.name cell cs f distinct.0 h.1.1,
      omega (arith, long),
    )

distinct_at : (cs : List Column) (i : ℕ) → AreDistinct (map (λ (x : Column). x.name) cs) → AreDistinct (map (λ (x : Column). x.name) (drop i cs))
distinct_at cs zero h = h
distinct_at [] (suc i) h = tt
distinct_at (c ∷ cs) (suc i) h = distinct_at cs i h.1

all_step : (t : TableShape) (i : ℕ) (c : Column) (rows : List Row) (fs : List Fields) → drop i t.columns ≡ c ∷ drop (suc i) t.columns → AreDistinct (map (λ (x : Column). x.name) t.columns) → AllCome t i rows fs →
    AllCome t (suc i) rows (rows_with_column c.name fs (map (λ (r : Row). unwrap_or (slice_get r.cells i) blank) rows))
all_step t i c [] [] e distinct h = tt
all_step t i c (r ∷ rs) (f ∷ fs) e distinct h =
    let here = subst (λ (cs : List Column). AreDistinct (map (λ (x : Column). x.name) cs)) e (distinct_at t.columns i distinct) in
    let own = subst (λ (cs : List Column). Comes t r cs (drop i r.cells) f) e h.0 in
    (one_comes t r i c (drop (suc i) t.columns) f here own, all_step t i c rs fs e distinct h.1)
all_step t i c [] (f ∷ fs) e distinct h = absurd h
all_step t i c (r ∷ rs) [] e distinct h = absurd h

column_at : (t : TableShape) (i : ℕ) (c : Column) → i < length t.columns → c ≡ get_or t.columns i c → drop i t.columns ≡ c ∷ drop (suc i) t.columns
column_at t i c l e = drop-cons t.columns i c l ∙ ap (λ x. x ∷ drop (suc i) t.columns) (sym e)

column_step : (t : TableShape) (i : ℕ) (c : Column) (rows : List Row) (fs gs : List Fields) (ds : List Data) → IsLawfulTable t → i < length t.columns → c ≡ get_or t.columns i c → AllCome t i rows fs →
    ds ≡ map (λ (r : Row). unwrap_or (slice_get r.cells i) blank) rows → gs ≡ rows_with_column c.name fs ds → AllCome t (i + 1) rows gs
column_step t i c rows fs gs ds lawful l e h d g =
    let more : suc i ≡ i + 1 = omega arith in
    subst (λ (k : ℕ). AllCome t k rows gs) more
    (subst (AllCome t (suc i) rows) (sym (g ∙ ap (rows_with_column c.name fs) d)) (all_step t i c rows fs (column_at t i c l e) lawful.2.1 h))

-- the column isn't there yet
lacks_here : (t : TableShape) (i : ℕ) (c : Column) (rows : List Row) (fs : List Fields) → drop i t.columns ≡ c ∷ drop (suc i) t.columns → AllCome t i rows fs → AllByRecursion (λ (f : Fields). item_named c.name f ≡ None) fs
lacks_here t i c [] [] e h = tt
lacks_here t i c (r ∷ rs) (f ∷ fs) e h =
    ((subst (λ (cs : List Column). LacksAll cs f) e h.0.1).0, lacks_here t i c rs fs e h.1)
lacks_here t i c [] (f ∷ fs) e h = absurd h
lacks_here t i c (r ∷ rs) [] e h = absurd h

lacks_column : (t : TableShape) (i : ℕ) (c : Column) (rows : List Row) (fs : List Fields) → i < length t.columns → c ≡ get_or t.columns i c → AllCome t i rows fs → LacksColumn c.name fs
lacks_column t i c rows fs l e h = All-from_recursion (λ (f : Fields). item_named c.name f ≡ None) fs (lacks_here t i c rows fs (column_at t i c l e) h)

as_many : (t : TableShape) (i : ℕ) (rows : List Row) (fs : List Fields) → AllCome t i rows fs → length fs ≡ length rows
as_many t i [] [] h = refl
as_many t i (r ∷ rs) (f ∷ fs) h = ap suc (as_many t i rs fs h.1)
as_many t i [] (f ∷ fs) h = absurd h
as_many t i (r ∷ rs) [] h = absurd h

-- ---- as they end

dropped_all : {A : Type 0} (xs : List A) (i : ℕ) → length xs ≤ i → drop i xs ≡ []
dropped_all [] zero h = refl
dropped_all [] (suc i) h = refl
dropped_all (x ∷ xs) zero h = absurd (omega (arith, h))
dropped_all (x ∷ xs) (suc i) h = dropped_all xs i (omega (arith, h))

ends : (t : TableShape) (i : ℕ) (rows : List Row) (fs : List Fields) → length t.columns ≤ i → AllCome t i rows fs → fs ≡ map (record_of_row t) rows
ends t i [] [] e h = refl
ends t i (r ∷ rs) (f ∷ fs) e h =
    let own = subst (λ (cs : List Column). Comes t r cs (drop i r.cells) f) (dropped_all t.columns i e) h.0 in
    ap (λ x. x ∷ fs) own.0 ∙ ap (λ xs. record_of_row t r ∷ xs) (ends t i rs fs e h.1)
ends t i [] (f ∷ fs) e h = absurd h
ends t i (r ∷ rs) [] e h = absurd h

-- ---- the same of the columns as they are walked

pub lacks_at : (t : TableShape) (cs : List Column) → cs ≡ t.columns → (i : ℕ) (c : Column) (n : List ℕ) → n ≡ c.name → (rows : List Row) (fs : List Fields) → i < length cs → c ≡ get_or cs i c → AllCome t i rows fs → LacksColumn n fs
lacks_at t cs own i c n named rows fs l e h =
    subst (λ m. LacksColumn m fs) (sym named)
    (lacks_column t i c rows fs (subst (λ (xs : List Column). i < length xs) own l) (e ∙ ap (λ (xs : List Column). get_or xs i c) own) h)

pub step_at : (t : TableShape) (cs : List Column) → cs ≡ t.columns → (i : ℕ) (c : Column) (n : List ℕ) → n ≡ c.name → (rows : List Row) (fs gs : List Fields) (ds : List Data) → IsLawfulTable t → i < length cs → c ≡ get_or cs i c → AllCome t i rows fs →
    ds ≡ map (λ (r : Row). unwrap_or (slice_get r.cells i) blank) rows → gs ≡ rows_with_column n fs ds → AllCome t (i + 1) rows gs
step_at t cs own i c n named rows fs gs ds lawful l e h d g =
    column_step t i c rows fs gs ds lawful (subst (λ (xs : List Column). i < length xs) own l) (e ∙ ap (λ (xs : List Column). get_or xs i c) own) h d (g ∙ ap (λ m. rows_with_column m fs ds) named)

pub long_at : (t : TableShape) (i : ℕ) (rows : List Row) (fs : List Fields) (cells : List Value) → map view cells ≡ map (λ (r : Row). unwrap_or (slice_get r.cells i) blank) rows → AllCome t i rows fs → length cells ≡ length fs
long_at t i rows fs cells e h =
    sym (length-map cells view) ∙ ap (λ (ds : List Data). length ds) e ∙ length-map rows (λ (r : Row). unwrap_or (slice_get r.cells i) blank) ∙ sym (as_many t i rows fs h)

pub ends_at : (t : TableShape) (cs : List Column) → cs ≡ t.columns → (i : ℕ) (rows : List Row) (fs : List Fields) → length cs ≤ i → AllCome t i rows fs → tab (row_list fs) ≡ rows_table t rows
ends_at t cs own i rows fs e h = ap (λ xs. tab (row_list xs)) (ends t i rows fs (subst (λ (xs : List Column). length xs ≤ i) own e) h)

-- ---- how many rows there are

many : (rows : List Fields) → count_rows (row_list rows) ≡ length rows
many [] = refl
many (f ∷ fs) = ap suc (many fs)

few : (t : TableShape) (rows : List Row) (f : Option Fault) → rows_counted (table_or_fault t rows f) ≤ length rows
few t rows None = let e = many (map (record_of_row t) rows) in let l = length-map rows (record_of_row t) in omega (arith, e, l)
few t rows (Some f) = omega arith

pub no_more : (t : TableShape) (rows : List Row) (f : Option Fault) (v : Data) → v ≡ table_or_fault t rows f → rows_counted v ≤ length rows
no_more t rows f v e = subst (λ (d : Data). rows_counted d ≤ length rows) (sym e) (few t rows f)
