-- Rows of tables, by calls of a world.
use Rattle.std.proofs.Common.{◌≡◌, ℕ, zero, suc, ◌==◌, arith, List, [], ◌∷◌, Bool, true, false, cond, map, Option, Some, None, Result, Ok, Err, refl, ap, sym, subst, ◌∙◌}
use Rattle.std.specs.Prelude.{IfOk, IfSome, IsSomeAnd, MatchOption, MatchResult, option_map, slice_get}
use Rattle.std.specs.List.{AllByRecursion, find}
use Rattle.std.proofs.lemmas.List.Elements.{recursion_from_All}
use Rattle.fx_base.proofs.Silences.{goes_two, goes_weaker}
use Rattle.fx_base.specs.Silence.{MayFallSilent, IsLater, SilenceCause, Marks}
use Rattle.fx_types.specs.declared.faults.Fault.{Fault}
use Rattle.fx_types.specs.declared.values.Value.{Value}
use Rattle.fx_types.specs.declared.values.Value.TheVariants as value
use Rattle.fx_types.specs.Values.{Data, blank}
use Rattle.fx_types.specs.ValueView.{view}
use Rattle.fx_semantics.proofs.RowsBack.{rows_back}
use Rattle.fx_env.specs.Telling.{EnvState, tables_told}
use Rattle.fx_semantics.specs.Around.{record_of}
use Rattle.fx_semantics.specs.Rows.{rows_in}
use Rattle.fx_tables.specs.Unions.{is_fault}
use Rattle.fx_core.specs.declared.schema.Column.{Column}
use Rattle.fx_core.specs.declared.schema.Schema.{Schema}
use Rattle.fx_core.specs.declared.schema.TableShape.{TableShape}
use Rattle.fx_core.specs.Lawful.{IsLawfulSchema, IsLawfulTable}
use Rattle.fx_value.specs.Columns.{Row}
use Rattle.row_keeper.specs.Changes.{IsInserted, IsReplaced}
use Rattle.row_keeper.specs.Tables.{columns_at, columns_in, has_id, rows_of_tables}
use Rattle.row_keeper.specs.declared.rows.Put.{Put}
use Rattle.row_keeper.specs.declared.rows.Put.TheVariants.{Id, NoRow, Refused}
use Rattle.row_queries.specs.Answers.{IsScanValue}
use Rattle.row_queries.specs.Laws.{AskedOnce}
use Rattle.row_queries.specs.TableRows.{AreCellsOf, IsHeldRow, IsRowOf, rows_at, rows_table}
use Rattle.row_queries.specs.TableRows.{record_of_row as kept_record}
use Rattle.row_queries.specs.declared.rows.Row.{Row as KeptRow}
use Rattle.row_keeper.specs.Numbered.{one_row}
use Rattle.fx_deeds.proofs.Cells.{cells_back}
use Rattle.fx_deeds.proofs.Deeding.{by_none}
use Rattle.fx_deeds.proofs.Finding.{found_in}
use Rattle.row_keeper.proofs.NumberedRows.{one, rows_are}
use Rattle.fx_deeds.proofs.Patching.{by_number, patched_row}
use Rattle.fx_deeds.specs.Changed.{IsRowChanged, IsRowMade}
use Rattle.fx_deeds.specs.Deeds.{AnswersOnly, IsPatched, MakesRow, OfTable, PatchesBase, PatchesById, PatchesRow, row_id_value, named_id, row_numbered}
use Rattle.fx_deeds.specs.Finding.{FindsCells, IsPutEnd, IsPutOf, IsRowAt, IsRowPatched, IsShape, IsUpdatedRow, first_cells}
use Rattle.fx_deeds.specs.RowValues.{blank_cells, changed_cells, not_found, put_answer, rows_among, values_among}
use Rattle.fx_deeds.specs.State.{WorldState}

-- ---- the shapes of tables

lawful_at : (ts : List TableShape) (k : ℕ) (t : TableShape) → AllByRecursion IsLawfulTable ts → slice_get ts k ≡ Some t → IsLawfulTable t
lawful_at [] k t h e = absurd cc
lawful_at (u ∷ ts) zero t h e = let same : u ≡ t = cc in subst IsLawfulTable same h.0
lawful_at (u ∷ ts) (suc k) t h e = lawful_at ts k t h.1 e

pub shape_there : (s : Schema) (k : ℕ) (t q : TableShape) → IsLawfulSchema s → slice_get s.tables k ≡ Some t → q ≡ t → IsShape s k q
shape_there s k t q l e f =
    let there : slice_get s.tables k ≡ Some q = e ∙ ap Some (sym f) in
    (there, lawful_at s.tables k q (recursion_from_All IsLawfulTable s.tables l.2) there)

pub of_shape : (s : Schema) (k : ℕ) (t : TableShape) (P : TableShape → Type 0) → IsShape s k t → OfTable s k P → P t
of_shape s k t P h j = by (subst (λ o. IsSomeAnd o P) h.0 j)
  where
    by : IsSomeAnd (Some t) P → P t
    by p = p

pub to_table : (s : Schema) (k : ℕ) (t : TableShape) (P : TableShape → Type 0) → IsShape s k t → P t → OfTable s k P
to_table s k t P h j = subst (λ o. IsSomeAnd o P) (sym h.0) j

pub columns_there : (s : Schema) (k : ℕ) (t : TableShape) → IsShape s k t → columns_at s.tables k ≡ t.columns
columns_there s k t h = ap columns_in h.0

-- ---- the cells of the row of a number

-- the cells of the row of a number, if there is one, in rows that the table can hold, which are the told ones where rows
-- are told
pub record AreFound (p : TableShape) (told : Option (List (List KeptRow))) (table id : ℕ) (o : Option (List Data)) : Type 0 where
  pub rows : List KeptRow
  pub told_rows : IfSome told (λ tables. rows ≡ rows_at tables table)
  pub found : o ≡ option_map (λ (r : KeptRow). r.cells) (find (has_id id) rows)
  pub fit : IfSome o (IsRowAt p id)

held_rows : (p : TableShape) (rows : List KeptRow) → AllByRecursion (IsHeldRow p) rows → AllByRecursion (IsRowOf p) rows
held_rows p [] h = tt
held_rows p (r ∷ rows) h = (h.0.0, held_rows p rows h.1)

same_id : (a b : ℕ) → (a == b) ≡ true → a ≡ b
same_id a b e = grind (arith, e)

-- the row that is found fits, under this number
found_fits : (p : TableShape) (id : ℕ) (rows : List KeptRow) → AllByRecursion (IsRowOf p) rows → IfSome (option_map (λ (r : KeptRow). r.cells) (find (has_id id) rows)) (IsRowAt p id)
found_fits p id [] h = tt
found_fits p id (r ∷ rows) h = by (r.id == id) refl (found_fits p id rows h.1)
  where
    by : (b : Bool) → (r.id == id) ≡ b → IfSome (option_map (λ (r : KeptRow). r.cells) (find (has_id id) rows)) (IsRowAt p id) →
        IfSome (option_map (λ (r : KeptRow). r.cells) (cond b (Some r) (find (has_id id) rows))) (IsRowAt p id)
    by true e k = subst (λ n. IsRowAt p n r.cells) (same_id r.id id e) h.0
    by false e k = k

-- the cells of the record of a row that fits
first_back : (p : TableShape) (id : ℕ) (rows : List KeptRow) → IsLawfulTable p → AllByRecursion (IsRowOf p) rows →
    first_cells p.columns (map (kept_record p) (one (find (has_id id) rows))) ≡ option_map (λ (r : KeptRow). r.cells) (find (has_id id) rows)
first_back p id [] l h = refl
first_back p id (r ∷ rows) l h = by (has_id id r) (first_back p id rows l h.1)
  where
    by : (b : Bool) → first_cells p.columns (map (kept_record p) (one (find (has_id id) rows))) ≡ option_map (λ (r : KeptRow). r.cells) (find (has_id id) rows) →
        first_cells p.columns (map (kept_record p) (one (cond b (Some r) (find (has_id id) rows)))) ≡ option_map (λ (r : KeptRow). r.cells) (cond b (Some r) (find (has_id id) rows))
    by true k = ap Some (cells_back p r l h.0)
    by false k = k

pub cells_found : AskedOnce → (s : Schema) (told : Option (List (List KeptRow))) (table id : ℕ) (p : TableShape) (d : Data) (o : Option (List Data)) → IsShape s table p →
    IsScanValue s.tables told (one_row table id) d → o ≡ first_cells p.columns (rows_in d) → AreFound p told table id o
cells_found law s told table id p d o shape v e =
    let f = found_in law s.tables told table id d v in
    let same_shape : Some f.shape ≡ Some p = sym f.asked.is_table ∙ shape.0 in
    let same : f.shape ≡ p = cc in
    let rows = f.rows in
    let fit = held_rows p rows (recursion_from_All (IsHeldRow p) rows (subst (λ t. Rattle.std.specs.List.All (IsHeldRow t) rows) same f.asked.held.1)) in
    let is : d ≡ rows_table p (one (find (has_id id) rows)) = f.found ∙ ap (λ t. rows_table t (one (find (has_id id) rows))) same in
    let cells : o ≡ option_map (λ (r : KeptRow). r.cells) (find (has_id id) rows) =
    e ∙ ap (λ z. first_cells p.columns (rows_in z)) is ∙ ap (first_cells p.columns) (sym (rows_back (map (kept_record p) (one (find (has_id id) rows))))) ∙ first_back p id rows shape.1 fit in
    record {
      rows = rows;
      told_rows = f.asked.told_rows;
      found = cells;
      fit = subst (λ z. IfSome z (IsRowAt p id)) (sym cells) (found_fits p id rows fit);
    }

-- they are those of the state that is told
pub found_there : {A B : Type 0} (state : Option (WorldState A)) (told : Option (EnvState B)) (p : TableShape) (table id : ℕ) (o : Option (List Data)) → (told ≡ None → state ≡ None) →
    ((s : WorldState A) (e : EnvState B) → state ≡ Some s → told ≡ Some e → e.tables ≡ rows_of_tables s.tables.states) → AreFound p (tables_told told) table id o →
    (s : WorldState A) → state ≡ Some s → o ≡ option_map (λ (r : KeptRow). r.cells) (row_numbered table id s)
found_there state None p table id o lost law f s e = let wrong : Some s ≡ None = sym e ∙ lost refl in absurd cc
found_there state (Some t) p table id o lost law f s e =
    f.found ∙ ap (λ rows. option_map (λ (r : KeptRow). r.cells) (find (has_id id) rows)) (f.told_rows ∙ ap (λ ts. rows_at ts table) (law s t e refl) ∙ rows_are s.tables.states table)

-- ---- rows that are made

pub cells_there : (s : Schema) (k : ℕ) (p : TableShape) (ds : List Data) → IsShape s k p → AreCellsOf p.columns ds → IsSomeAnd (slice_get s.tables k) (λ (t : TableShape). AreCellsOf t.columns ds)
cells_there s k p ds h f = to_table s k p (λ t. AreCellsOf t.columns ds) h f

pub made_fits : (p : TableShape) (columns : List Column) (cells : List Data) (put : Put) → IsInserted columns put → AreCellsOf p.columns cells → IsPutOf p cells put
made_fits p columns cells (Id n) h f = (h, f)
made_fits p columns cells NoRow h f = tt
made_fits p columns cells (Refused r) h f = tt

pub changed_fits : (p : TableShape) (columns : List Column) (id : ℕ) (old cells : List Data) (put : Put) → IsReplaced columns id put → IsRowAt p id old → AreCellsOf p.columns cells → IsPutOf p cells put
changed_fits p columns id old cells (Id n) h r f = subst (λ z. IsRowAt p z cells) (sym h) (r.0, f)
changed_fits p columns id old cells NoRow h r f = tt
changed_fits p columns id old cells (Refused r) h q f = tt

pub makes_row : {A : Type 0} (lost : Type 0) (x y : Option (WorldState A)) (p : TableShape) (columns : List Column) (k : ℕ) (cells : List Data) (put : Put) (d : Data) → columns ≡ p.columns → d ≡ put_answer p cells put →
    MayFallSilent lost (IsRowMade columns k cells put) x y → MayFallSilent lost (λ s t. MakesRow p k cells s d t) x y
makes_row lost x y p columns k cells put d c e h =
    goes_weaker lost (IsRowMade columns k cells put) (λ s t. MakesRow p k cells s d t) (λ s t j. (put, subst (λ z. IsRowMade z k cells put s t) c j, e)) x y h

-- ---- rows that are changed

pub none_of : {X : Type 0} (o : Option X) → ((x : X) → o ≡ Some x → ⊥) → o ≡ None
none_of None f = refl
none_of (Some x) f = absurd (f x refl)

pub found_fits_at : (p : TableShape) (id : ℕ) (o : Option (List Data)) (found : List Data) → o ≡ Some found → IfSome o (IsRowAt p id) → IsRowAt p id found
found_fits_at p id o found e h = by (subst (λ z. IfSome z (IsRowAt p id)) e h)
  where
    by : IfSome (Some found) (IsRowAt p id) → IsRowAt p id found
    by k = k

pub misses_row : {A : Type 0} (lost : Type 0) (x y : Option (WorldState A)) (p : TableShape) (k id : ℕ) (changes : List Row) (o : Option (List Data)) (cells : List Data) (put : Put) → o ≡ None → put ≡ NoRow →
    MayFallSilent lost (FindsCells k id o) x y → MayFallSilent lost (IsRowPatched p k changes id cells put) x y
misses_row {A} lost x y p k id changes o cells put e f h = goes_weaker lost (FindsCells k id o) (IsRowPatched p k changes id cells put) (λ s t j. by s t (row_numbered k id s) j.0 (sym e ∙ j.1)) x y h
  where
    by : (s t : WorldState A) (w : Option KeptRow) → t ≡ s → None ≡ option_map (λ (r : KeptRow). r.cells) w →
        MatchOption w ((put ≡ NoRow) × (t ≡ s)) (λ (r : KeptRow). (cells ≡ changed_cells p.columns changes r.cells) × IsRowChanged p.columns k id cells put s t)
    by s t None a b = (f, a)
    by s t (Some r) a b = absurd cc

pub changes_row : {A : Type 0} (k l m : Marks) (x y z : Option (WorldState A)) (p : TableShape) (columns : List Column) (n id : ℕ) (changes : List Row) (o : Option (List Data)) (found cells : List Data) (put : Put) → IsLater k l → IsLater l m →
    columns ≡ p.columns → o ≡ Some found → cells ≡ changed_cells p.columns changes found → MayFallSilent (SilenceCause k l) (FindsCells n id o) x y → MayFallSilent (SilenceCause l m) (IsRowChanged columns n id cells put) y z →
    MayFallSilent (SilenceCause k m) (IsRowPatched p n changes id cells put) x z
changes_row {A} k l m x y z p columns n id changes o found cells put a b c e f =
    goes_two (FindsCells n id o) (IsRowChanged columns n id cells put) (IsRowPatched p n changes id cells put)
    (λ s u t h j. by s t (row_numbered n id s) (sym e ∙ h.1) (subst (λ w. IsRowChanged columns n id cells put w t) h.0 j)) k l m a b x y z
  where
    by : (s t : WorldState A) (w : Option KeptRow) → Some found ≡ option_map (λ (r : KeptRow). r.cells) w → IsRowChanged columns n id cells put s t →
        MatchOption w ((put ≡ NoRow) × (t ≡ s)) (λ (r : KeptRow). (cells ≡ changed_cells p.columns changes r.cells) × IsRowChanged p.columns n id cells put s t)
    by s t None g j = absurd cc
    by s t (Some r) g j = let same : found ≡ r.cells = cc in (f ∙ ap (changed_cells p.columns changes) same, subst (λ w. IsRowChanged w n id cells put s t) c j)

pub patches_row : {A : Type 0} (lost : Type 0) (x y : Option (WorldState A)) (p : TableShape) (k id : ℕ) (changes : List Row) (cells : List Data) (put : Put) (d : Data) → d ≡ put_answer p cells put →
    MayFallSilent lost (IsRowPatched p k changes id cells put) x y → MayFallSilent lost (λ s t. PatchesRow p k changes id s d t) x y
patches_row lost x y p k id changes cells put d e h =
    goes_weaker lost (IsRowPatched p k changes id cells put) (λ s t. PatchesRow p k changes id s d t) (λ s t j. patched_row p k changes id cells put s t d e j) x y h

-- ---- `Patch`, by the number of its base

blank_is : (v : Value) → view v ≡ blank → v ≡ value.Blank
blank_is value.Blank e = refl
blank_is (value.Number n) e = absurd cc
blank_is (value.Text w) e = absurd cc
blank_is (value.Boolean b) e = absurd cc
blank_is (value.Date d) e = absurd cc
blank_is (value.Rec f) e = absurd cc
blank_is (value.Tab r) e = absurd cc
blank_is (value.Fault f) e = absurd cc

pub not_blank : (v : Value) (d : Data) → (v ≡ value.Blank → ⊥) → view v ≡ d → d ≡ blank → ⊥
not_blank v d n e b = n (blank_is v (e ∙ b))

pub numbers_none : {A E : Type 0} (r : Result Value E) (lost : Type 0) (x y : Option (WorldState A)) (p : TableShape) (k : ℕ) (changes : List Row) (d : Data) → d ≡ blank →
    IfOk r (λ w. MayFallSilent lost (λ s t. MakesRow p k (changed_cells p.columns changes (blank_cells p.columns)) s (view w) t) x y) → IfOk r (λ w. MayFallSilent lost (λ s t. PatchesById p k changes d s (view w) t) x y)
numbers_none (Ok w) lost x y p k changes d e h =
    goes_weaker lost (λ s t. MakesRow p k (changed_cells p.columns changes (blank_cells p.columns)) s (view w) t) (λ s t. PatchesById p k changes d s (view w) t)
    (λ s t j. subst (λ z. PatchesById p k changes z s (view w) t) (sym e) j) x y h
numbers_none (Err e) lost x y p k changes d g h = tt

pub numbers_one : {A E : Type 0} (r : Result Value E) (lost : Type 0) (x y : Option (WorldState A)) (p : TableShape) (k id : ℕ) (changes : List Row) (d : Data) → (d ≡ blank → ⊥) → named_id d ≡ Ok id →
    IfOk r (λ w. MayFallSilent lost (λ s t. PatchesRow p k changes id s (view w) t) x y) → IfOk r (λ w. MayFallSilent lost (λ s t. PatchesById p k changes d s (view w) t) x y)
numbers_one (Ok w) lost x y p k id changes d n g h =
    goes_weaker lost (λ s t. PatchesRow p k changes id s (view w) t) (λ s t. PatchesById p k changes d s (view w) t)
    (λ s t j. by_number p k changes d s (view w) t n (subst (λ o. MatchResult o (λ m. PatchesRow p k changes m s (view w) t) (λ q. AnswersOnly q s (view w) t)) (sym g) j)) x y h
numbers_one (Err e) lost x y p k id changes d n g h = tt

pub numbers_wrong : {A : Type 0} (p : TableShape) (k : ℕ) (changes : List Row) (e : Value) (d : Data) (s : WorldState A) → (d ≡ blank → ⊥) → named_id d ≡ Err (view e) → PatchesById p k changes d s (view e) s
numbers_wrong p k changes e d s n g = by_number p k changes d s (view e) s n (subst (λ o. MatchResult o (λ m. PatchesRow p k changes m s (view e) s) (λ q. AnswersOnly q s (view e) s)) (sym g) (refl, refl))

-- a base that is a record
pub base_there : {A E : Type 0} (r : Result Value E) (lost : Type 0) (x y : Option (WorldState A)) (p : TableShape) (k : ℕ) (changes : List Row) (b : Value) (fs : Row) → b ≡ value.Rec fs →
    IfOk r (λ w. MayFallSilent lost (λ s t. PatchesById p k changes (row_id_value (view b)) s (view w) t) x y) → IfOk r (λ w. MayFallSilent lost (λ s t. PatchesBase p k changes (view b) s (view w) t) x y)
base_there r lost x y p k changes b fs e h =
    subst (λ z. IfOk r (λ w. MayFallSilent lost (λ s t. PatchesById p k changes (row_id_value (view z)) s (view w) t) x y) → IfOk r (λ w. MayFallSilent lost (λ s t. PatchesBase p k changes (view z) s (view w) t) x y)) (sym e) (λ j. j) h

-- a base that is no record isn't found
pub no_base : {A : Type 0} (p : TableShape) (k : ℕ) (changes : List Row) (b : Value) (x : Data) (s : WorldState A) → ((fs : Row) → b ≡ value.Rec fs → ⊥) → x ≡ not_found → PatchesBase p k changes (view b) s x s
no_base p k changes value.Blank x s n e = (e, refl)
no_base p k changes (value.Number z) x s n e = (e, refl)
no_base p k changes (value.Text w) x s n e = (e, refl)
no_base p k changes (value.Boolean b) x s n e = (e, refl)
no_base p k changes (value.Date d) x s n e = (e, refl)
no_base p k changes (value.Tab r) x s n e = (e, refl)
no_base p k changes (value.Fault f) x s n e = (e, refl)
no_base p k changes (value.Rec fs) x s n e = absurd (n fs refl)

-- ---- `Patch`, whole

pub not_fault : (v : Value) → ((f : Fault) → v ≡ value.Fault f → ⊥) → is_fault (view v) ≡ false
not_fault value.Blank n = refl
not_fault (value.Number z) n = refl
not_fault (value.Text w) n = refl
not_fault (value.Boolean b) n = refl
not_fault (value.Date d) n = refl
not_fault (value.Rec fs) n = refl
not_fault (value.Tab r) n = refl
not_fault (value.Fault f) n = absurd (n f refl)

pub fault_found : (d : Data) (ds : List Data) (v : Value) (f : Fault) → v ≡ value.Fault f → view v ≡ d → Some (view (value.Fault f)) ≡ find is_fault (d ∷ ds)
fault_found d ds v f e h = subst (λ z. Some (view (value.Fault f)) ≡ find is_fault (z ∷ ds)) (sym (ap view e) ∙ h) refl

pub rest_none : (d : Data) (ds : List Data) → find is_fault (d ∷ ds) ≡ None → find is_fault ds ≡ None
rest_none d ds h = by (is_fault d) h
  where
    by : (b : Bool) → cond b (Some d) (find is_fault ds) ≡ None → find is_fault ds ≡ None
    by true e = absurd cc
    by false e = e

pub rest_faults : (d : Data) (ds : List Data) (v : Value) → is_fault (view v) ≡ false → view v ≡ d → find is_fault (d ∷ ds) ≡ find is_fault ds
rest_faults d ds v n h = ap (λ b. cond b (Some d) (find is_fault ds)) (sym (ap is_fault h) ∙ n)

-- without errors the base is patched
pub patched_table : {A E : Type 0} (r : Result Value E) (lost : Type 0) (x y : Option (WorldState A)) (schema : Schema) (k : ℕ) (p : TableShape) (b : Data) (ys : List Data) (rows : List Row) → IsShape schema k p → rows ≡ rows_among ys →
    find is_fault (row_id_value b ∷ values_among (rows_among ys)) ≡ None → IfOk r (λ v. MayFallSilent lost (λ s t. PatchesBase p k rows b s (view v) t) x y) → IfOk r (λ v. MayFallSilent lost (λ s t. IsPatched schema k b ys s (view v) t) x y)
patched_table (Ok v) lost x y schema k p b ys rows shape e none h =
    goes_weaker lost (λ s t. PatchesBase p k rows b s (view v) t) (λ s t. IsPatched schema k b ys s (view v) t)
    (λ s t j. by_none (row_id_value b ∷ values_among (rows_among ys)) _ s (view v) t none (to_table schema k p (λ q. PatchesBase q k (rows_among ys) b s (view v) t) shape (subst (λ z. PatchesBase p k z b s (view v) t) e j))) x y h
patched_table (Err w) lost x y schema k p b ys rows shape e none h = tt

-- ---- `UpdateIf`, one row

pub updates_row : {A : Type 0} (lost : Type 0) (x y : Option (WorldState A)) (p : TableShape) (k id : ℕ) (r : Row) (c : Data) (rows : List Row) (cells : List Data) (put : Put) (o : Option Value) → named_id (row_id_value (record_of r)) ≡ Ok id → rows ≡ rows_in c →
    IsPutEnd p put o → MayFallSilent lost (IsRowPatched p k rows id cells put) x y → MayFallSilent lost (IsUpdatedRow p k r c o) x y
updates_row {A} lost x y p k id r c rows cells put o named e end h =
    goes_weaker lost (IsRowPatched p k rows id cells put) (IsUpdatedRow p k r c o) (λ s t j. by s t o end (subst (λ z. IsRowPatched p k z id cells put s t) e j)) x y h
  where
    by : (s t : WorldState A) (o : Option Value) → IsPutEnd p put o → IsRowPatched p k (rows_in c) id cells put s t → IsUpdatedRow p k r c o s t
    by s t None q j = (id, q.0, cells, named, subst (λ z. IsRowPatched p k (rows_in c) id cells z s t) q.1 j)
    by s t (Some f) q j =
        subst (λ w. MatchResult w (λ n. (ds : List Data) × (made : Put) × IsRowPatched p k (rows_in c) n ds made s t × Rattle.fx_deeds.specs.Finding.IsRowStopped p made (view f)) (λ g. AnswersOnly g s (view f) t)) (sym named)
        (cells, put, j, q)

pub updates_none : {A : Type 0} (p : TableShape) (k : ℕ) (r : Row) (c : Data) (e : Value) (s : WorldState A) → named_id (row_id_value (record_of r)) ≡ Err (view e) → IsUpdatedRow p k r c (Some e) s s
updates_none p k r c e s named =
    subst (λ w. MatchResult w (λ n. (ds : List Data) × (made : Put) × IsRowPatched p k (rows_in c) n ds made s s × Rattle.fx_deeds.specs.Finding.IsRowStopped p made (view e)) (λ g. AnswersOnly g s (view e) s)) (sym named)
    (refl, refl)
