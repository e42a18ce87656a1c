-- What the statements on the schema's body do, and those that clear a table.
use Rattle.std.proofs.Common.{◌≡◌, ◌≢◌, ℕ, ℤ, pos, List, [], ◌∷◌, length, map, filter, slice_get, codes, Bool, true, false, not, ◌&&◌, ◌||◌, if◌then◌else◌, None, Some, Option, Ok, Err, Result, IfOk, refl, sym, ap, subst, ◌∙◌, arith, IsPermutation, Less, is_eq}
use Rattle.std.specs.Prelude.{Vec}
use Rattle.std.specs.declared.alloc.Global.{Global}
use Rattle.std.specs.List.{AllByRecursion, list_all, list_any}
use Rattle.std.specs.Option.{option_to_list}
use Rattle.std.proofs.lemmas.List.Sorted.{length_permutation}
use Rattle.sqlite_value.specs.declared.value.Value.TheVariants.{Null, Int, Blob}
use Rattle.sqlite_value.specs.Order.{Row, column, value_cmp}
use Rattle.sqlite_trees.specs.Tree.{Trees, IsAscending, rowid}
use Rattle.sqlite_trees.specs.View.{IsShaped}
use Rattle.sqlite_trees.specs.declared.store.Shape.TheVariants.{Table as TableShape}
use Rattle.sqlite_sql.specs.declared.ops.CompareOp.TheVariants.{Eq}
use Rattle.sqlite_sql.specs.Ops.{is_null}
use Rattle.sqlite_sql.specs.Term.{Term, holds, col}
use Rattle.sqlite.specs.Table.{Table}
use Rattle.sqlite.specs.Edit.{is_taken}
use Rattle.sqlite.specs.Command.TheVariants.{Delete, Select}
use Rattle.sqlite.specs.declared.error.Error.{Error}
use Rattle.sqlite.specs.Listing.{understood}
use Rattle.sqlite.specs.State.{State, ExecutesInside, Shown}
use Rattle.sqlite.proofs.Callers.{IsPlain, command_of, reads_as}
use Rattle.sql_meanings.specs.Schema.{kept_schema, lines_at, marks_at, shape_at, tabs_at}
use Rattle.sql_meanings.specs.Texts.{clear_lines, clear_marks, clear_shape, clear_tabs, insert_body, read_body}
use Rattle.sql_meanings.specs.Queries.{body_query, is_first, new_body, plainly}
use Rattle.sql_meanings.specs.Tests.{compares}
use Rattle.sql_meanings.specs.Forms.{OthersStay, Rewrites}
use Rattle.sql_meanings.specs.UnderWay.{AreSeated, Clears, IsUnderWay}
use Rattle.sql_meanings.specs.Body.{HasBody, InsertsBody, body_at, is_one, shown_body}
use Rattle.sql_meanings.proofs.Meanings.{clear_lines_is, clear_marks_is, clear_shape_is, clear_tabs_is, insert_body_is, read_body_is}
use Rattle.sql_meanings.proofs.FormLemmas.{deletes, inserts}
use Rattle.sql_meanings.proofs.ReadLemmas.{int_compares, reads}
use Rattle.sql_meanings.proofs.EntryLemmas.{all_stay, entries_alike}
use Rattle.sql_meanings.proofs.NumberLemmas.{cast_int, cast_null, itself}
use Rattle.sql_meanings.proofs.SeatLemmas.{seated_by_lines, seated_by_marks, seated_by_shape, seated_by_tabs}

-- ---- INSERT INTO shape(one, body) VALUES(1, ?)

abbrev stored : List ℕ → List Row → Row
stored body rows = Int (pos 1) ∷ Null ∷ Blob body ∷ []

-- where the rowid is free, no row has it
none_before : (body : List ℕ) (rows : List Row) → is_taken rows (stored body []) ≡ false → filter is_one rows ≡ []
none_before body [] free = refl
none_before body (r ∷ rows) free = go (is_one r) refl (none_before body rows)
  where
    tied : is_one r ≡ true → is_eq (value_cmp (rowid r) (Int (pos 1))) ≡ true
    tied h = elim (is_null (column r 0)) as (λ b. (if b then false else is_eq (value_cmp (column r 0) (Int (pos 1)))) ≡ true → is_eq (value_cmp (column r 0) (Int (pos 1))) ≡ true) [ true ↦ λ k. absurd cc | false ↦ λ k. k ] h

    go : (b : Bool) → is_one r ≡ b → (is_taken rows (stored body []) ≡ false → filter is_one rows ≡ []) → filter is_one (r ∷ rows) ≡ []
    go true e more = absurd (let t = rw (tied e) at free in cc)
    go false e more = rw e (more (later (is_eq (value_cmp (rowid r) (Int (pos 1)))) free))
      where
        later : (b : Bool) → (b || is_taken rows (stored body [])) ≡ false → is_taken rows (stored body []) ≡ false
        later true k = absurd cc
        later false k = k

pub inserts_body : (old new : State) (body : List ℕ) (r : Result ℕ Error) → IsUnderWay old → ExecutesInside 0 insert_body (Blob body ∷ []) old new r → IfOk r (InsertsBody old new body)
inserts_body old new body (Err e) up h = tt
inserts_body old new body (Ok count) up h =
    let params = Blob body ∷ [] in
    let w = inserts 0 shape_at refl insert_body insert_body_is.1 params refl new_body 3 (stored body) (λ db. rw (cast_null, cast_int (pos 1))) insert_body_is.0 old new count up.schema h.0 in
    let alone : filter is_one (stored body [] ∷ old.now.trees 0) ≡ stored body [] ∷ [] = rw (itself 1) (ap (λ l. stored body [] ∷ l) (none_before body (old.now.trees 0) w.fresh)) in
    record {
      goes_on = record { under_way = h.1.mode; schema = w.schema; seated = seated_by_shape old new up.seated (w.shaped up.seated.shape) w.others };
      here = record { stored = subst (λ rows. IsPermutation (map shown_body rows) (map shown_body (filter is_one (new.now.trees 0)))) alone (entries_alike is_one shown_body _ _ w.rows) };
      counted = w.counted;
      tabs = w.others.1.0 (λ e. omega arith);
      lines = w.others.1.1.0 (λ e. omega arith);
      marks = w.others.1.1.1.0 (λ e. omega arith);
    }

-- ---- SELECT body FROM shape WHERE one = 1

read_passes : (r : Row) → list_all (holds ([] ∷ r ∷ [])) is_first ≡ (true && is_one r)
read_passes r = last_one _ (int_compares Eq (column r 0) (pos 1))
  where
    last_one : {x : Bool} (y : Bool) → x ≡ y → (x && true) ≡ y
    last_one true e = rw e
    last_one false e = rw e

only_one : (body : Option (List ℕ)) → IsAscending (λ (a b : List ℕ). ⊥) (option_to_list body)
only_one None = tt
only_one (Some b) = (tt, tt)

all_bodies : (body : Option (List ℕ)) → filter (λ (b : List ℕ). true) (option_to_list body) ≡ option_to_list body
all_bodies None = refl
all_bodies (Some b) = refl

pub reads_body : (old new : State) (r : Result (Vec Row Global) Error) → old.now.schema ≡ kept_schema → (body : Option (List ℕ)) → HasBody old.now.trees body
    → IfOk r (λ rows. Shown read_body [] old new rows.items) → IfOk r (λ rows. rows.items ≡ map body_at (option_to_list body))
reads_body old new (Err e) has body is h = tt
reads_body old new (Ok rows) has body is h =
    let read = reads_as read_body [] old new kept_schema has (Select (record { lets = []; body = body_query }) (codes "body" ∷ [])) read_body_is.0 read_body_is.2 read_body_is.1 rows.items h in
    reads 0 is_first (col 1 2 ∷ []) [] [] is_one (λ s. true) shown_body (λ s. []) body_at (λ b. true) (λ (a b : List ℕ). ⊥) read_passes (λ r. refl) (λ b. refl) (λ a b never. absurd never)
    old.now.trees (option_to_list body) rows.items (only_one body) is.stored (read.answer Null)
    ∙ ap (map body_at) (all_bodies body)

-- ---- DELETE FROM t

none_stay : (rows : List Row) → filter (λ (r : Row). not true) rows ≡ []
none_stay [] = refl
none_stay (r ∷ rows) = none_stay rows

nothing_left : (rows : List Row) → IsPermutation [] rows → rows ≡ []
nothing_left [] h = refl
nothing_left (r ∷ rows) h = absurd (omega (arith, length_permutation [] (r ∷ rows) h))

module _ (at : ℕ) (table : Table) (place : slice_get kept_schema.tables at ≡ Some table) (text : List ℕ) (plain : IsPlain (understood kept_schema text))
    (is : command_of (understood kept_schema text) ≡ Delete at (record { lets = []; body = plainly table.tree [] (col 1 0 ∷ []) })) where
  pub clears : (old new : State) (count : ℕ) → IsUnderWay old → IsShaped TableShape (old.now.trees table.tree)
      → (AreSeated old.now.trees → IsShaped TableShape (new.now.trees table.tree) → OthersStay old new kept_schema table.tree → AreSeated new.now.trees)
      → ExecutesInside 0 text [] old new (Ok count) → Clears old new table.tree count
  clears old new count up shaped seat h =
      let w = deletes at table place text plain [] [] (λ r. true) (λ r. refl) is old new count up.schema shaped h.0 in
      record {
        goes_on = record { under_way = h.1.mode; schema = w.schema; seated = seat up.seated w.shaped w.others };
        empty = nothing_left (new.now.trees table.tree) (subst (λ rows. IsPermutation rows (new.now.trees table.tree)) (none_stay (old.now.trees table.tree)) w.rows);
        counted = w.counted ∙ ap length (all_stay (old.now.trees table.tree));
        others = w.others;
      }

pub clears_shape : (old new : State) (r : Result ℕ Error) → IsUnderWay old → ExecutesInside 0 clear_shape [] old new r → IfOk r (Clears old new 0)
clears_shape old new (Err e) up h = tt
clears_shape old new (Ok count) up h = clears 0 shape_at refl clear_shape clear_shape_is.1 clear_shape_is.0 old new count up up.seated.shape (seated_by_shape old new) h

pub clears_tabs : (old new : State) (r : Result ℕ Error) → IsUnderWay old → ExecutesInside 0 clear_tabs [] old new r → IfOk r (Clears old new 1)
clears_tabs old new (Err e) up h = tt
clears_tabs old new (Ok count) up h = clears 1 tabs_at refl clear_tabs clear_tabs_is.1 clear_tabs_is.0 old new count up up.seated.tabs (seated_by_tabs old new) h

pub clears_lines : (old new : State) (r : Result ℕ Error) → IsUnderWay old → ExecutesInside 0 clear_lines [] old new r → IfOk r (Clears old new 2)
clears_lines old new (Err e) up h = tt
clears_lines old new (Ok count) up h = clears 2 lines_at refl clear_lines clear_lines_is.1 clear_lines_is.0 old new count up up.seated.lines (seated_by_lines old new) h

pub clears_marks : (old new : State) (r : Result ℕ Error) → IsUnderWay old → ExecutesInside 0 clear_marks [] old new r → IfOk r (Clears old new 4)
clears_marks old new (Err e) up h = tt
clears_marks old new (Ok count) up h = clears 3 marks_at refl clear_marks clear_marks_is.1 clear_marks_is.0 old new count up up.seated.marks (seated_by_marks old new) h
