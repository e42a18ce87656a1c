-- What becomes of the rows of a table.
use Rattle.std.proofs.Common.{◌≡◌, ◌∙◌, ℕ, ◌+◌, ◌≤◌, ◌==◌, Bool, true, false, cond, ◌||◌, not, List, [], ◌∷◌, ◌++◌, map, filter, Option, None, Some, ap, ap₂, arith, refl, subst, sym}
use Rattle.std.specs.List.{AllByRecursion, list_any}
use Rattle.fx_types.specs.Values.{Data}
use Rattle.fx_core.specs.declared.schema.Column.{Column}
use Rattle.sqlite_keyed.proofs.ListLemmas.{all-append, all-filter, all_map, all_weaker, filter-map, map-map, map_same}
use Rattle.sql_meanings.specs.Lines.{LinesOf, has_number, with_body}
use Rattle.row_queries.specs.declared.rows.Row.{Row}
use Rattle.row_keeper.specs.Tables.{TableState, has_id}
use Rattle.row_lines.specs.FromBytes.{cells_in}
use Rattle.row_changes.specs.Overlay.{body_at, last_of, overlay}
use Rattle.store_model.specs.Decoded.{row_in}
use Rattle.store_model.specs.Going.{AddsRow, IsBodyOf, PutsRow, RemovesRow}
use Rattle.store_model.specs.Steady.{AreLinesOf, IsLineOf}

abbrev row_with : ℕ → List Data → Row
row_with id cells = record { id = id; cells = cells }

abbrev state_with : List Row → ℕ → TableState
state_with rows last = record { rows = rows; last = last }

map-append : {A B : Type 0} (f : A → B) (xs ys : List A) → map f (xs ++ ys) ≡ map f xs ++ map f ys
map-append f [] ys = refl
map-append f (x ∷ xs) ys = ap (λ l. f x ∷ l) (map-append f xs ys)

-- ---- a row more

pub row_added : AddsRow
row_added kept columns c d body cells was rows adds first ordered whole told =
    let low : 1 ≤ last_of d = omega (arith, adds.last) in (
      record {
        first = first;
        ordered = ordered;
        changes = adds.changes kept was;
        rows = subst (AreLinesOf columns) (sym (adds.lines kept)) (all-append (IsLineOf columns) (overlay c kept) ((last_of d, body) ∷ []) rows (whole (last_of d) low, tt));
      },
      ap₂ state_with
          (ap (λ xs. map (row_in columns) xs) (adds.lines kept) ∙ map-append (row_in columns) (overlay c kept) ((last_of d, body) ∷ [])
          ∙ ap (λ r. map (row_in columns) (overlay c kept) ++ r ∷ []) (ap₂ row_with adds.last told)) adds.last,
    )

-- ---- other cells in a row

line_put : (columns : List Column) (id : ℕ) (body : List ℕ) (x : ℕ × List ℕ) (b : Bool) → IsBodyOf columns body → IsLineOf columns x → IsLineOf columns (cond b (x.0, body) x)
line_put columns id body x true whole h = whole x.0 h.id
line_put columns id body x false whole h = h

row_put_at : (columns : List Column) (body : List ℕ) (cells : List Data) (x : ℕ × List ℕ) (b : Bool) → cells_in columns body ≡ cells → row_in columns (cond b (x.0, body) x) ≡ cond b (row_with x.0 cells) (row_in columns x)
row_put_at columns body cells x true told = ap (row_with x.0) told
row_put_at columns body cells x false told = refl

rows_put : (columns : List Column) (id : ℕ) (body : List ℕ) (cells : List Data) (xs : LinesOf) → cells_in columns body ≡ cells
    → map (row_in columns) (with_body id body xs) ≡ map (λ (r : Row). cond (has_id id r) (row_with r.id cells) r) (map (row_in columns) xs)
rows_put columns id body cells xs told =
    map-map (row_in columns) (λ (x : ℕ × List ℕ). cond (has_number id x) (x.0, body) x) xs
    ∙ map_same (λ (x : ℕ × List ℕ). row_in columns (cond (has_number id x) (x.0, body) x)) (λ (x : ℕ × List ℕ). cond (has_number id x) (row_with x.0 cells) (row_in columns x)) (λ x. row_put_at columns body cells x (has_number id x) told) xs
    ∙ sym (map-map (λ (r : Row). cond (has_id id r) (row_with r.id cells) r) (row_in columns) xs)

pub row_put : PutsRow
row_put kept columns c d id was body cells of_kept rows there puts first ordered whole told =
    let xs = overlay c kept in
    let lines = puts.lines kept of_kept there in (
      record {
        first = first;
        ordered = ordered;
        changes = puts.changes kept of_kept there;
        rows = subst (AreLinesOf columns) (sym lines)
            (all_map (IsLineOf columns) (λ (x : ℕ × List ℕ). cond (has_number id x) (x.0, body) x) xs
            (all_weaker (IsLineOf columns) (λ (x : ℕ × List ℕ). IsLineOf columns (cond (has_number id x) (x.0, body) x)) (λ x h. line_put columns id body x (has_number id x) whole h) xs rows));
      },
      ap₂ state_with (ap (λ ys. map (row_in columns) ys) lines ∙ rows_put columns id body cells xs told) puts.last,
    )

-- ---- a row less

pub row_removed : RemovesRow
row_removed kept columns c d id was of_kept rows there puts first ordered =
    let xs = overlay c kept in
    let lines = puts.lines kept of_kept there in (
      record {
        first = first;
        ordered = ordered;
        changes = puts.changes kept of_kept there;
        rows = subst (AreLinesOf columns) (sym lines) (all-filter (IsLineOf columns) (λ x. not (has_number id x)) xs rows);
      },
      ap₂ state_with (ap (λ ys. map (row_in columns) ys) lines ∙ sym (filter-map (λ r. not (has_id id r)) (row_in columns) xs)) puts.last,
    )

-- ---- whether a row is there

there_by : (b more : Bool) (v was : List ℕ) (rest : Option (List ℕ)) → (rest ≡ Some was → more ≡ true) → cond b (Some v) rest ≡ Some was → (b || more) ≡ true
there_by true more v was rest ih e = refl
there_by false more v was rest ih e = ih e

pub row_there : (columns : List Column) (id : ℕ) (was : List ℕ) (xs : LinesOf) → body_at id xs ≡ Some was → list_any (has_id id) (map (row_in columns) xs) ≡ true
row_there columns id was [] e = absurd cc
row_there columns id was (x ∷ xs) e = there_by (x.0 == id) _ x.1 was (body_at id xs) (row_there columns id was xs) e

none_by : (b more : Bool) (v : List ℕ) (rest : Option (List ℕ)) → (rest ≡ None → more ≡ false) → cond b (Some v) rest ≡ None → (b || more) ≡ false
none_by true more v rest ih e = absurd cc
none_by false more v rest ih e = ih e

pub row_missing : (columns : List Column) (id : ℕ) (xs : LinesOf) → body_at id xs ≡ None → list_any (has_id id) (map (row_in columns) xs) ≡ false
row_missing columns id [] e = refl
row_missing columns id (x ∷ xs) e = none_by (x.0 == id) _ x.1 (body_at id xs) (row_missing columns id xs) e
