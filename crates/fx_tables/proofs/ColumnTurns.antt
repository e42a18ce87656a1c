-- One more column in its turn.
use Rattle.std.proofs.Common.{◌≡◌, ℕ, ◌+◌, ◌<◌, List, ◌∷◌, length, get_or, drop, map, sym, ap, subst, ◌∙◌}
use Rattle.fx_types.specs.ValueView.{view}
use Rattle.fx_value.proofs.JoinSteps.{left}
use Rattle.fx_tables.specs.ColumnCalls.{CanAddColumns, CanRename, renamed_columns, with_columns, without_columns}
use Rattle.fx_tables.specs.NewColumn.{column_seen, renaming_seen}
use Rattle.fx_tables.specs.declared.column_calls.NewColumn.{NewColumn}
use Rattle.fx_tables.specs.declared.column_calls.Renaming.{Renaming}
use Rattle.fx_value.specs.Columns.{Row, field_renamed, rows_with_column, fields_without}

-- a column that is new, and what comes behind it
pub next_new : (columns rest : List NewColumn) (x : NewColumn) (rows : List Row) → columns ≡ x ∷ rest → CanAddColumns (map column_seen columns) rows → CanAddColumns (column_seen x ∷ map column_seen rest) rows
next_new columns rest x rows e h = let P : List NewColumn → Type 0 = λ zs. CanAddColumns (map column_seen zs) rows in subst P e h

pub step_added : (columns rest : List NewColumn) (x : NewColumn) (n : List ℕ) (rows wider all : List Row) → columns ≡ x ∷ rest → n ≡ x.name → wider ≡ rows_with_column n rows (map view x.values.items) → with_columns (map column_seen columns) rows ≡ all → with_columns (map column_seen rest) wider ≡ all
step_added columns rest x n rows wider all e s w h =
    ap (with_columns (map column_seen rest)) (w ∙ ap (λ m. rows_with_column m rows (map view x.values.items)) s)
    ∙ sym (ap (λ zs. with_columns (map column_seen zs) rows) e) ∙ h

pub can_add_rest : (columns rest : List NewColumn) (x : NewColumn) (n : List ℕ) (rows wider : List Row) → columns ≡ x ∷ rest → n ≡ x.name → wider ≡ rows_with_column n rows (map view x.values.items) → CanAddColumns (map column_seen columns) rows → CanAddColumns (map column_seen rest) wider
can_add_rest columns rest x n rows wider e s w h =
    let made = w ∙ ap (λ m. rows_with_column m rows (map view x.values.items)) s in
    subst (CanAddColumns (map column_seen rest)) (sym made) (next_new columns rest x rows e h).2

pub step_without : (names : List (List ℕ)) (i : ℕ) (n m : List ℕ) (rows narrower all : List Row) → i < length names → n ≡ get_or names i n → m ≡ n → narrower ≡ map (fields_without m) rows → without_columns (drop i names) rows ≡ all → without_columns (drop (i + 1) names) narrower ≡ all
step_without names i n m rows narrower all l e s w h =
    ap (without_columns (drop (i + 1) names)) (w ∙ ap (λ k. map (fields_without k) rows) s)
    ∙ sym (ap (λ zs. without_columns zs rows) (left names i n l e)) ∙ h

-- a column whose new name is free, and what comes behind it
pub next_renamed : (renamings : List Renaming) (i : ℕ) (x : Renaming) (rows : List Row) → i < length renamings → x ≡ get_or renamings i x → CanRename (map renaming_seen (drop i renamings)) rows → CanRename (renaming_seen x ∷ map renaming_seen (drop (i + 1) renamings)) rows
next_renamed renamings i x rows l e h = let P : List Renaming → Type 0 = λ zs. CanRename (map renaming_seen zs) rows in subst P (left renamings i x l e) h

made : (x : Renaming) (n m : List ℕ) (rows wider : List Row) → n ≡ x.from → m ≡ x.to → wider ≡ map (field_renamed n m) rows → wider ≡ map (field_renamed x.from x.to) rows
made x n m rows wider s t w = w ∙ ap (λ k. map (field_renamed k m) rows) s ∙ ap (λ k. map (field_renamed x.from k) rows) t

pub step_renamed : (renamings : List Renaming) (i : ℕ) (x : Renaming) (n m : List ℕ) (rows wider all : List Row) → i < length renamings → x ≡ get_or renamings i x → n ≡ x.from → m ≡ x.to → wider ≡ map (field_renamed n m) rows → renamed_columns (map renaming_seen (drop i renamings)) rows ≡ all → renamed_columns (map renaming_seen (drop (i + 1) renamings)) wider ≡ all
step_renamed renamings i x n m rows wider all l e s t w h =
    ap (renamed_columns (map renaming_seen (drop (i + 1) renamings))) (made x n m rows wider s t w)
    ∙ sym (ap (λ zs. renamed_columns (map renaming_seen zs) rows) (left renamings i x l e)) ∙ h

pub can_rename_rest : (renamings : List Renaming) (i : ℕ) (x : Renaming) (n m : List ℕ) (rows wider : List Row) → i < length renamings → x ≡ get_or renamings i x → n ≡ x.from → m ≡ x.to → wider ≡ map (field_renamed n m) rows → CanRename (map renaming_seen (drop i renamings)) rows → CanRename (map renaming_seen (drop (i + 1) renamings)) wider
can_rename_rest renamings i x n m rows wider l e s t w h =
    subst (CanRename (map renaming_seen (drop (i + 1) renamings))) (sym (made x n m rows wider s t w)) (next_renamed renamings i x rows l e h).1
