-- The statements that write one table.
use Rattle.std.proofs.Common.{◌≡◌, ◌≢◌, ◌∙◌, ℕ, suc, ◌<◌, ◌≤◌, ◌==◌, true, false, cond, List, [], ◌∷◌, ◌++◌, flat_map, length, Option, None, Some, ap, append-nil, append_assoc, arith, refl, subst, sym}
use Rattle.std.specs.List.{AllByRecursion}
use Rattle.std.specs.List.Sorted.{IsStrictlySortedBy}
use Rattle.std.specs.Map.{keys_of}
use Rattle.std.specs.Ordering.{nat_cmp}
use Rattle.std.specs.Prelude.{Vec}
use Rattle.std.specs.declared.alloc.Global.{Global}
use Rattle.fx_core.specs.declared.schema.Column.{Column}
use Rattle.sqlite_keyed.proofs.ListLemmas.{all-append, all_weaker, ascending-append}
use Rattle.sql_meanings.specs.Lasts.{LastsOf}
use Rattle.sql_meanings.specs.Lines.{AreBelow, LinesOf}
use Rattle.sql_meanings.specs.Marks.{MarksOf}
use Rattle.row_changes.specs.Moves.{with_now}
use Rattle.row_changes.specs.Overlay.{AreOf, bytes_in, last_of, line_under, lines_from, made_of_kept, overlay}
use Rattle.row_changes.specs.declared.table.Change.{Change}
use Rattle.row_changes.specs.declared.table.TableChanges.{TableChanges}
use Rattle.row_changes.proofs.ChangeLemmas.{Had, KeysApart, Rising, folded, folded_is, had_all, had_rest, keys_apart, rising_now}
use Rattle.row_changes.proofs.OverlayLemmas.{kept_now, kept_numbers}
use Rattle.row_plan.specs.Marked.{AreMarked, marked_at, marked_in}
use Rattle.row_plan.specs.Plan.{added_statements, change_statements, last_statements, row_statements, table_statements}
use Rattle.row_plan.specs.Statements.{Statement, replace_last}
use Rattle.row_plan.proofs.RowLemmas.{Runs, row_lines, row_marks, row_now, row_spares_column, row_spares_lasts, row_spares_lines, row_spares_marks}
use Rattle.row_plan.proofs.RunLemmas.{LinesCan, LinesCan-append, MarksCan-append, SparesLasts, SparesLines, SparesMarks, lasts_run, lasts_run-append, lines_run, lines_run-append, marks_run, marks_run-append, spared_lasts, spared_lines, spared_marks}

now_is : (id : ℕ) (was : List ℕ) (now : Option (List ℕ)) (xs : LinesOf) → row_now id (Some was) now xs ≡ with_now id now xs
now_is id was None xs = refl
now_is id was (Some body) xs = refl

new_is : (id : ℕ) (now : Option (List ℕ)) (xs : LinesOf) → row_now id None now xs ≡ xs ++ line_under id now
new_is id None xs = sym (append-nil xs)
new_is id (Some body) xs = refl

module _ (tab : ℕ) (cs : List Column) where
  changes_lines : (es : List (ℕ × Change)) (xs : LinesOf) → KeysApart es → Had es xs
      → (lines_run (flat_map (change_statements tab cs) es) tab xs ≡ folded es xs) × LinesCan (flat_map (change_statements tab cs) es) tab xs
  changes_lines [] xs a h = (refl, tt)
  changes_lines (e ∷ es) xs a h =
      let ss = change_statements tab cs e in
      let rs = flat_map (change_statements tab cs) es in
      let one = row_lines tab e.0 cs (Some e.1.was.items) (bytes_in e.1.now) xs h.0 in
      let next : lines_run ss tab xs ≡ with_now e.0 (bytes_in e.1.now) xs = one.0 ∙ now_is e.0 e.1.was.items (bytes_in e.1.now) xs in
      let more = changes_lines es (with_now e.0 (bytes_in e.1.now) xs) a.1 (had_rest e es xs a.0 h.1) in
      (lines_run-append ss rs tab xs ∙ ap (λ l. lines_run rs tab l) next ∙ more.0, LinesCan-append ss rs tab xs one.1 (subst (LinesCan rs tab) (sym next) more.1))

  changes_marks : (column place : ℕ) → column ≡ suc place → marked_at cs place ≡ true → (es : List (ℕ × Change)) (xs : LinesOf) (ms : MarksOf) → KeysApart es → Had es xs → Rising xs → AreMarked column xs ms
      → Runs (flat_map (change_statements tab cs) es) tab column (folded es xs) ms
  changes_marks column place p m [] xs ms a h up are = (are, tt)
  changes_marks column place p m (e ∷ es) xs ms a h up are =
      let ss = change_statements tab cs e in
      let rs = flat_map (change_statements tab cs) es in
      let one = row_marks tab column e.0 cs place (Some e.1.was.items) (bytes_in e.1.now) xs ms p m up h.0 are in
      let marked = subst (λ l. AreMarked column l (marks_run ss tab column ms)) (now_is e.0 e.1.was.items (bytes_in e.1.now) xs) one.0 in
      let more = changes_marks column place p m es (with_now e.0 (bytes_in e.1.now) xs) (marks_run ss tab column ms) a.1 (had_rest e es xs a.0 h.1) (rising_now e.0 (bytes_in e.1.now) xs up) marked in
      (subst (AreMarked column (folded (e ∷ es) xs)) (sym (marks_run-append ss rs tab column ms)) more.0, MarksCan-append ss rs tab column ms one.1 more.1)

  -- ---- the rows that were put

  below_next : (id : ℕ) (now : Option (List ℕ)) (xs : LinesOf) → AreBelow id xs → AreBelow (suc id) (xs ++ line_under id now)
  below_next id now xs h =
      all-append (λ (x : ℕ × List ℕ). x.0 < suc id) xs (line_under id now) (all_weaker (λ (x : ℕ × List ℕ). x.0 < id) (λ (x : ℕ × List ℕ). x.0 < suc id) (λ x l. omega (arith, l)) xs h) (one now)
    where
      one : (o : Option (List ℕ)) → AllByRecursion (λ (x : ℕ × List ℕ). x.0 < suc id) (line_under id o)
      one None = tt
      one (Some b) = (omega arith, tt)

  rising_next : (id : ℕ) (now : Option (List ℕ)) (xs : LinesOf) → AreBelow id xs → Rising xs → Rising (xs ++ line_under id now)
  rising_next id None xs h up = subst Rising (sym (append-nil xs)) up
  rising_next id (Some b) xs h up =
      ascending-append (λ (a b : ℕ × List ℕ). a.0 < b.0) xs ((id, b) ∷ []) up (tt, tt)
      (all_weaker (λ (x : ℕ × List ℕ). x.0 < id) (λ (x : ℕ × List ℕ). AllByRecursion (λ (y : ℕ × List ℕ). x.0 < y.0) ((id, b) ∷ [])) (λ x l. (l, tt)) xs h)

  added_lines : (id : ℕ) (bodies : List (Option (Vec ℕ Global))) (xs : LinesOf) → AreBelow id xs
      → (lines_run (added_statements tab cs id bodies) tab xs ≡ xs ++ lines_from id bodies) × LinesCan (added_statements tab cs id bodies) tab xs
  added_lines id [] xs h = (sym (append-nil xs), tt)
  added_lines id (b ∷ bodies) xs h =
      let now = bytes_in b in
      let ss = row_statements tab cs id None now in
      let rs = added_statements tab cs (suc id) bodies in
      let one = row_lines tab id cs None now xs h in
      let next : lines_run ss tab xs ≡ xs ++ line_under id now = one.0 ∙ new_is id now xs in
      let more = added_lines (suc id) bodies (xs ++ line_under id now) (below_next id now xs h) in (
        lines_run-append ss rs tab xs ∙ ap (λ l. lines_run rs tab l) next ∙ more.0 ∙ append_assoc xs (line_under id now) (lines_from (suc id) bodies),
        LinesCan-append ss rs tab xs one.1 (subst (LinesCan rs tab) (sym next) more.1),
      )

  added_marks : (column place : ℕ) → column ≡ suc place → marked_at cs place ≡ true → (id : ℕ) (bodies : List (Option (Vec ℕ Global))) (xs : LinesOf) (ms : MarksOf) → AreBelow id xs → Rising xs → AreMarked column xs ms
      → Runs (added_statements tab cs id bodies) tab column (xs ++ lines_from id bodies) ms
  added_marks column place p m id [] xs ms h up are = (subst (λ l. AreMarked column l ms) (sym (append-nil xs)) are, tt)
  added_marks column place p m id (b ∷ bodies) xs ms h up are =
      let now = bytes_in b in
      let ss = row_statements tab cs id None now in
      let rs = added_statements tab cs (suc id) bodies in
      let one = row_marks tab column id cs place None now xs ms p m up h are in
      let marked = subst (λ l. AreMarked column l (marks_run ss tab column ms)) (new_is id now xs) one.0 in
      let more = added_marks column place p m (suc id) bodies (xs ++ line_under id now) (marks_run ss tab column ms) (below_next id now xs h) (rising_next id now xs h up) marked in (
        subst (λ l. AreMarked column l (marks_run (ss ++ rs) tab column ms)) (append_assoc xs (line_under id now) (lines_from (suc id) bodies))
            (subst (AreMarked column ((xs ++ line_under id now) ++ lines_from (suc id) bodies)) (sym (marks_run-append ss rs tab column ms)) more.0),
        MarksCan-append ss rs tab column ms one.1 more.1,
      )

  -- ---- all of a table

  last_spares_lines : (t : ℕ) (c : TableChanges) → AllByRecursion (SparesLines t) (last_statements tab c)
  last_spares_lines t c = elim (length c.added.items == 0) as (λ b. AllByRecursion (SparesLines t) (cond b [] (replace_last tab (last_of c) ∷ []))) [ true ↦ tt | false ↦ ((λ xs. (refl, tt)), tt) ]

  last_spares_marks : (t column : ℕ) (c : TableChanges) → AllByRecursion (SparesMarks t column) (last_statements tab c)
  last_spares_marks t column c = elim (length c.added.items == 0) as (λ b. AllByRecursion (SparesMarks t column) (cond b [] (replace_last tab (last_of c) ∷ []))) [ true ↦ tt | false ↦ ((λ ms. (refl, tt)), tt) ]

  numbers_below : (c : TableChanges) (xs : LinesOf) → AreOf xs c → AreBelow (suc c.first) (kept_now (made_of_kept c) xs)
  numbers_below c xs h = kept_numbers (λ n. n < suc c.first) (made_of_kept c) xs (all_weaker (λ (x : ℕ × List ℕ). x.0 ≤ c.first) (λ (x : ℕ × List ℕ). x.0 < suc c.first) (λ x l. omega (arith, l)) xs h.given)

  folded_rising : (es : List (ℕ × Change)) (xs : LinesOf) → Rising xs → Rising (folded es xs)
  folded_rising [] xs up = up
  folded_rising (e ∷ es) xs up = folded_rising es (with_now e.0 (bytes_in e.1.now) xs) (rising_now e.0 (bytes_in e.1.now) xs up)

  pub table_lines : (c : TableChanges) (xs : LinesOf) → IsStrictlySortedBy nat_cmp (keys_of c.changed.entries) → AreOf xs c
      → (lines_run (table_statements tab cs c) tab xs ≡ overlay c xs) × LinesCan (table_statements tab cs c) tab xs
  table_lines c xs sorted h =
      let es = c.changed.entries in
      let a = keys_apart es sorted in
      let ss = flat_map (change_statements tab cs) es in
      let rs = added_statements tab cs (suc c.first) c.added.items in
      let ls = last_statements tab c in
      let kept = kept_now (made_of_kept c) xs in
      let one = changes_lines es xs a (had_all es xs a h.had) in
      let same : lines_run ss tab xs ≡ kept = one.0 ∙ folded_is es xs a in
      let two = added_lines (suc c.first) c.added.items kept (numbers_below c xs h) in
      let three = spared_lines ls tab (overlay c xs) (last_spares_lines tab c) in (
        lines_run-append ss (rs ++ ls) tab xs ∙ ap (λ l. lines_run (rs ++ ls) tab l) same ∙ lines_run-append rs ls tab kept ∙ ap (λ l. lines_run ls tab l) two.0 ∙ three.0,
        LinesCan-append ss (rs ++ ls) tab xs one.1 (subst (LinesCan (rs ++ ls) tab) (sym same) (LinesCan-append rs ls tab kept two.1 (subst (LinesCan ls tab) (sym two.0) three.1))),
      )

  pub table_marks : (column place : ℕ) → column ≡ suc place → marked_at cs place ≡ true → (c : TableChanges) (xs : LinesOf) (ms : MarksOf) → IsStrictlySortedBy nat_cmp (keys_of c.changed.entries) → AreOf xs c → AreMarked column xs ms
      → Runs (table_statements tab cs c) tab column (overlay c xs) ms
  table_marks column place p m c xs ms sorted h are =
      let es = c.changed.entries in
      let a = keys_apart es sorted in
      let ss = flat_map (change_statements tab cs) es in
      let rs = added_statements tab cs (suc c.first) c.added.items in
      let ls = last_statements tab c in
      let kept = kept_now (made_of_kept c) xs in
      let one = changes_marks column place p m es xs ms a (had_all es xs a h.had) h.rising are in
      let marked = subst (λ l. AreMarked column l (marks_run ss tab column ms)) (folded_is es xs a) one.0 in
      let up = subst Rising (folded_is es xs a) (folded_rising es xs h.rising) in
      let two = added_marks column place p m (suc c.first) c.added.items kept (marks_run ss tab column ms) (numbers_below c xs h) up marked in
      let three = spared_marks ls tab column (marks_run rs tab column (marks_run ss tab column ms)) (last_spares_marks tab column c) in (
        subst (AreMarked column (overlay c xs)) (sym (marks_run-append ss (rs ++ ls) tab column ms ∙ marks_run-append rs ls tab column (marks_run ss tab column ms) ∙ three.0)) two.0,
        MarksCan-append ss (rs ++ ls) tab column ms one.1 (MarksCan-append rs ls tab column (marks_run ss tab column ms) two.1 three.1),
      )

  -- ---- what holds of the statements of each row and of the last number holds of a table's

  all_changes : (P : Statement → Type 0) → ((id : ℕ) (was now : Option (List ℕ)) → AllByRecursion P (row_statements tab cs id was now)) → (es : List (ℕ × Change)) → AllByRecursion P (flat_map (change_statements tab cs) es)
  all_changes P rows [] = tt
  all_changes P rows (e ∷ es) =
      all-append P (change_statements tab cs e) (flat_map (change_statements tab cs) es) (rows e.0 (Some e.1.was.items) (bytes_in e.1.now)) (all_changes P rows es)

  all_added : (P : Statement → Type 0) → ((id : ℕ) (was now : Option (List ℕ)) → AllByRecursion P (row_statements tab cs id was now)) → (id : ℕ) (bodies : List (Option (Vec ℕ Global))) → AllByRecursion P (added_statements tab cs id bodies)
  all_added P rows id [] = tt
  all_added P rows id (b ∷ bodies) =
      all-append P (row_statements tab cs id None (bytes_in b)) (added_statements tab cs (suc id) bodies) (rows id None (bytes_in b)) (all_added P rows (suc id) bodies)

  all_table : (P : Statement → Type 0) → ((id : ℕ) (was now : Option (List ℕ)) → AllByRecursion P (row_statements tab cs id was now)) → (c : TableChanges) → AllByRecursion P (last_statements tab c) → AllByRecursion P (table_statements tab cs c)
  all_table P rows c last =
      all-append P (flat_map (change_statements tab cs) c.changed.entries) (added_statements tab cs (suc c.first) c.added.items ++ last_statements tab c) (all_changes P rows c.changed.entries)
      (all-append P (added_statements tab cs (suc c.first) c.added.items) (last_statements tab c) (all_added P rows (suc c.first) c.added.items) last)

  -- other tables are left alone, and columns that aren't marked
  pub table_spares_lines : (t : ℕ) → t ≢ tab → (c : TableChanges) → AllByRecursion (SparesLines t) (table_statements tab cs c)
  table_spares_lines t n c = all_table (SparesLines t) (λ id was now. row_spares_lines tab id t cs was now n) c (last_spares_lines t c)

  pub table_spares_marks : (t column : ℕ) → t ≢ tab → (c : TableChanges) → AllByRecursion (SparesMarks t column) (table_statements tab cs c)
  table_spares_marks t column n c = all_table (SparesMarks t column) (λ id was now. row_spares_marks tab id t column cs was now n) c (last_spares_marks t column c)

  pub table_spares_column : (column : ℕ) → marked_in cs column ≡ false → (c : TableChanges) → AllByRecursion (SparesMarks tab column) (table_statements tab cs c)
  table_spares_column column m c = all_table (SparesMarks tab column) (λ id was now. row_spares_column tab column id cs was now m) c (last_spares_marks tab column c)

  -- the last number goes by its own statement
  pub table_lasts : (c : TableChanges) (ns : LastsOf) → lasts_run (table_statements tab cs c) ns ≡ lasts_run (last_statements tab c) ns
  table_lasts c ns =
      let es = flat_map (change_statements tab cs) c.changed.entries in
      let bs = added_statements tab cs (suc c.first) c.added.items in
      lasts_run-append es (bs ++ last_statements tab c) ns ∙ ap (λ l. lasts_run (bs ++ last_statements tab c) l) (spared_lasts es ns (all_changes SparesLasts (λ id was now. row_spares_lasts tab id cs was now) c.changed.entries))
      ∙ lasts_run-append bs (last_statements tab c) ns ∙ ap (λ l. lasts_run (last_statements tab c) l) (spared_lasts bs ns (all_added SparesLasts (λ id was now. row_spares_lasts tab id cs was now) (suc c.first) c.added.items))
