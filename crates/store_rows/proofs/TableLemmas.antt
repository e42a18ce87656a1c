-- What becomes of the tables of a keeper, one of which a call is about.
use Rattle.std.proofs.Common.{◌≡◌, ◌∙◌, ℕ, zero, suc, ◌+◌, ◌-◌, ◌^◌, ◌<◌, ◌≤◌, ◌==◌, ◌&&◌, ◌||◌, Bool, true, false, List, [], ◌∷◌, ◌++◌, get_or, take, length, min, Option, None, Some, Result, Ok, Err, IfOk, OnErr, ap, arith, refl, set, subst, sym}
use Rattle.std.specs.Prelude.{IsSomeAnd, is_none, nat_le, nat_lt, slice_get, sum_by}
use Rattle.std.specs.List.{AllByRecursion, list_any}
use Rattle.std.proofs.lemmas.Bool.Decides.{nat_tests}
use Rattle.std.proofs.lemmas.List.{length-map, take_more}
use Rattle.std.proofs.lemmas.List.Sums.{sum_by-cons}
use Rattle.fx_types.specs.Values.{Data}
use Rattle.fx_core.specs.Lawful.{IsLawfulSchema}
use Rattle.fx_core.specs.declared.schema.Column.{Column}
use Rattle.fx_core.specs.declared.schema.Schema.{Schema}
use Rattle.fx_core.specs.declared.schema.TableShape.{TableShape}
use Rattle.sqlite.specs.Tree.{Trees}
use Rattle.sql_contents.specs.Contents.{Contents, contents_of, lines_in}
use Rattle.row_keeper.specs.Changes.{Inserts, Removes, Replaces}
use Rattle.row_keeper.specs.RowRules.{cells_weight, first_broken, first_of_two, in_column, lacks, others, repeats, rule_in, where_broken}
use Rattle.row_keeper.specs.Tables.{TableState, Tables, all_rows, columns_at, columns_in, has_id, shapes_of, state_at, with_cells, with_row, with_state, without_row}
use Rattle.row_keeper.specs.declared.keeper.KeeperEnd.{KeeperEnd}
use Rattle.row_keeper.specs.declared.rows.Put.{Put}
use Rattle.row_keeper.specs.declared.rows.Put.TheVariants.{Id, NoRow, Refused}
use Rattle.row_keeper.specs.declared.rows.RowRule.TheVariants.{Required, Unique, Size, Full}
use Rattle.row_keeper.proofs.StoreLemmas.{narrow, set_same}
use Rattle.row_changes.specs.Overlay.{AreOf, overlay}
use Rattle.row_changes.specs.declared.table.TableChanges.{TableChanges}
use Rattle.row_plan.specs.Written.{AreOfTables, IsOfTable}
use Rattle.store_model.specs.Decoded.{row_in, states_now, tables_changed}
use Rattle.store_model.specs.Steady.{AreCounted, HasRows, HaveRows, IsShapedSo}
use Rattle.store_model.specs.declared.counts.RowCount.{RowCount}
use Rattle.store_model.proofs.GoLemmas.{counted_at, counts_go, goes_told, kept_schema_is, told_itself}
use Rattle.store_rows.specs.Puts.{AreKnown, GoTold, GoesSo, IsInOrder, LessRow, NewRow, OverRow, state_over}

-- ---- at a place

of_table_at : (k : Contents) (tab i at : ℕ) (ts : List TableShape) (cs : List TableChanges) (t : TableShape) (c : TableChanges) → at ≡ tab + i → slice_get ts i ≡ Some t → slice_get cs i ≡ Some c → AreOfTables k tab ts cs → HaveRows k tab ts cs
    → IsOfTable k at t.columns c × HasRows k at t.columns c
of_table_at k tab i at [] cs t c e ht hc was rows = absurd cc
of_table_at k tab i at (u ∷ ts) [] t c e ht hc was rows = absurd was
of_table_at k tab zero at (u ∷ ts) (b ∷ cs) t c e ht hc was rows =
    let shape : u ≡ t = cc in
    let old : b ≡ c = cc in
    let here : tab ≡ at = omega (arith, e) in
    subst (λ n. IsOfTable k n t.columns c × HasRows k n t.columns c) here
    (subst (λ x. IsOfTable k tab t.columns x × HasRows k tab t.columns x) old (subst (λ (s : TableShape). IsOfTable k tab s.columns b × HasRows k tab s.columns b) shape (was.0, rows.0)))
of_table_at k tab (suc i) at (u ∷ ts) (b ∷ cs) t c e ht hc was rows = of_table_at k (suc tab) i at ts cs t c (omega (arith, e)) ht hc was.1 rows.1

pub in_order : (trees : Trees) (schema : Schema) (cs : List TableChanges) (ns : List RowCount) (tab : ℕ) (t : TableShape) (c : TableChanges) (n : RowCount) → AreKnown trees schema cs ns → slice_get schema.tables tab ≡ Some t → slice_get cs tab ≡ Some c → slice_get ns tab ≡ Some n
    → IsInOrder (lines_in trees tab) t.columns c n
in_order trees schema cs ns tab t c n known ht hc hn =
    let at : tab ≡ 0 + tab = omega arith in
    let here = of_table_at (contents_of trees) 0 tab tab schema.tables cs t c at ht hc known.shaped.changes known.shaped.rows in
    record { ordered = here.0.ordered; changes = here.0.changes; rows = here.1.now; counted = counted_at (contents_of trees) 0 tab tab cs ns c n at hc hn known.counted }

-- a table as it is told
pub table_told : (trees : Trees) (schema : Schema) (cs : List TableChanges) (tab : ℕ) (t : TableShape) (c : TableChanges) → IsShapedSo (contents_of trees) schema cs → slice_get schema.tables tab ≡ Some t → slice_get cs tab ≡ Some c
    → AreOf (lines_in trees tab) c × (state_at (tables_changed trees cs).states tab ≡ state_over (lines_in trees tab) t.columns c)
table_told trees schema cs tab t c shaped ht hc =
    let at : tab ≡ 0 + tab = omega arith in
    let here = of_table_at (contents_of trees) 0 tab tab schema.tables cs t c at ht hc shaped.changes shaped.rows in
    (here.0.changes, (goes_told trees schema cs tab t c c shaped ht hc (record { first = refl; ordered = here.0.ordered; changes = here.0.changes; rows = here.1.now })).1)

-- ---- the tables go on

module _ {T : Type 0} (trees : Trees) (schema : Schema) (cs : List TableChanges) (ns : List RowCount) (tab : ℕ) (t : TableShape) (c d : TableChanges) (n m : RowCount) (One : T → TableState → TableState → Type 0) (All : T → Tables → Tables → Type 0) (r : Result T KeeperEnd)
    (known : AreKnown trees schema cs ns) (ht : slice_get schema.tables tab ≡ Some t) (hc : slice_get cs tab ≡ Some c)
    (lift : (x : T) (s : TableState) → state_at (tables_changed trees cs).states tab ≡ state_over (lines_in trees tab) t.columns c → One x (state_over (lines_in trees tab) t.columns c) s
    → All x (tables_changed trees cs) (with_state (tables_changed trees cs) tab s)) (same : with_state (tables_changed trees cs) tab (state_over (lines_in trees tab) t.columns c) ≡ tables_changed trees cs) where
  pub go_told : GoesSo (lines_in trees tab) t.columns c d m One r → GoTold trees schema cs (set cs tab d) (set ns tab m) All r
  go_told goes =
      let at : tab ≡ 0 + tab = omega arith in
      let told = goes_told trees schema cs tab t c d known.shaped ht hc goes.goes in
      record {
        known = record { shaped = told.0; counted = counts_go (contents_of trees) 0 tab tab cs ns c d m at hc known.counted goes.counted };
        ok = ok r goes.ok told.1 told.2;
        err = err r goes.err told.2;
      }
    where
      ok : (q : Result T KeeperEnd) → IfOk q (λ x. One x (state_over (lines_in trees tab) t.columns c) (state_over (lines_in trees tab) t.columns d)) → state_at (tables_changed trees cs).states tab ≡ state_over (lines_in trees tab) t.columns c
          → tables_changed trees (set cs tab d) ≡ with_state (tables_changed trees cs) tab (state_over (lines_in trees tab) t.columns d) → IfOk q (λ x. All x (tables_changed trees cs) (tables_changed trees (set cs tab d)))
      ok (Err e) h was is = tt
      ok (Ok x) h was is = subst (All x (tables_changed trees cs)) (sym is) (lift x (state_over (lines_in trees tab) t.columns d) was h)

      err : (q : Result T KeeperEnd) → OnErr q (state_over (lines_in trees tab) t.columns d ≡ state_over (lines_in trees tab) t.columns c) → tables_changed trees (set cs tab d) ≡ with_state (tables_changed trees cs) tab (state_over (lines_in trees tab) t.columns d)
          → OnErr q (tables_changed trees (set cs tab d) ≡ tables_changed trees cs)
      err (Ok x) h is = tt
      err (Err e) h is = is ∙ ap (λ s. with_state (tables_changed trees cs) tab s) h ∙ same

-- ---- the rules are the same for all tables

full_alike : (n : ℕ) → nat_le 500000 (min n (2 ^ 64 - 1)) ≡ nat_le 500000 n
full_alike n = go (nat_le 500000 n) refl
  where
    go : (b : Bool) → nat_le 500000 n ≡ b → nat_le 500000 (min n (2 ^ 64 - 1)) ≡ b
    go true e = grind (arith, nat_tests)
    go false e = grind (arith, nat_tests)

rule_alike : (columns : List Column) (s : TableState) (n : ℕ) (id : Option ℕ) (cells : List Data) → rule_in columns s n id cells ≡ rule_in columns s (min n (2 ^ 64 - 1)) id cells
rule_alike columns s n id cells =
    ap (λ b. first_of_two (in_column Required (first_broken lacks 1 columns cells)) (first_of_two (in_column Unique (first_broken (repeats (others id s.rows)) 1 columns cells))
    (first_of_two (where_broken Size (nat_lt 2048 (cells_weight cells))) (where_broken Full (is_none id && (nat_le 200000 (length s.rows) || (b || (s.last == 4294967295)))))))) (sym (full_alike n))

module _ (t : Tables) (tab : ℕ) (columns : List Column) (s : TableState) (all : ℕ) (was : state_at t.states tab ≡ s) (sum : all ≡ min (all_rows t.states) (2 ^ 64 - 1)) (same : with_state t tab s ≡ t) where
  rule_here : (id : Option ℕ) (cells : List Data) → rule_in columns (state_at t.states tab) (all_rows t.states) id cells ≡ rule_in columns s all id cells
  rule_here id cells = ap (λ x. rule_in columns x (all_rows t.states) id cells) was ∙ rule_alike columns s (all_rows t.states) id cells ∙ ap (λ n. rule_in columns s n id cells) (sym sum)

  pub inserts_lift : (cells : List Data) (put : Put) (u : TableState) → NewRow columns all cells put s u → Inserts columns tab cells put t (with_state t tab u)
  inserts_lift cells (Id id) u h = (rule_here None cells ∙ h.0, h.1 ∙ ap (λ (x : TableState). x.last + 1) (sym was), ap (λ x. with_state t tab x) (h.2 ∙ ap (with_row cells) (sym was)))
  inserts_lift cells NoRow u h = absurd h
  inserts_lift cells (Refused r) u h = (rule_here None cells ∙ h.0, ap (λ x. with_state t tab x) h.1 ∙ same)

  has_here : (id : ℕ) → list_any (has_id id) (state_at t.states tab).rows ≡ list_any (has_id id) s.rows
  has_here id = ap (λ (x : TableState). list_any (has_id id) x.rows) was

  pub replaces_lift : (id : ℕ) (cells : List Data) (put : Put) (u : TableState) → OverRow columns all id cells put s u → Replaces columns tab id cells put t (with_state t tab u)
  replaces_lift id cells (Id n) u h = (h.0, has_here id ∙ h.1, rule_here (Some id) cells ∙ h.2, ap (λ x. with_state t tab x) (h.3 ∙ ap (with_cells id cells) (sym was)))
  replaces_lift id cells NoRow u h = (has_here id ∙ h.0, ap (λ x. with_state t tab x) h.1 ∙ same)
  replaces_lift id cells (Refused r) u h = (has_here id ∙ h.0, rule_here (Some id) cells ∙ h.1, ap (λ x. with_state t tab x) h.2 ∙ same)

  pub removes_lift : (id : ℕ) (b : Bool) (u : TableState) → LessRow id b s u → Removes tab id b t (with_state t tab u)
  removes_lift id true u h = (has_here id ∙ h.0, ap (λ x. with_state t tab x) (h.1 ∙ ap (without_row id) (sym was)))
  removes_lift id false u h = (has_here id ∙ h.0, ap (λ x. with_state t tab x) h.1 ∙ same)

-- ---- how many rows there are

rows_long : (trees : Trees) (tab : ℕ) (t : TableShape) (c : TableChanges) → length (state_over (lines_in trees tab) t.columns c).rows ≡ length (overlay c (lines_in trees tab))
rows_long trees tab t c = length-map (overlay c (lines_in trees tab)) (row_in t.columns)

pub rows_summed : (trees : Trees) (tab : ℕ) (ts : List TableShape) (cs : List TableChanges) (ns : List RowCount) → AreOfTables (contents_of trees) tab ts cs → AreCounted (contents_of trees) tab cs ns → sum_by (λ (n : RowCount). n.now) ns ≡ all_rows (states_now trees tab ts cs)
rows_summed trees tab [] [] [] was counted = refl
rows_summed trees tab [] [] (n ∷ ns) was counted = absurd counted
rows_summed trees tab [] (c ∷ cs) ns was counted = absurd was
rows_summed trees tab (t ∷ ts) [] ns was counted = absurd was
rows_summed trees tab (t ∷ ts) (c ∷ cs) [] was counted = absurd counted
rows_summed trees tab (t ∷ ts) (c ∷ cs) (n ∷ ns) was counted =
    let rest = rows_summed trees (suc tab) ts cs ns was.1 counted.1 in
    let one = counted.0.now in
    let long = rows_long trees tab t c in
    let a = sum_by-cons (λ (m : RowCount). m.now) n ns in
    let b = sum_by-cons (λ (s : TableState). length s.rows) (state_over (lines_in trees tab) t.columns c) (states_now trees (suc tab) ts cs) in
    omega (arith, rest, one, long, a, b)

-- ---- a call on one table, as all tables are told

module _ (trees : Trees) (schema : Schema) (cs : List TableChanges) (ns : List RowCount) (tab : ℕ) (t : TableShape) (c : TableChanges) (n : RowCount)
    (known : AreKnown trees schema cs ns) (ht : slice_get schema.tables tab ≡ Some t) (hc : slice_get cs tab ≡ Some c) where
  stays_here : with_state (tables_changed trees cs) tab (state_over (lines_in trees tab) t.columns c) ≡ tables_changed trees cs
  stays_here = told_itself trees schema cs tab t c known.shaped ht hc

  all_summed : sum_by (λ (m : RowCount). m.now) ns ≡ all_rows (tables_changed trees cs).states
  all_summed = subst (λ o. sum_by (λ (m : RowCount). m.now) ns ≡ all_rows (states_now trees 0 (shapes_of o) cs)) (sym (kept_schema_is trees schema cs known.shaped))
      (rows_summed trees 0 schema.tables cs ns known.shaped.changes known.counted)

  pub columns_here : columns_at schema.tables tab ≡ t.columns
  columns_here = ap columns_in ht

  pub inserted_told : (all : ℕ) (cells : List Data) (d : TableChanges) (m : RowCount) (r : Result Put KeeperEnd) → all ≡ min (sum_by (λ (x : RowCount). x.now) ns) (2 ^ 64 - 1) → GoesSo (lines_in trees tab) t.columns c d m (NewRow t.columns all cells) r
      → GoTold trees schema cs (set cs tab d) (set ns tab m) (Inserts (columns_at schema.tables tab) tab cells) r
  inserted_told all cells d m r sum goes =
      subst (λ columns. GoTold trees schema cs (set cs tab d) (set ns tab m) (Inserts columns tab cells) r) (sym columns_here)
      (go_told trees schema cs ns tab t c d n m (NewRow t.columns all cells) (Inserts t.columns tab cells) r known ht hc
      (λ put s was one. inserts_lift (tables_changed trees cs) tab t.columns (state_over (lines_in trees tab) t.columns c) all was (sum ∙ ap (λ k. min k (2 ^ 64 - 1)) all_summed) stays_here cells put s one) stays_here goes)

  pub replaced_told : (all id : ℕ) (cells : List Data) (d : TableChanges) (r : Result Put KeeperEnd) → slice_get ns tab ≡ Some n → all ≡ min (sum_by (λ (x : RowCount). x.now) ns) (2 ^ 64 - 1) → GoesSo (lines_in trees tab) t.columns c d n (OverRow t.columns all id cells) r
      → GoTold trees schema cs (set cs tab d) ns (Replaces (columns_at schema.tables tab) tab id cells) r
  replaced_told all id cells d r hn sum goes =
      subst (λ ms. GoTold trees schema cs (set cs tab d) ms (Replaces (columns_at schema.tables tab) tab id cells) r) (set_same ns tab n hn)
      (subst (λ columns. GoTold trees schema cs (set cs tab d) (set ns tab n) (Replaces columns tab id cells) r) (sym columns_here)
      (go_told trees schema cs ns tab t c d n n (OverRow t.columns all id cells) (Replaces t.columns tab id cells) r known ht hc
      (λ put s was one. replaces_lift (tables_changed trees cs) tab t.columns (state_over (lines_in trees tab) t.columns c) all was (sum ∙ ap (λ k. min k (2 ^ 64 - 1)) all_summed) stays_here id cells put s one) stays_here goes))

  pub removed_told : (id : ℕ) (d : TableChanges) (m : RowCount) (r : Result Bool KeeperEnd) → GoesSo (lines_in trees tab) t.columns c d m (LessRow id) r → GoTold trees schema cs (set cs tab d) (set ns tab m) (Removes tab id) r
  removed_told id d m r goes =
      go_told trees schema cs ns tab t c d n m (LessRow id) (Removes tab id) r known ht hc
      (λ b s was one. removes_lift (tables_changed trees cs) tab t.columns (state_over (lines_in trees tab) t.columns c) (min (all_rows (tables_changed trees cs).states) (2 ^ 64 - 1)) was refl stays_here id b s one) stays_here goes

-- a call that was not made
pub not_called : {T : Type 0} (trees : Trees) (schema : Schema) (cs : List TableChanges) (ns : List RowCount) (Goes : T → Tables → Tables → Type 0) (e : KeeperEnd) → AreKnown trees schema cs ns → GoTold trees schema cs cs ns Goes (let r : Result T KeeperEnd = Err e in r)
not_called trees schema cs ns Goes e known = record { known = known; ok = tt; err = refl }

-- the count of rows over the counts, one after another
pub count_more : (ns : List RowCount) (i : ℕ) (d : RowCount) → i < length ns → sum_by (λ (m : RowCount). m.now) (take (i + 1) ns) ≡ sum_by (λ (m : RowCount). m.now) (take i ns) + (get_or ns i d).now
count_more ns i d low = ap (λ l. sum_by (λ (m : RowCount). m.now) l) (take_more ns i d low) ∙ sum_push (take i ns) (get_or ns i d)
  where
    sum_push : (xs : List RowCount) (x : RowCount) → sum_by (λ (m : RowCount). m.now) (xs ++ x ∷ []) ≡ sum_by (λ (m : RowCount). m.now) xs + x.now
    sum_push [] x = (let a = sum_by-cons (λ (m : RowCount). m.now) x [] in omega (arith, a))
    sum_push (y ∷ xs) x = let e = sum_push xs x in let a = sum_by-cons (λ (m : RowCount). m.now) y (xs ++ x ∷ []) in let b = sum_by-cons (λ (m : RowCount). m.now) y xs in omega (arith, e, a, b)

-- a table of a lawful schema has few columns
pub narrow_at : (schema : Schema) (tab : ℕ) (t : TableShape) → IsLawfulSchema schema → slice_get schema.tables tab ≡ Some t → length t.columns ≤ 63
narrow_at schema tab t lawful ht = go schema.tables tab ht (narrow schema lawful)
  where
    go : (ts : List TableShape) (i : ℕ) → slice_get ts i ≡ Some t → AllByRecursion (λ (u : TableShape). length u.columns ≤ 63) ts → length t.columns ≤ 63
    go [] i h all = absurd cc
    go (u ∷ ts) zero h all = (let same : u ≡ t = cc in subst (λ (s : TableShape). length s.columns ≤ 63) same all.0)
    go (u ∷ ts) (suc i) h all = go ts i h all.1

pub fit_at : (o : Option TableShape) (t : TableShape) (P : TableShape → Type 0) → IsSomeAnd o P → o ≡ Some t → P t
fit_at None t P h e = absurd h
fit_at (Some u) t P h e = (let same : u ≡ t = cc in subst P same h)
