-- What a statement of each form makes of the tree of its table, for any table of the schema and any condition.
use Rattle.std.proofs.Common.{◌≡◌, ◌≢◌, ◌⊎◌, inl, inr, ℕ, ℤ, pos, negsuc, List, [], ◌∷◌, ◌++◌, length, map, filter, slice_get, drop, Bool, true, false, not, ◌&&◌, if◌then◌else◌, cond, Some, None, Option, Ok, Err, Result, IsTrue, refl, sym, ap, subst, ◌∙◌, IsPermutation, Ordering, Less, Equal, Greater}
use Rattle.std.specs.Prelude.{flat_map, fold, nat_le, unwrap_or, ◌-◌, ◌/◌, ◌^◌}
use Rattle.std.specs.List.{AllByRecursion, list_all, list_any}
use Rattle.std.specs.Ordering.{match_ordering}
use Rattle.std.proofs.lemmas.List.{length-map}
use Rattle.std.proofs.lemmas.List.Sorted.{IsPermutation-map, IsPermutation-trans, IsPermutation-sym, IsPermutation-refl, IsPermutation-cons, IsPermutation-middle, IsPermutation-append_right, IsPermutation-append_left, length_permutation}
use Rattle.sqlite_trees.specs.Tree.{Trees, IsTable, rowid, put_row}
use Rattle.sqlite_trees.specs.View.{is_int, IsShaped}
use Rattle.sqlite_trees.specs.declared.store.Shape.TheVariants.{Table as TableShape}
use Rattle.sqlite_trees.proofs.TreeLemmas.{IsShaped-put_row, IsShaped-filter}
use Rattle.sqlite_value.specs.declared.value.Value.TheVariants.{Null, Int}
use Rattle.sqlite_value.specs.Order.{Row, column, value_cmp}
use Rattle.sqlite_sql.specs.Term.{Term, lit, col, holds}
use Rattle.sqlite_sql.specs.Query.{Query, IsAnswer, output, Output, inner, end}
use Rattle.sqlite_sql.specs.Program.{overlay}
use Rattle.sqlite.specs.Table.{Table}
use Rattle.sqlite.specs.Edit.{Edit, edit_of, without_all, put_all, are_fresh, have_rowids, Applies}
use Rattle.sqlite_rules.specs.Calls.{ids_of}
use Rattle.sqlite_rules.specs.Cast.{cast_row}
use Rattle.sqlite_rules.specs.Edit.{is_taken, id_in, taken_by, row_at}
use Rattle.sqlite_rules.proofs.PlaceLemmas.{given}
use Rattle.sqlite.specs.Rowids.TheVariants.{Chosen, Given}
use Rattle.sqlite.specs.Source.TheVariants.{Values}
use Rattle.sqlite.specs.Command.TheVariants.{Insert, Delete, Update}
use Rattle.sqlite.specs.Does.{Tally, Does, AtPlace, OnRows}
use Rattle.sqlite.specs.Rows.{Written, stamped}
use Rattle.sqlite.specs.Effect.{Database, value_rows}
use Rattle.sqlite.specs.Listing.{understood}
use Rattle.sqlite.specs.State.{State, mode_of, Executes}
use Rattle.sqlite.proofs.Callers.{IsPlain, command_of, statement_of, runs_as, one_step}
use Rattle.sqlite_keyed.proofs.ListLemmas.{map-map, map_same}
use Rattle.sql_meanings.specs.Schema.{kept_schema}
use Rattle.sql_meanings.specs.Queries.{ordered, plainly}
use Rattle.sql_meanings.specs.Forms.{Adds, OthersStay, Rewrites}
use Rattle.sql_meanings.proofs.RowidLemmas.{taken_out}

-- ---- parts of a statement

-- a part that gave a value did not stop on the way
pub went : {B E R : Type 0} {b : B} {Stops : E → Type 0} → ((stop : E) × Stops stop × (Ok b ≡ Err stop)) ⊎ R → R
went (inl stopped) = absurd (let e = stopped.2 in cc)
went (inr on) = on

pub same_value : {B E : Type 0} {a b : B} → ◌≡◌ {A = Result B E} (Ok a) (Ok b) → a ≡ b
same_value e = cc

-- ---- the rows that a condition takes

pub outputs : (q : Query) (params : Row) (p : Row → Bool) → ((r : Row) → list_all (holds (params ∷ r ∷ [])) q.filter ≡ p r) → (rows : List Row)
    → map (output q) (flat_map (λ r. if list_all (holds (params ∷ r ∷ [])) q.filter then (params ∷ r ∷ []) ∷ [] else []) rows) ≡ map (λ r. output q (params ∷ r ∷ [])) (filter p rows)
outputs q params p passes [] = refl
outputs q params p passes (r ∷ rows) = go (p r) (passes r) refl (outputs q params p passes rows)
  where
    go : (b : Bool) → list_all (holds (params ∷ r ∷ [])) q.filter ≡ p r → p r ≡ b
        → map (output q) (flat_map (λ r. if list_all (holds (params ∷ r ∷ [])) q.filter then (params ∷ r ∷ []) ∷ [] else []) rows) ≡ map (λ r. output q (params ∷ r ∷ [])) (filter p rows)
        → map (output q) (flat_map (λ r. if list_all (holds (params ∷ r ∷ [])) q.filter then (params ∷ r ∷ []) ∷ [] else []) (r ∷ rows)) ≡ map (λ r. output q (params ∷ r ∷ [])) (filter p (r ∷ rows))
    go true e d more = rw (e, d) (ap (λ l. output q (params ∷ r ∷ []) ∷ l) more)
    go false e d more = rw (e, d) more

seconds : (f : Row → Output) (rows : List Row) → map (λ (o : Output). o.1) (map f rows) ≡ map (λ r. (f r).1) rows
seconds f [] = refl
seconds f (r ∷ rows) = ap (λ l. (f r).1 ∷ l) (seconds f rows)

-- no table is made by a query
pub bare : (db : Trees) (t : ℕ) → overlay db [] t ≡ db t
bare db t = elim (nat_le (2 ^ 31) t) as (λ b. unwrap_or (if b then slice_get {X = List Row} [] (t - 2 ^ 31) else None) (db t) ≡ db t) [ true ↦ refl | false ↦ refl ]

pub taken_rows : (tree : ℕ) (fs project : List Term) (db : Trees) (params : Row) (p : Row → Bool) (rows : List Row) → ((r : Row) → list_all (holds (params ∷ r ∷ [])) fs ≡ p r)
    → IsAnswer (plainly tree fs project) (overlay db []) params rows → IsPermutation (map (λ r. (output (plainly tree fs project) (params ∷ r ∷ [])).1) (filter p (db tree))) rows
taken_rows tree fs project db params p rows passes a =
    let q = plainly tree fs project in
    let f : Row → Output = λ r. output q (params ∷ r ∷ []) in
    let kept : a.kept ≡ map f (filter p (db tree)) = a.distinct ∙ ap (map (output q)) a.grouped ∙ outputs q params p passes (overlay db [] tree) ∙ ap (λ rows. map f (filter p rows)) (bare db tree) in
    let perm : IsPermutation (map f (filter p (db tree))) a.ordered = subst (λ k. IsPermutation k a.ordered) kept a.same in
    subst (IsPermutation (map (λ r. (f r).1) (filter p (db tree)))) (sym a.shown)
    (subst (λ l. IsPermutation l (map (λ (o : Output). o.1) a.ordered)) (seconds f (filter p (db tree))) (IsPermutation-map (λ (o : Output). o.1) _ _ perm))

-- as many rows were shown as passed
shown_count : (g : Row → Row) (kept rows : List Row) → IsPermutation (map g kept) rows → length rows ≡ length kept
shown_count g kept rows same = length_permutation (map g kept) rows same ∙ length-map kept g

-- ---- DELETE FROM t WHERE ..

module _ (at : ℕ) (table : Table) (place : slice_get kept_schema.tables at ≡ Some table) (text : List ℕ) (plain : IsPlain (understood kept_schema text)) (params : Row) (fs : List Term) (p : Row → Bool)
    (passes : (r : Row) → list_all (holds (params ∷ r ∷ [])) fs ≡ p r) where
  pub deletes : command_of (understood kept_schema text) ≡ Delete at (record { lets = []; body = plainly table.tree fs (col 1 0 ∷ []) })
      → (old new : State) (count : ℕ) → old.now.schema ≡ kept_schema → IsShaped TableShape (old.now.trees table.tree) → Executes text params old new (Ok count)
      → Rewrites old new table (filter (λ r. not (p r)) (old.now.trees table.tree)) (length (filter p (old.now.trees table.tree))) count
  deletes is old new count has up h =
      let db = old.now.trees in
      let command = Delete at (record { lets = []; body = plainly table.tree fs (col 1 0 ∷ []) }) in
      let w = runs_as text params old new kept_schema has command is plain count h in
      let words = statement_of text (understood kept_schema text) in
      let here = subst (λ s. Does old.step_limit (mode_of old) params (record old.now { schema = s }) words None command (Ok (w.tally, new.now))) has w.changed in
      let done = went (subst (λ o. AtPlace (λ t. OnRows (record { limit = old.step_limit; keys = (mode_of old).keys; schema = kept_schema; table = t; params = params }) (mode_of old) None command db) o (Ok (w.tally, new.now))) place here) in
      let ends = same_value (went (went done.2).2).2 in
      let now = ap (λ (d : Tally × Database). d.1) ends in
      let given = went done.1 in
      let written = went given.2 in
      let trees : done.0.trees ≡ written.0 = ap (λ (it : Written). it.trees) (same_value written.2) in
      let edit = edit_of db table (ids_of given.0) Given 0 [] in
      let rows : done.0.rows ≡ taken_by db edit = ap (λ (it : Written). it.rows) (same_value written.2) in
      let step : Applies kept_schema (mode_of old).keys db edit written.0 = one_step kept_schema _ db written.0 edit refl written.1 in
      let shown = taken_rows table.tree fs (col 1 0 ∷ []) db params p given.0 passes (given.1.answer Null) in
      let same : new.now.trees ≡ written.0 = ap (λ (d : Database). d.trees) now ∙ trees in
      let is_now : new.now.trees table.tree ≡ filter (λ r. not (p r)) (db table.tree) = ap (λ (t : Trees). t table.tree) same ∙ step.rows ∙ taken_out p (db table.tree) given.0 up.0 up.1 shown in
      let many : length (taken_by db edit) ≡ length (filter p (db table.tree)) =
      length-map (ids_of given.0) (row_at (db table.tree)) ∙ length-map given.0 (λ (r : Row). id_in (rowid r)) ∙ shown_count (λ r. (output (plainly table.tree fs (col 1 0 ∷ [])) (params ∷ r ∷ [])).1) (filter p (db table.tree)) given.0 shown in
      record {
        schema = ap (λ (d : Database). d.schema) now;
        rows = subst (IsPermutation (filter (λ r. not (p r)) (db table.tree))) (sym is_now) (IsPermutation-refl _);
        shaped = subst (IsShaped TableShape) (sym is_now) (IsShaped-filter TableShape (λ r. not (p r)) (db table.tree) up);
        others = subst (λ (t : Trees). AllByRecursion (λ (it : Table). it.tree ≢ table.tree → t it.tree ≡ db it.tree) kept_schema.tables) (sym same) step.tables;
        counted = w.counted ∙ ap (λ (d : Tally × Database). unwrap_or d.0.rows 0) ends ∙ ap length rows ∙ many;
      }

-- ---- rows put in beside others

-- a new row is put in beside the others
pub put_beside : (new : Row) (rows : List Row) → is_taken rows new ≡ false → IsPermutation (put_row new rows) (new ∷ rows)
put_beside new [] free = IsPermutation-refl _
put_beside new (r ∷ rows) free = go (value_cmp (rowid r) (rowid new)) refl (put_beside new rows)
  where
    go : (o : Ordering) → value_cmp (rowid r) (rowid new) ≡ o → (is_taken rows new ≡ false → IsPermutation (put_row new rows) (new ∷ rows))
        → IsPermutation (match_ordering o (r ∷ put_row new rows) (new ∷ rows) (new ∷ r ∷ rows)) (new ∷ r ∷ rows)
    go Less e more = IsPermutation-trans _ _ _ (IsPermutation-cons r _ _ (more (rw e at free))) (IsPermutation-middle (r ∷ []) new rows)
    go Equal e more = absurd (let t = rw e at free in cc)
    go Greater e more = IsPermutation-refl _

fresh_all : (news rows : List Row) → are_fresh rows news ≡ true → IsPermutation (put_all rows news) (news ++ rows)
fresh_all [] rows h = IsPermutation-refl rows
fresh_all (n ∷ news) rows h = go (is_taken rows n) refl h (fresh_all news (put_row n rows))
  where
    go : (b : Bool) → is_taken rows n ≡ b → (not b && are_fresh (put_row n rows) news) ≡ true → (are_fresh (put_row n rows) news ≡ true → IsPermutation (put_all (put_row n rows) news) (news ++ put_row n rows))
        → IsPermutation (put_all (put_row n rows) news) (n ∷ news ++ rows)
    go true e k more = absurd cc
    go false e k more =
        IsPermutation-trans _ _ _ (more k) (IsPermutation-trans _ _ _ (IsPermutation-append_right news (put_row n rows) (n ∷ rows) (put_beside n rows e)) (IsPermutation-middle news n rows))

shaped_all : (news rows : List Row) → have_rowids news ≡ true → IsShaped TableShape rows → IsShaped TableShape (put_all rows news)
shaped_all [] rows h up = up
shaped_all (n ∷ news) rows h up = go (is_int (rowid n)) refl h (λ k. shaped_all news (put_row n rows) k)
  where
    go : (b : Bool) → is_int (rowid n) ≡ b → (b && have_rowids news) ≡ true → (have_rowids news ≡ true → IsShaped TableShape (put_row n rows) → IsShaped TableShape (put_all (put_row n rows) news))
        → IsShaped TableShape (put_all (put_row n rows) news)
    go true e k more = more k (IsShaped-put_row n rows e up)
    go false e k more = absurd cc

-- ---- INSERT INTO t(..) VALUES(..)

fresh_one : (b : Bool) → (not b && true) ≡ true → b ≡ false
fresh_one true e = absurd cc
fresh_one false e = refl

-- a table without AUTOINCREMENT
abbrev uncounted : Table → Table
uncounted table = record table { is_counted = false }

module _ (at : ℕ) (given_table : Table) (place : slice_get kept_schema.tables at ≡ Some (uncounted given_table)) (text : List ℕ) (plain : IsPlain (understood kept_schema text)) (params : Row)
    (unstamped : stamped (uncounted given_table) params ≡ params) (terms : List Term) (width : ℕ) (row : List Row → Row)
    (made : (db : Trees) → (edit_of db (uncounted given_table) [] Chosen 0 (value_rows params width (length terms / width) terms)).news ≡ row (db given_table.tree) ∷ []) where
  pub inserts : command_of (understood kept_schema text) ≡ Insert at (Values terms width)
      → (old new : State) (count : ℕ) → old.now.schema ≡ kept_schema → Executes text params old new (Ok count) → Adds old new (uncounted given_table) (row (old.now.trees given_table.tree)) count
  inserts is old new count has h =
      let db = old.now.trees in
      let table = uncounted given_table in
      let command = Insert at (Values terms width) in
      let w = runs_as text params old new kept_schema has command is plain count h in
      let words = statement_of text (understood kept_schema text) in
      let here = subst (λ s. Does old.step_limit (mode_of old) params (record old.now { schema = s }) words None command (Ok (w.tally, new.now))) has w.changed in
      let done = went (subst (λ o. AtPlace (λ t. OnRows (record { limit = old.step_limit; keys = (mode_of old).keys; schema = kept_schema; table = t; params = params }) (mode_of old) None command db) o (Ok (w.tally, new.now))) place here) in
      let ends = same_value (went (went done.2).2).2 in
      let now = ap (λ (d : Tally × Database). d.1) ends in
      let given = went done.1 in
      let numbered = went given.2 in
      let written = went numbered.2 in
      let counted = went written.2 in
      let trees : done.0.trees ≡ written.0 = ap (λ (it : Written). it.trees) (same_value counted.2) ∙ same_value counted.1 in
      let edit = edit_of db table [] Chosen 0 given.0 in
      let step : Applies kept_schema (mode_of old).keys db edit written.0 = one_step kept_schema _ db written.0 edit refl written.1 in
      let same : new.now.trees ≡ written.0 = ap (λ (d : Database). d.trees) now ∙ trees in
      let r = row (db table.tree) in
      let values : given.0 ≡ value_rows params width (length terms / width) terms = given.1.1 ∙ ap (λ ps. value_rows ps width (length terms / width) terms) unstamped in
      let news : edit.news ≡ r ∷ [] = ap (λ all. (edit_of db table [] Chosen 0 all).news) values ∙ made db in
      let free : is_taken (db table.tree) r ≡ false = fresh_one _ (subst (λ xs. are_fresh (db table.tree) xs ≡ true) news step.fresh) in
      let keyed : have_rowids (r ∷ []) ≡ true = subst (λ xs. have_rowids xs ≡ true) news step.keyed in
      let put : new.now.trees table.tree ≡ put_row r (db table.tree) = ap (λ (t : Trees). t table.tree) same ∙ step.rows ∙ ap (put_all (db table.tree)) news in
      let rows : done.0.rows ≡ edit.news = ap (λ (it : Written). it.rows) (same_value counted.2) in
      record {
        schema = ap (λ (d : Database). d.schema) now;
        fresh = free;
        rows = subst (IsPermutation (r ∷ db table.tree)) (sym put) (IsPermutation-sym _ _ (put_beside r (db table.tree) free));
        shaped = λ up. subst (IsShaped TableShape) (sym put) (shaped_all (r ∷ []) (db table.tree) keyed up);
        others = subst (λ (t : Trees). AllByRecursion (λ (it : Table). it.tree ≢ table.tree → t it.tree ≡ db it.tree) kept_schema.tables) (sym same) step.tables;
        counted = w.counted ∙ ap (λ (d : Tally × Database). unwrap_or d.0.rows 0) ends ∙ ap length rows ∙ ap length news;
      }

-- ---- UPDATE t SET .. WHERE ..

-- what passes is changed, and what does not stays
in_two : (p : Row → Bool) (f : Row → Row) (rows : List Row) → IsPermutation (map f (filter p rows) ++ filter (λ r. not (p r)) rows) (map (λ r. if p r then f r else r) rows)
in_two p f [] = IsPermutation-refl _
in_two p f (r ∷ rows) = go (p r) refl (in_two p f rows)
  where
    go : (b : Bool) → p r ≡ b → IsPermutation (map f (filter p rows) ++ filter (λ r. not (p r)) rows) (map (λ r. if p r then f r else r) rows)
        → IsPermutation (map f (filter p (r ∷ rows)) ++ filter (λ r. not (p r)) (r ∷ rows)) (map (λ r. if p r then f r else r) (r ∷ rows))
    go true e more = rw e (IsPermutation-cons (f r) _ _ more)
    go false e more = rw e (IsPermutation-trans _ _ _ (IsPermutation-middle (map f (filter p rows)) r (filter (λ r. not (p r)) rows)) (IsPermutation-cons r _ _ more))

module _ (at : ℕ) (table : Table) (place : slice_get kept_schema.tables at ≡ Some table) (text : List ℕ) (plain : IsPlain (understood kept_schema text)) (params : Row) (fs : List Term) (p : Row → Bool)
    (passes : (r : Row) → list_all (holds (params ∷ r ∷ [])) fs ≡ p r) (sets : List Term) (f : Row → Row)
    (made : (r : Row) → cast_row table (drop 1 (output (plainly table.tree fs (col 1 0 ∷ sets)) (params ∷ r ∷ [])).1) ≡ f r) where
  pub updates : command_of (understood kept_schema text) ≡ Update at (record { lets = []; body = plainly table.tree fs (col 1 0 ∷ sets) })
      → (old new : State) (count : ℕ) → old.now.schema ≡ kept_schema → IsShaped TableShape (old.now.trees table.tree) → Executes text params old new (Ok count)
      → Rewrites old new table (map (λ r. if p r then f r else r) (old.now.trees table.tree)) (length (filter p (old.now.trees table.tree))) count
  updates is old new count has up h =
      let db = old.now.trees in
      let q = plainly table.tree fs (col 1 0 ∷ sets) in
      let g : Row → Row = λ r. (output q (params ∷ r ∷ [])).1 in
      let command = Update at (record { lets = []; body = q }) in
      let w = runs_as text params old new kept_schema has command is plain count h in
      let words = statement_of text (understood kept_schema text) in
      let here = subst (λ s. Does old.step_limit (mode_of old) params (record old.now { schema = s }) words None command (Ok (w.tally, new.now))) has w.changed in
      let done = went (subst (λ o. AtPlace (λ t. OnRows (record { limit = old.step_limit; keys = (mode_of old).keys; schema = kept_schema; table = t; params = params }) (mode_of old) None command db) o (Ok (w.tally, new.now))) place here) in
      let ends = same_value (went (went done.2).2).2 in
      let now = ap (λ (d : Tally × Database). d.1) ends in
      let found = went done.1 in
      let written = went found.2 in
      let trees : done.0.trees ≡ written.0 = ap (λ (it : Written). it.trees) (same_value written.2) in
      let edit = edit_of db table (ids_of found.0) Given 1 found.0 in
      let rows : done.0.rows ≡ edit.news = ap (λ (it : Written). it.rows) (same_value written.2) in
      let step : Applies kept_schema (mode_of old).keys db edit written.0 = one_step kept_schema _ db written.0 edit refl written.1 in
      let shown : IsPermutation (map g (filter p (db table.tree))) found.0 = taken_rows table.tree fs (col 1 0 ∷ sets) db params p found.0 passes (found.1.answer Null) in
      let ids : IsPermutation (map (λ r. rowid r ∷ []) (filter p (db table.tree))) (map (λ r. rowid r ∷ []) found.0) =
      subst (λ l. IsPermutation l (map (λ r. rowid r ∷ []) found.0)) (map-map (λ (r : Row). rowid r ∷ []) g (filter p (db table.tree))) (IsPermutation-map (λ (r : Row). rowid r ∷ []) _ _ shown) in
      let left : without_all (db table.tree) (ids_of found.0) ≡ filter (λ r. not (p r)) (db table.tree) =
      ap (without_all (db table.tree)) (sym (map-map (λ (r : Row). id_in (rowid r)) (λ (r : Row). rowid r ∷ []) found.0)) ∙ taken_out p (db table.tree) (map (λ r. rowid r ∷ []) found.0) up.0 up.1 ids in
      let news : edit.news ≡ map (λ s. cast_row table (drop 1 s)) found.0 = given (without_all (db table.tree) (ids_of found.0)) (map (λ s. cast_row table (drop 1 s)) found.0) in
      let changed : IsPermutation (map f (filter p (db table.tree))) edit.news =
      subst (IsPermutation (map f (filter p (db table.tree)))) (sym news)
      (subst (λ l. IsPermutation l (map (λ s. cast_row table (drop 1 s)) found.0)) (map-map (λ s. cast_row table (drop 1 s)) g (filter p (db table.tree)) ∙ map_same (λ r. cast_row table (drop 1 (g r))) f made (filter p (db table.tree)))
      (IsPermutation-map (λ s. cast_row table (drop 1 s)) _ _ shown)) in
      let all : IsPermutation (edit.news ++ without_all (db table.tree) (ids_of found.0)) (put_all (without_all (db table.tree) (ids_of found.0)) edit.news) =
      IsPermutation-sym _ _ (fresh_all edit.news (without_all (db table.tree) (ids_of found.0)) step.fresh) in
      let whole : IsPermutation (map (λ r. if p r then f r else r) (db table.tree)) (put_all (without_all (db table.tree) (ids_of found.0)) edit.news) =
      IsPermutation-trans _ _ _ (IsPermutation-sym _ _ (in_two p f (db table.tree)))
      (IsPermutation-trans _ _ _ (subst (λ l. IsPermutation (map f (filter p (db table.tree)) ++ l) (edit.news ++ without_all (db table.tree) (ids_of found.0))) left (IsPermutation-append_left (without_all (db table.tree) (ids_of found.0)) _ _ changed)) all) in
      let same : new.now.trees ≡ written.0 = ap (λ (d : Database). d.trees) now ∙ trees in
      let is_now : new.now.trees table.tree ≡ put_all (without_all (db table.tree) (ids_of found.0)) edit.news = ap (λ (t : Trees). t table.tree) same ∙ step.rows in
      record {
        schema = ap (λ (d : Database). d.schema) now;
        rows = subst (IsPermutation (map (λ r. if p r then f r else r) (db table.tree))) (sym is_now) whole;
        shaped = subst (IsShaped TableShape) (sym is_now) (shaped_all edit.news _ step.keyed (subst (IsShaped TableShape) (sym left) (IsShaped-filter TableShape (λ r. not (p r)) (db table.tree) up)));
        others = subst (λ (t : Trees). AllByRecursion (λ (it : Table). it.tree ≢ table.tree → t it.tree ≡ db it.tree) kept_schema.tables) (sym same) step.tables;
        counted = w.counted ∙ ap (λ (d : Tally × Database). unwrap_or d.0.rows 0) ends ∙ ap length (rows ∙ news) ∙ length-map found.0 (λ s. cast_row table (drop 1 s)) ∙ shown_count g (filter p (db table.tree)) found.0 shown;
      }
