-- What becomes of one table.
use Rattle.std.proofs.Common.{◌≡◌, ◌∙◌, ℕ, suc, ◌+◌, ◌-◌, ◌^◌, ◌<◌, ◌≤◌, ◌==◌, Bool, true, false, cond, not, List, [], ◌∷◌, ◌++◌, length, min, Option, None, Some, Ok, Err, ap, ap₂, arith, length-append, refl, subst, sym}
use Rattle.std.specs.Prelude.{IfSome, Vec, option_map}
use Rattle.std.specs.BTreeMap.{IsOrdered}
use Rattle.std.specs.List.{AllByRecursion, list_any}
use Rattle.std.specs.List.Sorted.{IsStrictlySortedBy}
use Rattle.std.specs.Map.{keys_of}
use Rattle.std.specs.Ordering.{nat_cmp}
use Rattle.std.specs.declared.alloc.Global.{Global}
use Rattle.std.proofs.lemmas.Bool.{eqb-true}
use Rattle.std.proofs.lemmas.Bool.Decides.{nat_tests}
use Rattle.std.proofs.lemmas.List.{length-map}
use Rattle.fx_types.specs.Values.{Data}
use Rattle.fx_core.specs.declared.schema.Column.{Column}
use Rattle.fx_value.specs.Keys.{IsProper}
use Rattle.sqlite_trees.specs.Tree.{IsAscending}
use Rattle.sql_meanings.specs.Lines.{LinesOf, has_number, with_body, without_line}
use Rattle.row_queries.specs.TableRows.{AreCellsOf}
use Rattle.row_keeper.specs.RowRules.{rule_in}
use Rattle.row_keeper.specs.Tables.{TableState, has_id}
use Rattle.row_keeper.specs.declared.keeper.KeeperEnd.{KeeperEnd}
use Rattle.row_keeper.specs.declared.rows.Put.TheVariants.{Id}
use Rattle.row_keeper.proofs.PutLemmas.{has_room}
use Rattle.row_lines.specs.Bodies.{line_bytes}
use Rattle.row_lines.specs.FromBytes.{cells_in}
use Rattle.row_changes.specs.Moves.{Adds, IsSame, Puts}
use Rattle.row_changes.specs.Overlay.{AreOf, body_at, last_of, lines_from, made_of_kept, overlay}
use Rattle.row_changes.specs.declared.table.Change.{Change}
use Rattle.row_changes.specs.declared.table.TableChanges.{TableChanges}
use Rattle.row_changes.proofs.MoveLemmas.{change_in}
use Rattle.row_changes.proofs.OverlayLemmas.{kept_alike, overlay_rising}
use Rattle.store_model.specs.Decoded.{row_in, state_in}
use Rattle.store_model.specs.Going.{GoesOn, IsBodyOf}
use Rattle.store_model.specs.Steady.{AreLinesOf, IsCounted}
use Rattle.store_model.specs.declared.counts.RowCount.{RowCount}
use Rattle.store_model.proofs.RowLemmas.{row_added, row_missing, row_put, row_removed, row_there}
use Rattle.store_rows.specs.Puts.{GoesSo, IsInOrder, LessRow, NewRow, OverRow, state_over}

-- ---- a body

pub body_of_cells : (columns : List Column) (body : List ℕ) (cells : List Data) → cells_in columns body ≡ cells → body ≡ line_bytes cells → AreCellsOf columns cells → AllByRecursion IsProper cells → IsBodyOf columns body
body_of_cells columns body cells told is fit proper id low = record {
  id = low;
  fit = subst (AreCellsOf columns) (sym told) fit;
  proper = subst (AllByRecursion IsProper) (sym told) proper;
  body = ap line_bytes told ∙ sym is;
}

-- ---- nothing changes

same_lines : (c d : TableChanges) (kept : LinesOf) → IsSame c d → overlay d kept ≡ overlay c kept
same_lines c d kept same =
    ap₂ ◌++◌ (kept_alike (made_of_kept c) (made_of_kept d) (λ q. ap (λ (es : List (ℕ × Change)). option_map (λ x. x.1) (change_in es q)) same.changed) kept) (ap₂ (λ f (bs : List (Option (Vec ℕ Global))). lines_from (suc f) bs) same.first same.added)

same_last : (c d : TableChanges) → IsSame c d → last_of d ≡ last_of c
same_last c d same = ap₂ (λ f (bs : List (Option (Vec ℕ Global))). f + length bs) same.first same.added

kept_same : (c d : TableChanges) (kept : LinesOf) → IsSame c d → AreOf kept c → AreOf kept d
kept_same c d kept same h = record {
  rising = h.rising;
  given = subst (λ f. AllByRecursion (λ (x : ℕ × List ℕ). x.0 ≤ f) kept) (sym same.first) h.given;
  had = λ q. subst (λ (es : List (ℕ × Change)). IfSome (change_in es q) (λ x. body_at q kept ≡ Some x.0)) (sym same.changed) (h.had q);
}

module _ (kept : LinesOf) (columns : List Column) (c d : TableChanges) (n : RowCount) (same : IsSame c d) (h : IsInOrder kept columns c n) where
  same_order : IsOrdered nat_cmp d.changed
  same_order = subst (λ (es : List (ℕ × Change)). IsStrictlySortedBy nat_cmp (keys_of es)) (sym same.changed) h.ordered

  goes_same : GoesOn kept columns c d
  goes_same = record { first = same.first; ordered = same_order; changes = kept_same c d kept same h.changes; rows = subst (AreLinesOf columns) (sym (same_lines c d kept same)) h.rows }

  state_same : state_over kept columns d ≡ state_over kept columns c
  state_same = ap₂ (λ xs m. state_in columns xs m) (same_lines c d kept same) (same_last c d same)

  counted_same : IsCounted kept d n
  counted_same = record { now = h.counted.now ∙ ap length (sym (same_lines c d kept same)); then = h.counted.then }

  pub stays_so : {T : Type 0} (Goes : T → TableState → TableState → Type 0) (e : KeeperEnd) → GoesSo kept columns c d n Goes (Err e)
  stays_so Goes e = record { goes = goes_same; counted = counted_same; ok = tt; err = state_same }

  pub answers_so : {T : Type 0} (Goes : T → TableState → TableState → Type 0) (x : T) → (state_over kept columns d ≡ state_over kept columns c → Goes x (state_over kept columns c) (state_over kept columns d)) → GoesSo kept columns c d n Goes (Ok x)
  answers_so Goes x is = record { goes = goes_same; counted = counted_same; ok = is state_same; err = tt }

pub itself : (c : TableChanges) → IsSame c c
itself c = record { first = refl; changed = refl; added = refl }

-- ---- a row more

module _ (kept : LinesOf) (columns : List Column) (c d : TableChanges) (n m : RowCount) (all : ℕ) (cells : List Data) (body : List ℕ) (h : IsInOrder kept columns c n) (fit : AreCellsOf columns cells) (proper : AllByRecursion IsProper cells) where
  pub added_so : (id : ℕ) → rule_in columns (state_over kept columns c) all None cells ≡ None → last_of c < 2 ^ 32 → Adds c d body → d.first ≡ c.first → IsOrdered nat_cmp d.changed → cells_in columns body ≡ cells → body ≡ line_bytes cells → id ≡ last_of d
      → m.now ≡ min (n.now + 1) (2 ^ 32 - 1) → m.then ≡ n.then → GoesSo kept columns c d m (NewRow columns all cells) (Ok (Id id))
  added_so id free low adds first ordered told is number more still =
      let row = row_added kept columns c d body cells h.changes h.rows adds first ordered (body_of_cells columns body cells told is fit proper) told in
      let room = has_room columns (state_over kept columns c) all cells free low in
      let few = length-map (overlay c kept) (row_in columns) in
      let long : length (overlay d kept) ≡ length (overlay c kept) + 1 = ap length (adds.lines kept) ∙ length-append (overlay c kept) ((last_of d, body) ∷ []) ∙ omega arith in
      let counted = h.counted.now in
      let one : m.now ≡ length (overlay d kept) = omega (arith, more, counted, long, few, room.1) in
      record { goes = row.0; counted = record { now = one; then = still ∙ h.counted.then }; ok = (free, number ∙ adds.last, row.1); err = tt }

-- ---- other cells in a row, and a row less

-- without the line of a number there is one line less
kept_whole : (id : ℕ) (xs : LinesOf) → AllByRecursion (λ (x : ℕ × List ℕ). id < x.0) xs → length (without_line id xs) ≡ length xs
kept_whole id [] h = refl
kept_whole id (x ∷ xs) h = (let low = h.0 in let other : (x.0 == id) ≡ false = grind (arith, nat_tests) in ap (λ b. length (cond (not b) (x ∷ without_line id xs) (without_line id xs))) other ∙ ap suc (kept_whole id xs h.1))

one_less : (id : ℕ) (was : List ℕ) (xs : LinesOf) → IsAscending (λ (a b : ℕ × List ℕ). a.0 < b.0) xs → body_at id xs ≡ Some was → length (without_line id xs) + 1 ≡ length xs
one_less id was [] up e = absurd cc
one_less id was (x ∷ xs) up e = go (x.0 == id) refl e (one_less id was xs up.1)
  where
    go : (b : Bool) → (x.0 == id) ≡ b → cond b (Some x.1) (body_at id xs) ≡ Some was → (body_at id xs ≡ Some was → length (without_line id xs) + 1 ≡ length xs) → length (cond (not (x.0 == id)) (x ∷ without_line id xs) (without_line id xs)) + 1 ≡ suc (length xs)
    go true same f rest =
        let q : x.0 ≡ id = eqb-true x.0 id same in
        let whole = kept_whole id xs (subst (λ k. AllByRecursion (λ (y : ℕ × List ℕ). k < y.0) xs) q up.0) in
        ap (λ b. length (cond (not b) (x ∷ without_line id xs) (without_line id xs)) + 1) same ∙ omega (arith, whole)
    go false same f rest = (let less = rest f in ap (λ b. length (cond (not b) (x ∷ without_line id xs) (without_line id xs)) + 1) same ∙ omega (arith, less))

module _ (kept : LinesOf) (columns : List Column) (c d : TableChanges) (n : RowCount) (id : ℕ) (was : List ℕ) (h : IsInOrder kept columns c n) (there : body_at id (overlay c kept) ≡ Some was) where
  pub is_there : list_any (has_id id) (state_over kept columns c).rows ≡ true
  is_there = row_there columns id was (overlay c kept) there

  long_put : (body : List ℕ) (xs : LinesOf) → length (with_body id body xs) ≡ length xs
  long_put body xs = length-map xs (λ (x : ℕ × List ℕ). cond (has_number id x) (x.0, body) x)

  pub put_so : (all : ℕ) (cells : List Data) (body : List ℕ) → AreCellsOf columns cells → AllByRecursion IsProper cells → rule_in columns (state_over kept columns c) all (Some id) cells ≡ None → Puts c d id was (Some body)
      → d.first ≡ c.first → IsOrdered nat_cmp d.changed → cells_in columns body ≡ cells → body ≡ line_bytes cells → GoesSo kept columns c d n (OverRow columns all id cells) (Ok (Id id))
  put_so all cells body fit proper free puts first ordered told is =
      let row = row_put kept columns c d id was body cells h.changes h.rows there puts first ordered (body_of_cells columns body cells told is fit proper) told in
      let long : length (overlay d kept) ≡ length (overlay c kept) = ap length (puts.lines kept h.changes there) ∙ long_put body (overlay c kept) in
      record { goes = row.0; counted = record { now = h.counted.now ∙ sym long; then = h.counted.then }; ok = (refl, is_there, free, row.1); err = tt }

  pub removed_so : (m : RowCount) → Puts c d id was None → d.first ≡ c.first → IsOrdered nat_cmp d.changed → m.now ≡ n.now - 1 → m.then ≡ n.then → GoesSo kept columns c d m (LessRow id) (Ok true)
  removed_so m puts first ordered less still =
      let row = row_removed kept columns c d id was h.changes h.rows there puts first ordered in
      let one = one_less id was (overlay c kept) (overlay_rising c kept h.changes) there in
      let long = ap length (puts.lines kept h.changes there) in
      let counted = h.counted.now in
      let now : m.now ≡ length (overlay d kept) = omega (arith, less, counted, long, one) in
      record { goes = row.0; counted = record { now = now; then = still ∙ h.counted.then }; ok = (is_there, row.1); err = tt }

pub missing_so : (kept : LinesOf) (columns : List Column) (c : TableChanges) (id : ℕ) → body_at id (overlay c kept) ≡ None → list_any (has_id id) (state_over kept columns c).rows ≡ false
missing_so kept columns c id none = row_missing columns id (overlay c kept) none
