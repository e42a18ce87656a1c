-- Tables without rows.
use Rattle.std.proofs.Common.{◌≡◌, ◌<◌, ℕ, List, [], filter, map, None, Less, IsPermutation, option_to_list, refl, subst, sym}
use Rattle.std.specs.Prelude.{IfSome}
use Rattle.std.specs.List.{AllByRecursion}
use Rattle.std.proofs.lemmas.List.Sorted.{IsPermutation-refl}
use Rattle.sqlite.specs.Order.{Row}
use Rattle.sqlite.specs.State.{State}
use Rattle.sqlite.specs.Tree.{Trees}
use Rattle.sqlite_trees.specs.Tree.{IsAscending}
use Rattle.sqlite_keyed.specs.Lists.{sort_by}
use Rattle.sql_meanings.specs.Body.{body_at, is_one, shown_body}
use Rattle.sql_meanings.specs.Lasts.{last_at, shown_last}
use Rattle.sql_meanings.specs.Lines.{is_of_tab, line_at, shown_line}
use Rattle.sql_meanings.specs.Marks.{is_of_column, mark_at, mark_cmp, shown_mark}
use Rattle.sql_meanings.specs.UnderWay.{AreEmpty, IsNew}
use Rattle.sql_contents.specs.Contents.{Holds, contents_of, first_body, last_in, line_in, mark_in, number_cmp}
use Rattle.store_model.specs.Model.{Kept}
use Rattle.store_model.specs.Steady.{AreCounted, IsShapedSo, IsSteady, IsUnchanged}

lines_held : (rows : List Row) (tab : ℕ) → rows ≡ [] → IsPermutation (map line_at (sort_by number_cmp (map line_in (map shown_line (filter (is_of_tab tab) rows))))) (map shown_line (filter (is_of_tab tab) rows))
    × IsAscending (λ (a b : ℕ × List ℕ). a.0 < b.0) (sort_by number_cmp (map line_in (map shown_line (filter (is_of_tab tab) rows))))
lines_held rows tab none =
    subst (λ rs. IsPermutation (map line_at (sort_by number_cmp (map line_in (map shown_line (filter (is_of_tab tab) rs))))) (map shown_line (filter (is_of_tab tab) rs))
    × IsAscending (λ (a b : ℕ × List ℕ). a.0 < b.0) (sort_by number_cmp (map line_in (map shown_line (filter (is_of_tab tab) rs))))) (sym none) (IsPermutation-refl [], tt)

marks_held : (rows : List Row) (tab col : ℕ) → rows ≡ [] → IsPermutation (map mark_at (sort_by mark_cmp (map mark_in (map shown_mark (filter (is_of_column tab col) rows))))) (map shown_mark (filter (is_of_column tab col) rows))
    × IsAscending (λ a b. mark_cmp a b ≡ Less) (sort_by mark_cmp (map mark_in (map shown_mark (filter (is_of_column tab col) rows))))
marks_held rows tab col none =
    subst (λ rs. IsPermutation (map mark_at (sort_by mark_cmp (map mark_in (map shown_mark (filter (is_of_column tab col) rs))))) (map shown_mark (filter (is_of_column tab col) rs))
    × IsAscending (λ a b. mark_cmp a b ≡ Less) (sort_by mark_cmp (map mark_in (map shown_mark (filter (is_of_column tab col) rs))))) (sym none) (IsPermutation-refl [], tt)

lasts_held : (rows : List Row) → rows ≡ [] → IsPermutation (map last_at (sort_by number_cmp (map last_in (map shown_last rows)))) (map shown_last rows) × IsAscending (λ (a b : ℕ × ℕ). a.0 < b.0) (sort_by number_cmp (map last_in (map shown_last rows)))
lasts_held rows none =
    subst (λ rs. IsPermutation (map last_at (sort_by number_cmp (map last_in (map shown_last rs)))) (map shown_last rs) × IsAscending (λ (a b : ℕ × ℕ). a.0 < b.0) (sort_by number_cmp (map last_in (map shown_last rs)))) (sym none) (IsPermutation-refl [], tt)

pub held_empty : (trees : Trees) → AreEmpty trees → Holds trees (contents_of trees)
held_empty trees e = record {
  body = record { stored = subst (λ rs. IsPermutation (map body_at (option_to_list (first_body (map shown_body (filter is_one rs))))) (map shown_body (filter is_one rs))) (sym e.shape) (IsPermutation-refl []) };
  lasts = (let h = lasts_held (trees 1) e.tabs in record { lasts = h.0; order = h.1 });
  lines = λ tab. (let h = lines_held (trees 2) tab e.lines in record { lines = h.0; order = h.1 });
  marks = λ tab col. (let h = marks_held (trees 4) tab col e.marks in record { marks = h.0; order = h.1 });
}

-- a keeper whose tables were made knows them
pub new_steady : {S : Type 0} (s : State) (k : Kept S) → IsNew s → k.schema ≡ None → k.tables ≡ [] → k.counts ≡ [] → k.moved ≡ None → IsSteady s k
new_steady s k new schema tables counts moved = record {
  ready = new.ready;
  held = held_empty s.now.trees new.empty;
  shaped = subst (λ o. IfSome o (λ p. IsShapedSo (contents_of s.now.trees) p k.tables)) (sym schema) tt;
  unshaped = λ _. (tables, new.empty);
  counted = subst (λ cs. AreCounted (contents_of s.now.trees) 0 cs k.counts) (sym tables) (subst (λ ns. AreCounted (contents_of s.now.trees) 0 [] ns) (sym counts) tt);
  still = λ _. (subst (λ cs. AllByRecursion IsUnchanged cs) (sym tables) tt, moved);
}
