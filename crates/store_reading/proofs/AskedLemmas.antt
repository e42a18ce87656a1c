-- Rows that were read, and what a query asks of them.
use Rattle.std.proofs.Common.{◌≡◌, ◌+◌, ◌<◌, ◌≤◌, ℕ, List, [], ◌∷◌, ◌++◌, ap, arith, get_or, length, subst, sym, take, ◌∙◌}
use Rattle.std.specs.List.{AllByRecursion}
use Rattle.std.proofs.lemmas.List.{take_more}
use Rattle.row_queries.specs.TableRows.{AreInIdOrder}
use Rattle.row_queries.specs.declared.rows.Row.{Row}
use Rattle.row_keeper.proofs.RowLists.{order_more}
use Rattle.row_lines.proofs.CellLemmas.{all_more}

-- rows by rising numbers, none of them above this one
abbrev pub RiseTo : ℕ → List Row → Type 0
RiseTo n rows = AllByRecursion (λ (r : Row). r.id ≤ n) rows × AreInIdOrder rows

at_most_more : (n m : ℕ) (rows : List Row) → n < m → AllByRecursion (λ (r : Row). r.id ≤ n) rows → AllByRecursion (λ (r : Row). r.id ≤ m) rows
at_most_more n m [] l h = tt
at_most_more n m (r ∷ rows) l h = (let k = h.0 in omega (arith, k, l), at_most_more n m rows l h.1)

pub rise_on : (rows : List Row) (i n : ℕ) (r : Row) → RiseTo n (take i rows) → i < length rows → r ≡ get_or rows i r → n < r.id → RiseTo r.id (take (i + 1) rows)
rise_on rows i n r h l e b =
    subst (RiseTo r.id) (sym (take_more rows i r l ∙ ap (λ x. take i rows ++ x ∷ []) (sym e)))
    (all_more (λ (x : Row). x.id ≤ r.id) (take i rows) r (at_most_more n r.id (take i rows) b h.0) (omega arith), order_more n (take i rows) r b h.0 h.1)
