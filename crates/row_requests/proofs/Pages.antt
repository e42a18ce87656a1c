-- What is shown of rows.
use Rattle.std.proofs.Common.{◌≡◌, ◌⊎◌, inl, inr, min, ℕ, zero, suc, ◌+◌, ◌≤◌, ◌<◌, List, [], ◌∷◌, take, length, get_or, add-one, Option, Some, None, refl, ap, ap₂, sym, ◌∙◌, subst, arith}
use Rattle.std.specs.Prelude.{IfSome, encode_utf8_all, nat_lt, slice_get}
use Rattle.std.proofs.lemmas.Bool.Decides.{nat_tests}
use Rattle.std.proofs.lemmas.Bool.{cases_lt}
use Rattle.std.proofs.lemmas.List.{length-take, take-take, take_all}
use Rattle.app_wire.specs.ReplyBytes.{reply}
use Rattle.fx_base.specs.Silence.{MayFallSilent}
use Rattle.fx_core.specs.declared.schema.Column.{Column}
use Rattle.row_queries.specs.TableRows.{AreCellsOf}
use Rattle.row_queries.specs.declared.rows.Row.{Row}
use Rattle.row_keeper.specs.Tables.{Tables, state_at}
use Rattle.fx_types.specs.Values.{Data}
use Rattle.serde_json.specs.Data.{Members, put}
use Rattle.serde_json.specs.Written.{compact_text}
use Rattle.view_text.specs.JsonText.{value_data}
use Rattle.row_requests.specs.Page.{Shows, VisitsTable, page_data, page_reply, past, with_values}
use Rattle.row_requests.specs.PageRows.{AreShown}
use Rattle.row_requests.specs.Queries.{HasNumberedRows, FindsRows, VisitsPast}

-- one row more than a page shows tells whether there are more
longer : (n : ℕ) (rows : List Row) → n ≡ length (take 101 rows) → nat_lt 100 n ≡ nat_lt 100 (length rows)
longer n rows e = let k = length-take 101 rows in grind (arith, nat_tests, e, k)

pub page_of_some : (columns : List Column) (rows : List Row) → page_reply columns (take 101 rows) ≡ page_reply columns rows
page_of_some columns rows =
    ap₂ (λ shown more. reply 200 (compact_text (page_data columns shown more))) (take-take 100 101 rows (omega arith)) (longer (length (take 101 rows)) rows refl)

-- what was found is shown
pub shows : (lost : Type 0) (k after : ℕ) (found : List Row) (columns : List Column) (said : List ℕ) → said ≡ page_reply columns found
    → (x y : Option Tables) → IfSome x (λ (t : Tables). HasNumberedRows (state_at t.states k)) → MayFallSilent lost (FindsRows k after found) x y → MayFallSilent lost (Shows k after said columns) x y
shows lost k after found columns said e None y h g = g
shows lost k after found columns said e (Some a) None h g = g
shows lost k after found columns said e (Some a) (Some b) h g = (
  e ∙ ap (page_reply columns) (g.0 h) ∙ page_of_some columns (past after (state_at a.states k).rows),
  g.1,
)

pub visits : (k after before now : ℕ) (x : Option Tables) → IfSome x (λ (t : Tables). HasNumberedRows (state_at t.states k)) → VisitsPast k after x before now → VisitsTable (Some k) after x before now
visits k after before now None numbered h = tt
visits k after before now (Some t) numbered h = h numbered

-- ---- the values of a row, one after another

pub values_more : (cs : List Column) (ds : List Data) (ms : Members) (k : ℕ) (c : Column) (d : Data) → slice_get cs k ≡ Some c → slice_get ds k ≡ Some d
    → with_values (take (k + 1) cs) (take (k + 1) ds) ms ≡ put (encode_utf8_all c.name) (value_data d) (with_values (take k cs) (take k ds) ms)
values_more [] ds ms k c d e f = absurd cc
values_more (x ∷ cs) [] ms k c d e f = absurd cc
values_more (x ∷ cs) (y ∷ ds) ms zero c d e f = ap₂ (λ (z : Column) w. put (encode_utf8_all z.name) (value_data w) ms) (same e) (alike f)
  where
    same : Some x ≡ Some c → x ≡ c
    same k = cc

    alike : Some y ≡ Some d → y ≡ d
    alike k = cc
values_more (x ∷ cs) (y ∷ ds) ms (suc k) c d e f =
    ap (λ n. with_values (take n (x ∷ cs)) (take n (y ∷ ds)) ms) (add-one (suc k))
    ∙ ap (λ n. with_values (take n cs) (take n ds) (put (encode_utf8_all x.name) (value_data y) ms)) (sym (add-one k))
    ∙ values_more cs ds (put (encode_utf8_all x.name) (value_data y) ms) k c d e f

-- ---- rows that can be shown

pub shown_at : (columns : List Column) (rows : List Row) (i : ℕ) (r : Row) → AreShown columns rows → i < length rows → r ≡ get_or rows i r → AreCellsOf columns r.cells
shown_at columns [] i r h l e = absurd (omega (arith, l))
shown_at columns (x ∷ rows) zero r h l e = subst (λ (y : Row). AreCellsOf columns y.cells) (sym e) h.0
shown_at columns (x ∷ rows) (suc i) r h l e = shown_at columns rows i r h.1 (omega (arith, l)) e

pub first_shown : (columns : List Column) (rows : List Row) (n : ℕ) → AreShown columns rows → AreShown columns (take n rows)
first_shown columns rows zero h = tt
first_shown columns [] (suc n) h = tt
first_shown columns (r ∷ rows) (suc n) h = (h.0, first_shown columns rows n h.1)

-- as many as a page shows, where there are as many
pub first_of_all : (rows : List Row) (n : ℕ) → n ≡ min (length rows) 100 → take n rows ≡ take 100 rows
first_of_all rows n e = by (cases_lt 100 (length rows))
  where
    by : (100 < length rows) ⊎ (length rows ≤ 100) → take n rows ≡ take 100 rows
    by (inl h) = let k : n ≡ 100 = omega (arith, e, h) in ap (λ m. take m rows) k
    by (inr h) = let k : length rows ≤ n = omega (arith, e, h) in take_all n rows k ∙ sym (take_all 100 rows h)
