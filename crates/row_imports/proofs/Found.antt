-- The first row of a key, as it is found.
use Rattle.std.proofs.Common.{◌≡◌, ℕ, zero, suc, ◌+◌, ◌≤◌, ◌⊎◌, inl, inr, ◌||◌, Bool, true, false, cond, List, [], ◌∷◌, ◌++◌, map, filter, take, length, Option, Some, None, refl, ap, ap₂, sym, ◌∙◌, subst, arith}
use Rattle.std.specs.Prelude.{IsSomeAnd, IfSome, MatchOption, option_to_list, slice_get}
use Rattle.std.specs.List.{All, AllByRecursion, find, list_any}
use Rattle.std.proofs.lemmas.List.Elements.{filter_agree, recursion_from_All}
use Rattle.std.proofs.lemmas.Option.{same_Some}
use Rattle.fx_base.specs.Silence.{MayFallSilent}
use Rattle.fx_types.specs.TypeView.{shape}
use Rattle.fx_types.specs.Values.{Data, blank, number, text, boolean, date, rec, tab, fault}
use Rattle.fx_types.specs.declared.comparisons.Cmp.TheVariants.{Eq}
use Rattle.fx_core.specs.declared.schema.Column.{Column}
use Rattle.fx_core.specs.declared.schema.TableShape.{TableShape}
use Rattle.fx_value.specs.Keys.{IsProper, KeysOrder, key_bytes}
use Rattle.fx_value.specs.Operators.{CanCompare}
use Rattle.fx_value.specs.Order.{IsScalar}
use Rattle.row_queries.specs.Answers.{IsScanAnswer}
use Rattle.row_queries.specs.Laws.{AskedOnce}
use Rattle.row_queries.specs.Queries.{IsQuery, IsScanned, first_outcome_fault, given_of, lies, outcome_on, rows_or_fault}
use Rattle.row_queries.specs.RowTests.{IsFaultOr, Outcome, decided, is_met, unless_fault}
use Rattle.row_queries.specs.TableRows.{AreCellsOf, AreHeldRows, IsHeldRow, IsRowOf, values_of}
use Rattle.row_queries.specs.declared.rows.Row.{Row}
use Rattle.row_queries.specs.declared.rows.RowList.{RowList}
use Rattle.row_keeper.specs.Changes.{Scans}
use Rattle.row_keeper.specs.RowRules.{has_value}
use Rattle.row_keeper.specs.Rules.{FitsColumn, is_other_row, only_key}
use Rattle.row_keeper.specs.Sound.{IsSoundRow, lies_among}
use Rattle.row_keeper.specs.Tables.{Tables, rows_told, state_at}
use Rattle.row_keeper.proofs.NumberedRows.{asked_is, filter_wider, one, rows_are}
use Rattle.row_keeper.proofs.RuleLemmas.{repeated, scalar_of}
use Rattle.row_imports.specs.Imports.{keyed}
use Rattle.row_imports.specs.Lines.{CanSeek, FindsKeyed, one_keyed}
use Rattle.row_imports.proofs.OneType.{one_type}

-- ---- the test of a key

no_fault : (d : Data) (o : Outcome) → IsScalar d → unless_fault d o ≡ o
no_fault blank o s = refl
no_fault (number z) o s = refl
no_fault (text cs) o s = refl
no_fault (boolean b) o s = refl
no_fault (date z) o s = refl
no_fault (rec fs) o s = absurd s
no_fault (tab rs) o s = absurd s
no_fault (fault k cs) o s = absurd s

outcome_is : (table key : ℕ) (d : Data) → IsScalar d → (r : Row) → outcome_on (one_keyed table key d) r ≡ decided (has_value key d r)
outcome_is table key d s r = no_fault d (decided (has_value key d r)) s

met_is : (table key : ℕ) (d : Data) → IsScalar d → (r : Row) → is_met (outcome_on (one_keyed table key d) r) ≡ has_value key d r
met_is table key d s r = ap is_met (outcome_is table key d s r) ∙ met (has_value key d r)
  where
    met : (b : Bool) → is_met (decided b) ≡ b
    met true = refl
    met false = refl

clear_keyed : (table key : ℕ) (d : Data) → IsScalar d → (rows : List Row) → first_outcome_fault (map (outcome_on (one_keyed table key d)) rows) ≡ None
clear_keyed table key d s [] = refl
clear_keyed table key d s (r ∷ rows) =
    ap (λ o. first_outcome_fault (o ∷ map (outcome_on (one_keyed table key d)) rows)) (outcome_is table key d s r) ∙ by (has_value key d r) (clear_keyed table key d s rows)
  where
    by : (b : Bool) → first_outcome_fault (map (outcome_on (one_keyed table key d)) rows) ≡ None → first_outcome_fault (decided b ∷ map (outcome_on (one_keyed table key d)) rows) ≡ None
    by true ih = ih
    by false ih = ih

-- ---- the range of a key

held_sound : (t : TableShape) (r : Row) → IsHeldRow t r → IsSoundRow t.columns r
held_sound t r h = record { id = h.0.0; fit = h.0.1; proper = (recursion_from_All IsProper (values_of r) h.1).1 }

lies_key : KeysOrder → (columns : List Column) (place : ℕ) (d : Data) (r : Row) → IsSoundRow columns r → FitsColumn columns place d → IsProper d → lies_among (suc place) (only_key (key_bytes d) ∷ []) r ≡ has_value (suc place) d r
lies_key keys columns place d r sound fits proper =
    same (lies_among (suc place) (only_key (key_bytes d) ∷ []) r) (has_value (suc place) d r) (repeated keys columns place d None fits proper (r ∷ []) (sound, tt))
  where
    same : (a b : Bool) → list_any (is_other_row None) (cond a (r ∷ []) []) ≡ (b || false) → a ≡ b
    same true true e = refl
    same true false e = e
    same false true e = e
    same false false e = refl

lie_keyed : KeysOrder → (table place : ℕ) (t : TableShape) (d : Data) → FitsColumn t.columns place d → IsProper d → (rows : List Row) → AllByRecursion (IsHeldRow t) rows → filter (lies (one_keyed table (suc place) d)) rows ≡ filter (has_value (suc place) d) rows
lie_keyed keys table place t d fits proper [] h = refl
lie_keyed keys table place t d fits proper (r ∷ rows) h =
    ap₂ (λ b l. cond b (r ∷ l) l) (lies_key keys t.columns place d r (held_sound t r h.0) fits proper) (lie_keyed keys table place t d fits proper rows h.1)

-- ---- what a scan gives

first_found : (p : Row → Bool) (rows : List Row) → take 1 (filter p rows) ≡ one (find p rows)
first_found p [] = refl
first_found p (r ∷ rows) = by (p r) (first_found p rows)
  where
    by : (b : Bool) → take 1 (filter p rows) ≡ one (find p rows) → take 1 (cond b (r ∷ filter p rows) (filter p rows)) ≡ one (cond b (Some r) (find p rows))
    by true ih = refl
    by false ih = ih

given_keyed : AskedOnce → KeysOrder → (table place : ℕ) (t : TableShape) (d : Data) → FitsColumn t.columns place d → IsProper d → (rows : List Row) (answer : RowList) → AreHeldRows t rows → IsScanned (one_keyed table (suc place) d) rows answer
    → answer.rows ≡ one (keyed (suc place) d rows)
given_keyed law keys table place t d fits proper rows answer held (asked, is, answered) =
    let q = one_keyed table (suc place) d in
    let s = scalar_of t.columns place d fits in
    let has : Row → Bool = has_value (suc place) d in
    ap (λ (a : RowList). a.rows) answered
    ∙ ap (λ o. (rows_or_fault (given_of q asked) o).rows) (clear_keyed table (suc place) d s asked)
    ∙ ap (take 1) (filter_agree (λ r. is_met (outcome_on q r)) has (met_is table (suc place) d s) asked
    ∙ ap (filter has) (asked_is law q refl rows asked held.0 is ∙ lie_keyed keys table place t d fits proper rows (recursion_from_All (IsHeldRow t) rows held.1))
    ∙ filter_wider has has (λ r e. e) rows)
    ∙ first_found has rows

-- the last of a list of at most one is that one
last_of_one : (found : Option Row) (xs left : List Row) (o : Option Row) (n m : ℕ) → n ≡ length xs → m ≡ length left → xs ≡ left ++ option_to_list found
    → MatchOption found ((n ≡ 0) × (m ≡ 0)) (λ _. m + 1 ≡ n) → xs ≡ one o → found ≡ o
last_of_one None xs left None n m p q h count e = refl
last_of_one None xs left (Some r) n m p q h count e = absurd (omega (arith, p, count.0, ap length e))
last_of_one (Some x) xs left None n m p q h count e = absurd (omega (arith, p, count, ap length e))
last_of_one (Some x) xs left (Some r) n m p q h count e = by left (sym h ∙ e)
  where
    by : (left : List Row) → left ++ x ∷ [] ≡ r ∷ [] → Some x ≡ Some r
    by [] k = cc
    by (y ∷ []) k = absurd cc
    by (y ∷ (z ∷ zs)) k = absurd cc

pub finds_keyed : AskedOnce → KeysOrder → (shapes : List TableShape) (table key : ℕ) (d : Data) → CanSeek shapes table key d → IsProper d
    → (answer : RowList) (found : Option Row) (left : List Row) (n m : ℕ) → n ≡ length answer.rows → m ≡ length left → answer.rows ≡ left ++ option_to_list found → MatchOption found ((n ≡ 0) × (m ≡ 0)) (λ _. m + 1 ≡ n)
    → (lost : Type 0) (x y : Option Tables) → IsScanAnswer shapes (rows_told y) (one_keyed table key d) answer → MayFallSilent lost (Scans (one_keyed table key d) answer) x y
    → MayFallSilent lost (FindsKeyed table key d found) x y
finds_keyed law keys shapes table zero d seek proper answer found left n m p q popped count lost x y scanned h = absurd seek.unique
finds_keyed law keys shapes table (suc place) d seek proper answer found left n m p q popped count lost None y scanned h = h
finds_keyed law keys shapes table (suc place) d seek proper answer found left n m p q popped count lost (Some a) None scanned h = h
finds_keyed law keys shapes table (suc place) d seek proper answer found left n m p q popped count lost (Some a) (Some b) (t, rows, are, is) h =
    let one_shape : seek.shape ≡ t = same_Some seek.shape t (sym seek.is_table ∙ are.is_table) in
    let fits : FitsColumn t.columns place d = subst (λ (s : TableShape). FitsColumn s.columns place d) one_shape seek.fits in
    let these : rows ≡ (state_at a.states table).rows = are.told_rows ∙ rows_are b.states table ∙ ap (λ (ts : Tables). (state_at ts.states table).rows) h.1 in (
      last_of_one found answer.rows left (keyed (suc place) d rows) n m p q popped count (given_keyed law keys table place t d fits proper rows answer are.held is)
          ∙ ap (keyed (suc place) d) these,
      h.1,
    )

-- ---- what the query needs

can_be : (P : Data → Type 0) (d : Data) → IsScalar d → P d → IsFaultOr P d
can_be P blank s h = h
can_be P (number z) s h = h
can_be P (text cs) s h = h
can_be P (boolean b) s h = h
can_be P (date z) s h = h
can_be P (rec fs) s h = absurd s
can_be P (tab rs) s h = absurd s
can_be P (fault k cs) s h = absurd s

cell_asks : (columns : List Column) (cells : List Data) (place : ℕ) (d : Data) → AreCellsOf columns cells → FitsColumn columns place d → IsSomeAnd (slice_get cells place) (λ v. IsScalar v × IsFaultOr (CanCompare Eq v) d)
cell_asks [] cells place d fit f = absurd f
cell_asks (c ∷ cs) [] place d fit f = absurd fit
cell_asks (c ∷ cs) (x ∷ xs) zero d fit f = (fit.0, can_be (CanCompare Eq x) d f.0 (one_type x d (shape c.ty) fit.0 f.0 fit.1 f.1))
cell_asks (c ∷ cs) (x ∷ xs) (suc place) d fit f = cell_asks cs xs place d fit.2 f

column_within : (columns : List Column) (place : ℕ) (d : Data) → FitsColumn columns place d → suc place ≤ length columns
column_within [] place d f = absurd f
column_within (c ∷ cs) zero d f = omega arith
column_within (c ∷ cs) (suc place) d f = let k = column_within cs place d f in omega (arith, k)

is_indexed : (o : Option Column) → IsSomeAnd o (λ (c : Column). c.unique ≡ true) → IsSomeAnd o (λ (c : Column). (c.indexed ≡ true) ⊎ (c.unique ≡ true))
is_indexed None h = absurd h
is_indexed (Some c) h = inr h

pub can_seek : (shapes : List TableShape) (table key : ℕ) (d : Data) → CanSeek shapes table key d → IsQuery shapes (one_keyed table key d)
can_seek shapes table zero d h = absurd h.unique
can_seek shapes table (suc place) d h = record {
  table = h.shape;
  is_table = h.is_table;
  has_column = column_within h.shape.columns place d h.fits;
  has_order = tt;
  reaches = inl (is_indexed (slice_get h.shape.columns place) h.unique);
  rises = (tt, tt);
  asks = λ (r : Row) fit. cell_asks h.shape.columns r.cells place d fit.1 h.fits;
}

pub seeks_scalar : (shapes : List TableShape) (table key : ℕ) (d : Data) → CanSeek shapes table key d → IsScalar d
seeks_scalar shapes table zero d h = absurd h.unique
seeks_scalar shapes table (suc place) d h = scalar_of h.shape.columns place d h.fits

-- ---- rows that fit

last_fits : (P : Row → Type 0) (left : List Row) (x : Row) → AllByRecursion P (left ++ x ∷ []) → P x
last_fits P [] x h = h.0
last_fits P (y ∷ ys) x h = last_fits P ys x h.1

-- the last of rows that fit fits
pub fits_popped : (o : Option TableShape) (xs left : List Row) (found : Option Row) → xs ≡ left ++ option_to_list found
    → IsSomeAnd o (λ (t : TableShape). All (IsRowOf t) xs) → IfSome found (λ row. IsSomeAnd o (λ (t : TableShape). IsRowOf t row))
fits_popped o xs left None e h = tt
fits_popped None xs left (Some x) e h = absurd h
fits_popped (Some t) xs left (Some x) e h = last_fits (IsRowOf t) left x (recursion_from_All (IsRowOf t) (left ++ x ∷ []) (subst (λ l. All (IsRowOf t) l) e h))
