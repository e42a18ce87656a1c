-- What one line does to a table.
use Rattle.std.proofs.Common.{◌≡◌, ℕ, suc, ◌+◌, ◌<◌, ◌||◌, Bool, true, false, cond, List, [], ◌∷◌, ◌++◌, length, Option, Some, None, refl, ap, sym, ◌∙◌, subst, arith}
use Rattle.std.specs.Prelude.{IfOk, IfSome, IsSome, IsSomeAnd, slice_get, unwrap_or, Result, Ok, Err}
use Rattle.std.specs.List.{list_any}
use Rattle.std.proofs.lemmas.Bool.{eq-eqb, or_right}
use Rattle.std.proofs.lemmas.Option.{same_Some}
use Rattle.fx_base.specs.Silence.{MayFallSilent, IsLater, SilenceCause, Marks}
use Rattle.fx_base.proofs.Silences.{goes_two}
use Rattle.fx_types.specs.Values.{Data, blank}
use Rattle.fx_core.specs.declared.schema.Column.{Column}
use Rattle.fx_core.specs.declared.schema.TableShape.{TableShape}
use Rattle.row_queries.specs.TableRows.{AreCellsOf, IsRowOf}
use Rattle.row_queries.specs.declared.rows.Row.{Row}
use Rattle.row_keeper.specs.Changes.{Inserts, IsInserted, IsReplaced, Replaces}
use Rattle.row_keeper.specs.RowRules.{has_value, rule_of}
use Rattle.row_keeper.specs.Rules.{FitsColumn}
use Rattle.row_keeper.specs.Tables.{Tables, columns_at, columns_in, has_id, state_at, with_cells, with_row, with_state}
use Rattle.row_keeper.specs.declared.keeper.KeeperEnd.{KeeperEnd}
use Rattle.row_keeper.specs.declared.rows.Put.{Put}
use Rattle.row_keeper.specs.declared.rows.Put.TheVariants.{Id, NoRow, Refused}
use Rattle.row_imports.specs.Imports.{act_line, blanks, given_for, key_of, keyed, put_line, unless_broken, with_given}
use Rattle.row_imports.specs.Lines.{AddsLine, CanSeek, ChangesLine, FindsKeyed, FitsNumber, IsActed, IsHeading, IsLineOf, LineComesTo, acted}
use Rattle.row_imports.specs.declared.lines.Acted.{Acted}
use Rattle.row_imports.specs.declared.lines.Acted.TheVariants.{Added, Changed}
use Rattle.row_imports.specs.declared.lines.Heading.{Heading}

-- ---- cells

-- cells with one more behind them
pub given_more : (numbers : List ℕ) (line : List Data) (k : ℕ) (ds : List Data) (d : Data)
    → with_given numbers line k (ds ++ d ∷ []) ≡ with_given numbers line k ds ++ unwrap_or (given_for numbers line (k + length ds)) d ∷ []
given_more numbers line k [] d = let e : k ≡ k + 0 = omega arith in ap (λ n. unwrap_or (given_for numbers line n) d ∷ []) e
given_more numbers line k (x ∷ ds) d =
    let e : k + 1 + length ds ≡ k + suc (length ds) = omega arith in
    ap (λ l. unwrap_or (given_for numbers line k) x ∷ l)
    (given_more numbers line (k + 1) ds d ∙ ap (λ n. with_given numbers line (k + 1) ds ++ unwrap_or (given_for numbers line n) d ∷ []) e)

blanks_fit : (columns : List Column) → AreCellsOf columns (blanks columns)
blanks_fit [] = tt
blanks_fit (c ∷ cs) = (tt, refl, blanks_fit cs)

-- what a line gives fits, from a column on
abbrev FitFrom : List ℕ → List Data → ℕ → List Column → Type 0
FitFrom numbers line k columns = (i : ℕ) → i < length columns → IfSome (given_for numbers line (k + i)) (λ d. FitsColumn columns i d)

given_fit : (numbers : List ℕ) (line : List Data) (k : ℕ) (columns : List Column) (ds : List Data) → AreCellsOf columns ds → FitFrom numbers line k columns → AreCellsOf columns (with_given numbers line k ds)
given_fit numbers line k [] [] h fit = tt
given_fit numbers line k [] (d ∷ ds) h fit = absurd h
given_fit numbers line k (c ∷ cs) [] h fit = absurd h
given_fit numbers line k (c ∷ cs) (d ∷ ds) h fit = by (given_for numbers line k) here (given_fit numbers line (k + 1) cs ds h.2 later)
  where
    here : IfSome (given_for numbers line k) (λ x. FitsColumn (c ∷ cs) 0 x)
    here = let e : k + 0 ≡ k = omega arith in subst (λ n. IfSome (given_for numbers line n) (λ x. FitsColumn (c ∷ cs) 0 x)) e (fit 0 (omega arith))

    later : FitFrom numbers line (k + 1) cs
    later i l =
        let e : k + suc i ≡ k + 1 + i = omega arith in
        subst (λ n. IfSome (given_for numbers line n) (λ x. FitsColumn cs i x)) e (fit (suc i) (omega (arith, l)))

    by : (o : Option Data) → IfSome o (λ x. FitsColumn (c ∷ cs) 0 x) → AreCellsOf cs (with_given numbers line (k + 1) ds) → AreCellsOf (c ∷ cs) (unwrap_or o d ∷ with_given numbers line (k + 1) ds)
    by None f rest = (h.0, h.1, rest)
    by (Some x) f rest = (f.0, f.1, rest)

pub cells_fit : (columns : List Column) (h : Heading) (line ds : List Data) → IsLineOf columns h line → AreCellsOf columns ds → AreCellsOf columns (with_given h.columns line 1 ds)
cells_fit columns h line ds is fits = given_fit h.columns line 1 columns ds fits (λ i l. let e : suc i ≡ 1 + i = omega arith in subst (λ n. IfSome (given_for h.columns line n) (λ d. FitsColumn columns i d)) e (is.fit i l))

pub new_fit : (columns : List Column) (h : Heading) (line : List Data) → IsLineOf columns h line → AreCellsOf columns (with_given h.columns line 1 (blanks columns))
new_fit columns h line is = cells_fit columns h line (blanks columns) is (blanks_fit columns)

pub cells_length : (columns : List Column) (ds : List Data) → AreCellsOf columns ds → length ds ≡ length columns
cells_length [] [] h = refl
cells_length [] (d ∷ ds) h = absurd h
cells_length (c ∷ cs) [] h = absurd h
cells_length (c ∷ cs) (d ∷ ds) h = ap suc (cells_length cs ds h.2)

-- ---- the table

-- cells that fit the shape fit the table
pub fits_there : (o : Option TableShape) (t : TableShape) (cells : List Data) → o ≡ Some t → AreCellsOf t.columns cells → IsSomeAnd o (λ (s : TableShape). AreCellsOf s.columns cells)
fits_there o t cells e h = subst (λ x. IsSomeAnd x (λ (s : TableShape). AreCellsOf s.columns cells)) (sym e) h

-- and the other way
pub fits_shape : (o : Option TableShape) (t : TableShape) (r : Row) → o ≡ Some t → IsSomeAnd o (λ (s : TableShape). IsRowOf s r) → AreCellsOf t.columns r.cells
fits_shape o t r e h = (subst (λ x. IsSomeAnd x (λ (s : TableShape). IsRowOf s r)) e h).1

pub columns_are : (shapes : List TableShape) (k : ℕ) (t : TableShape) → slice_get shapes k ≡ Some t → columns_at shapes k ≡ t.columns
columns_are shapes k t e = ap columns_in e

-- a line has a key
given_key : (columns : List Column) (key : ℕ) (o : Option Data) → IsSomeAnd o (λ d. FitsNumber columns key d) → FitsNumber columns key (unwrap_or o blank)
given_key columns key None h = absurd h
given_key columns key (Some d) h = h

pub has_key : (columns : List Column) (h : Heading) (line : List Data) → IsLineOf columns h line → IsSome (given_for h.columns line h.key)
has_key columns h line is = by (given_for h.columns line h.key) is.key
  where
    by : (o : Option Data) → IsSomeAnd o (FitsNumber columns h.key) → IsSome o
    by None f = absurd f
    by (Some d) f = refl

-- it may be sought
pub key_sought : (shapes : List TableShape) (t : TableShape) (h : Heading) (line : List Data) (d : Data) → IsHeading shapes t h → IsLineOf t.columns h line → d ≡ key_of h.columns h.key line → CanSeek shapes h.table h.key d
key_sought shapes t h line d heading is e = record {
  shape = t;
  is_table = heading.table;
  unique = heading.key;
  fits = subst (λ x. FitsNumber t.columns h.key x) (sym e) (given_key t.columns h.key (given_for h.columns line h.key) is.key);
}

-- ---- what a keeper answers

pub added : (columns : List Column) (h : Heading) (line cells : List Data) (p : Put) → cells ≡ with_given h.columns line 1 (blanks columns)
    → (a b : Tables) → Inserts columns h.table cells p a b → AddsLine columns h line (acted p Added) a b
added columns h line cells (Id id) e a b g =
    ap (λ cs. unless_broken (rule_of columns a.states h.table None cs) (true, with_state a h.table (with_row cs (state_at a.states h.table)))) (sym e)
    ∙ ap (λ o. unless_broken o (true, with_state a h.table (with_row cells (state_at a.states h.table)))) g.0
    ∙ ap (λ (t : Tables). Ok (true, t)) (sym g.2)
added columns h line cells NoRow e a b g = absurd g
added columns h line cells (Refused r) e a b g = (
  ap (λ cs. unless_broken (rule_of columns a.states h.table None cs) (true, with_state a h.table (with_row cs (state_at a.states h.table)))) (sym e)
      ∙ ap (λ o. unless_broken o (true, with_state a h.table (with_row cells (state_at a.states h.table)))) g.0,
  g.1,
)

pub changed : (columns : List Column) (h : Heading) (line : List Data) (row : Row) (cells : List Data) (p : Put) → cells ≡ with_given h.columns line 1 row.cells
    → (a b : Tables) → Replaces columns h.table row.id cells p a b → ChangesLine columns h line row (acted p Changed) a b
changed columns h line row cells (Id id) e a b g there =
    ap (λ cs. unless_broken (rule_of columns a.states h.table (Some row.id) cs) (false, with_state a h.table (with_cells row.id cs (state_at a.states h.table)))) (sym e)
    ∙ ap (λ o. unless_broken o (false, with_state a h.table (with_cells row.id cells (state_at a.states h.table)))) g.2
    ∙ ap (λ (t : Tables). Ok (false, t)) (sym g.3)
changed columns h line row cells NoRow e a b g there = absurd (let z : true ≡ false = sym there ∙ g.0 in cc)
changed columns h line row cells (Refused r) e a b g there = (
  ap (λ cs. unless_broken (rule_of columns a.states h.table (Some row.id) cs) (false, with_state a h.table (with_cells row.id cs (state_at a.states h.table)))) (sym e)
      ∙ ap (λ o. unless_broken o (false, with_state a h.table (with_cells row.id cells (state_at a.states h.table)))) g.1,
  g.2,
)

pub added_may : (columns : List Column) (p : Put) → IsInserted columns p → IsActed columns (acted p Added)
added_may columns (Id id) h = tt
added_may columns NoRow h = tt
added_may columns (Refused r) h = h

pub changed_may : (columns : List Column) (id : ℕ) (p : Put) → IsReplaced columns id p → IsActed columns (acted p Changed)
changed_may columns id (Id n) h = tt
changed_may columns id NoRow h = tt
changed_may columns id (Refused r) h = h

-- ---- a row that was found, and a line put into it

found_there : (k : ℕ) (d : Data) (rows : List Row) (r : Row) → keyed k d rows ≡ Some r → list_any (has_id r.id) rows ≡ true
found_there k d [] r e = absurd cc
found_there k d (x ∷ rows) r e = by (has_value k d x) e (λ f. found_there k d rows r f)
  where
    by : (b : Bool) → cond b (Some x) (keyed k d rows) ≡ Some r → (keyed k d rows ≡ Some r → list_any (has_id r.id) rows ≡ true) → (has_id r.id x || list_any (has_id r.id) rows) ≡ true
    by true f rest = ap (λ b. b || list_any (has_id r.id) rows) (eq-eqb x.id r.id (ap (λ (y : Row). y.id) (same_Some x r f)))
    by false f rest = or_right (has_id r.id x) (list_any (has_id r.id) rows) (rest f)

-- a line is put into the row that was found, or into a new one
abbrev pub PutsLine : List Column → Heading → List Data → Option Row → Acted → Tables → Tables → Type 0
PutsLine columns h line None c = AddsLine columns h line c
PutsLine columns h line (Some r) c = ChangesLine columns h line r c

pub acts : (columns : List Column) (h : Heading) (line : List Data) (d : Data) (found : Option Row) (c : Acted) → d ≡ key_of h.columns h.key line
    → (x y z : Tables) → FindsKeyed h.table h.key d found x y → PutsLine columns h line found c y z → LineComesTo (act_line columns h.table h.key h.columns line x) c x z
acts columns h line d found c e x y z f g =
    subst (λ o. LineComesTo (put_line columns h.table h.columns line x o) c x z) same (by found f.0 (subst (λ (t : Tables). PutsLine columns h line found c t z) f.1 g))
  where
    rows : List Row
    rows = (state_at x.states h.table).rows

    same : found ≡ keyed h.key (key_of h.columns h.key line) rows
    same = f.0 ∙ ap (λ v. keyed h.key v rows) e

    by : (found : Option Row) → found ≡ keyed h.key d rows → PutsLine columns h line found c x z → LineComesTo (put_line columns h.table h.columns line x found) c x z
    by None q p = p
    by (Some r) q p = p (found_there h.key d rows r (sym q))

-- the same of what is told
pub puts_told : (columns : List Column) (h : Heading) (line : List Data) (d : Data) (found : Option Row) (r : Result Acted KeeperEnd) → d ≡ key_of h.columns h.key line
    → (k l m : Marks) → IsLater k l → IsLater l m → (x y z : Option Tables) → MayFallSilent (SilenceCause k l) (FindsKeyed h.table h.key d found) x y
    → IfOk r (λ c. MayFallSilent (SilenceCause l m) (PutsLine columns h line found c) y z)
    → IfOk r (λ c. MayFallSilent (SilenceCause k m) (λ a b. LineComesTo (act_line columns h.table h.key h.columns line a) c a b) x z)
puts_told columns h line d found (Err e) key k l m later later' x y z f g = g
puts_told columns h line d found (Ok c) key k l m later later' x y z f g =
    goes_two (FindsKeyed h.table h.key d found) (PutsLine columns h line found c) (λ a b. LineComesTo (act_line columns h.table h.key h.columns line a) c a b)
    (acts columns h line d found c key) k l m later later' x y z f g
