-- What is given for rows.
use Rattle.std.proofs.Common.{◌≡◌, ℕ, zero, suc, ◌+◌, Bool, true, false, cond, List, [], ◌∷◌, ◌++◌, map, take, length, Option, Some, None, refl, ap, ap₂, sym, ◌∙◌, subst, bytes_eq, add-one}
use Rattle.std.specs.Prelude.{IfSome, option_and_then, option_map, slice_get, unwrap_or}
use Rattle.std.specs.List.{AllByRecursion, find}
use Rattle.fx_types.specs.TypeView.{shape}
use Rattle.fx_types.specs.ValueView.{view}
use Rattle.fx_types.specs.Values.{Data}
use Rattle.fx_types.specs.declared.values.Value.{Value}
use Rattle.fx_core.specs.declared.schema.Column.{Column}
use Rattle.fx_core.specs.Lawful.{AreDistinct, DiffersFromAll, id_name}
use Rattle.fx_value.specs.Fits.{fits_in}
use Rattle.fx_value.specs.Order.{IsScalar}
use Rattle.row_queries.specs.TableRows.{AreCellsOf}
use Rattle.view_text.specs.declared.refused.Refusal.{Refusal}
use Rattle.row_requests.specs.Changes.{blanks, change_refusal, cells_with, column_named, given_at, has_type, first_refusal, or_refusal, rule_of_given}
use Rattle.row_requests.specs.GivenRows.{AreScalars}
use Rattle.row_requests.specs.declared.rule.Rule.TheVariants.{ColumnType}
use Rattle.numbered_requests.proofs.Directories.{apart, itself, same_bytes}

-- ---- blanks fit

pub blanks_fit : (columns : List Column) → AreCellsOf columns (blanks columns)
blanks_fit [] = tt
blanks_fit (c ∷ cs) = (tt, refl, blanks_fit cs)

-- ---- what passed fits

none_left : (a b : Option Refusal) → or_refusal a b ≡ None → (a ≡ None) × (b ≡ None)
none_left None b e = (refl, e)
none_left (Some r) b e = absurd cc

-- a value that was judged, of the column that its name names
passed : (at : ℕ) (name : List ℕ) (o : Option Column) (v : Option Data) → option_map (change_refusal at name) (rule_of_given o v) ≡ None → (c : Column) → o ≡ Some c → has_type c v ≡ true
passed at name None v e c is = absurd cc
passed at name (Some d) v e c is = by (has_type d v) refl
  where
    same : Some d ≡ Some c → d ≡ c
    same k = cc

    by : (b : Bool) → has_type d v ≡ b → has_type c v ≡ true
    by true k = ap (λ x. has_type x v) (sym (same is)) ∙ k
    by false k = absurd (let z : option_map (change_refusal at name) (cond false None (Some ColumnType)) ≡ None = ap (λ t. option_map (change_refusal at name) (cond t None (Some ColumnType))) (sym k) ∙ e in cc)

-- what is given under a name fits the column of that name
given_fits : (at : ℕ) (whole : List Column) (gs : List (List ℕ × Option Data)) → first_refusal at whole gs ≡ None → AreScalars gs
    → (name : List ℕ) (c : Column) (d : Data) → column_named name whole ≡ Some c → given_at name gs ≡ Some d → IsScalar d × (fits_in d (shape c.ty) ≡ true)
given_fits at whole [] j all name c d named e = absurd cc
given_fits at whole (g ∷ gs) j all name c d named e =
    let both = none_left (option_map (change_refusal at g.0) (rule_of_given (column_named g.0 whole) g.1)) (first_refusal at whole gs) j in
    by both.0 (bytes_eq g.0 name) refl e (λ f. given_fits at whole gs both.1 all.1 name c d named f)
  where
    by : option_map (change_refusal at g.0) (rule_of_given (column_named g.0 whole) g.1) ≡ None → (b : Bool) → bytes_eq g.0 name ≡ b
        → option_and_then (λ (x : List ℕ × Option Data). x.1) (cond b (Some g) (find (λ (x : List ℕ × Option Data). bytes_eq x.0 name) gs)) ≡ Some d
        → (given_at name gs ≡ Some d → IsScalar d × (fits_in d (shape c.ty) ≡ true)) → IsScalar d × (fits_in d (shape c.ty) ≡ true)
    by passes true k f rest = (
      subst (λ v. IfSome v IsScalar) f all.0,
      ap (has_type c) (sym f) ∙ passed at g.0 (column_named g.0 whole) g.1 passes c (ap (λ n. column_named n whole) (same_bytes g.0 name k) ∙ named),
    )
    by passes false k f rest = rest f

-- each of these columns is found by its name
abbrev AreFound : List Column → List Column → Type 0
AreFound whole cs = AllByRecursion (λ (c : Column). column_named c.name whole ≡ Some c) cs

behind_other : (c : Column) (whole cs : List Column) → DiffersFromAll c.name (map (λ (x : Column). x.name) cs) → AreFound whole cs → AreFound (c ∷ whole) cs
behind_other c whole [] differs found = tt
behind_other c whole (d ∷ ds) differs found = (
  ap (λ t. cond t (Some c) (column_named d.name whole)) (apart c.name d.name differs.0) ∙ found.0,
  behind_other c whole ds differs.1 found.1,
)

found_all : (cs : List Column) → AreDistinct (map (λ (x : Column). x.name) cs) → AreFound cs cs
found_all [] h = tt
found_all (c ∷ cs) h = (
  ap (λ t. cond t (Some c) (column_named c.name cs)) (itself c.name),
  behind_other c cs cs h.0 (found_all cs h.1),
)

fit_all : (at : ℕ) (whole : List Column) (gs : List (List ℕ × Option Data)) → first_refusal at whole gs ≡ None → AreScalars gs
    → (cs : List Column) → AreFound whole cs → (ds : List Data) → AreCellsOf cs ds → AreCellsOf cs (cells_with gs cs ds)
fit_all at whole gs j all [] found [] h = tt
fit_all at whole gs j all [] found (d ∷ ds) h = absurd h
fit_all at whole gs j all (c ∷ cs) found [] h = absurd h
fit_all at whole gs j all (c ∷ cs) found (d ∷ ds) h = by (given_at c.name gs) refl (fit_all at whole gs j all cs found.1 ds h.2)
  where
    by : (o : Option Data) → given_at c.name gs ≡ o → AreCellsOf cs (cells_with gs cs ds) → AreCellsOf (c ∷ cs) (unwrap_or o d ∷ cells_with gs cs ds)
    by None e rest = (h.0, h.1, rest)
    by (Some x) e rest = let k = given_fits at whole gs j all c.name c x found.0 e in (k.0, k.1, rest)

-- cells with what passed fit
pub cells_fit : (at : ℕ) (columns : List Column) (gs : List (List ℕ × Option Data)) (ds : List Data) → first_refusal at columns gs ≡ None → AreScalars gs
    → AreDistinct (id_name ∷ map (λ (x : Column). x.name) columns) → AreCellsOf columns ds → AreCellsOf columns (cells_with gs columns ds)
cells_fit at columns gs ds j all distinct h = fit_all at columns gs j all columns (found_all columns distinct.1) ds h

-- ---- cells, one after another

pub cells_more : (gs : List (List ℕ × Option Data)) (cs : List Column) (ds : List Data) (k : ℕ) (c : Column) (d : Data) → slice_get cs k ≡ Some c → slice_get ds k ≡ Some d
    → cells_with gs (take (k + 1) cs) (take (k + 1) ds) ≡ cells_with gs (take k cs) (take k ds) ++ unwrap_or (given_at c.name gs) d ∷ []
cells_more gs [] ds k c d e f = absurd cc
cells_more gs (x ∷ cs) [] k c d e f = absurd cc
cells_more gs (x ∷ cs) (y ∷ ds) zero c d e f = ap₂ (λ (z : Column) w. unwrap_or (given_at z.name gs) w ∷ []) (same e) (alike f)
  where
    same : Some x ≡ Some c → x ≡ c
    same k = cc

    alike : Some y ≡ Some d → y ≡ d
    alike k = cc
cells_more gs (x ∷ cs) (y ∷ ds) (suc k) c d e f =
    ap (λ n. cells_with gs (take n (x ∷ cs)) (take n (y ∷ ds))) (add-one (suc k))
    ∙ ap (λ l. unwrap_or (given_at x.name gs) y ∷ l) (ap (λ n. cells_with gs (take n cs) (take n ds)) (sym (add-one k)) ∙ cells_more gs cs ds k c d e f)

pub same_length : (cs : List Column) (ds : List Data) → AreCellsOf cs ds → length ds ≡ length cs
same_length [] [] h = refl
same_length [] (d ∷ ds) h = absurd h
same_length (c ∷ cs) [] h = absurd h
same_length (c ∷ cs) (d ∷ ds) h = ap suc (same_length cs ds h.2)

pub slice_view : (vs : List Value) (k : ℕ) (v : Value) → slice_get vs k ≡ Some v → slice_get (map view vs) k ≡ Some (view v)
slice_view [] k v e = absurd cc
slice_view (x ∷ vs) zero v e = ap (λ (w : Value). Some (view w)) (same e)
  where
    same : Some x ≡ Some v → x ≡ v
    same k = cc
slice_view (x ∷ vs) (suc k) v e = slice_view vs k v e

pub view_length : (vs : List Value) → length (map view vs) ≡ length vs
view_length [] = refl
view_length (v ∷ vs) = ap suc (view_length vs)
