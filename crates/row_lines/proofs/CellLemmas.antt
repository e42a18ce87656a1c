-- Cells that fit, and lists that grow.
use Rattle.std.proofs.Common.{◌≡◌, ◌∙◌, ◌+◌, ◌<◌, ℕ, zero, suc, true, List, [], ◌∷◌, ◌++◌, get_or, length, map, take, ap, arith, subst, sym}
use Rattle.std.proofs.lemmas.List.{take_more}
use Rattle.std.specs.List.{AllByRecursion}
use Rattle.fx_types.specs.TypeView.{shape}
use Rattle.fx_types.specs.ValueView.{view}
use Rattle.fx_types.specs.Values.{Data}
use Rattle.fx_types.specs.declared.values.Value.{Value}
use Rattle.fx_core.specs.declared.schema.Column.{Column}
use Rattle.fx_value.specs.Fits.{fits_in}
use Rattle.fx_value.specs.Order.{IsScalar}
use Rattle.row_queries.specs.TableRows.{AreCellsOf}

pub all_more : {A : Type 0} (P : A → Type 0) (xs : List A) (x : A) → AllByRecursion P xs → P x → AllByRecursion P (xs ++ x ∷ [])
all_more P [] x h p = (p, tt)
all_more P (y ∷ ys) x h p = (h.0, all_more P ys x h.1 p)

pub cells_more : (cs : List Column) (ds : List Data) (c : Column) (d : Data) → AreCellsOf cs ds → IsScalar d → fits_in d (shape c.ty) ≡ true → AreCellsOf (cs ++ c ∷ []) (ds ++ d ∷ [])
cells_more [] [] c d h s f = (s, f, tt)
cells_more [] (x ∷ xs) c d h s f = absurd h
cells_more (k ∷ ks) [] c d h s f = absurd h
cells_more (k ∷ ks) (x ∷ xs) c d h s f = (h.0, h.1, cells_more ks xs c d h.2 s f)

-- with the next column and its cell
pub cells_on : (cs : List Column) (i : ℕ) (c : Column) (ds : List Data) (d : Data) → AreCellsOf (take i cs) ds → i < length cs → c ≡ get_or cs i c → IsScalar d → fits_in d (shape c.ty) ≡ true
    → AreCellsOf (take (i + 1) cs) (ds ++ d ∷ [])
cells_on cs i c ds d h l e s f =
    subst (λ (xs : List Column). AreCellsOf xs (ds ++ d ∷ [])) (sym (take_more cs i c l ∙ ap (λ x. take i cs ++ x ∷ []) (sym e))) (cells_more (take i cs) ds c d h s f)

pub scalar_in : (cs : List Column) (values : List Value) (i : ℕ) (v : Value) → AreCellsOf cs (map view values) → i < length values → v ≡ get_or values i v → IsScalar (view v)
scalar_in cs [] i v h l e = absurd (omega (arith, l))
scalar_in [] (x ∷ xs) i v h l e = absurd h
scalar_in (c ∷ cs) (x ∷ xs) zero v h l e = subst (λ (y : Value). IsScalar (view y)) (sym e) h.0
scalar_in (c ∷ cs) (x ∷ xs) (suc i) v h l e = scalar_in cs xs i v h.2 (omega (arith, l)) e
