-- The cells of the named formulas.
use Rattle.std.proofs.Common.{◌≡◌, ℕ, zero, suc, ◌<◌, List, [], ◌∷◌, length, get_or, map, Bool, true, false, Option, Some, None, refl, sym, subst, ap, ◌∙◌, arith}
use Rattle.std.specs.List.{Contains, slice_get}
use Rattle.std.specs.Prelude.{option_map, unwrap_or}
use Rattle.app_cells.specs.declared.app.App.{App}
use Rattle.app_cells.specs.declared.app.CellInfo.{CellInfo}
use Rattle.app_loader.specs.app_semantics.Needed.{IsFreshAt, is_alone, stands_alone, stands_by}
use Rattle.app_loader.specs.app_semantics.Present.{Present}
use Rattle.app_loader.specs.app_semantics.Sound.{IsSoundApp}
use Rattle.session_views.proofs.Needing.{needed_clean}
use Rattle.fx_types.specs.Values.{Data}
use Rattle.fx_core.specs.declared.names.FormulaName.{FormulaName}
use Rattle.office.specs.NamedReply.{AreNamedFresh, AreNamedMade, named_cells}
use Rattle.recalc.specs.Kept.{IsClean, IsInOrder, CacheState}

-- one of these cells is that of a named formula
formula_of : (fs : List FormulaName) (k : ℕ) → Contains (map (λ (f : FormulaName). f.cell) fs) k → (i : ℕ) × (f : FormulaName) × (slice_get fs i ≡ Some f) × (f.cell ≡ k)
formula_of [] k h = let l = h.1 in absurd (omega (arith, l))
formula_of (f ∷ fs) k (zero, l, e) = (0, f, refl, e)
formula_of (f ∷ fs) k (suc j, l, e) = let r = formula_of fs k (j, omega (arith, l), e) in (suc r.0, r.1, r.2, r.3)

cell_in : (fs : List FormulaName) (i : ℕ) (f : FormulaName) → slice_get fs i ≡ Some f → Contains (map (λ (g : FormulaName). g.cell) fs) f.cell
cell_in [] i f e = absurd cc
cell_in (g ∷ fs) zero f e = let same : g ≡ f = cc in (0, omega arith, ap (λ (x : FormulaName). x.cell) same)
cell_in (g ∷ fs) (suc i) f e = let r = cell_in fs i f e in (suc r.0, (let l = r.1 in omega (arith, l)), r.2)

-- each has a value by itself
pub named_alone : (a : App) → IsSoundApp a → (k : ℕ) → Contains (named_cells a) k → is_alone a.cells k ≡ true
named_alone a s k h =
    let at = formula_of a.names.formulas k h in
    let cell = s.formulas at.0 at.1 at.2 in
    let own : stands_alone cell.cell ≡ true = ap (λ b. stands_by b cell.cell.cell.item) cell.quiet ∙ ap (stands_by false) cell.item in
    subst (λ n. is_alone a.cells n ≡ true) at.3 (ap (λ (o : Option CellInfo). unwrap_or (option_map stands_alone o) false) cell.there ∙ own)

-- named formulas are fresh where their cells are
pub named_fresh : (p : Present) (values : ℕ → Data) → ((k : ℕ) → Contains (named_cells p.app) k → IsFreshAt p values k) → AreNamedFresh p values
named_fresh p values fresh = λ i f there. fresh f.cell (cell_in p.app.names.formulas i f there)

-- and what they need is clean
pub named_made : (a : App) (c : CacheState) → IsInOrder a c → ((k : ℕ) → Contains (named_cells a) k → IsClean a c k) → AreNamedMade a c
named_made a c order clean = λ r k among need own. needed_clean a c order r k (λ alone. clean r among) need own
