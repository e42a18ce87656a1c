-- Named formulas by their names.
use Rattle.std.specs.Prelude.{◌≡◌, ℕ, List, [], ◌∷◌, Option, Some, None, bytes_eq, position}
use Rattle.std.specs.Prelude.{if◌then◌else◌}
use Rattle.std.specs.BTreeMap.{BTreeMap, get}
use Rattle.std.specs.Cmp.Lexicographic.{slice_cmp}
use Rattle.std.specs.List.{find}
use Rattle.std.specs.Ordering.{nat_cmp}
use Rattle.fx_types.specs.declared.types.Ty.{Ty}
use Rattle.fx_core.specs.declared.names.FormulaName.{FormulaName}

-- the first formula of a name
abbrev pub formula_named : List ℕ → List FormulaName → Option FormulaName
formula_named x = find (λ (f : FormulaName). bytes_eq f.name x)

-- where a name is in these places
abbrev pub formula_index : BTreeMap (List ℕ) ℕ → List ℕ → Option ℕ
formula_index places x = get (slice_cmp nat_cmp) places x

-- each name has the place of its first formula, and no other name has one
abbrev pub IsIndexOf : BTreeMap (List ℕ) ℕ → List FormulaName → Type 0
IsIndexOf places fs = (x : List ℕ) → formula_index places x
    ≡ position (λ (f : FormulaName). bytes_eq f.name x) fs

-- a name that had no place has this one
abbrev pub or_placed : Option ℕ → Option ℕ → Option ℕ
or_placed (Some k) later = Some k
or_placed None later = later

abbrev pub IsIndexNoted : BTreeMap (List ℕ) ℕ → BTreeMap (List ℕ) ℕ → List ℕ → ℕ → Type 0
IsIndexNoted old new name k = (x : List ℕ) → formula_index new x
    ≡ or_placed (formula_index old x) (if bytes_eq name x then Some k else None)

-- formulas with other types
abbrev pub retyped : List FormulaName → List Ty → List FormulaName
retyped (f ∷ fs) (t ∷ ts) = record f { ty = t } ∷ retyped fs ts
retyped _ _ = []
