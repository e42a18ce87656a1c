-- Formulas that lean on one another in a circle.
use Rattle.std.specs.Prelude.{◌≡◌, ℕ, zero, suc, List, [], ◌∷◌, ◌++◌, Option, Some, None, codes}
use Rattle.std.specs.Prelude.{map, slice_get}
use Rattle.depend_graph.specs.Order.{IsClosedPath}
use Rattle.fx_core.specs.declared.broken.Broken.{Broken}
use Rattle.fx_core.specs.declared.names.Names.{Names}
use Rattle.fx_core.specs.declared.rule.Rule.TheVariants as rule
use Rattle.app_cells.specs.declared.app.CellInfo.{CellInfo}
use Rattle.app_cells.specs.Leaning.{edges_of}

-- the address of a formula by its number
abbrev pub address_in : Option CellInfo → List ℕ
address_in (Some i) = i.cell.name
address_in None = []

abbrev pub cell_name_at : List CellInfo → ℕ → List ℕ
cell_name_at is k = address_in (slice_get is k)

-- addresses with an arrow between each two
abbrev pub joined_by_arrows : List (List ℕ) → List ℕ
joined_by_arrows [] = []
joined_by_arrows (x ∷ []) = x
joined_by_arrows (x ∷ y ∷ xs) = x ++ (codes " -> " ++ joined_by_arrows (y ∷ xs))

-- what stands before the address at a place
abbrev pub arrow_at : ℕ → List ℕ
arrow_at zero = []
arrow_at (suc place) = codes " -> "

abbrev pub first_address : List (List ℕ) → List ℕ
first_address [] = []
first_address (x ∷ xs) = x

-- what is said of a closed path: its addresses, of which the first one is the cell
abbrev pub cycle_of : List (List ℕ) → Broken
cycle_of names = record {
  cell = first_address names;
  rule = rule.Cycle;
  at = 0;
  detail = joined_by_arrows names;
}

-- formulas lean on one another in a circle, and this is told of it
abbrev pub IsCycle : Names → List CellInfo → Broken → Type 0
IsCycle n is b = (path : List ℕ) × IsClosedPath (edges_of n is) path
    × (b ≡ cycle_of (map (cell_name_at is) path))
