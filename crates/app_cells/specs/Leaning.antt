-- Which formulas a formula leans on.
use Rattle.std.specs.Prelude.{◌≡◌, ℕ, suc, ◌++◌, List, [], ◌∷◌, Bool, ◌&&◌, nat_eq, bytes_eq, codes}
use Rattle.std.specs.Prelude.{encode_utf8_all, Option, Some, None, option_map, option_and_then}
use Rattle.std.specs.Prelude.{slice_get}
use Rattle.std.specs.List.{find}
use Rattle.fx_types.specs.declared.controls.Control.{Control}
use Rattle.fx_types.specs.declared.controls.Control.TheVariants as control
use Rattle.fx_core.specs.declared.names.ControlName.{ControlName}
use Rattle.fx_core.specs.declared.names.Names.{Names}
use Rattle.fx_core.specs.declared.names.Property.{Property}
use Rattle.fx_core.specs.declared.sources.Source.{Source}
use Rattle.fx_core.specs.declared.sources.Source.TheVariants as source
use Rattle.fx_core.specs.Reads.{IsAmong}
use Rattle.app_cells.specs.declared.app.CellInfo.{CellInfo}

-- a property of a control, by the bytes of its name
abbrev pub is_property : ℕ → List ℕ → Property → Bool
is_property k name p = nat_eq p.control k && bytes_eq (encode_utf8_all p.name) name

-- the number of the cell of a control's property, where that is written
abbrev pub cell_of_property : Names → ℕ → List ℕ → Option ℕ
cell_of_property n k name = option_map (λ (p : Property). p.cell)
    (find (is_property k name) n.properties)

-- the property that gives an input its value until a user does
abbrev pub default_name : Control → Option (List ℕ)
default_name control.TextInput = Some (codes "Default")
default_name control.Slider = Some (codes "Default")
default_name control.Checkbox = Some (codes "Default")
default_name control.DatePicker = Some (codes "DefaultDate")
default_name c = None

-- the number of the cell of a control's default, where it has one and that is written
abbrev pub default_cell : Names → ℕ → Option ℕ
default_cell n k = option_and_then (λ (c : ControlName). option_and_then (cell_of_property n k)
    (default_name c.kind)) (slice_get n.controls k)

-- the number of the cell of a gallery's items, where it is written
abbrev pub items_cell : Names → ℕ → Option ℕ
items_cell n k = cell_of_property n k (codes "Items")

-- what who reads a source leans on: the cell, the default of an input, the items of which one is
-- chosen
abbrev pub cell_behind : Names → Source → Option ℕ
cell_behind n (source.Cell k) = Some k
cell_behind n (source.Input k) = default_cell n k
cell_behind n (source.Chosen k) = items_cell n k
cell_behind n s = None

-- a formula leans on a cell through one of the sources that it reads
abbrev pub LeansOn : Names → CellInfo → ℕ → Type 0
LeansOn n c d = (s : Source) × IsAmong s c.reads × (cell_behind n s ≡ Some d)

-- an edge from a cell to each that it leans on, through these sources
abbrev pub edge_to : ℕ → Option ℕ → List (ℕ × ℕ)
edge_to k (Some d) = (k, d) ∷ []
edge_to k None = []

abbrev pub edges_by : Names → ℕ → List Source → List (ℕ × ℕ)
edges_by n k [] = []
edges_by n k (s ∷ ss) = edge_to k (cell_behind n s) ++ edges_by n k ss

-- the edges of cells that are numbered from here on
abbrev pub edges_from : Names → ℕ → List CellInfo → List (ℕ × ℕ)
edges_from n k [] = []
edges_from n k (c ∷ cs) = edges_by n k c.reads ++ edges_from n (suc k) cs

-- THE edges of an app: each is a cell with one that it leans on
abbrev pub edges_of : Names → List CellInfo → List (ℕ × ℕ)
edges_of n cs = edges_from n 0 cs
