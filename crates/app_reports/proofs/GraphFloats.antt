-- No float stands in what is written here.
use Rattle.std.proofs.Common.{◌≡◌, ℕ, false, List, [], ◌∷◌, map, refl}
use Rattle.serde_json.specs.View.{items_of}
use Rattle.serde_json.specs.Written.{has_float, items_have_float}
use Rattle.std.proofs.lemmas.Bool.{or_from}
use Rattle.app_cells.specs.declared.app.App.{App}
use Rattle.app_cells.specs.declared.app.CellInfo.{CellInfo}
use Rattle.fx_core.specs.declared.sources.Source.{Source}
use Rattle.app_reports.specs.Graph.{reads_data, graph_data, read_data}

reads_have_none : (a : App) (ss : List Source) → items_have_float (items_of (map (read_data a) ss)) ≡ false
reads_have_none a [] = refl
reads_have_none a (s ∷ ss) = or_from false (items_have_float (items_of (map (read_data a) ss))) refl (reads_have_none a ss)

cell_has_none : (a : App) (c : CellInfo) → has_float (reads_data a c) ≡ false
cell_has_none a c = or_from (items_have_float (items_of (map (read_data a) c.reads))) false (reads_have_none a c.reads) refl

cells_have_none : (a : App) (cs : List CellInfo) → items_have_float (items_of (map (reads_data a) cs)) ≡ false
cells_have_none a [] = refl
cells_have_none a (c ∷ cs) = or_from (has_float (reads_data a c)) (items_have_float (items_of (map (reads_data a) cs))) (cell_has_none a c) (cells_have_none a cs)

pub graph_has_none : (a : App) → has_float (graph_data a) ≡ false
graph_has_none a = or_from (items_have_float (items_of (map (reads_data a) a.cells))) false (cells_have_none a a.cells) refl
