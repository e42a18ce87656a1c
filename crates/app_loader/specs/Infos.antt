-- Formulas with their typed trees.
use Rattle.std.specs.Prelude.{◌≡◌, ◌↔◌, ℕ, List, false, Ok}
use Rattle.std.specs.List.{AllZip}
use Rattle.fx_types.specs.TypeView.{shape}
use Rattle.fx_plan.specs.Sites.{sites_of}
use Rattle.fx_core.specs.declared.names.Names.{Names}
use Rattle.fx_core.specs.declared.sources.Source.{Source}
use Rattle.fx_core.specs.Reads.{AreSourcesRising, IsAmong, sources_in}
use Rattle.app_cells.specs.declared.app.CellInfo.{CellInfo}
use Rattle.app_cells.specs.declared.cell.Cell.{Cell}
use Rattle.fx_plan.specs.Limited.{limited}
use Rattle.app_loader.specs.Cells.{judged_cell}

-- what a formula is under names, in an app of this row limit: its typed tree, the type of that, all
-- that it names, each once, the tree that is evaluated, and where it takes rows of tables
pub record IsElaborated (m : Names) (most : ℕ) (c : Cell) (i : CellInfo) : Type 0 where
  pub cell : i.cell ≡ c
  pub tree : judged_cell m c ≡ Ok (i.core, shape i.ty)
  pub once : AreSourcesRising i.reads
  pub reads : (s : Source) → IsAmong s i.reads ↔ IsAmong s (sources_in i.core)
  pub taken : i.taken ≡ limited m.schema.tables most 0 false i.core
  pub sites : i.sites ≡ sites_of m.schema.tables i.core

abbrev pub AreElaborated : Names → ℕ → List Cell → List CellInfo → Type 0
AreElaborated m most = AllZip (IsElaborated m most)
