-- No float stands in what is written here.
use Rattle.std.proofs.Common.{◌≡◌, ℕ, false, true, Bool, List, [], ◌∷◌, ◌++◌, map, refl}
use Rattle.std.specs.Prelude.{flat_map, ◌||◌}
use Rattle.serde_json.specs.Data.{Data}
use Rattle.serde_json.specs.View.{items_of}
use Rattle.serde_json.specs.Written.{has_float, items_have_float}
use Rattle.std.proofs.lemmas.Bool.{or_from}
use Rattle.app_cells.specs.declared.app.App.{App}
use Rattle.app_cells.specs.declared.app.CellInfo.{CellInfo}
use Rattle.app_reports.specs.Plans.{sites_data, plan_data, site_data}
use Rattle.fx_core.specs.declared.sites.Site.{Site}
use Rattle.fx_core.specs.declared.schema.TableShape.{TableShape}

first_false : (a b : Bool) → (a || b) ≡ false → a ≡ false
first_false true b h = h
first_false false b h = refl

second_false : (a b : Bool) → (a || b) ≡ false → b ≡ false
second_false true b h = absurd cc
second_false false b h = h

-- of some behind others
behind : (ds es : List Data) → items_have_float (items_of ds) ≡ false → items_have_float (items_of es) ≡ false → items_have_float (items_of (ds ++ es)) ≡ false
behind [] es h k = k
behind (d ∷ ds) es h k =
    or_from (has_float d) (items_have_float (items_of (ds ++ es))) (first_false (has_float d) (items_have_float (items_of ds)) h) (behind ds es (second_false (has_float d) (items_have_float (items_of ds)) h) k)

sites_have_none : (ts : List TableShape) (cell : List ℕ) (ss : List Site) → items_have_float (items_of (map (site_data ts cell) ss)) ≡ false
sites_have_none ts cell [] = refl
sites_have_none ts cell (s ∷ ss) = or_from (has_float (site_data ts cell s)) (items_have_float (items_of (map (site_data ts cell) ss))) refl (sites_have_none ts cell ss)

cells_have_none : (ts : List TableShape) (cs : List CellInfo) → items_have_float (items_of (flat_map (sites_data ts) cs)) ≡ false
cells_have_none ts [] = refl
cells_have_none ts (c ∷ cs) = behind (sites_data ts c) (flat_map (sites_data ts) cs) (sites_have_none ts c.cell.name c.sites) (cells_have_none ts cs)

pub plan_has_none : (a : App) → has_float (plan_data a) ≡ false
plan_has_none a = or_from (items_have_float (items_of (flat_map (sites_data a.names.schema.tables) a.cells))) false (cells_have_none a.names.schema.tables a.cells) refl
