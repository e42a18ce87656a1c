-- What is told of the places where the formulas of an app take rows of tables.
use Rattle.std.specs.Prelude.{ℕ, List, [], ◌∷◌, ◌++◌, length, map, flat_map, codes, encode_utf8_all}
use Rattle.std.specs.Prelude.{Option, Some, None, slice_get, if◌then◌else◌}
use Rattle.std.specs.Fmt.{decimal}
use Rattle.serde_json.specs.Data as json
use Rattle.serde_json.specs.Data.{array, boolean, member, no_members, object, string, unsigned}
use Rattle.serde_json.specs.View.{items_of}
use Rattle.serde_json.specs.Written.{compact_text}
use Rattle.app_cells.specs.declared.app.App.{App}
use Rattle.app_cells.specs.declared.app.CellInfo.{CellInfo}
use Rattle.fx_core.specs.declared.sites.Site.{Site}
use Rattle.fx_core.specs.declared.schema.TableShape.{TableShape}

-- the name of a table by its number
abbrev pub table_name_in : Option TableShape → List ℕ
table_name_in (Some t) = t.name
table_name_in None = []

abbrev pub table_name : List TableShape → ℕ → List ℕ
table_name ts k = table_name_in (slice_get ts k)

-- ---- as JSON

-- `{"by":..,"cell":..,"delegated":..,"number":..,"table":..}`: who takes the rows, in which
-- formula, and whether it takes them all
abbrev pub site_data : List TableShape → List ℕ → Site → json.Data
site_data ts cell s = object (member (codes "by") (string (encode_utf8_all s.by))
    (member (codes "cell") (string (encode_utf8_all cell))
    (member (codes "delegated") (boolean s.delegated)
    (member (codes "number") (json.number (unsigned s.number))
    (member (codes "table") (string (encode_utf8_all (table_name ts s.table))) no_members)))))

-- those of a formula, and of all formulas, in the order of the app
abbrev pub sites_data : List TableShape → CellInfo → List json.Data
sites_data ts c = map (site_data ts c.cell.name) c.sites

-- `{"sites":[..]}`
abbrev pub plan_data : App → json.Data
plan_data a = object (member (codes "sites") (array
    (items_of (flat_map (sites_data a.names.schema.tables) a.cells))) no_members)

unfoldable pub plan_text : App → List ℕ
plan_text a = compact_text (plan_data a)

-- ---- as lines

-- what is taken: all rows, or the first ones, and by whom
abbrev pub taker_text : ℕ → Site → List ℕ
taker_text most s =
    if s.delegated then codes "delegated to " ++ encode_utf8_all s.by
    else codes "first " ++ (decimal most ++ (codes " rows for " ++ encode_utf8_all s.by))

-- `<cell> <number> <table>: delegated to <by>` or `<cell> <number> <table>: first <L> rows for
-- <by>`
abbrev pub site_line : List TableShape → ℕ → List ℕ → Site → List ℕ
site_line ts most cell s =
    encode_utf8_all cell ++ (codes " " ++ (decimal s.number
    ++ (codes " " ++ (encode_utf8_all (table_name ts s.table)
    ++ (codes ": " ++ (taker_text most s ++ codes "\n"))))))

abbrev pub cell_lines : List TableShape → ℕ → CellInfo → List ℕ
cell_lines ts most c = flat_map (site_line ts most c.cell.name) c.sites

-- `app accepted: <n> cells, <m> tables`, and a line for each site
abbrev pub accepted_line : App → List ℕ
accepted_line a = codes "app accepted: " ++ (decimal (length a.cells)
    ++ (codes " cells, " ++ (decimal (length a.names.schema.tables) ++ codes " tables\n")))

unfoldable pub checked_text : App → List ℕ
checked_text a = accepted_line a ++ flat_map (cell_lines a.names.schema.tables a.limit) a.cells
