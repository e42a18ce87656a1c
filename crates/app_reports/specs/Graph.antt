-- What is told of what the formulas of an app read.
use Rattle.std.specs.Prelude.{ℕ, List, [], ◌++◌, map, codes, encode_utf8_all, Option, Some, None}
use Rattle.std.specs.Prelude.{option_map, unwrap_or, slice_get}
use Rattle.serde_json.specs.Data as json
use Rattle.serde_json.specs.Data.{array, member, no_members, object, string}
use Rattle.serde_json.specs.View.{items_of}
use Rattle.serde_json.specs.Written.{compact_text}
use Rattle.app_cells.specs.declared.app.App.{App}
use Rattle.app_cells.specs.declared.app.CellInfo.{CellInfo}
use Rattle.fx_core.specs.declared.names.Collection.{Collection}
use Rattle.fx_core.specs.declared.names.ControlName.{ControlName}
use Rattle.fx_core.specs.declared.names.Names.{Names}
use Rattle.fx_core.specs.declared.names.Variable.{Variable}
use Rattle.fx_core.specs.declared.schema.TableShape.{TableShape}
use Rattle.fx_core.specs.declared.sources.Source.{Source}
use Rattle.fx_core.specs.declared.sources.Source.TheVariants as source

-- the name of the thing of this number
abbrev pub name_numbered : {A : Type 0} → (A → List ℕ) → List A → ℕ → List ℕ
name_numbered name things k = unwrap_or (option_map name (slice_get things k)) []

-- the address of a formula
abbrev pub cell_address : App → ℕ → List ℕ
cell_address a k = name_numbered (λ (c : CellInfo). c.cell.name) a.cells k

-- the names of a variable, a collection, a control and a table
abbrev pub variable_name : Names → ℕ → List ℕ
variable_name n k = name_numbered (λ (v : Variable). v.name) n.variables k

abbrev pub collection_name : Names → ℕ → List ℕ
collection_name n k = name_numbered (λ (c : Collection). c.name) n.collections k

abbrev pub control_label : Names → ℕ → List ℕ
control_label n k = name_numbered (λ (c : ControlName). c.name) n.controls k

abbrev pub table_label : Names → ℕ → List ℕ
table_label n k = name_numbered (λ (t : TableShape). t.name) n.schema.tables k

-- the name of a screen
abbrev pub name_of_screen : Names → ℕ → List ℕ
name_of_screen n k = unwrap_or (slice_get n.screens k) []

abbrev pub screen_label : Names → Option ℕ → List ℕ
screen_label n (Some k) = name_of_screen n k
screen_label n None = []

-- `<screen>.<variable>`
abbrev pub context_label : Names → Option Variable → List ℕ
context_label n (Some v) = encode_utf8_all (screen_label n v.screen)
    ++ (codes "." ++ encode_utf8_all v.name)
context_label n None = []

abbrev pub context_name : Names → ℕ → List ℕ
context_name n k = context_label n (slice_get n.variables k)

-- What a source is called, in bytes: a formula by its address, a variable of a screen by both
-- names, what a user gave and a chosen row by the control's name behind a word, and all else by its
-- name.
abbrev pub source_name : App → Source → List ℕ
source_name a (source.Cell k) = encode_utf8_all (cell_address a k)
source_name a (source.Global k) = encode_utf8_all (variable_name a.names k)
source_name a (source.Context k) = context_name a.names k
source_name a (source.Gathered k) = encode_utf8_all (collection_name a.names k)
source_name a (source.Input k) = codes "input " ++ encode_utf8_all (control_label a.names k)
source_name a (source.Chosen k) = codes "chosen " ++ encode_utf8_all (control_label a.names k)
source_name a (source.Table k) = encode_utf8_all (table_label a.names k)
source_name a source.Today = codes "Today()"

abbrev pub read_data : App → Source → json.Data
read_data a s = string (source_name a s)

-- `{"cell":..,"reads":[..]}`: the address of a formula, and what its tree names, in the order of
-- sources
abbrev pub reads_data : App → CellInfo → json.Data
reads_data a c = object (member (codes "cell") (string (encode_utf8_all c.cell.name))
    (member (codes "reads") (array (items_of (map (read_data a) c.reads))) no_members))

-- `{"cells":[..]}`: each formula, in the order of the app
abbrev pub graph_data : App → json.Data
graph_data a = object (member (codes "cells") (array (items_of (map (reads_data a) a.cells)))
    no_members)

unfoldable pub graph_text : App → List ℕ
graph_text a = compact_text (graph_data a)
