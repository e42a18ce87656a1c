-- The reply that shows the named formulas.
use Rattle.std.specs.Prelude.{◌≡◌, ℕ, List, Some, true, map, codes, encode_utf8_all, slice_get}
use Rattle.std.specs.List.{Contains}
use Rattle.serde_json.specs.Data as json
use Rattle.serde_json.specs.Data.{string, array, object, member, no_members}
use Rattle.serde_json.specs.View.{items_of}
use Rattle.serde_json.specs.Written.{compact_text}
use Rattle.app_cells.specs.declared.app.App.{App}
use Rattle.app_loader.specs.app_semantics.Needed.{IsFreshAt, Needs, is_alone}
use Rattle.app_loader.specs.app_semantics.Present.{Present}
use Rattle.fx_types.specs.Values.{Data}
use Rattle.fx_types.specs.ValueView.{view}
use Rattle.fx_core.specs.declared.names.FormulaName.{FormulaName}
use Rattle.recalc.specs.Kept.{IsClean, CacheState}
use Rattle.view_text.specs.JsonText.{tagged, value_data}
use Rattle.view_text.specs.declared.replies.Named.{Named}

-- `{"name":..,"value":..}`
abbrev pub pair_data : List ℕ × Data → json.Data
pair_data p = object (member (codes "name") (string (encode_utf8_all p.0))
    (member (codes "value") (value_data p.1) no_members))

-- `{"named":[..]}`: these names with their values, in order
unfoldable pub named_body : List (List ℕ × Data) → List ℕ
named_body values = compact_text (tagged (codes "named") (array (items_of (map pair_data values))))

-- the named formulas by their names, where cells have these values
abbrev pub formulas_by_name : (ℕ → Data) → FormulaName → List ℕ × Data
formulas_by_name values f = (f.name, values f.cell)

abbrev pub named_values : App → (ℕ → Data) → List (List ℕ × Data)
named_values a values = map (formulas_by_name values) a.names.formulas

-- the cells of the named formulas
abbrev pub named_cells : App → List ℕ
named_cells a = map (λ (f : FormulaName). f.cell) a.names.formulas

-- the named formulas have their fresh values
abbrev pub AreNamedFresh : Present → (ℕ → Data) → Type 0
AreNamedFresh p values = (i : ℕ) (f : FormulaName) → slice_get p.app.names.formulas i ≡ Some f
    → IsFreshAt p values f.cell

-- each named formula of the app with its fresh value
abbrev pub IsNamedList : Present → List (List ℕ × Data) → Type 0
IsNamedList p shown = (values : ℕ → Data) × AreNamedFresh p values
    × (shown ≡ named_values p.app values)

-- each cell that is needed for a named formula is clean
abbrev pub AreNamedMade : App → CacheState → Type 0
AreNamedMade a c = (r k : ℕ) → Contains (named_cells a) r → Needs a r k → is_alone a.cells k ≡ true
    → IsClean a c k

-- the body
abbrev pub IsNamedBody : Present → List ℕ → Type 0
IsNamedBody p body = (shown : List (List ℕ × Data)) × ∥ IsNamedList p shown ∥₁
    × (body ≡ named_body shown)

-- a row of the reply, as its name and its value
abbrev pub reply_row : Named → List ℕ × Data
reply_row n = (n.name, view n.value)
