-- Whether a control in a gallery is visible for an item.
use Rattle.std.proofs.Common.{◌≡◌, ℕ, ◌<◌, Bool, List, Option, Some, None, ap, sym, ◌∙◌, subst, map}
use Rattle.std.specs.Prelude.{IfSome, option_and_then, slice_get}
use Rattle.recalc.specs.app_cells.Spots.{item_or}
use Rattle.recalc.specs.app_semantics.Chosen.{row_at_position}
use Rattle.recalc.specs.app_semantics.Present.{items_of}
use Rattle.fx_types.specs.ValueView.{view}
use Rattle.fx_types.specs.Values.{Data}
use Rattle.fx_types.specs.declared.values.Value.{Value}
use Rattle.recalc.specs.fx_semantics.Rows.{rows_in}
use Rattle.fx_value.specs.Columns.{Row}
use Rattle.fx_core.specs.declared.names.ControlName.{ControlName}
use Rattle.fx_core.specs.declared.names.Names.{Names}
use Rattle.recalc.specs.Reading.{cell_value}
use Rattle.recalc.specs.Values.{CellValues, value_of}
use Rattle.session_requests.specs.Shown.{cell_values}
use Rattle.session_requests.specs.Targets.{IsItemRow, IsTarget, event_gallery}
use Rattle.session_requests.specs.declared.target.Item.{Item}
use Rattle.session_requests.specs.declared.target.Target.{Target}

-- ---- the item of a target

-- a target's item is one of its control's gallery
pub item_is : (n : Names) (values : ℕ → Data) (t : Target) (i : Item) (h : IsTarget n values t) → t.item ≡ Some i → IsItemRow n values (event_gallery t.control h.control) i
item_is n values t i h e = subst (λ o. IfSome o (IsItemRow n values (event_gallery t.control h.control))) e h.item

pub in_same : (o : Option ℕ) (own : Bool) (k g j : ℕ) → o ≡ Some g → item_or o own k ≡ Some j → g ≡ j
in_same None own k g j e f = absurd cc
in_same (Some h) own k g j e f = cc

pub around : (n : Names) (k : ℕ) (c : ControlName) → slice_get n.controls k ≡ Some c → option_and_then (λ (x : ControlName). x.gallery) (slice_get n.controls k) ≡ c.gallery
around n k c there = ap (option_and_then (λ (x : ControlName). x.gallery)) there

-- ---- the row of an item

-- what is read of the values as they are lent
pub row_read : (n : Names) (vs : List Value) (w : CellValues) (g at : ℕ) (r : Row) → map view vs ≡ w.cells → Some r ≡ row_at_position at (rows_in (items_of n (cell_values vs) g)) → row_at_position at (rows_in (items_of n (value_of w) g)) ≡ Some r
row_read n vs w g at r same is = ap (λ (ds : List Data). row_at_position at (rows_in (items_of n (cell_value ds) g))) (sym same) ∙ sym is
