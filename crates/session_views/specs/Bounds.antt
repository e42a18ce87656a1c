-- What it costs to show controls: which cells are evaluated, and how often formulas of templates
-- are.
use Rattle.std.specs.Prelude.{◌≡◌, ◌≤◌, ◌+◌, ◌*◌, ℕ, List, [], ◌∷◌, length, Bool, true, false, ◌&&◌}
use Rattle.std.specs.Prelude.{◌||◌, bytes_eq, codes, encode_utf8_all, Option, Some, None}
use Rattle.std.specs.Prelude.{option_map, slice_get, unwrap_or}
use Rattle.std.specs.List.{count_by}
use Rattle.recalc.specs.Templates.{steps_of}
use Rattle.recalc.specs.app_cells.Leaning.{cell_of_property}
use Rattle.recalc.specs.app_cells.declared.app.App.{App}
use Rattle.recalc.specs.app_semantics.Needed.{Needs, is_alone}
use Rattle.fx_core.specs.declared.names.ControlName.{ControlName}
use Rattle.fx_core.specs.declared.names.Names.{Names}
use Rattle.fx_core.specs.declared.names.Property.{Property}
use Rattle.recalc.specs.Kept.{IsClean, CacheState}
use Rattle.recalc.specs.Steps.{OncePerCell}
use Rattle.session_views.specs.Looking.{AreLookedAt, IsLookedAt, is_it, is_one}
use Rattle.view_text.specs.declared.views.Items.{Items}
use Rattle.view_text.specs.declared.views.Shown.{Shown}

-- ---- formulas of templates

-- the formula of a property is evaluated for items: it is a text, or whether a control is visible
abbrev pub is_for_items : Property → Bool
is_for_items p = bytes_eq (encode_utf8_all p.name) (codes "Visible")
    || bytes_eq (encode_utf8_all p.name) (codes "Text")

-- the property is one of a control in a gallery of these
abbrev pub is_in_gallery : Names → (ℕ → Bool) → Property → Bool
is_in_gallery n of p = unwrap_or (option_map (λ (c : ControlName). is_one of c.gallery)
    (slice_get n.controls p.control)) false

-- how many formulas are evaluated for an item of a gallery of these
abbrev pub formulas_for : Names → (ℕ → Bool) → ℕ
formulas_for n of = count_by (λ (p : Property). is_in_gallery n of p && is_for_items p) n.properties

-- a control has this name
abbrev pub is_called : Names → List ℕ → ℕ → Bool
is_called n name k = unwrap_or (option_map (λ (c : ControlName). bytes_eq c.name name)
    (slice_get n.controls k)) false

-- how many items are shown
abbrev pub items_shown : Option Items → ℕ
items_shown (Some i) = length i.list
items_shown None = 0

-- ONCE PER FORMULA AND ITEM: of a gallery
abbrev pub items_steps : Names → ℕ → Option Items → ℕ
items_steps n g o = items_shown o * formulas_for n (is_it g)

-- and of all that is shown on a screen
abbrev pub shown_steps : Names → List Shown → ℕ
shown_steps n [] = 0
shown_steps n (s ∷ ss) = items_shown s.items * formulas_for n (is_called n s.name)
    + shown_steps n ss

-- a control in a template takes them for an item: for whether it is visible, and for its text;
-- another one none
abbrev pub control_steps : Names → ℕ → Bool → ℕ
control_steps n k true = steps_of (cell_of_property n k (codes "Visible"))
    + steps_of (cell_of_property n k (codes "Text"))
control_steps n k false = 0

-- ---- cells

-- THE STEPS: one at most for each cell that is needed for what is looked at, wasn't clean, and
-- isn't cut off; and these beside
pub record AreSteps (a : App) (of : ℕ → Bool) (start after : CacheState) (beside old new : ℕ) :
    Type 0 where
  pub roots : List ℕ
  pub looked : AreLookedAt a of roots
  pub between : ℕ
  pub cells : OncePerCell a roots start after old between
  pub others : new ≤ between + beside

-- each cell that is needed for what is looked at is clean
abbrev pub AreMade : App → (ℕ → Bool) → CacheState → Type 0
AreMade a of c = (r k : ℕ) → IsLookedAt a of r → Needs a r k → is_alone a.cells k ≡ true
    → IsClean a c k
