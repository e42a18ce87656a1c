-- The formulas of an app by the numbers that their places have.
use Rattle.std.specs.Prelude.{◌≡◌, ℕ, List, Bool, Option, Some, None, position, if◌then◌else◌}
use Rattle.std.specs.BTreeMap.{BTreeMap, get}
use Rattle.std.specs.Ordering.{is_eq}
use Rattle.std.specs.declared.cmp.Ordering.{Ordering}
use Rattle.app_texts.specs.Places.{is_same_spot}
use Rattle.app_cells.specs.declared.app.CellInfo.{CellInfo}
use Rattle.app_cells.specs.declared.cell.Spot.{Spot}
use Rattle.app_cells.specs.declared.cell.Spot.TheVariants as spot
use Rattle.app_texts.specs.declared.numbers.Place.{Place}
use Rattle.app_texts.specs.declared.numbers.Place.TheVariants as place
use Rattle.app_texts.specs.contracts.numbers.PlaceOrd.TheImpl as places

-- a place, in the order of places
abbrev pub spot_order : Spot → Place
spot_order (spot.Formula x) = place.Formula x
spot_order spot.OnStart = place.OnStart
spot_order (spot.OnVisible s) = place.OnVisible s
spot_order (spot.Property k p) = place.Property k p

abbrev pub in_order : Place → Place → Ordering
in_order = (places.ghosts).cmp

-- the number that a place has
abbrev pub spot_number : BTreeMap Place ℕ → Place → Option ℕ
spot_number = get in_order

-- a formula is written at this place
abbrev pub is_written_at : Spot → CellInfo → Bool
is_written_at s i = is_same_spot s i.cell.spot

-- each place has the number of the first formula that is written there, and no other place has one
abbrev pub AreNumbers : BTreeMap Place ℕ → List CellInfo → Type 0
AreNumbers numbers cells = (s : Spot) → spot_number numbers (spot_order s)
    ≡ position (is_written_at s) cells

-- a place that had no number has this one
abbrev pub or_numbered : Option ℕ → Option ℕ → Option ℕ
or_numbered (Some k) later = Some k
or_numbered None later = later

abbrev pub IsNumberNoted : BTreeMap Place ℕ → BTreeMap Place ℕ → Place → ℕ → Type 0
IsNumberNoted old new p k = (q : Place) → spot_number new q
    ≡ or_numbered (spot_number old q) (if is_eq (in_order p q) then Some k else None)
