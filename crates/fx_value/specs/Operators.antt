-- The operators that compare.
use Rattle.std.specs.Prelude.{pos, Bool, not, false, Option, Some, None}
use Rattle.std.specs.Option.{option_map_or}
use Rattle.std.specs.Ordering.{int_cmp, is_eq, is_lt, is_le, is_gt, is_ge}
use Rattle.std.specs.declared.cmp.Ordering.{Ordering}
use Rattle.std.specs.declared.cmp.Ordering.TheVariants.{Equal}
use Rattle.fx_types.specs.Values.{Data, blank, number, text, boolean, date}
use Rattle.fx_types.specs.declared.comparisons.Cmp.{Cmp}
use Rattle.fx_types.specs.declared.comparisons.Cmp.TheVariants.{Eq, Ne, Lt, Le, Gt, Ge}
use Rattle.fx_value.specs.Order.{AreOfOneType, order}

-- how the two sides of < <= > >= compare: blank is 0 beside a number or blank, and does not compare
-- with a date
abbrev pub sides : Data → Data → Option Ordering
sides blank blank = Some Equal
sides blank (number w) = Some (int_cmp (pos 0) w)
sides (number z) blank = Some (int_cmp z (pos 0))
sides (number z) (number w) = Some (int_cmp z w)
sides (date z) (date w) = Some (int_cmp z w)
sides _ _ = None

-- how two scalars compare under an operator: for = and <> by their order, in which blank equals
-- blank alone
abbrev pub compared_by : Cmp → Data → Data → Option Ordering
compared_by Eq a b = Some (order a b)
compared_by Ne a b = Some (order a b)
compared_by _ a b = sides a b

-- whether an operator takes scalars that compare so
abbrev pub takes : Cmp → Ordering → Bool
takes Eq o = is_eq o
takes Ne o = not (is_eq o)
takes Lt o = is_lt o
takes Le o = is_le o
takes Gt o = is_gt o
takes Ge o = is_ge o

-- whether an operator holds of two scalars: where they compare as it takes them
abbrev pub holds_of : Cmp → Data → Data → Bool
holds_of op a b = option_map_or (takes op) (compared_by op a b) false

-- two numbers or two dates, or one of these and blank, or two blanks
abbrev pub AreOrdered : Data → Data → Type 0
AreOrdered (text cs) b = ⊥
AreOrdered a (text ds) = ⊥
AreOrdered (boolean b) c = ⊥
AreOrdered a (boolean c) = ⊥
AreOrdered a b = AreOfOneType a b

-- the scalars that an operator compares
abbrev pub CanCompare : Cmp → Data → Data → Type 0
CanCompare Eq a b = AreOfOneType a b
CanCompare Ne a b = AreOfOneType a b
CanCompare _ a b = AreOrdered a b
