-- The order of scalars.
use Rattle.std.specs.Prelude.{◌≡◌, ℕ}
use Rattle.std.specs.Cmp.Lexicographic.{slice_cmp}
use Rattle.std.specs.Ordering.{nat_cmp, int_cmp, bool_cmp}
use Rattle.std.specs.declared.cmp.Ordering.{Ordering}
use Rattle.std.specs.declared.cmp.Ordering.TheVariants.{Equal}
use Rattle.fx_types.specs.Values.{Data, blank, number, text, boolean, date, rec, tab, fault}

-- a scalar that is no error
abbrev pub IsScalar : Data → Type 0
IsScalar (rec fs) = ⊥
IsScalar (tab rs) = ⊥
IsScalar (fault k cs) = ⊥
IsScalar _ = Unit {0}

-- scalars of one type, or blank
abbrev pub AreOfOneType : Data → Data → Type 0
AreOfOneType (rec fs) b = ⊥
AreOfOneType (tab rs) b = ⊥
AreOfOneType (fault k cs) b = ⊥
AreOfOneType blank b = IsScalar b
AreOfOneType a blank = IsScalar a
AreOfOneType (number z) (number w) = Unit {0}
AreOfOneType (text cs) (text ds) = Unit {0}
AreOfOneType (boolean b) (boolean c) = Unit {0}
AreOfOneType (date z) (date w) = Unit {0}
AreOfOneType _ _ = ⊥

-- blank comes first, and then type after type
abbrev pub rank_of : Data → ℕ
rank_of blank = 0
rank_of (number z) = 1
rank_of (text cs) = 2
rank_of (boolean b) = 3
rank_of (date z) = 4
rank_of _ = 5

-- scalars of one type go by their values, texts by their scalar values, and false is below true
abbrev pub order : Data → Data → Ordering
order (number z) (number w) = int_cmp z w
order (text cs) (text ds) = slice_cmp nat_cmp cs ds
order (boolean b) (boolean c) = bool_cmp b c
order (date z) (date w) = int_cmp z w
order a b = nat_cmp (rank_of a) (rank_of b)

-- scalars that the order does not tell apart are equal
abbrev pub OrderTells : Type 0
OrderTells = (a b : Data) → IsScalar a → IsScalar b → order a b ≡ Equal → a ≡ b
