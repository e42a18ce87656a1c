-- Where a formula stands, and what a formula means there.
use Rattle.std.specs.Prelude.{ℕ, ◌++◌, List, [], ◌∷◌, Option, Some}
use Rattle.fx_types.specs.declared.faults.Fault.{Fault}
use Rattle.fx_types.specs.declared.faults.Kind.{Kind}
use Rattle.fx_types.specs.Values.{Data, rec, field_list}
use Rattle.fx_core.specs.declared.sources.Source.{Source}
use Rattle.fx_value.specs.Columns.{Row}

-- what each source may give, the rows and records of the scopes from the outside, the gallery's
-- item if there is one, and the error that was caught around, if one was
pub record Around : Type 1 where
  pub gives : Source → Data → Type 0
  pub rows : List Data
  pub item : Option Data
  pub caught : Option Fault

-- the same in one more scope, inside all others
abbrev pub inside : Around → Data → Around
inside a d = record a { rows = a.rows ++ d ∷ [] }

-- the same where an error was caught
abbrev pub catching : Around → Kind → List ℕ → Around
catching a k cs = record a { caught = Some (record { kind = k; message = cs }) }

-- what a formula means: its value where it stands, if it has one
abbrev pub Meaning : Type 1
Meaning = Around → Data → Type 0

-- formulas have these values, each evaluated
abbrev pub AreValues : List Meaning → Around → List Data → Type 0
AreValues [] a [] = Unit {0}
AreValues (P ∷ Ps) a (d ∷ ds) = P a d × AreValues Ps a ds
AreValues Ps a ds = ⊥

-- a row of a table as a record
abbrev pub record_of : Row → Data
record_of r = rec (field_list r)

-- a formula has these values for these rows in order, each in the scope of its row
abbrev pub AreEach : Meaning → Around → List Row → List Data → Type 0
AreEach P a [] [] = Unit {0}
AreEach P a (r ∷ rs) (d ∷ ds) = P (inside a (record_of r)) d × AreEach P a rs ds
AreEach P a rs ds = ⊥
