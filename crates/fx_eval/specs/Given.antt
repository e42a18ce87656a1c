-- What the parts of a call over a table come to.
use Rattle.std.specs.Prelude.{ℕ, suc, Bool, true, false, List, [], ◌∷◌, map, Option, Some, None}
use Rattle.fx_types.specs.Values.{Data, blank, text}
use Rattle.fx_types.specs.ValueView.{view}
use Rattle.fx_semantics.specs.Around.{Around, Meaning, AreEach}
use Rattle.fx_core.specs.declared.rows.Takes.{Takes}
use Rattle.fx_core.specs.declared.rows.Takes.TheVariants as takes
use Rattle.fx_eval.specs.declared.answers.Answers.{Answers}
use Rattle.fx_eval.specs.declared.answers.Answers.TheVariants.{Once, Each}
use Rattle.fx_value.specs.Columns.{Row}
use Rattle.fx_core.specs.Term.{Top}
use Rattle.fx_typing.specs.WellTyped.{PartScope, plain, inside, standing_at}

-- the value of a part, or its values for the rows in order
pub data ArgumentValues : Type 0 where
  once : Data → ArgumentValues
  each : List Data → ArgumentValues

-- what answers are seen as
abbrev pub argument_values : Answers → ArgumentValues
argument_values (Once v) = once (view v)
argument_values (Each vs) = each (map view vs.items)

-- whether what stands at a place stands in the scope of a row
abbrev pub is_inner : Takes → Bool
is_inner (takes.Formula s) = true
is_inner takes.ScalarFormula = true
is_inner takes.AnyFormula = true
is_inner takes.RowFormula = true
is_inner k = false

-- what a part gives where it stands: its value, or its values for the rows in order, each in the
-- scope of its row
abbrev pub PartGives : PartScope → Meaning → Around → List Row → ArgumentValues → Type 0
PartGives inside P a rows (each ds) = AreEach P a rows ds
PartGives plain P a rows (once d) = P a d
PartGives s P a rows g = ⊥

-- what the parts of a head give, of which there are so many, from a place on
abbrev pub AreGiven : Top → ℕ → ℕ → List Meaning → Around → List Row → List ArgumentValues → Type 0
AreGiven h n i [] a rows [] = Unit {0}
AreGiven h n i (P ∷ Ps) a rows (g ∷ gs) = PartGives (standing_at h n i) P a rows g
    × AreGiven h n (suc i) Ps a rows gs
AreGiven h n i Ps a rows gs = ⊥

-- the values of the formula that comes first
abbrev pub values_in : List ArgumentValues → List Data
values_in (each ds ∷ gs) = ds
values_in gs = []

-- the value that comes first, if there is one
abbrev pub count_argument : List ArgumentValues → Option Data
count_argument (once d ∷ gs) = Some d
count_argument gs = None

-- the value behind a formula, and blank where there is none
abbrev pub separator_in : List ArgumentValues → Data
separator_in (g ∷ once d ∷ gs) = d
separator_in gs = blank

-- the names of columns, which stand as texts
abbrev pub column_names_in : List ArgumentValues → List (List ℕ)
column_names_in (once (text n) ∷ gs) = n ∷ column_names_in gs
column_names_in gs = []

-- new columns, each of a name and of values for the rows
abbrev pub new_columns : List ArgumentValues → List (List ℕ × List Data)
new_columns (once (text n) ∷ each ds ∷ gs) = (n, ds) ∷ new_columns gs
new_columns gs = []

-- names in pairs
abbrev pub pairs_in : List ArgumentValues → List (List ℕ × List ℕ)
pairs_in (once (text n) ∷ once (text m) ∷ gs) = (n, m) ∷ pairs_in gs
pairs_in gs = []

-- ---- one part, where it is not left out
-- values for the rows
abbrev pub IsEach : Option ArgumentValues → Type 0
IsEach (Some (each ds)) = Unit {0}
IsEach g = ⊥

-- the name of a column
abbrev pub IsName : Option ArgumentValues → Type 0
IsName (Some (once (text n))) = Unit {0}
IsName g = ⊥

-- a value, or none
abbrev pub IsOnce : Option ArgumentValues → Type 0
IsOnce (Some (each ds)) = ⊥
IsOnce g = Unit {0}

-- that value
abbrev pub argument_value : Option ArgumentValues → Option Data
argument_value (Some (once d)) = Some d
argument_value g = None
