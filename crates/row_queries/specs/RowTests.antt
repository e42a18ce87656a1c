-- What row tests come to: what the conditions that they stand for come to, on a row.
use Rattle.std.specs.Prelude.{◌≡◌, ◌⊎◌, ℕ, Bool, true, false, ◌||◌, List, [], ◌∷◌, bytes_eq, length}
use Rattle.std.specs.Prelude.{take, Option, Some, None, slice_get, IsSomeAnd}
use Rattle.caseless.specs.Caseless.{default_case_fold}
use Rattle.fx_types.specs.declared.faults.Fault.{Fault}
use Rattle.fx_types.specs.declared.faults.Kind.{Kind}
use Rattle.fx_types.specs.Values.{Data, blank, text, boolean, fault}
use Rattle.fx_value.specs.Operators.{CanCompare, holds_of}
use Rattle.fx_value.specs.Order.{IsScalar}
use Rattle.row_queries.specs.Conditions.{Condition, ConditionList, always, flag, constant, compares}
use Rattle.row_queries.specs.Conditions.{is_blank, starts, contains, all_of, any_of, opposite}
use Rattle.row_queries.specs.Conditions.{no_conditions, also}
use Rattle.row_queries.specs.TableRows.{value_at}
use Rattle.row_queries.specs.declared.row_tests.Held.{Held}
use Rattle.row_queries.specs.declared.row_tests.Held.TheVariants.{Yes, No, Error}

-- a row meets a test, or it doesn't, or the test is an error
pub data Outcome : Type 0 where
  met : Outcome
  unmet : Outcome
  failed : Kind → List ℕ → Outcome

abbrev pub held_of : Outcome → Held
held_of met = Yes
held_of unmet = No
held_of (failed k cs) = Error

abbrev pub outcome_fault : Outcome → Option Fault
outcome_fault (failed k cs) = Some (record { kind = k; message = cs })
outcome_fault o = None

abbrev pub is_met : Outcome → Bool
is_met met = true
is_met o = false

-- ---- one condition

abbrev pub decided : Bool → Outcome
decided true = met
decided false = unmet

-- a Boolean: true meets it, false and blank don't, and an error is the outcome
abbrev pub decided_by : Data → Outcome
decided_by (boolean b) = decided b
decided_by (fault k cs) = failed k cs
decided_by d = unmet

-- an error in a constant's place is the outcome
abbrev pub unless_fault : Data → Outcome → Outcome
unless_fault (fault k cs) o = failed k cs
unless_fault d o = o

-- the text in a value; blank is the empty one
abbrev pub text_or_empty : Data → List ℕ
text_or_empty (text cs) = cs
text_or_empty d = []

-- an empty text is blank too
abbrev pub is_empty_value : Data → Bool
is_empty_value blank = true
is_empty_value (text []) = true
is_empty_value d = false

-- a text begins with a part, and has it somewhere
abbrev pub is_prefix : List ℕ → List ℕ → Bool
is_prefix cs part = bytes_eq (take (length part) cs) part

abbrev pub has_part : List ℕ → List ℕ → Bool
has_part [] part = is_prefix [] part
has_part (c ∷ cs) part = is_prefix (c ∷ cs) part || has_part cs part

-- the same without case
abbrev pub begins_without_case : Data → Data → Bool
begins_without_case d part = is_prefix (default_case_fold (text_or_empty d))
    (default_case_fold (text_or_empty part))

abbrev pub has_part_without_case : Data → Data → Bool
has_part_without_case d part = has_part (default_case_fold (text_or_empty d))
    (default_case_fold (text_or_empty part))

-- ---- conditions joined

abbrev pub reversed : Outcome → Outcome
reversed met = unmet
reversed unmet = met
reversed (failed k cs) = failed k cs

-- where the first is met, the others decide
abbrev pub and_outcome : Outcome → Outcome → Outcome
and_outcome met o = o
and_outcome p o = p

-- where the first isn't met, the others decide
abbrev pub or_outcome : Outcome → Outcome → Outcome
or_outcome unmet o = o
or_outcome p o = p

abbrev mutual
  -- what a condition comes to on a row of these values
  pub outcome : List Data → Condition → Outcome
  outcome row always = met
  outcome row (flag k) = decided_by (value_at row k)
  outcome row (constant d) = decided_by d
  outcome row (compares op k d) = unless_fault d (decided (holds_of op (value_at row k) d))
  outcome row (is_blank k) = decided (is_empty_value (value_at row k))
  outcome row (starts k d) = unless_fault d (decided (begins_without_case (value_at row k) d))
  outcome row (contains k d) = unless_fault d (decided (has_part_without_case (value_at row k) d))
  outcome row (all_of cs) = all_outcome row cs
  outcome row (any_of cs) = any_outcome row cs
  outcome row (opposite c) = reversed (outcome row c)

  pub all_outcome : List Data → ConditionList → Outcome
  all_outcome row no_conditions = met
  all_outcome row (also c cs) = and_outcome (outcome row c) (all_outcome row cs)

  pub any_outcome : List Data → ConditionList → Outcome
  any_outcome row no_conditions = unmet
  any_outcome row (also c cs) = or_outcome (outcome row c) (any_outcome row cs)

-- a value that is no error
abbrev pub IsNoFault : Data → Type 0
IsNoFault (fault k cs) = ⊥
IsNoFault d = Unit {0}

abbrev mutual
  -- a text is looked into, from left to right and no further than is needed
  pub ReadsText : List Data → Condition → Type 0
  ReadsText row (starts k d) = IsNoFault d
  ReadsText row (contains k d) = IsNoFault d
  ReadsText row (all_of cs) = ReadTextWhile met row cs
  ReadsText row (any_of cs) = ReadTextWhile unmet row cs
  ReadsText row (opposite c) = ReadsText row c
  ReadsText row c = ⊥

  -- one of these does, and those before it come to this
  pub ReadTextWhile : Outcome → List Data → ConditionList → Type 0
  ReadTextWhile o row no_conditions = ⊥
  ReadTextWhile o row (also c cs) = ReadsText row c ⊎ ((outcome row c ≡ o) × ReadTextWhile o row cs)

-- ---- what tests need

-- an error, or a value of which P holds
abbrev pub IsFaultOr : (Data → Type 0) → Data → Type 0
IsFaultOr P (fault k cs) = Unit {0}
IsFaultOr P d = P d

-- a Boolean, or blank
abbrev pub IsTruth : Data → Type 0
IsTruth (boolean b) = Unit {0}
IsTruth blank = Unit {0}
IsTruth d = ⊥

-- a text, or blank
abbrev pub IsWords : Data → Type 0
IsWords (text cs) = Unit {0}
IsWords blank = Unit {0}
IsWords d = ⊥

-- the row has the column, and its value there is one of which P holds
abbrev pub HasValue : List Data → ℕ → (Data → Type 0) → Type 0
HasValue row k P = IsSomeAnd (slice_get row k) P

abbrev mutual
  -- a condition can be asked of a row of these values: the row has the columns that it names, and
  -- their values and its constants are of the types that it takes; a constant may be an error
  pub CanAsk : List Data → Condition → Type 0
  CanAsk row always = Unit {0}
  CanAsk row (flag k) = HasValue row k IsTruth
  CanAsk row (constant d) = IsFaultOr IsTruth d
  CanAsk row (compares op k d) = HasValue row k (λ v. IsScalar v × IsFaultOr (CanCompare op v) d)
  CanAsk row (is_blank k) = HasValue row k IsScalar
  CanAsk row (starts k d) = HasValue row k IsWords × IsFaultOr IsWords d
  CanAsk row (contains k d) = HasValue row k IsWords × IsFaultOr IsWords d
  CanAsk row (all_of cs) = CanAskAll row cs
  CanAsk row (any_of cs) = CanAskAll row cs
  CanAsk row (opposite c) = CanAsk row c

  pub CanAskAll : List Data → ConditionList → Type 0
  CanAskAll row no_conditions = Unit {0}
  CanAskAll row (also c cs) = CanAsk row c × CanAskAll row cs

-- no constant is an error
abbrev mutual
  pub HasNoFaults : Condition → Type 0
  HasNoFaults (constant d) = IsNoFault d
  HasNoFaults (compares op k d) = IsNoFault d
  HasNoFaults (starts k d) = IsNoFault d
  HasNoFaults (contains k d) = IsNoFault d
  HasNoFaults (all_of cs) = HaveNoFaults cs
  HasNoFaults (any_of cs) = HaveNoFaults cs
  HasNoFaults (opposite c) = HasNoFaults c
  HasNoFaults c = Unit {0}

  pub HaveNoFaults : ConditionList → Type 0
  HaveNoFaults no_conditions = Unit {0}
  HaveNoFaults (also c cs) = HasNoFaults c × HaveNoFaults cs
