-- How forms come from part to part: where a form stands before a part, and what the part's value
-- makes of it.
use Rattle.std.specs.Prelude.{ℕ, Bool, true, false, List, if◌then◌else◌}
use Rattle.fx_types.specs.declared.faults.Kind.{Kind}
use Rattle.fx_types.specs.ValueView.{view}
use Rattle.fx_types.specs.Values.{Data, blank, boolean, fault}
use Rattle.fx_eval.specs.declared.courses.Course.{Course}
use Rattle.fx_eval.specs.declared.courses.Course.TheVariants as course
use Rattle.fx_eval.specs.declared.courses.Turn.{Turn}
use Rattle.fx_eval.specs.declared.courses.Turn.TheVariants as turn
use Rattle.fx_semantics.specs.Around.{Meaning}
use Rattle.fx_semantics.specs.Forms.{IsAll, IsAny, IsIf, IsSwitch, IsSwitchMatch, IsRecovered}
use Rattle.fx_semantics.specs.Forms.{IsCoalesced}
use Rattle.fx_core.specs.declared.functions.Form.TheVariants as form
use Rattle.fx_scalar.specs.declared.lazy_forms.Decision.{Decision}
use Rattle.fx_scalar.specs.declared.lazy_forms.Decision.TheVariants.{Met, Unmet, Error}
use Rattle.fx_scalar.specs.LazyForms.{decision_of, equality, none_left}
use Rattle.fx_scalar.specs.ScalarFunctions.{is_blank_or_empty}

-- where a form stands
pub data Going : Type 0 where
  all : Going
  any : Going
  branches : Going
  switch : Going
  matches : Data → Going
  recovers : Data → Going
  coalesces : Going

abbrev pub course_going : Course → Going
course_going course.All = all
course_going course.Any = any
course_going course.If = branches
course_going course.Switch = switch
course_going (course.Match w) = matches (view w)
course_going (course.Recover w) = recovers (view w)
course_going course.Coalesce = coalesces

-- what a form is worth that stands so before these parts
abbrev pub FormIsWorth : Going → List Meaning → Meaning
FormIsWorth all = IsAll
FormIsWorth any = IsAny
FormIsWorth branches = IsIf
FormIsWorth switch = IsSwitch
FormIsWorth (matches w) = IsSwitchMatch w
FormIsWorth (recovers w) = IsRecovered w
FormIsWorth coalesces = IsCoalesced

-- whether a part that stands alone at the end is the form's value
abbrev pub ends_in_branch : Going → Bool
ends_in_branch branches = true
ends_in_branch (matches w) = true
ends_in_branch (recovers w) = true
ends_in_branch g = false

-- what a form is worth where no part is left
abbrev pub form_end : Going → Data
form_end all = none_left form.All
form_end any = none_left form.Any
form_end (recovers w) = w
form_end g = blank

-- what the value of a part makes of a form: its value, that of the next part, that of the next part
-- where an error is caught, or where it stands from the next part on, or from the one after that
pub data Turning : Type 0 where
  answers : Data → Turning
  chooses : Turning
  catches : Kind → List ℕ → Turning
  goes : Going → Turning
  passes : Going → Turning

abbrev pub turning : Turn → Turning
turning (turn.Answer w) = answers (view w)
turning turn.Branch = chooses
turning (turn.Fallback f) = catches f.kind f.message
turning (turn.Further c) = goes (course_going c)
turning (turn.Beyond c) = passes (course_going c)

-- where a condition is met, and where it is not met; its error is the answer
abbrev pub by_decision : Decision → Turning → Turning → Turning
by_decision Met t u = t
by_decision Unmet t u = u
by_decision (Error f) t u = answers (fault f.kind f.message)

abbrev pub turned_by : Going → Data → Turning
turned_by all d = by_decision (decision_of d) (goes all) (answers (boolean false))
turned_by any d = by_decision (decision_of d) (answers (boolean true)) (goes any)
turned_by branches d = by_decision (decision_of d) chooses (passes branches)
turned_by switch (fault k cs) = answers (fault k cs)
turned_by switch d = goes (matches d)
turned_by (matches w) d = by_decision (decision_of (equality w d)) chooses (passes (matches w))
turned_by (recovers w) (fault k cs) = catches k cs
turned_by (recovers w) d = passes (recovers d)
turned_by coalesces d = if is_blank_or_empty d then goes coalesces else answers d
