-- What the forms and functions that evaluate no more parts than they need decide by the values of
-- these. P and Q are what holds of the answer v then.
use Rattle.std.specs.Prelude.{◌≡◌, ℕ, Bool, true, false, List, Result, Ok, Err}
use Rattle.fx_types.specs.declared.comparisons.Cmp.TheVariants.{Eq}
use Rattle.fx_types.specs.declared.faults.Fault.{Fault}
use Rattle.fx_types.specs.declared.faults.Kind.{Kind}
use Rattle.fx_types.specs.declared.values.Value.{Value}
use Rattle.fx_types.specs.ValueView.{view}
use Rattle.fx_types.specs.Values.{Data, blank, boolean, fault}
use Rattle.fx_value.specs.Operators.{holds_of, CanCompare}
use Rattle.fx_core.specs.declared.functions.Form.{Form}
use Rattle.fx_core.specs.declared.functions.Form.TheVariants as form
use Rattle.fx_scalar.specs.declared.lazy_forms.Decision.{Decision}
use Rattle.fx_scalar.specs.declared.lazy_forms.Decision.TheVariants.{Met, Unmet, Error}
use Rattle.fx_scalar.specs.ScalarFunctions.{is_blank_or_empty}

-- ---- conditions

-- what the value of a condition decides: true meets it, false and blank do not, and an error is the
-- answer
abbrev pub decision_of : Data → Decision
decision_of (fault k cs) = Error (record { kind = k; message = cs })
decision_of (boolean true) = Met
decision_of d = Unmet

-- where a condition is met P holds, and where it is not met Q
abbrev pub ByDecision : Decision → Type 0 → Type 0 → Data → Type 0
ByDecision Met P Q v = P
ByDecision Unmet P Q v = Q
ByDecision (Error f) P Q v = v ≡ fault f.kind f.message

-- the same by the value of the condition
abbrev pub ByCondition : Data → Type 0 → Type 0 → Data → Type 0
ByCondition w P Q v = ByDecision (decision_of w) P Q v

-- `And` at the value of a part: where it is true the others decide, and else, also where it is
-- blank, it is false; an error is the answer
abbrev pub AtAll : Data → Type 0 → Data → Type 0
AtAll w P v = ByCondition w P (v ≡ boolean false) v

-- `Or` at the value of a part: where it is true it is true, and else, also where it is blank, the
-- others decide; an error is the answer
abbrev pub AtAny : Data → Type 0 → Data → Type 0
AtAny w P v = ByCondition w (v ≡ boolean true) P v

-- what a form is worth where no part is left and none has decided: `And` is true, `Or` false, and
-- all else blank, though `IfError` is worth the value before the last fallback
abbrev pub none_left : Form → Data
none_left form.All = boolean true
none_left form.Any = boolean false
none_left f = blank

-- ---- matches of `Switch`

-- whether `=` holds of the value and a match, or the error of the match; the value is no error
abbrev pub equality : Data → Data → Data
equality w (fault k cs) = fault k cs
equality w x = boolean (holds_of Eq w x)

-- a match that is compared with the value, unless it is an error
abbrev pub CanMatch : Data → Data → Type 0
CanMatch w (fault k cs) = Unit {0}
CanMatch w d = CanCompare Eq w d

-- ---- errors

-- an error is the answer, and of another value P holds
abbrev pub ErrorOr : Data → Type 0 → Data → Type 0
ErrorOr (fault k cs) P v = v ≡ fault k cs
ErrorOr w P v = P

-- an error is caught, so that C holds of its kind and its message, and of another value P holds
abbrev pub CaughtOr : Data → (Kind → List ℕ → Type 0) → Type 0 → Type 0
CaughtOr (fault k cs) C P = C k cs
CaughtOr w C P = P

abbrev pub IsNoError : Data → Type 0
IsNoError (fault k cs) = ⊥
IsNoError d = Unit {0}

-- a value that is no error, or the error
abbrev pub IsSplit : Data → Result Value Fault → Type 0
IsSplit d (Ok v) = (view v ≡ d) × IsNoError d
IsSplit d (Err f) = d ≡ fault f.kind f.message

-- ---- values of `Coalesce`

abbrev pub PassedOr : Bool → Type 0 → Type 0 → Type 0
PassedOr true P Q = P
PassedOr false P Q = Q

-- a value that is blank or an empty text is passed over, so that P holds, and another one, also an
-- error, is the answer
abbrev pub UnlessBlank : Data → Type 0 → Data → Type 0
UnlessBlank w P v = PassedOr (is_blank_or_empty w) P (v ≡ w)
