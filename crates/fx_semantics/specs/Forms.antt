-- The forms, which evaluate only the parts that they need.
use Rattle.std.specs.Prelude.{◌≡◌, List, [], ◌∷◌}
use Rattle.fx_types.specs.Values.{Data, blank}
use Rattle.fx_core.specs.declared.functions.Form.{Form}
use Rattle.fx_core.specs.declared.functions.Form.TheVariants as form
use Rattle.fx_scalar.specs.LazyForms.{AtAll, AtAny, ByCondition, CaughtOr, ErrorOr, UnlessBlank}
use Rattle.fx_scalar.specs.LazyForms.{equality, none_left}
use Rattle.fx_semantics.specs.Around.{Around, Meaning, catching}

-- `And`: from left to right, ending at the first that is false, blank or an error
abbrev pub IsAll : List Meaning → Meaning
IsAll [] a v = v ≡ none_left form.All
IsAll (P ∷ Ps) a v = (w : Data) × P a w × AtAll w (IsAll Ps a v) v

-- `Or`: from left to right, ending at the first that is true or an error
abbrev pub IsAny : List Meaning → Meaning
IsAny [] a v = v ≡ none_left form.Any
IsAny (P ∷ Ps) a v = (w : Data) × P a w × AtAny w (IsAny Ps a v) v

-- `If`: the value of the first true condition, else the last value, else blank; an error of a
-- condition is the answer
abbrev pub IsIf : List Meaning → Meaning
IsIf [] a v = v ≡ none_left form.If
IsIf (P ∷ []) a v = P a v
IsIf (C ∷ P ∷ Ps) a v = (w : Data) × C a w × ByCondition w (P a v) (IsIf Ps a v) v

-- the result of the first match that equals the value, else the last value, else blank; an error of
-- a match is the answer
abbrev pub IsSwitchMatch : Data → List Meaning → Meaning
IsSwitchMatch w [] a v = v ≡ none_left form.Switch
IsSwitchMatch w (P ∷ []) a v = P a v
IsSwitchMatch w (M ∷ P ∷ Ps) a v = (x : Data) × M a x
    × ByCondition (equality w x) (P a v) (IsSwitchMatch w Ps a v) v

-- `Switch`: an error of the value is the answer, and else its match decides
abbrev pub IsSwitch : List Meaning → Meaning
IsSwitch [] a v = ⊥
IsSwitch (P ∷ Ps) a v = (w : Data) × P a w × ErrorOr w (IsSwitchMatch w Ps a v) v

-- an error is caught by the fallback, and of another value P holds
abbrev pub IsCaughtBy : Data → Meaning → Around → Type 0 → Data → Type 0
IsCaughtBy w F a P v = CaughtOr w (λ k cs. F (catching a k cs) v) P

-- the fallback of the first error among the values, each before its fallback; without error the
-- value that stands alone at the end, or the last one, d where there is none
abbrev pub IsRecovered : Data → List Meaning → Meaning
IsRecovered d [] a v = v ≡ d
IsRecovered d (P ∷ []) a v = P a v
IsRecovered d (P ∷ F ∷ Ps) a v = (w : Data) × P a w × IsCaughtBy w F a (IsRecovered w Ps a v) v

-- `Coalesce`: the first value that is neither blank nor an empty text, else blank; an error that is
-- reached is the answer
abbrev pub IsCoalesced : List Meaning → Meaning
IsCoalesced [] a v = v ≡ blank
IsCoalesced (P ∷ Ps) a v = (w : Data) × P a w × UnlessBlank w (IsCoalesced Ps a v) v

-- what a form is worth, by the meanings of its parts
abbrev pub IsFormed : Form → List Meaning → Meaning
IsFormed form.All = IsAll
IsFormed form.Any = IsAny
IsFormed form.If = IsIf
IsFormed form.Switch = IsSwitch
IsFormed form.IfError = IsRecovered (none_left form.IfError)
