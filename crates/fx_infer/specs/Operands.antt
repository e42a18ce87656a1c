-- Two operands, and heads without parts.
use Rattle.std.specs.Prelude.{ℕ, List, [], ◌∷◌, Option, Some, None, Result, Err}
use Rattle.fx_types.specs.Types.{Shape}
use Rattle.fx_core.specs.declared.functions.Fun.{Fun}
use Rattle.fx_typing.specs.Parts.{JudgedPart, piece}
use Rattle.fx_core.specs.declared.expr.Op.{Op}
use Rattle.fx_core.specs.Rules as rules
use Rattle.fx_typing.specs.Local.{value}
use Rattle.fx_typing.specs.Operators.{function_of}

-- the type of a part that is a value
abbrev pub type_of : JudgedPart → Option Shape
type_of (piece (value a c t)) = Some t
type_of q = None

abbrev pub chosen : Op → Option Shape → Option Shape → Option Fun
chosen o (Some t) (Some u) = function_of o t u
chosen o t u = None

-- the function that the types of two operands choose
abbrev pub operator_of : Op → List JudgedPart → Option Fun
operator_of o (q ∷ r ∷ []) = chosen o (type_of q) (type_of r)
operator_of o qs = None

-- what stands without parts
abbrev pub leaf_of : List JudgedPart → Result JudgedPart ℕ → Result JudgedPart ℕ
leaf_of [] r = r
leaf_of qs r = Err rules.wrong_type
