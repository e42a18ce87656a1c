-- Parts one after another.
use Rattle.std.specs.Prelude.{List, ◌∷◌, ◌++◌, ℕ, Some, None, Result, Ok, Err}
use Rattle.fx_types.specs.Types.{Shape}
use Rattle.fx_core.specs.Term.{Term}
use Rattle.fx_core.specs.Rules as rules
use Rattle.fx_typing.specs.Local.{value}
use Rattle.fx_typing.specs.Parts.{JudgedPart, piece, target}

-- parts, and the ones behind them if those break no rule
abbrev pub parts_behind : {A : Type 0} → List A → Result (List A) ℕ → Result (List A) ℕ
parts_behind xs (Ok ys) = Ok (xs ++ ys)
parts_behind xs (Err e) = Err e

-- a part that is a value
abbrev pub value_part : JudgedPart → Result (Term × Shape) ℕ
value_part (piece (value a c t)) = Ok (c, t)
value_part q = Err rules.wrong_type

-- the name that stands first, without a name of its rows, and the parts behind it
abbrev pub named_first : List JudgedPart → Result (List ℕ × List JudgedPart) ℕ
named_first (target None x ∷ qs) = Ok (x, qs)
named_first (target (Some a) x ∷ qs) = Err rules.wrong_type
named_first qs = Err rules.not_a_variable
