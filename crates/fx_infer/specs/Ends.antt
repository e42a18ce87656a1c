-- What is answered of a formula.
use Rattle.std.specs.Prelude.{◌≡◌, ℕ, List, Bool, Option, Result, Ok, Err}
use Rattle.fx_types.specs.Types.{Shape}
use Rattle.fx_typing.specs.Details.{IsToldBrokenWhole}
use Rattle.fx_typing.specs.Typing.{judge_whole}
use Rattle.fx_typing.specs.declared.typed.Typed.{Typed}
use Rattle.fx_typing.specs.TypedView.{typed}
use Rattle.fx_core.specs.Rules.{rule_number}
use Rattle.fx_core.specs.Tree.{Tree}
use Rattle.fx_typing.specs.Meaning.{Place}
use Rattle.fx_infer.specs.declared.ends.InferEnd.{InferEnd}
use Rattle.fx_infer.specs.declared.ends.InferEnd.TheVariants.{Broken, Memory}

-- the tree and the type are the definition's, and what is said of a broken node in this cell is
-- true; memory may run out
abbrev pub InfersTo : Place → Bool → Option Shape → Tree → List ℕ → Result Typed InferEnd → Type 0
InfersTo p b w e cell (Ok t) = judge_whole p b w e ≡ Ok (typed t)
InfersTo p b w e cell (Err (Broken x)) = IsToldBrokenWhole p b w e x.at (rule_number x.rule)
    x.detail × (x.cell ≡ cell)
InfersTo p b w e cell (Err Memory) = Unit {0}
