-- What a body answers, where the definition answers a thing or the rule that is broken.
use Rattle.std.specs.Prelude.{◌≡◌, ℕ, Result, Ok, Err}
use Rattle.fx_core.specs.Rules.{rule_number}
use Rattle.fx_base.specs.declared.or_memory.OrMemory.{OrMemory}
use Rattle.fx_core.specs.declared.rule.Rule.{Rule}
use Rattle.fx_base.specs.declared.or_memory.OrMemory.TheVariants.{Refused as Breaks, Memory}

-- a rule that is broken, or want of memory
abbrev pub Wrong : Type 0
Wrong = OrMemory Rule

-- the thing and the rule are the definition's; memory may run out
abbrev pub IsAnswerOf : {A B : Type 0} → (A → B) → Result B ℕ → Result A Wrong → Type 0
IsAnswerOf f r (Ok x) = r ≡ Ok (f x)
IsAnswerOf f r (Err (Breaks rule)) = r ≡ Err (rule_number rule)
IsAnswerOf f r (Err Memory) = Unit {0}
