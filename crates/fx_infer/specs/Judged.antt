-- What a body answers, where the definition answers a thing or the node that is broken.
use Rattle.std.specs.Prelude.{◌≡◌, ℕ, List, Result, Ok, Err}
use Rattle.fx_core.specs.Rules.{rule_number}
use Rattle.fx_base.specs.declared.or_memory.OrMemory.{OrMemory}
use Rattle.fx_infer.specs.declared.flaw.Flaw.{Flaw}
use Rattle.fx_base.specs.declared.or_memory.OrMemory.TheVariants.{Refused as Flawed, Memory}

-- a node that is broken, or want of memory
abbrev pub Halt : Type 0
Halt = OrMemory Flaw

-- the thing is the definition's, and what is said of a broken node is true; memory may run out
abbrev pub IsJudgedBy : {A B : Type 0} → (A → B) → Result B (ℕ × ℕ) → (ℕ → ℕ → List ℕ → Type 0)
    → Result A Halt → Type 0
IsJudgedBy f r Told (Ok x) = r ≡ Ok (f x)
IsJudgedBy f r Told (Err (Flawed b)) = Told b.at (rule_number b.rule) b.detail
IsJudgedBy f r Told (Err Memory) = Unit {0}
