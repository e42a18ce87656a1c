-- Where a part answers an error, the whole does.
use Rattle.std.proofs.Common.{◌≡◌, ℕ, Result, Ok, Err}
use Rattle.fx_core.specs.Rules.{rule_number}
use Rattle.fx_base.specs.declared.or_memory.OrMemory.TheVariants.{Refused as Breaks, Memory}
use Rattle.fx_typing.specs.Answers.{IsAnswerOf, Wrong}

pub stops : {A B C D : Type 0} (f : A → B) (g : C → D) (r : Result B ℕ) (s : Result D ℕ) (e : Wrong) →
    ((k : ℕ) → r ≡ Err k → s ≡ Err k) → IsAnswerOf f r (Err e) → IsAnswerOf g s (Err e)
stops f g r s (Breaks rule) go h = go (rule_number rule) h
stops f g r s Memory go h = tt
