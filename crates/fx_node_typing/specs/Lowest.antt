-- Two answers as one.
use Rattle.std.specs.Prelude.{nat_lt, Result, Ok, Err, if◌then◌else◌}
use Rattle.fx_core.specs.Rules.{rule_number}
use Rattle.fx_base.specs.declared.or_memory.OrMemory.TheVariants.{Refused as Breaks, Memory}
use Rattle.fx_typing.specs.Answers.{Wrong}

-- the lower of two rules that are broken; want of memory is told before any
abbrev pub lower : Wrong → Wrong → Wrong
lower (Breaks a) (Breaks b) = if nat_lt (rule_number b) (rule_number a) then Breaks b else Breaks a
lower a b = Memory

-- two things, or what is wrong with one of them
abbrev pub both : {A B : Type 0} → Result A Wrong → Result B Wrong → Result (A × B) Wrong
both (Ok a) (Ok b) = Ok (a, b)
both (Ok a) (Err e) = Err e
both (Err e) (Ok b) = Err e
both (Err e) (Err d) = Err (lower e d)
