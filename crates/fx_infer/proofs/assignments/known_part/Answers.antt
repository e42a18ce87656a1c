use Rattle.std.proofs.Common.{◌≡◌, Err, rules}
use Rattle.fx_base.specs.declared.or_memory.OrMemory.TheVariants.{Refused as Flawed}
use Rattle.fx_infer.proofs.Known.{known_part, known_broken}
use Rattle.fx_infer.proofs.assignments.known_part.Goals as goal

pub returns-in-Ok : goal.returns-in-Ok
returns-in-Ok c = λ p s e h. known_part p s e c.args.answer c.in-Ok.part c.in-Ok.is h

pub returns-in-Err-Refused : goal.returns-in-Err-Refused
returns-in-Err-Refused c = λ p s e h.
    let k : c.args.answer ≡ Err (Flawed c.in-Err-Refused.field-0-0) = search rules in
    known_broken p s e c.args.answer c.in-Err-Refused.field-0-0 _ c.in_ok-no_name-in-Err-Refused.ensures k h
