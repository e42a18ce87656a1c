-- What the others know of a part.
use Rattle.std.proofs.Common.{◌≡◌, ℕ, List, [], Result, Ok, Err, ap, sym, subst, ◌∙◌}
use Rattle.fx_infer.specs.declared.flaw.Flaw.{Flaw}
use Rattle.fx_base.specs.declared.or_memory.OrMemory.TheVariants.{Refused as Flawed}
use Rattle.fx_infer.proofs.Breaks.{told_broken}
use Rattle.fx_infer.specs.Judged.{IsJudgedBy, Halt}
use Rattle.fx_typing.specs.Details.{IsToldBroken}
use Rattle.fx_typing.specs.Parts.{Setting, piece}
use Rattle.fx_typing.specs.Rounds.{or_unknown}
use Rattle.fx_typing.specs.Typing.{judge}
use Rattle.fx_core.specs.Rules.{rule_number}
use Rattle.fx_resolve.specs.PartView.{judged_part}
use Rattle.fx_resolve.specs.declared.parts.Part.{Part}
use Rattle.fx_core.specs.Tree.{Tree}
use Rattle.fx_typing.specs.Local.{label}
use Rattle.fx_typing.specs.Meaning.{Place}

-- one that is admitted
pub known_part : (p : Place) (s : Setting) (e : Tree) (r : Result Part Halt) (q : Part) → r ≡ Ok q →
    IsJudgedBy judged_part (judge p s e) (IsToldBroken p s e) r → judged_part q ≡ or_unknown (judge p s e)
known_part p s e r q k h =
    let j : judge p s e ≡ Ok (judged_part q) = subst (IsJudgedBy judged_part (judge p s e) (IsToldBroken p s e)) k h in
    sym (ap or_unknown j)

-- one that is broken
pub known_broken : (p : Place) (s : Setting) (e : Tree) (r : Result Part Halt) (f : Flaw) (x : List ℕ) → x ≡ [] → r ≡ Err (Flawed f) →
    IsJudgedBy judged_part (judge p s e) (IsToldBroken p s e) r → piece (label x) ≡ or_unknown (judge p s e)
known_broken p s e r f x n k h =
    let j : IsToldBroken p s e f.at (rule_number f.rule) f.detail = subst (IsJudgedBy judged_part (judge p s e) (IsToldBroken p s e)) k h in
    ap (λ y. piece (label y)) n ∙ sym (ap or_unknown (told_broken p s e f.at (rule_number f.rule) f.detail j))
