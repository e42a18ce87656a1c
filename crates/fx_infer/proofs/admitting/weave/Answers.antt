use Rattle.std.proofs.Common.{◌≡◌, ◌∙◌, List, ap, arith, length, map}
use Rattle.std.proofs.lemmas.List.{nil_from_length}
use Rattle.fx_typing.specs.Typing.{woven_by}
use Rattle.fx_resolve.specs.PartView.{judged_part}
use Rattle.fx_resolve.specs.declared.parts.Part.{Part}
use Rattle.fx_infer.proofs.admitting.weave.Goals as goal

pub returns-then-is_empty : goal.returns-then-is_empty
returns-then-is_empty c =
    let n : length c.args.all.items ≡ 0 = grind arith in
    ap (λ (qs : List Part). woven_by (map judged_part qs)) (nil_from_length c.args.all.items n) ∙ c.in_ok-no_pieces.ensures
