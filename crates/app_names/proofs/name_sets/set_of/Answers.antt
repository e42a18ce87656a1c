use Rattle.std.proofs.Common.{◌++◌, ◌∷◌, [], take, ap, sym, ◌∙◌}
use Rattle.std.proofs.lemmas.List.{take_more}
use Rattle.app_names.specs.Declarations.{is_name_among}
use Rattle.app_names.proofs.name_sets.set_of.Goals as goal

pub loop-name-preserved : goal.loop-name-preserved
loop-name-preserved c =
    let ns = c.args.all.now in
    let i = c.loop-name.name-index in
    let n = c.name-item.result in
    c.in_ok-put_name.ensures (take i ns) c.loop-name.invariant
    ∙ ap is_name_among (sym (take_more ns i n c.loop-name-test.true ∙ ap (λ m. take i ns ++ m ∷ []) (sym c.name-item.is)))
