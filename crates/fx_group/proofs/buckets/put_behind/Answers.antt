use Rattle.std.proofs.Common.{◌≡◌, ◌++◌, ◌∷◌, [], ap, ◌∙◌}
use Rattle.fx_group.proofs.Steps.{behind}
use Rattle.fx_group.proofs.buckets.put_behind.Goals as goal

pub returns : goal.returns
returns c = behind c.args.groups.now.items c.args.place c.push.new.self c.index_mut.result.now c.args.row c.requires (c.in_ok-push.ensures.items ∙ ap (λ v. v.items ++ c.args.row ∷ []) c.index_mut.ensures.value)
