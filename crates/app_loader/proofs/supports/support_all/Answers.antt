use Rattle.app_loader.proofs.Supporting.{all_with}
use Rattle.app_loader.proofs.supports.support_all.Goals as goal

pub returns : goal.returns
returns c =
    all_with c.args.names.now c.args.infos c.as_slice.result.now c.in_ok-supports.supports.items c.as_slice.ensures c.in_ok-supports.ensures c.with_supports.result c.with_supports.ensures.same c.with_supports.ensures.supports
