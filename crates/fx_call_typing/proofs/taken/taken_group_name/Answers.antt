use Rattle.std.proofs.Common.{map, sym}
use Rattle.fx_resolve.specs.PartView.{judged_part}
use Rattle.fx_call_typing.proofs.GroupNames.{none_taken}
use Rattle.fx_call_typing.proofs.taken.taken_group_name.Goals as goal

pub returns-in-None : goal.returns-in-None
returns-in-None c = rw (sym c.columns_in.ensures, c.in-None.is) (sym (none_taken (map judged_part c.args.others.now)))
