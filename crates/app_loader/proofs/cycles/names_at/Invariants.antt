use Rattle.std.proofs.Common.{◌≡◌, ◌++◌, drop, map}
use Rattle.app_loader.specs.Cycles.{cell_name_at}
use Rattle.app_loader.proofs.cycles.names_at.Given as goal

abbrev pub invariant-loop-number : goal.invariant-loop-number
invariant-loop-number l = l.names.items ++ map (cell_name_at l.infos) (drop l.number-index l.numbers) ≡ map (cell_name_at l.infos) l.numbers
