-- Why evaluations stop.
use Rattle.fx_env.specs.declared.environment.Stop.{Stop}
use Rattle.fx_env.specs.declared.environment.Stop.TheVariants as stop
use Rattle.row_keeper.specs.declared.keeper.KeeperEnd.{KeeperEnd}
use Rattle.row_keeper.specs.declared.keeper.KeeperEnd.TheVariants as end

-- where the keeper gives no answer
abbrev pub stop_of : KeeperEnd → Stop
stop_of end.Memory = stop.Memory
stop_of end.Failed = stop.Keeper

-- and the way back
abbrev pub end_of_stop : Stop → KeeperEnd
end_of_stop stop.Memory = end.Memory
end_of_stop stop.Keeper = end.Failed
