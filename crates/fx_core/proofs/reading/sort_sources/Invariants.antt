use Rattle.std.proofs.Common.{◌≡◌, [], drop}
use Rattle.fx_core.specs.Rising.{put_all}
use Rattle.fx_core.proofs.reading.sort_sources.Given as goal

-- what is left, put to what stands already, is all in order
abbrev pub invariant-loop-source : goal.invariant-loop-source
invariant-loop-source l = put_all (drop l.source-index l.sources) l.once.items ≡ put_all l.sources []
