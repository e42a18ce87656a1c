use Rattle.std.proofs.Common.{◌≡◌, ◌++◌, take, drop}
use Rattle.fx_core.specs.Rising.{put}
use Rattle.fx_core.proofs.reading.place_in.Given as goal

-- the source belongs behind all that were seen
abbrev pub invariant-loop-place : goal.invariant-loop-place
invariant-loop-place l = put l.source l.sources ≡ take l.place l.sources ++ put l.source (drop l.place l.sources)
