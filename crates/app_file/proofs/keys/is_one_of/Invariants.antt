use Rattle.std.proofs.Common.{◌≡◌, drop, map}
use Rattle.app_file.specs.Keys.{is_known_key}
use Rattle.app_file.proofs.keys.is_one_of.Given as goal

abbrev pub invariant-loop-other : goal.invariant-loop-other
invariant-loop-other l = is_known_key (map (λ k. k.now) (drop l.other-index l.keys)) l.key ≡ is_known_key (map (λ k. k.now) l.keys) l.key
