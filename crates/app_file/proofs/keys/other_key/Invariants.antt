use Rattle.std.proofs.Common.{◌≡◌, map, not}
use Rattle.std.specs.Prelude.{find, string_bytes}
use Rattle.std.specs.BTreeMap.{keys}
use Rattle.app_file.specs.Keys.{is_known_key}
use Rattle.app_file.proofs.keys.other_key.Given as goal

abbrev pub invariant-loop-key : goal.invariant-loop-key
invariant-loop-key l =
    find (λ k. not (is_known_key (map (λ x. x.now) l.keys) k)) (map string_bytes l.key-iterator)
    ≡ find (λ k. not (is_known_key (map (λ x. x.now) l.keys) k)) (map string_bytes (keys l.members))
