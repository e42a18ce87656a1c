use Rattle.std.proofs.Common.{◌≡◌, ◌++◌, map, drop}
use Rattle.std.specs.List.{All}
use Rattle.fx_tables.specs.Groups.{key_of, value_of}
use Rattle.fx_value.specs.Keys.{IsProper, key_bytes}
use Rattle.fx_group.specs.Buckets.{bytes_of, items_of}
use Rattle.fx_group.proofs.buckets.bytes_of.Given as goal

abbrev pub invariant-loop-key : goal.invariant-loop-key
invariant-loop-key l = record {
  bytes : items_of l.bytes.items ++ bytes_of (drop l.key-index l.keys) l.row ≡ bytes_of l.keys l.row;
  proper : All (λ n. IsProper (value_of n l.row)) (drop l.key-index l.keys) → All (λ n. IsProper (value_of n l.row)) l.keys;
}
