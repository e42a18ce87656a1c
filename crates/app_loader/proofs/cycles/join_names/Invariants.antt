use Rattle.std.proofs.Common.{◌≡◌, take, string_bytes}
use Rattle.std.specs.Prelude.{encode_utf8_all}
use Rattle.app_loader.specs.Cycles.{joined_by_arrows}
use Rattle.app_loader.proofs.cycles.join_names.Given as goal

abbrev pub invariant-loop-place : goal.invariant-loop-place
invariant-loop-place l = string_bytes l.all ≡ encode_utf8_all (joined_by_arrows (take l.place l.names))
