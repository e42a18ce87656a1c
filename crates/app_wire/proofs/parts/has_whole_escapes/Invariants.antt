use Rattle.std.proofs.Common.{◌≡◌, ℕ, ◌<◌, ◌+◌, length, slice_index, true}
use Rattle.std.specs.Char.{is_digit}
use Rattle.app_wire.proofs.parts.has_whole_escapes.Given as goal

abbrev pub invariant-loop-at : goal.invariant-loop-at
invariant-loop-at l =
    (i : ℕ) → i < l.at → slice_index l.bytes i ≡ 37
    → (i + 2 < length l.bytes) × (is_digit (slice_index l.bytes (i + 1)) 16 ≡ true) × (is_digit (slice_index l.bytes (i + 2)) 16 ≡ true)
