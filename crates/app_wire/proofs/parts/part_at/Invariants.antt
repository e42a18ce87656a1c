use Rattle.std.proofs.Common.{◌≡◌, ℕ, ◌+◌, [], get_or}
use denote.Text.{Utf8}
use denote.Shadow.{shadow}
use Rattle.app_wire.specs.Routing.{path_parts}
use Rattle.app_wire.proofs.parts.part_at.Given as goal

abbrev pub invariant-loop : goal.invariant-loop
invariant-loop l = shadow (Utf8 l.rest) × ((i : ℕ) → get_or (path_parts l.rest) i [] ≡ get_or (path_parts l.path) (l.counter + i) [])
