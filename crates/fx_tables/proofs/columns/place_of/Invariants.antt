use Rattle.std.proofs.Common.{◌≡◌, ◌+◌, drop}
use Rattle.std.specs.List.{position_or_len}
use Rattle.std.specs.Cmp.Lexicographic.{slice_cmp}
use Rattle.std.specs.Ordering.{nat_cmp, is_lt}
use Rattle.fx_tables.proofs.columns.place_of.Given as goal

abbrev pub invariant-loop-place : goal.invariant-loop-place
invariant-loop-place l =
    l.place + position_or_len (λ f. is_lt (slice_cmp nat_cmp l.name f.0)) (drop l.place l.items)
    ≡ position_or_len (λ f. is_lt (slice_cmp nat_cmp l.name f.0)) l.items
