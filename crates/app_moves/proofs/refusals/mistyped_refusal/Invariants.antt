use Rattle.std.proofs.Common.{◌≡◌, drop}
use Rattle.app_moves.specs.Refusals.{mistyped_refusal}
use Rattle.app_moves.proofs.refusals.mistyped_refusal.Given as goal

abbrev pub invariant-loop-new : goal.invariant-loop-new
invariant-loop-new l = mistyped_refusal l.olds l.moves (drop l.new-index l.news) ≡ mistyped_refusal l.olds l.moves l.news
