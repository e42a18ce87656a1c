use Rattle.std.proofs.Common.{◌≢◌, ◌<◌, ℕ, map}
use Rattle.fx_typing.specs.Rounds.{AfterRounds, next_types, types_in}
use Rattle.fx_core.specs.Lawful.{IsLawful}
use Rattle.fx_core.specs.declared.names.Names.{Names}
use Rattle.fx_infer.specs.CellView.{cell}
use Rattle.fx_infer.proofs.rounds.type_rounds.Given as goal

abbrev pub invariant-loop-round : goal.invariant-loop-round
invariant-loop-round l = record {
  after : AfterRounds (map cell l.cells) l.fn.names l.round l.typed;
  changed : (k : ℕ) → k < l.round → (m : Names) × AfterRounds (map cell l.cells) l.fn.names k m × (next_types (map cell l.cells) m ≢ types_in m);
  lawful : IsLawful l.typed;
}
