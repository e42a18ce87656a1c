use Rattle.std.proofs.Common.{◌≡◌, ◌≤◌, ◌+◌, ◌*◌, ◌++◌, List, length, map, true}
use Rattle.fx_base.specs.Silence.{MayFallSilent, SilenceCause}
use Rattle.fx_types.specs.Types.{Shape}
use Rattle.fx_types.specs.ValueView.{view}
use Rattle.fx_semantics.specs.Sound.{AreFit}
use Rattle.fx_scalar.specs.LazyForms.{decision_of, none_left}
use Rattle.fx_core.specs.declared.functions.Form.TheVariants as form
use Rattle.fx_core.specs.Term.{all, term_size, terms_size}
use Rattle.fx_value.specs.Fits.{fits_in}
use Rattle.fx_core.specs.declared.sources.Source.{Source}
use Rattle.fx_deeds.specs.Fitting.{AreOf}
use Rattle.fx_deeds.specs.RemainingRows.{RestDecides}
use Rattle.fx_deeds.specs.StagesOver.{Attempt}
use Rattle.fx_deeds.specs.State.{ground}
use Rattle.fx_behave.proofs.Cutting.{Carries, branches_left, each_left, parts_left, recovery_left}
use Rattle.fx_behave.proofs.Sequences.{DecideAll, branches_of, chain_of, each_of, parts_of, recovery_of}
use Rattle.fx_behave.specs.Actable.{AreActable, AreActingBranches, AreActingRecoveries, LastHasType, IsActableInside, IsMatchedBy}
use Rattle.fx_behave.specs.Perform.{switch_decision}
use Rattle.fx_behave.specs.Writable.{AnyMayWrite, MayWrite}
use Rattle.fx_behave.proofs.acting.+perform.Given as goal

abbrev pub decreases-perform : goal.decreases-perform
decreases-perform g l = 8 * term_size l.core.now + 3

abbrev pub decreases-node : goal.decreases-node
decreases-node g l = 8 * term_size l.core.now + 2

abbrev pub decreases-act_deed : goal.decreases-act_deed
decreases-act_deed g l = 8 * terms_size (all l.parts.now) + 6

abbrev pub decreases-update_if : goal.decreases-update_if
decreases-update_if g l = 8 * terms_size (all l.parts.now) + 5

abbrev pub decreases-chain : goal.decreases-chain
decreases-chain g l = 8 * terms_size (all l.parts.now) + 4

abbrev pub decreases-branches : goal.decreases-branches
decreases-branches g l = 8 * terms_size (all l.parts.now) + 4

abbrev pub decreases-switch : goal.decreases-switch
decreases-switch g l = 8 * terms_size (all l.parts.now) + 5

abbrev pub decreases-matches : goal.decreases-matches
decreases-matches g l = 8 * terms_size (all l.parts.now) + 4

abbrev pub decreases-recover : goal.decreases-recover
decreases-recover g l = 8 * terms_size (all l.parts.now) + 4

abbrev pub decreases-catch_error : goal.decreases-catch_error
decreases-catch_error g l = 8 * term_size l.formula.now + 4

abbrev pub decreases-in_scope : goal.decreases-in_scope
decreases-in_scope g l = 8 * term_size l.formula.now + 4

abbrev pub decreases-within : goal.decreases-within
decreases-within g l = 8 * (term_size l.part.now + term_size l.formula.now) + 6

abbrev pub decreases-for_all : goal.decreases-for_all
decreases-for_all g l = 8 * (term_size l.table.now + terms_size (all l.parts.now)) + 6

abbrev pub decreases-each : goal.decreases-each
decreases-each g l = 8 * term_size l.formula.now + 5

abbrev pub decreases-part_values : goal.decreases-part_values
decreases-part_values g l = 8 * terms_size (all l.parts.now) + 4

abbrev pub decreases-chain-loop-part : goal.decreases-chain-loop-part
decreases-chain-loop-part g l = length l.rest

-- what is left decides of the whole
abbrev pub invariant-chain-loop-part : goal.invariant-chain-loop-part
invariant-chain-loop-part g l = record {
  attempt : Attempt g.W.Env g.W.World l.fn.world l.world (AnyMayWrite (all l.parts));
  allowed : (x : Source) → AnyMayWrite (all l.rest) x → AnyMayWrite (all l.parts) x;
  scope : l.scope ≡ l.fn.scope;
  fits : (u : Shape) → LastHasType (g.W.Env.fixed l.fn.world).types l.fn.scope u l.parts → LastHasType (g.W.Env.fixed l.fn.world).types l.fn.scope u l.rest;
  done : MayFallSilent (SilenceCause (g.W.Env.marks l.fn.world) (g.W.Env.marks l.world)) (RestDecides (chain_of (ground g.W.World.gives (g.W.Env.fixed l.fn.world)) l.fn.scope l.rest) (chain_of (ground g.W.World.gives (g.W.Env.fixed l.fn.world)) l.fn.scope l.parts)) (g.W.World.state l.fn.world) (g.W.World.state l.world);
  cut : MayFallSilent (SilenceCause (g.W.Env.marks l.fn.world) (g.W.Env.marks l.world)) (Carries (parts_left (ground g.W.World.gives (g.W.Env.fixed l.fn.world)) l.fn.scope l.rest) (parts_left (ground g.W.World.gives (g.W.Env.fixed l.fn.world)) l.fn.scope l.parts)) (g.W.World.state l.fn.world) (g.W.World.state l.world);
  small : terms_size (all l.rest) ≤ terms_size (all l.parts);
}

abbrev pub decreases-branches-loop-part : goal.decreases-branches-loop-part
decreases-branches-loop-part g l = length l.rest

-- no condition was met so far
abbrev pub invariant-branches-loop-part : goal.invariant-branches-loop-part
invariant-branches-loop-part g l = record {
  attempt : Attempt g.W.Env g.W.World l.fn.world l.world (AnyMayWrite (all l.parts));
  allowed : (x : Source) → AnyMayWrite (all l.rest) x → AnyMayWrite (all l.parts) x;
  scope : l.scope ≡ l.fn.scope;
  fits : (u : Shape) → AreActingBranches (g.W.Env.fixed l.fn.world).types l.fn.scope u l.parts → AreActingBranches (g.W.Env.fixed l.fn.world).types l.fn.scope u l.rest;
  done : MayFallSilent (SilenceCause (g.W.Env.marks l.fn.world) (g.W.Env.marks l.world)) (RestDecides (branches_of decision_of (ground g.W.World.gives (g.W.Env.fixed l.fn.world)) l.fn.scope l.rest) (branches_of decision_of (ground g.W.World.gives (g.W.Env.fixed l.fn.world)) l.fn.scope l.parts)) (g.W.World.state l.fn.world) (g.W.World.state l.world);
  cut : MayFallSilent (SilenceCause (g.W.Env.marks l.fn.world) (g.W.Env.marks l.world)) (Carries (branches_left decision_of (ground g.W.World.gives (g.W.Env.fixed l.fn.world)) l.fn.scope l.rest) (branches_left decision_of (ground g.W.World.gives (g.W.Env.fixed l.fn.world)) l.fn.scope l.parts)) (g.W.World.state l.fn.world) (g.W.World.state l.world);
  small : terms_size (all l.rest) ≤ terms_size (all l.parts);
}

abbrev pub decreases-matches-loop-part : goal.decreases-matches-loop-part
decreases-matches-loop-part g l = length l.rest

-- no match was met so far
abbrev pub invariant-matches-loop-part : goal.invariant-matches-loop-part
invariant-matches-loop-part g l = record {
  attempt : Attempt g.W.Env g.W.World l.fn.world l.world (AnyMayWrite (all l.parts));
  allowed : (x : Source) → AnyMayWrite (all l.rest) x → AnyMayWrite (all l.parts) x;
  scope : l.scope ≡ l.fn.scope;
  wanted : l.wanted ≡ l.fn.wanted;
  fits : (u : Shape) → IsMatchedBy (g.W.Env.fixed l.fn.world).types l.fn.scope (view l.fn.wanted) u l.parts → IsMatchedBy (g.W.Env.fixed l.fn.world).types l.fn.scope (view l.fn.wanted) u l.rest;
  done : MayFallSilent (SilenceCause (g.W.Env.marks l.fn.world) (g.W.Env.marks l.world)) (RestDecides (branches_of (switch_decision (view l.fn.wanted)) (ground g.W.World.gives (g.W.Env.fixed l.fn.world)) l.fn.scope l.rest) (branches_of (switch_decision (view l.fn.wanted)) (ground g.W.World.gives (g.W.Env.fixed l.fn.world)) l.fn.scope l.parts)) (g.W.World.state l.fn.world) (g.W.World.state l.world);
  cut : MayFallSilent (SilenceCause (g.W.Env.marks l.fn.world) (g.W.Env.marks l.world)) (Carries (branches_left (switch_decision (view l.fn.wanted)) (ground g.W.World.gives (g.W.Env.fixed l.fn.world)) l.fn.scope l.rest) (branches_left (switch_decision (view l.fn.wanted)) (ground g.W.World.gives (g.W.Env.fixed l.fn.world)) l.fn.scope l.parts)) (g.W.World.state l.fn.world) (g.W.World.state l.world);
  small : terms_size (all l.rest) ≤ terms_size (all l.parts);
}

abbrev pub decreases-recover-loop-part : goal.decreases-recover-loop-part
decreases-recover-loop-part g l = length l.rest

-- no error so far
abbrev pub invariant-recover-loop-part : goal.invariant-recover-loop-part
invariant-recover-loop-part g l = record {
  attempt : Attempt g.W.Env g.W.World l.fn.world l.world (AnyMayWrite (all l.parts));
  allowed : (x : Source) → AnyMayWrite (all l.rest) x → AnyMayWrite (all l.parts) x;
  scope : l.scope ≡ l.fn.scope;
  fits : (u : Shape) → AreActingRecoveries (g.W.Env.fixed l.fn.world).types l.fn.scope u l.parts → AreActingRecoveries (g.W.Env.fixed l.fn.world).types l.fn.scope u l.rest × (fits_in (view l.last) u ≡ true);
  done : MayFallSilent (SilenceCause (g.W.Env.marks l.fn.world) (g.W.Env.marks l.world)) (RestDecides (recovery_of (ground g.W.World.gives (g.W.Env.fixed l.fn.world)) l.fn.scope (view l.last) l.rest) (recovery_of (ground g.W.World.gives (g.W.Env.fixed l.fn.world)) l.fn.scope (none_left form.IfError) l.parts)) (g.W.World.state l.fn.world) (g.W.World.state l.world);
  cut : MayFallSilent (SilenceCause (g.W.Env.marks l.fn.world) (g.W.Env.marks l.world)) (Carries (recovery_left (ground g.W.World.gives (g.W.Env.fixed l.fn.world)) l.fn.scope l.rest) (recovery_left (ground g.W.World.gives (g.W.Env.fixed l.fn.world)) l.fn.scope l.parts)) (g.W.World.state l.fn.world) (g.W.World.state l.world);
  small : terms_size (all l.rest) ≤ terms_size (all l.parts);
}

abbrev pub decreases-each-loop-row : goal.decreases-each-loop-row
decreases-each-loop-row g l = length l.rest

-- the values so far
abbrev pub invariant-each-loop-row : goal.invariant-each-loop-row
invariant-each-loop-row g l = record {
  attempt : Attempt g.W.Env g.W.World l.fn.world l.world (MayWrite l.formula);
  scope : l.scope ≡ l.fn.scope;
  fits : (u : Shape) → IsActableInside (g.W.Env.fixed l.fn.world).types l.fn.scope u l.formula l.rows → IsActableInside (g.W.Env.fixed l.fn.world).types l.fn.scope u l.formula l.rest × AreOf u (map view l.values.items);
  done : MayFallSilent (SilenceCause (g.W.Env.marks l.fn.world) (g.W.Env.marks l.world)) (DecideAll (map view l.values.items) (each_of (ground g.W.World.gives (g.W.Env.fixed l.fn.world)) l.fn.scope l.formula l.rest) (each_of (ground g.W.World.gives (g.W.Env.fixed l.fn.world)) l.fn.scope l.formula l.rows)) (g.W.World.state l.fn.world) (g.W.World.state l.world);
  cut : MayFallSilent (SilenceCause (g.W.Env.marks l.fn.world) (g.W.Env.marks l.world)) (Carries (each_left (ground g.W.World.gives (g.W.Env.fixed l.fn.world)) l.fn.scope l.formula l.rest) (each_left (ground g.W.World.gives (g.W.Env.fixed l.fn.world)) l.fn.scope l.formula l.rows)) (g.W.World.state l.fn.world) (g.W.World.state l.world);
}

abbrev pub decreases-part_values-loop-part : goal.decreases-part_values-loop-part
decreases-part_values-loop-part g l = length l.rest

-- the values so far
abbrev pub invariant-part_values-loop-part : goal.invariant-part_values-loop-part
invariant-part_values-loop-part g l = record {
  attempt : Attempt g.W.Env g.W.World l.fn.world l.world (AnyMayWrite (all l.parts));
  allowed : (x : Source) → AnyMayWrite (all l.rest) x → AnyMayWrite (all l.parts) x;
  scope : l.scope ≡ l.fn.scope;
  fits : (us : List Shape) → AreActable (g.W.Env.fixed l.fn.world).types l.fn.scope us l.parts → (done : List Shape) × (left : List Shape) × (us ≡ done ++ left) × AreFit (map view l.values.items) done × AreActable (g.W.Env.fixed l.fn.world).types l.fn.scope left l.rest;
  done : MayFallSilent (SilenceCause (g.W.Env.marks l.fn.world) (g.W.Env.marks l.world)) (DecideAll (map view l.values.items) (parts_of (ground g.W.World.gives (g.W.Env.fixed l.fn.world)) l.fn.scope l.rest) (parts_of (ground g.W.World.gives (g.W.Env.fixed l.fn.world)) l.fn.scope l.parts)) (g.W.World.state l.fn.world) (g.W.World.state l.world);
  cut : MayFallSilent (SilenceCause (g.W.Env.marks l.fn.world) (g.W.Env.marks l.world)) (Carries (parts_left (ground g.W.World.gives (g.W.Env.fixed l.fn.world)) l.fn.scope l.rest) (parts_left (ground g.W.World.gives (g.W.Env.fixed l.fn.world)) l.fn.scope l.parts)) (g.W.World.state l.fn.world) (g.W.World.state l.world);
  small : terms_size (all l.rest) ≤ terms_size (all l.parts);
}
