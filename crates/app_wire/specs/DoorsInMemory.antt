-- Doors in memory, as contracts see them.
use Rattle.std.specs.Prelude.{ℕ, Bool, List, [], None, Option, option_map, slice_get}
use Rattle.fx_base.specs.Faults.{FaultPlan, fault_plan}
use Rattle.app_wire.specs.Doorway.{Doorway, Talk}

pub record DoorsInMemory : Type 0 where
  -- what is told
  pub way : Doorway
  -- a conversation ends after one reply
  pub single : Bool
  -- which calls fail, and the count of faults
  pub plan : FaultPlan

-- before any call
abbrev pub at_first : List (List ℕ) → Bool → List ℕ → DoorsInMemory
at_first conversations one fails = record {
  way = record { port = None; coming = conversations; unread = []; begun = [] };
  single = one;
  plan = fault_plan fails;
}

-- what was written to a conversation, counted from 0, if it has become the present one
abbrev pub written_to : ℕ → Doorway → Option (List ℕ)
written_to n way = option_map (λ (t : Talk). t.written) (slice_get way.begun n)
