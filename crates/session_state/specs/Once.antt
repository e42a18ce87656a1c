-- What is kept of a caller, and which request of it is new.
use Rattle.std.specs.Prelude.{ℕ, ◌+◌, ◌==◌, List, [], bytes_eq, if◌then◌else◌}
use Rattle.session_state.specs.declared.turn.Turn.{Turn}
use Rattle.session_state.specs.declared.turn.Turn.TheVariants.{New, Again, Reused, OutOfStep}

-- the last number, with the body and the reply of the request that had it
pub record LastRequest : Type 0 where
  pub last : ℕ
  pub body : List ℕ
  pub reply : List ℕ

-- no request was accepted yet
abbrev pub nobody : LastRequest
nobody = record { last = 0; body = []; reply = [] }

-- the next number is new, and the last one comes again with the same body
abbrev pub turn_of : LastRequest → ℕ → List ℕ → Turn
turn_of k seq body =
    if seq == k.last + 1 then New
    else (if seq == k.last then (if bytes_eq body k.body then Again else Reused) else OutOfStep
    k.last)
