-- Which typed trees act.
use Rattle.std.specs.Prelude.{Bool, true, false, ◌||◌}
use Rattle.fx_core.specs.Term.{Term, Terms, of, nil, cons, Top, act, chain}

abbrev pub is_acting : Top → Bool
is_acting (act d) = true
is_acting chain = true
is_acting h = false

-- a tree acts where a change of state or a chain stands in it
abbrev mutual
  pub acts : Term → Bool
  acts (of h ts) = is_acting h || any_acts ts

  pub any_acts : Terms → Bool
  any_acts nil = false
  any_acts (cons t ts) = acts t || any_acts ts
