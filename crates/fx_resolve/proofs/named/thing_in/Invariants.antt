use Rattle.std.proofs.Common.{◌≡◌, bytes_eq, drop}
use Rattle.fx_typing.specs.Meaning.{first_match}
use Rattle.fx_resolve.proofs.named.thing_in.Given as goal

-- the first among those that are left is the first of all
abbrev pub invariant-loop-number : goal.invariant-loop-number
invariant-loop-number g l =
    first_match (λ t. bytes_eq (g.T.Named.name_of t) l.name) l.number (drop l.number l.things)
    ≡ first_match (λ t. bytes_eq (g.T.Named.name_of t) l.name) 0 l.things
