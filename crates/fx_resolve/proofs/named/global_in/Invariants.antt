use Rattle.std.proofs.Common.{◌≡◌, ◌&&◌, bytes_eq, drop}
use Rattle.fx_core.specs.declared.names.Variable.{Variable}
use Rattle.fx_typing.specs.Meaning.{is_global, first_match}
use Rattle.fx_resolve.proofs.named.global_in.Given as goal

-- the first among those that are left is the first of all
abbrev pub invariant-loop-number : goal.invariant-loop-number
invariant-loop-number l =
    first_match (λ (v : Variable). is_global v.screen && bytes_eq v.name l.name) l.number (drop l.number l.variables)
    ≡ first_match (λ (v : Variable). is_global v.screen && bytes_eq v.name l.name) 0 l.variables
