use Rattle.std.proofs.Common.{◌≡◌, ◌&&◌, bytes_eq, drop, nat_eq}
use Rattle.fx_core.specs.declared.names.Property.{Property}
use Rattle.fx_typing.specs.Meaning.{first_match}
use Rattle.fx_resolve.proofs.named.property_in.Given as goal

-- the first among those that are left is the first of all
abbrev pub invariant-loop-number : goal.invariant-loop-number
invariant-loop-number l =
    first_match (λ (p : Property). nat_eq p.control l.control && bytes_eq p.name l.name) l.number (drop l.number l.properties)
    ≡ first_match (λ (p : Property). nat_eq p.control l.control && bytes_eq p.name l.name) 0 l.properties
