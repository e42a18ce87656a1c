use Rattle.std.proofs.Common.{◌≡◌, ◌++◌, bytes_eq, if◌then◌else◌, map}
use Rattle.fx_call_typing.proofs.taken.rename.Given as goal

abbrev pub invariant-loop-name : goal.invariant-loop-name
invariant-loop-name l =
    map (λ w. w.now) l.found.items ++ map (λ n. if bytes_eq n l.from then l.to else n) (map (λ w. w.now) l.name-iterator.rest.items)
    ≡ map (λ n. if bytes_eq n l.from then l.to else n) (map (λ w. w.now) l.fn.names.items)
