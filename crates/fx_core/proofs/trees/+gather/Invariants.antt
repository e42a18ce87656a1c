use Rattle.std.proofs.Common.{◌≡◌, ◌++◌, drop}
use Rattle.fx_core.specs.Reads.{sources_among}
use Rattle.fx_core.specs.Term.{all, field_terms}
use Rattle.fx_core.proofs.trees.+gather.Given as goal

-- what is gathered, with what is left, is all
abbrev pub invariant-CoreArgs::gather-loop-part : goal.invariant-CoreArgs::gather-loop-part
invariant-CoreArgs::gather-loop-part l = l.named.items ++ sources_among (all (drop l.part-index l.self)) ≡ l.fn.named.items ++ sources_among (all l.self)

abbrev pub invariant-CoreFields::gather-loop-part : goal.invariant-CoreFields::gather-loop-part
invariant-CoreFields::gather-loop-part l = l.named.items ++ sources_among (field_terms (drop l.part-index l.self)) ≡ l.fn.named.items ++ sources_among (field_terms l.self)
