-- What is in a typed tree is smaller than it.
use Rattle.std.specs.Prelude.{ℕ, ◌+◌, ◌≤◌, List, [], ◌∷◌}
use Rattle.std.proofs.Common.{arith}
use Rattle.fx_core.specs.Term.{Term, all, field_terms, term_size, terms_size}
use Rattle.fx_core.specs.TermView.{core_branch}
use Rattle.fx_core.specs.declared.trees.CoreNode.{CoreNode}
use Rattle.fx_core.specs.declared.trees.CoreNode.TheVariants as n
use Rattle.fx_core.specs.declared.trees.Core.TheDeep.{deep-CoreNode}
use Rattle.fx_core.specs.declared.trees.Core.TheShapes.{weighed-CoreFields-items-at-2}
use denote.Param.Weighed.{most}

pub core_falls : (x : CoreNode) → deep-CoreNode x ≤ term_size (core_branch x)
core_falls (n.Const v) = omega arith
core_falls (n.Read s) = omega arith
core_falls (n.Row k) = omega arith
core_falls n.Item = omega arith
core_falls n.Caught = omega arith
core_falls (n.Dot a x) = omega arith
core_falls (n.Call f ps) = omega arith
core_falls (n.Over f a ps) = omega arith
core_falls (n.User f ps) = omega arith
core_falls (n.With a b) = omega arith
core_falls (n.Rec fs) = omega arith
core_falls (n.List t ps) = omega arith
core_falls (n.All ps) = omega arith
core_falls (n.Any ps) = omega arith
core_falls (n.If ps) = omega arith
core_falls (n.Switch ps) = omega arith
core_falls (n.IfError ps) = omega arith
core_falls (n.Coerce a t) = omega arith
core_falls (n.Chain ps) = omega arith
core_falls (n.Act d ps) = omega arith

pub terms_fall : (ts : List Term) → most (λ t. term_size t + 1) ts ≤ terms_size (all ts)
terms_fall [] = omega arith
terms_fall (t ∷ ts) = omega (arith, terms_fall ts)

-- how deep a field is, as the type's size has it
abbrev pub term_field_depth : List ℕ × Term → ℕ
term_field_depth f = weighed-CoreFields-items-at-2.weight Term (λ t. term_size t + 1) f

field_depth-le : (f : List ℕ × Term) → term_field_depth f ≤ term_size f.1 + 1
field_depth-le f = omega arith

pub term_fields_fall : (fs : List (List ℕ × Term))
    → most term_field_depth fs ≤ terms_size (field_terms fs)
term_fields_fall [] = omega arith
term_fields_fall (f ∷ fs) = omega (arith, field_depth-le f, term_fields_fall fs)
