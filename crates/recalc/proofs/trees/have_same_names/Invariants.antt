use Rattle.std.proofs.Common.{◌≡◌, drop}
use Rattle.std.specs.Prelude.{◌↔◌}
use Rattle.fx_core.specs.Term.{term_field_names}
use Rattle.recalc.proofs.trees.have_same_names.Given as goal

abbrev pub invariant-loop-i : goal.invariant-loop-i
invariant-loop-i l = (term_field_names (drop l.i l.xs) ≡ term_field_names (drop l.i l.ys)) ↔ (term_field_names l.fields ≡ term_field_names l.others)
