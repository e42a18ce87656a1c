use Rattle.std.proofs.Common.{◌≡◌, List, ℕ, true, subst, sym, ap, ◌∙◌}
use Rattle.std.specs.Str.{chars, all_scalars}
use Rattle.std.proofs.lemmas.Str.{scalars-chars}
use Rattle.fx_grammar.specs.Meant.{IsSomeDoubled}
use Rattle.fx_grammar.specs.declared.marks.Marks.TheVariants.{Weave}
use Rattle.fx_grammar.proofs.Spoken.{as_piece}
use Rattle.fx_grammar.proofs.itemize.piece.Goals as goal

pub single-requires-clause-marks : goal.single-requires-clause-marks
single-requires-clause-marks c = subst (λ (x : List ℕ). IsSomeDoubled Weave x) (sym (c.as_slice.ensures.value ∙ c.in_ok-chars.ensures)) (as_piece (chars c.args.text.now) c.requires)

pub single-requires-clause-scalars : goal.single-requires-clause-scalars
single-requires-clause-scalars c = subst (λ (x : List ℕ). all_scalars x ≡ true) (sym (c.as_slice.ensures.value ∙ c.in_ok-chars.ensures)) (scalars-chars c.args.text.now c.utf8.text)
