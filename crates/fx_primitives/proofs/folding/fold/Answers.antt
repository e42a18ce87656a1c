use Rattle.std.proofs.lemmas.Iterator.{items_from_collect}
use Rattle.std.proofs.Common.{◌∙◌, sym}
use Rattle.std.proofs.lemmas.Str.{Chars-gives, encodes-chars}
use Rattle.std.specs.Str.Iter.{chars_steps}
use Rattle.caseless.specs.CaseFold.{CaseFoldSteps}
use Rattle.caseless.proofs.CaselessLemmas.{Spells-CaseFold}
use Rattle.fx_primitives.proofs.folding.fold.Goals as goal

pub returns : goal.returns
returns c =
    items_from_collect {steps = CaseFoldSteps chars_steps} {s = c.default_case_fold.result} _ c.collect.ensures.ran
    (record { runs = Spells-CaseFold (c.default_case_fold.ensures.text _ (Chars-gives _ _ (encodes-chars _ c.utf8.text ∙ sym c.chars.ensures.rest))) })
