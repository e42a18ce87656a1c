use Rattle.std.specs.Cmp.Lexicographic.{told_text}
use Rattle.std.proofs.lemmas.List.{take_rest}
use Rattle.fx_primitives.proofs.Places.{told_stands}
use Rattle.fx_primitives.proofs.search.stands_at.Goals as goal

pub returns-clause-value : goal.returns-clause-value
returns-clause-value c =
    let r = c.starts_with.ensures.value in
    told_stands c.args.part.now c.args.text.now _ c.args.place _ c.requires (take_rest c.args.text.now c.args.place) (told_text _ _ _ r)
