use Rattle.std.proofs.Common.{◌∙◌, ◌∷◌, [], ap, map, sym, take}
use Rattle.std.proofs.lemmas.List.{map-append}
use Rattle.csv.specs.Records.{fields_of}
use Rattle.fx_types.specs.Words.{scalars_of}
use Rattle.row_files.proofs.Steps.{take_at}
use Rattle.row_files.proofs.headers.names_of.Goals as goal

pub loop-place-preserved : goal.loop-place-preserved
loop-place-preserved c =
    let fields = fields_of c.args.header.now in
    let place = c.loop-place.place in
    let text = c.text_at.result.now in
    rw (c.in_ok-push.ensures.ok, c.loop-place.invariant, c.in_ok-name.ensures)
    (sym (ap (map scalars_of) (take_at fields place text c.text_at.ensures) ∙ map-append scalars_of (take place fields) (text ∷ [])))
