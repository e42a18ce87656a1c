use Rattle.std.proofs.Common.{◌∙◌, refl}
use Rattle.row_files.proofs.pages.new_writer.Goals as goal

pub returns : goal.returns
returns c =
    let from = c.from_writer.ensures in
    record { setup = from.cfg ∙ c.new.ensures; fields = from.fields; wrote = from.wrote; text = rw (from.wtr, c.new-2.ensures.items, from.empty) refl }
