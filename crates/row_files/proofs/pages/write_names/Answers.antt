use Rattle.row_files.proofs.pages.write_names.Goals as goal

pub returns : goal.returns
returns c = rw c.in_ok-names.ensures at c.write_record.ensures
