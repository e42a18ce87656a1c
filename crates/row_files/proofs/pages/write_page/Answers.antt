use Rattle.std.proofs.Common.{◌≡◌, ap, subst, [], ◌∷◌, ◌++◌, map}
use Rattle.std.specs.Prelude.{IfOk, string_bytes}
use Rattle.std.proofs.lemmas.List.{append-nil}
use Rattle.csv.specs.Writing.{default_writer, row_text}
use Rattle.row_files.specs.Pages.{names_of, row_fields}
use Rattle.row_files.specs.Records.{records_text}
use Rattle.row_files.proofs.pages.write_page.Goals as goal

pub returns : goal.returns
returns c =
    let columns = c.args.shape.now.columns in
    let rows = map row_fields c.args.rows.now in
    let named = rw c.as_slice.ensures at (c.in_ok-write_names.ensures [] c.new_writer-writer.ensures) in
    let all = c.in_ok-write_rows.ensures (records_text (names_of columns ∷ [])) named in
    subst (λ bs. IfOk c.finish.result (λ s. string_bytes s ≡ bs)) (ap (λ l. l ++ records_text rows) (append-nil (row_text default_writer (names_of columns))))
    (c.finish.ensures (records_text (names_of columns ∷ []) ++ records_text rows) all)
