use Rattle.std.proofs.Common.{◌≡◌, ◌∙◌, ◌∷◌, ap, length, map}
use Rattle.std.specs.Prelude.{Err}
use Rattle.std.proofs.lemmas.Result.{err_from_is_err_and}
use Rattle.csv.specs.Records.{fields_of}
use Rattle.fx_types.specs.Words.{scalars_of}
use Rattle.row_files.specs.Batches.{batch_in, batch_of, header_of, length_refusal}
use Rattle.row_files.specs.Ends.{and_then}
use Rattle.row_files.proofs.Answered.{gives_as, passed, stopped, told}
use Rattle.row_files.proofs.batches.batch_behind.Goals as goal

pub returns-in_err-check_lengths : goal.returns-in_err-check_lengths
returns-in_err-check_lengths c =
    let columns = c.args.columns.now in
    let key = c.args.key in
    let fields = fields_of c.args.header.now in
    let records = map fields_of c.args.lines.now in
    let p = err_from_is_err_and c.from_residual.result c.from_residual.ensures.1 in
    rw (p.1, p.2) (stopped (length_refusal (length fields) records) (and_then (header_of columns key (map scalars_of fields)) (batch_in columns key records)) c.in_err-check_lengths.field-0.0 c.in_err-check_lengths.ensures)

pub returns-in_err-numbers : goal.returns-in_err-numbers
returns-in_err-numbers c =
    let columns = c.args.columns.now in
    let key = c.args.key in
    let fields = fields_of c.args.header.now in
    let records = map fields_of c.args.lines.now in
    let p = err_from_is_err_and c.from_residual-in_err-numbers.result c.from_residual-in_err-numbers.ensures.1 in
    rw (p.1, p.2) (told c.in_err-numbers.field-0.0 (λ r. header_of columns key (map scalars_of fields) ≡ Err r) (λ r. batch_of columns key (fields ∷ records) ≡ Err r)
    (λ r bad. passed (length_refusal (length fields) records) (and_then (header_of columns key (map scalars_of fields)) (batch_in columns key records)) c.in_ok-check_lengths.ensures ∙ ap (λ v. and_then v (batch_in columns key records)) bad)
    c.in_err-numbers.ensures)

pub returns : goal.returns
returns c =
    let columns = c.args.columns.now in
    let key = c.args.key in
    let fields = fields_of c.args.header.now in
    let records = map fields_of c.args.lines.now in
    gives_as (batch_of columns key (fields ∷ records)) (batch_in columns key records c.in_ok-numbers.numbers) c.batch_in.result
    (passed (length_refusal (length fields) records) (and_then (header_of columns key (map scalars_of fields)) (batch_in columns key records)) c.in_ok-check_lengths.ensures ∙ ap (λ v. and_then v (batch_in columns key records)) c.in_ok-numbers.ensures)
    c.batch_in.ensures
