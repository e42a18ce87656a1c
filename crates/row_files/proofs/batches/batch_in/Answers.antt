use Rattle.std.proofs.Common.{◌≡◌, ◌∙◌, [], Some, ap, length, map, sym}
use Rattle.std.specs.Prelude.{Err}
use Rattle.std.proofs.lemmas.List.{length-map}
use Rattle.std.proofs.lemmas.Result.{err_from_is_err_and}
use Rattle.csv.specs.Records.{fields_of}
use Rattle.row_files.specs.Batches.{batch_in, batch_with, count_refusal, lines_of}
use Rattle.row_files.specs.Ends.{and_then, unless}
use Rattle.row_files.proofs.Answered.{passed, told}
use Rattle.row_files.proofs.batches.batch_in.Goals as goal

pub returns-in_err-check_count : goal.returns-in_err-check_count
returns-in_err-check_count c =
    let columns = c.args.columns.now in
    let key = c.args.key in
    let records = map fields_of c.args.records.now in
    let p = err_from_is_err_and c.from_residual.result c.from_residual.ensures.1 in
    let e = c.in_err-check_count.field-0.0 in
    rw (p.1, p.2) (told e (λ r. count_refusal (length c.args.records.now) ≡ Some r) (λ r. batch_in columns key records c.args.numbers ≡ Err r)
    (λ r bad. ap (λ o. unless o (and_then (lines_of columns key c.args.numbers [] records) (batch_with c.args.numbers))) (ap count_refusal (length-map c.args.records.now fields_of) ∙ bad))
    c.in_err-check_count.ensures)

pub returns-in_err-lines : goal.returns-in_err-lines
returns-in_err-lines c =
    let columns = c.args.columns.now in
    let key = c.args.key in
    let ks = c.args.numbers in
    let records = map fields_of c.args.records.now in
    let p = err_from_is_err_and c.from_residual-in_err-lines.result c.from_residual-in_err-lines.ensures.1 in
    let e = c.in_err-lines.field-0.0 in
    rw (p.1, p.2) (told e (λ r. lines_of columns key c.as_slice.result.now [] records ≡ Err r) (λ r. batch_in columns key records ks ≡ Err r)
    (λ r bad. passed (count_refusal (length records)) (and_then (lines_of columns key ks [] records) (batch_with ks)) (ap count_refusal (length-map c.args.records.now fields_of) ∙ c.in_ok-check_count.ensures)
    ∙ ap (λ v. and_then v (batch_with ks)) (ap (λ ms. lines_of columns key ms [] records) (sym c.as_slice.ensures) ∙ bad))
    c.in_err-lines.ensures)

pub returns : goal.returns
returns c =
    let columns = c.args.columns.now in
    let key = c.args.key in
    let ks = c.args.numbers in
    let records = map fields_of c.args.records.now in
    passed (count_refusal (length records)) (and_then (lines_of columns key ks [] records) (batch_with ks)) (ap count_refusal (length-map c.args.records.now fields_of) ∙ c.in_ok-check_count.ensures)
    ∙ ap (λ v. and_then v (batch_with ks)) (ap (λ ms. lines_of columns key ms [] records) (sym c.as_slice.ensures) ∙ c.in_ok-lines.ensures)
