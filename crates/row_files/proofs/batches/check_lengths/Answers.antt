use Rattle.std.proofs.Common.{◌≡◌, ◌∙◌, ℕ, ◌+◌, ◌==◌, [], ap, length, map, not, sym, Some, None}
use Rattle.std.specs.Prelude.{option_map}
use Rattle.std.specs.List.{position}
use Rattle.csv.specs.Records.{fields_of}
use Rattle.row_files.specs.Batches.{length_refusal}
use Rattle.row_files.specs.Records.{Fields}
use Rattle.row_files.specs.declared.ends.BatchEnd.TheVariants.{Refused}
use Rattle.row_files.specs.declared.ends.ImportRule.TheVariants as rule
use Rattle.row_files.proofs.Answered.{told_some}
use Rattle.row_files.proofs.Steps.{position_map}
use Rattle.row_files.proofs.batches.check_lengths.Goals as goal

pub returns-in-Some : goal.returns-in-Some
returns-in-Some c =
    let width = length (fields_of c.args.header.now) in
    let records = map fields_of c.args.records.now in
    let found : position (λ (r : Fields). not (length r == width)) records ≡ Some c.in-Some.place =
    ap (λ n. position (λ (r : Fields). not (length r == n)) records) (sym c.len.ensures)
    ∙ position_map (λ (r : Fields). not (length r == c.len.result)) fields_of c.args.records.now
    ∙ sym c.in-Some.ensures.place in
    told_some (length_refusal width records) c.refusal_of_record.result (Refused (c.in-Some.place + 1) [] rule.Csv)
    (ap (option_map (λ (i : ℕ). Refused (i + 1) [] rule.Csv)) found) c.refusal_of_record.ensures

pub returns-in-None : goal.returns-in-None
returns-in-None c =
    let width = length (fields_of c.args.header.now) in
    let records = map fields_of c.args.records.now in
    let found : position (λ (r : Fields). not (length r == width)) records ≡ None =
    ap (λ n. position (λ (r : Fields). not (length r == n)) records) (sym c.len.ensures)
    ∙ position_map (λ (r : Fields). not (length r == c.len.result)) fields_of c.args.records.now
    ∙ sym c.in-None.ensures.place in
    ap (option_map (λ (i : ℕ). Refused (i + 1) [] rule.Csv)) found
