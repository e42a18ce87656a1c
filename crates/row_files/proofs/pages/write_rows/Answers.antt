use Rattle.std.proofs.Common.{◌≡◌, ◌∙◌, ap, map, subst, sym, take, Some, arith, ℕ, Vec, Global}
use Rattle.std.proofs.lemmas.List.{take_all}
use Rattle.csv.specs.Records.{fields_of}
use Rattle.field_texts.specs.Fields.{field_of}
use Rattle.row_files.specs.Pages.{row_fields}
use Rattle.row_files.specs.Records.{WritesOn}
use Rattle.row_files.proofs.Steps.{at_place, take_at}
use Rattle.row_files.proofs.Writing.{writes_row}
use Rattle.row_files.proofs.pages.write_rows.Goals as goal

pub loop-row-preserved : goal.loop-row-preserved
loop-row-preserved c =
    let rows = c.args.rows.now in
    let i = c.loop-row.row-index in
    let row = c.row-item.result in
    let same : fields_of c.in_ok-line.line ≡ row_fields row = c.in_ok-line.ensures ∙ ap (map field_of) c.as_slice.ensures in
    let more = take_at rows i row (at_place rows i row c.loop-row-test.true c.row-item.is) in
    subst (λ rs. WritesOn (λ (v : Vec ℕ Global). Some v.items) c.args.writer.now c.write_record.new.writer (map row_fields rs)) (sym more)
    (writes_row (λ (v : Vec ℕ Global). Some v.items) c.args.writer.now c.loop-row.writer c.write_record.new.writer (take i rows) row (fields_of c.in_ok-line.line) c.loop-row.invariant c.in_ok-write_record.ensures same)

pub returns : goal.returns
returns c =
    let rows = c.args.rows.now in
    subst (λ rs. WritesOn (λ (v : Vec ℕ Global). Some v.items) c.args.writer.now c.loop-row.writer (map row_fields rs)) (take_all c.loop-row.row-index rows (omega arith)) c.loop-row.invariant
