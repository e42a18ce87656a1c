use Rattle.std.proofs.Common.{◌≡◌, ◌∙◌, ap, sym, subst, ◌++◌, Some, true, rules}
use Rattle.std.specs.Result.{is_ok}
use Rattle.std.specs.Io.KnownBytes.{Appends}
use Rattle.std.proofs.lemmas.List.{append-nil}
use Rattle.csv.specs.Records.{fields_of}
use Rattle.csv.specs.Writing.{default_writer, row_text, text_written, writer_setup}
use Rattle.row_files.proofs.Writing.{appended, on_success, plain}
use Rattle.row_files.proofs.records.write_record.Goals as goal

pub returns : goal.returns
returns c = λ bytes h.
    let r = c.write_byte_record.result in
    let good : is_ok r ≡ true = search rules in
    let old = c.args.writer.now in
    let new = c.write_byte_record.new.self in
    let text = row_text default_writer (fields_of c.args.line.now) in
    let told = on_success r _ good c.write_byte_record.ensures.bytes in
    let wrote : Appends (text_written (λ v. Some v.items) old) (text_written (λ v. Some v.items) new) text =
    rw (h.setup, c.as_byte_record.ensures) at (told h.fields h.wrote (plain (writer_setup old) h.setup)) in
    record {
      setup = on_success r _ good c.write_byte_record.ensures.setup ∙ h.setup;
      fields = on_success r _ good c.write_byte_record.ensures.ended;
      wrote = on_success r _ good c.write_byte_record.ensures.clean;
      text = appended (text_written (λ v. Some v.items) new) bytes text (subst (λ o. Appends o (text_written (λ v. Some v.items) new) text) h.text wrote)
          ∙ ap (λ l. Some (bytes ++ l)) (sym (append-nil text));
    }
