use Rattle.std.proofs.Common.{◌≡◌, ◌∙◌, ◌++◌, subst}
use Rattle.std.specs.Prelude.{IfOk, string_bytes}
use Rattle.std.proofs.lemmas.Option.{same_Some}
use Rattle.row_files.proofs.pages.finish.Goals as goal

pub returns-in-Ok : goal.returns-in-Ok
returns-in-Ok c = λ bytes h.
    let written = c.args.writer.wtr.inner.items ++ c.args.writer.wtr.buf in
    let kept : c.in-Ok.bytes.items ≡ bytes = c.in-Ok.ensures.ok ∙ same_Some written bytes h.text in
    subst (λ bs. IfOk c.text_of.result (λ s. string_bytes s ≡ bs)) kept c.text_of.ensures
