use Rattle.std.proofs.Common.{◌≡◌, ◌∙◌, [], subst}
use Rattle.row_files.specs.Ends.{IfRefused}
use Rattle.row_files.specs.declared.ends.BatchEnd.TheVariants.{Refused}
use Rattle.row_files.proofs.Answered.{no_words}
use Rattle.row_files.proofs.ends.refusal_of_record.Goals as goal

pub returns-in-Ok : goal.returns-in-Ok
returns-in-Ok c =
    let empty : c.in-Ok.column ≡ [] = c.in-Ok.ensures ∙ no_words in
    subst (λ n. IfRefused c.numbered.result (λ e. e ≡ Refused c.args.at n c.args.rule)) empty c.numbered.ensures
