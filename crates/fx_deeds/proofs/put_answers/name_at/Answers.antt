use Rattle.std.proofs.Common.{◌≡◌, ◌∙◌, suc, length, Some, refl}
use Rattle.std.specs.Prelude.{slice_get}
use Rattle.std.specs.Str.{chars}
use Rattle.std.proofs.lemmas.Option.{slice_get_read}
use Rattle.std.proofs.lemmas.Result.{IfOk-weaker}
use Rattle.fx_deeds.proofs.Naming.{name_missing, name_there}
use Rattle.fx_deeds.specs.RowValues.{column_name}
use Rattle.fx_deeds.proofs.put_answers.name_at.Goals as goal

pub returns-in-Some : goal.returns-in-Some
returns-in-Some c =
    let cs = c.args.columns.now in
    let x = c.in-Some.column.now in
    let there : slice_get cs c.args.place ≡ Some x = slice_get_read cs (length cs) c.args.place x refl c.in-Some.ensures.lookup.3.0 c.in-Some.ensures.lookup.1 in
    IfOk-weaker c.copy.result (λ w. w ≡ x.name) (λ w. w ≡ column_name cs (Some (suc c.args.place))) (λ w e. e ∙ name_there cs c.args.place x there) c.copy.ensures

pub returns-in_ok-of-in-None : goal.returns-in_ok-of-in-None
unfolding chars
returns-in_ok-of-in-None c = c.in_ok-of-in-None.ensures ∙ name_missing c.args.columns.now c.args.place c.in-None.ensures.lookup.3
