use Rattle.std.proofs.Common.{◌≡◌, ap, sym, ◌∙◌}
use Rattle.std.proofs.lemmas.Result.{IfOk-weaker}
use Rattle.fx_types.specs.ValueView.{view}
use Rattle.fx_value.proofs.FieldValues.{none_found, value_found}
use Rattle.fx_semantics.specs.Fresh.{field_of}
use Rattle.fx_eval.proofs.evaluate.dot.Goals as goal

pub returns-in-Some : goal.returns-in-Some
returns-in-Some c =
    IfOk-weaker c.copy.result (λ v. v ≡ c.in-Some.value.now) (λ v. view v ≡ field_of c.args.name.now (view c.args.value))
    (λ v e. ap view e ∙ value_found c.args.name.now c.in-Rec.fields (view c.in-Some.value.now) c.in-Some.ensures ∙ ap (λ z. field_of c.args.name.now (view z)) (sym c.in-Rec.is))
    c.copy.ensures

pub returns-in-Rec : goal.returns-in-Rec
returns-in-Rec c = none_found c.args.name.now c.in-Rec.fields c.in-None.ensures ∙ ap (λ z. field_of c.args.name.now (view z)) (sym c.in-Rec.is)
