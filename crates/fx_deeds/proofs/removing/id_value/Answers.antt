use Rattle.std.proofs.Common.{◌≡◌, ap, sym, ◌∙◌}
use Rattle.std.proofs.lemmas.Result.{IfOk-weaker}
use Rattle.fx_types.specs.Lookup.{item_named}
use Rattle.fx_types.specs.ValueView.{view}
use Rattle.fx_value.proofs.FieldValues.{none_found, value_found}
use Rattle.fx_semantics.specs.Fresh.{field_of}
use Rattle.fx_core.specs.Lawful.{id_name}
use Rattle.fx_deeds.proofs.removing.id_value.Goals as goal

pub returns-in-Some : goal.returns-in-Some
returns-in-Some c =
    IfOk-weaker c.copy.result (λ v. v ≡ c.in-Some.value.now) (λ v. view v ≡ field_of id_name (view c.args.row.now))
    (λ v e. ap view e ∙ value_found id_name c.in-Rec.fields (view c.in-Some.value.now) (c.in-Some.ensures ∙ ap (λ n. item_named n c.in-Rec.fields) c.in_ok-id_name-in-Rec.ensures) ∙ ap (λ z. field_of id_name (view z)) (sym c.in-Rec.is))
    c.copy.ensures

pub returns-in-Rec : goal.returns-in-Rec
returns-in-Rec c =
    none_found id_name c.in-Rec.fields (c.in-None.ensures ∙ ap (λ n. item_named n c.in-Rec.fields) c.in_ok-id_name-in-Rec.ensures) ∙ ap (λ z. field_of id_name (view z)) (sym c.in-Rec.is)
