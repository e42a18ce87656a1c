use Rattle.std.proofs.Common.{◌≡◌, ◌∙◌, ap, ℕ, List, subst, None}
use Rattle.fx_types.specs.Lookup.{item_named}
use Rattle.fx_types.specs.ValueView.{fields_view}
use Rattle.fx_types.specs.declared.values.Value.{Value}
use Rattle.fx_tables.proofs.ColumnSteps.{IsNamed, taken_value, taken_rest, lacking_rest}
use Rattle.fx_tables.proofs.columns.take_value.Goals as goal

pub returns-in-Some-clause-value : goal.returns-in-Some-clause-value
returns-in-Some-clause-value c =
    let P : List (List ℕ × Value) → Type 0 = λ zs. IsNamed c.args.name.now zs c.in-Some.place in
    taken_value c.args.name.now c.args.items.now.items c.in-Some.place c.remove-value.result c.requires (subst P c.as_slice.ensures.value c.in-Some.ensures) c.remove-value.ensures.value

pub returns-in-Some-clause-others : goal.returns-in-Some-clause-others
returns-in-Some-clause-others c =
    let P : List (List ℕ × Value) → Type 0 = λ zs. IsNamed c.args.name.now zs c.in-Some.place in
    ap fields_view c.remove-value.ensures.items ∙ taken_rest c.args.name.now c.args.items.now.items c.in-Some.place c.requires (subst P c.as_slice.ensures.value c.in-Some.ensures)

pub returns-in-None-clause-others : goal.returns-in-None-clause-others
returns-in-None-clause-others c =
    let P : List (List ℕ × Value) → Type 0 = λ zs. item_named c.args.name.now (fields_view zs) ≡ None in
    lacking_rest c.args.name.now (fields_view c.args.items.now.items) (subst P c.as_slice.ensures.value c.in-None.ensures)
