use Rattle.std.proofs.Common.{false}
use Rattle.std.proofs.lemmas.Result.{err_from_is_err_and}
use Rattle.serde_json.specs.View.{view}
use Rattle.app_file.specs.declared.keys.Object.TheVariants as object
use Rattle.app_file.specs.FormOfApp.{property_names, text, texts_at}
use Rattle.app_file.specs.Keys.{keys_of}
use Rattle.app_file.proofs.Fine.{fine_members, told_field, told_object}
use Rattle.app_file.proofs.Objects.{keys_of_properties}
use Rattle.app_file.proofs.Properties.{all_properties, all_texts, field_at}
use Rattle.app_file.proofs.screens.read_properties.Goals as goal

pub returns-in_err-check_keys-clause-bad : goal.returns-in_err-check_keys-clause-bad
returns-in_err-check_keys-clause-bad c =
    let p = err_from_is_err_and c.from_residual.result c.from_residual.ensures.1 in
    rw (p.1, p.2) (told_object (keys_of (object.Properties c.args.kind)) (texts_at (property_names c.args.kind)) (view c.args.part.now) (keys_of_properties c.args.kind) c.in_err-check_keys.field-0.0 c.in_err-check_keys.ensures.bad)

pub returns-in_err-property-clause-bad : goal.returns-in_err-property-clause-bad
returns-in_err-property-clause-bad c =
    let p = err_from_is_err_and c.from_residual-in_err-property.result c.from_residual-in_err-property.ensures.1 in
    rw (p.1, p.2) (told_field (texts_at (property_names c.args.kind)) (view c.args.part.now) false _ text
    (field_at (λ k. k.now) c.keys_of-key-items.result.now c.loop-key.key-index _ c.loop-key-test.true (property_names c.args.kind) c.keys_of-key-items.ensures)
    c.in_err-property.field-0.0 c.in_err-property.ensures.bad)

pub returns-clause-ok : goal.returns-clause-ok
returns-clause-ok c =
    let d = view c.args.part.now in
    let names = property_names c.args.kind in
    let items = c.keys_of-key-items.result.now in (
      fine_members (keys_of (object.Properties c.args.kind)) (texts_at names) d (keys_of_properties c.args.kind) c.in_ok-check_keys.ensures.ok
          (all_texts (λ k. k.now) d items c.loop-key.key-index names c.loop-key-test.false c.keys_of-key-items.ensures c.loop-key.invariant.fine),
      all_properties (λ k. k.now) d items c.loop-key.key-index names c.loop-key.properties c.loop-key-test.false c.keys_of-key-items.ensures c.loop-key.invariant.held,
    )
