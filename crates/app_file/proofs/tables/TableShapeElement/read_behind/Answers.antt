use Rattle.std.proofs.Common.{[], true, codes}
use Rattle.std.proofs.lemmas.Result.{err_from_is_err_and}
use Rattle.serde_json.specs.Find.{get}
use Rattle.serde_json.specs.View.{view}
use Rattle.app_file.specs.declared.keys.Object.TheVariants as object
use Rattle.app_file.specs.Contents.{all_elements, column}
use Rattle.app_file.specs.FormOfApp.{column_fields, each, name, table_fields}
use Rattle.app_file.specs.Forms.{first, later, members}
use Rattle.app_file.specs.Keys.{keys_of}
use Rattle.app_file.proofs.Fine.{at_held, fine_members, told_field, told_object}
use Rattle.app_file.proofs.Objects.{ap2, keys_of_table, name_held}
use Rattle.app_file.proofs.tables.TableShapeElement.read_behind.Goals as goal

pub returns-in_err-check_keys-clause-bad : goal.returns-in_err-check_keys-clause-bad
returns-in_err-check_keys-clause-bad c =
    let p = err_from_is_err_and c.from_residual.result c.from_residual.ensures.1 in
    rw (p.1, p.2) (told_object (keys_of object.Table) table_fields (view c.args.part.now) keys_of_table c.in_err-check_keys.field-0.0 c.in_err-check_keys.ensures.bad)

pub returns-in_err-name-clause-bad : goal.returns-in_err-name-clause-bad
returns-in_err-name-clause-bad c =
    let p = err_from_is_err_and c.from_residual-in_err-name.result c.from_residual-in_err-name.ensures.1 in
    rw (p.1, p.2) (told_field table_fields (view c.args.part.now) true (codes "name") name (first) c.in_err-name.field-0.0 c.in_err-name.ensures.bad)

pub returns-in_err-columns-clause-bad : goal.returns-in_err-columns-clause-bad
returns-in_err-columns-clause-bad c =
    let p = err_from_is_err_and c.from_residual-in_err-columns.result c.from_residual-in_err-columns.ensures.1 in
    rw (p.1, p.2) (told_field table_fields (view c.args.part.now) true (codes "columns") (each (members column_fields)) (later first) c.in_err-columns.field-0.0 c.in_err-columns.ensures.bad)

pub returns-clause-ok : goal.returns-clause-ok
returns-clause-ok c =
    let d = view c.args.part.now in (
      fine_members (keys_of object.Table) table_fields d keys_of_table c.in_ok-check_keys.ensures.ok (c.in_ok-name.ensures.ok.0, (c.in_ok-columns.ensures.ok.0, tt)),
      ap2 (λ n cs. record { name = n; columns = cs }) (name_held (get (codes "name") d) c.in_ok-name.name c.in_ok-name.ensures.ok.1)
          (at_held (all_elements column) (codes "columns") d c.in_ok-columns.columns [] c.in_ok-columns.ensures.ok.1),
    )
