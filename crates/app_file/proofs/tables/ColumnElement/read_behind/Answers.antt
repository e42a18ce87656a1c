use Rattle.std.proofs.Common.{true, false, codes}
use Rattle.std.proofs.lemmas.Result.{err_from_is_err_and}
use Rattle.serde_json.specs.Find.{get}
use Rattle.serde_json.specs.View.{view}
use Rattle.fx_types.specs.declared.types.Ty.TheVariants as ty
use Rattle.app_file.specs.declared.keys.Object.TheVariants as object
use Rattle.app_file.specs.Contents.{column_ty}
use Rattle.app_file.specs.FormOfApp.{column_fields, column_type_of, flag, leaf, name}
use Rattle.app_file.specs.Forms.{first, later}
use Rattle.app_file.specs.Keys.{keys_of}
use Rattle.app_file.proofs.Fine.{at_held, fine_members, told_field, told_object}
use Rattle.app_file.proofs.Objects.{ap5, keys_of_column, name_held}
use Rattle.app_file.proofs.tables.ColumnElement.read_behind.Goals as goal

pub returns-in_err-check_keys-clause-bad : goal.returns-in_err-check_keys-clause-bad
returns-in_err-check_keys-clause-bad c =
    let p = err_from_is_err_and c.from_residual.result c.from_residual.ensures.1 in
    rw (p.1, p.2) (told_object (keys_of object.Column) column_fields (view c.args.part.now) keys_of_column c.in_err-check_keys.field-0.0 c.in_err-check_keys.ensures.bad)

pub returns-in_err-name-clause-bad : goal.returns-in_err-name-clause-bad
returns-in_err-name-clause-bad c =
    let p = err_from_is_err_and c.from_residual-in_err-name.result c.from_residual-in_err-name.ensures.1 in
    rw (p.1, p.2) (told_field column_fields (view c.args.part.now) true (codes "name") name (first) c.in_err-name.field-0.0 c.in_err-name.ensures.bad)

pub returns-in_err-ty-clause-bad : goal.returns-in_err-ty-clause-bad
returns-in_err-ty-clause-bad c =
    let p = err_from_is_err_and c.from_residual-in_err-ty.result c.from_residual-in_err-ty.ensures.1 in
    rw (p.1, p.2) (told_field column_fields (view c.args.part.now) true (codes "type") (leaf column_type_of) (later first) c.in_err-ty.field-0.0 c.in_err-ty.ensures.bad)

pub returns-in_err-required-clause-bad : goal.returns-in_err-required-clause-bad
returns-in_err-required-clause-bad c =
    let p = err_from_is_err_and c.from_residual-in_err-required.result c.from_residual-in_err-required.ensures.1 in
    rw (p.1, p.2) (told_field column_fields (view c.args.part.now) false (codes "required") flag (later (later first)) c.in_err-required.field-0.0 c.in_err-required.ensures.bad)

pub returns-in_err-unique-clause-bad : goal.returns-in_err-unique-clause-bad
returns-in_err-unique-clause-bad c =
    let p = err_from_is_err_and c.from_residual-in_err-unique.result c.from_residual-in_err-unique.ensures.1 in
    rw (p.1, p.2) (told_field column_fields (view c.args.part.now) false (codes "unique") flag (later (later (later first))) c.in_err-unique.field-0.0 c.in_err-unique.ensures.bad)

pub returns-in_err-indexed-clause-bad : goal.returns-in_err-indexed-clause-bad
returns-in_err-indexed-clause-bad c =
    let p = err_from_is_err_and c.from_residual-in_err-indexed.result c.from_residual-in_err-indexed.ensures.1 in
    rw (p.1, p.2) (told_field column_fields (view c.args.part.now) false (codes "indexed") flag (later (later (later (later first)))) c.in_err-indexed.field-0.0 c.in_err-indexed.ensures.bad)

pub returns-clause-ok : goal.returns-clause-ok
returns-clause-ok c =
    let d = view c.args.part.now in (
      fine_members (keys_of object.Column) column_fields d keys_of_column c.in_ok-check_keys.ensures.ok
          (c.in_ok-name.ensures.ok.0, (c.in_ok-ty.ensures.ok.0, (c.in_ok-required.ensures.ok.0, (c.in_ok-unique.ensures.ok.0, (c.in_ok-indexed.ensures.ok.0, tt))))),
      ap5 (λ n t r u i. record { name = n; ty = t; required = r; unique = u; indexed = i }) (name_held (get (codes "name") d) c.in_ok-name.name c.in_ok-name.ensures.ok.1)
          (at_held column_ty (codes "type") d c.in_ok-ty.ty ty.Blank c.in_ok-ty.ensures.ok.1) c.in_ok-required.ensures.ok.1 c.in_ok-unique.ensures.ok.1 c.in_ok-indexed.ensures.ok.1,
    )
