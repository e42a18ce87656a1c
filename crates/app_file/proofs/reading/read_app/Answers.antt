use Rattle.std.proofs.Common.{true, false, codes, ap, ◌∙◌}
use Rattle.std.proofs.lemmas.Result.{err_from_is_err_and}
use Rattle.serde_json.specs.Find.{get}
use Rattle.serde_json.specs.View.{view}
use Rattle.app_file.specs.declared.keys.Object.TheVariants as object
use Rattle.app_file.specs.Contents.{all_elements, member_at, table_shape, words}
use Rattle.app_file.specs.FormOfApp.{app_fields, each, format_member, leaf, row_limit_of, screens_form, table_fields, text}
use Rattle.app_file.specs.Forms.{first, later, members}
use Rattle.app_file.specs.Keys.{keys_of}
use Rattle.app_file.proofs.Controls.{limit_held, screens_held}
use Rattle.app_file.proofs.Fine.{fine_members, told_field, told_object}
use Rattle.app_file.proofs.Objects.{ap5, keys_of_app, no_words}
use Rattle.app_file.proofs.reading.read_app.Goals as goal

pub returns-in_err-check_keys-clause-bad : goal.returns-in_err-check_keys-clause-bad
returns-in_err-check_keys-clause-bad c =
    let p = err_from_is_err_and c.from_residual.result c.from_residual.ensures.1 in
    rw (p.1, p.2) (told_object (keys_of object.App) app_fields (view c.args.root.now) keys_of_app c.in_err-check_keys.field-0.0 c.in_err-check_keys.ensures.bad)

pub returns-in_err-_format-clause-bad : goal.returns-in_err-_format-clause-bad
returns-in_err-_format-clause-bad c =
    let p = err_from_is_err_and c.from_residual-in_err-_format.result c.from_residual-in_err-_format.ensures.1 in
    rw (p.1, p.2) (told_field app_fields (view c.args.root.now) true (codes "format") (leaf format_member) (first) c.in_err-_format.field-0.0 c.in_err-_format.ensures.bad)

pub returns-in_err-limit-clause-bad : goal.returns-in_err-limit-clause-bad
returns-in_err-limit-clause-bad c =
    let p = err_from_is_err_and c.from_residual-in_err-limit.result c.from_residual-in_err-limit.ensures.1 in
    rw (p.1, p.2) (told_field app_fields (view c.args.root.now) false (codes "rowLimit") (leaf row_limit_of) (later first) c.in_err-limit.field-0.0 c.in_err-limit.ensures.bad)

pub returns-in_err-tables-clause-bad : goal.returns-in_err-tables-clause-bad
returns-in_err-tables-clause-bad c =
    let p = err_from_is_err_and c.from_residual-in_err-tables.result c.from_residual-in_err-tables.ensures.1 in
    rw (p.1, p.2) (told_field app_fields (view c.args.root.now) false (codes "tables") (each (members table_fields)) (later (later first)) c.in_err-tables.field-0.0 c.in_err-tables.ensures.bad)

pub returns-in_err-formulas-clause-bad : goal.returns-in_err-formulas-clause-bad
returns-in_err-formulas-clause-bad c =
    let p = err_from_is_err_and c.from_residual-in_err-formulas.result c.from_residual-in_err-formulas.ensures.1 in
    rw (p.1, p.2) (told_field app_fields (view c.args.root.now) false (codes "formulas") text (later (later (later first))) c.in_err-formulas.field-0.0 c.in_err-formulas.ensures.bad)

pub returns-in_err-on_start-clause-bad : goal.returns-in_err-on_start-clause-bad
returns-in_err-on_start-clause-bad c =
    let p = err_from_is_err_and c.from_residual-in_err-on_start.result c.from_residual-in_err-on_start.ensures.1 in
    rw (p.1, p.2) (told_field app_fields (view c.args.root.now) false (codes "onStart") text (later (later (later (later first)))) c.in_err-on_start.field-0.0 c.in_err-on_start.ensures.bad)

pub returns-in_err-screens-clause-bad : goal.returns-in_err-screens-clause-bad
returns-in_err-screens-clause-bad c =
    let p = err_from_is_err_and c.from_residual-in_err-screens.result c.from_residual-in_err-screens.ensures.1 in
    rw (p.1, p.2) (told_field app_fields (view c.args.root.now) true (codes "screens") screens_form (later (later (later (later (later first))))) c.in_err-screens.field-0.0 c.in_err-screens.ensures.bad)

pub returns-clause-app : goal.returns-clause-app
returns-clause-app c =
    let d = view c.args.root.now in (
      fine_members (keys_of object.App) app_fields d keys_of_app c.in_ok-check_keys.ensures.ok
          (c.in_ok-_format.ensures.ok.0, (c.in_ok-limit.ensures.ok.0, (c.in_ok-tables.ensures.ok.0, (c.in_ok-formulas.ensures.ok.0, (c.in_ok-on_start.ensures.ok.0, (c.in_ok-screens.ensures.ok.0, tt)))))),
      ap5 (λ t l f s ss. record { schema = record { tables = t }; row_limit = l; formulas = f; on_start = s; screens = ss })
          (c.in_ok-tables.ensures.ok.1 ∙ ap (λ e. member_at (all_elements table_shape) (codes "tables") e d) c.new.ensures)
          (limit_held (get (codes "rowLimit") d) c.in_ok-limit.limit c.in_ok-limit.ensures.ok.1)
          (c.in_ok-formulas.ensures.ok.1 ∙ ap (λ e. member_at words (codes "formulas") e d) (c.in_ok-empty.ensures ∙ no_words))
          (c.in_ok-on_start.ensures.ok.1 ∙ ap (λ e. member_at words (codes "onStart") e d) (c.in_ok-empty-2.ensures ∙ no_words))
          (screens_held (get (codes "screens") d) c.in_ok-screens.screens c.in_ok-screens.ensures.ok.1),
    )
