use Rattle.std.proofs.Common.{◌≡◌, [], true, false, codes, ap, ◌∙◌}
use Rattle.std.proofs.lemmas.Result.{err_from_is_err_and}
use Rattle.serde_json.specs.Find.{get}
use Rattle.serde_json.specs.View.{view}
use Rattle.app_file.specs.declared.keys.Object.TheVariants as object
use Rattle.app_file.specs.Contents.{all_elements, member_at, control_shape, words}
use Rattle.app_file.specs.FormOfApp.{control_form, name, screen_fields, text}
use Rattle.app_file.specs.Forms.{first, in_turn, later}
use Rattle.app_file.specs.Keys.{keys_of}
use Rattle.app_file.proofs.Fine.{at_held, fine_members, told_field, told_object}
use Rattle.app_file.proofs.Objects.{ap3, keys_of_screen, name_held, no_words}
use Rattle.app_file.proofs.screens.ScreenShapeElement.read_behind.Goals as goal

pub returns-in_err-check_keys-clause-bad : goal.returns-in_err-check_keys-clause-bad
returns-in_err-check_keys-clause-bad c =
    let p = err_from_is_err_and c.from_residual.result c.from_residual.ensures.1 in
    rw (p.1, p.2) (told_object (keys_of object.Screen) screen_fields (view c.args.part.now) keys_of_screen c.in_err-check_keys.field-0.0 c.in_err-check_keys.ensures.bad)

pub returns-in_err-name-clause-bad : goal.returns-in_err-name-clause-bad
returns-in_err-name-clause-bad c =
    let p = err_from_is_err_and c.from_residual-in_err-name.result c.from_residual-in_err-name.ensures.1 in
    rw (p.1, p.2) (told_field screen_fields (view c.args.part.now) true (codes "name") name (first) c.in_err-name.field-0.0 c.in_err-name.ensures.bad)

pub returns-in_err-on_visible-clause-bad : goal.returns-in_err-on_visible-clause-bad
returns-in_err-on_visible-clause-bad c =
    let p = err_from_is_err_and c.from_residual-in_err-on_visible.result c.from_residual-in_err-on_visible.ensures.1 in
    rw (p.1, p.2) (told_field screen_fields (view c.args.part.now) false (codes "onVisible") text (later first) c.in_err-on_visible.field-0.0 c.in_err-on_visible.ensures.bad)

pub returns-in_err-controls-clause-bad : goal.returns-in_err-controls-clause-bad
returns-in_err-controls-clause-bad c =
    let p = err_from_is_err_and c.from_residual-in_err-controls.result c.from_residual-in_err-controls.ensures.1 in
    rw (p.1, p.2) (told_field screen_fields (view c.args.part.now) true (codes "controls") (in_turn control_form) (later (later first)) c.in_err-controls.field-0.0 c.in_err-controls.ensures.bad)

pub returns-clause-ok : goal.returns-clause-ok
returns-clause-ok c =
    let d = view c.args.part.now in
    let none : c.in_ok-empty.empty ≡ [] = c.in_ok-empty.ensures ∙ no_words in (
      fine_members (keys_of object.Screen) screen_fields d keys_of_screen c.in_ok-check_keys.ensures.ok
          (c.in_ok-name.ensures.ok.0, (c.in_ok-on_visible.ensures.ok.0, (c.in_ok-controls.ensures.ok.0, tt))),
      ap3 (λ n v cs. record { name = n; on_visible = v; controls = cs }) (name_held (get (codes "name") d) c.in_ok-name.name c.in_ok-name.ensures.ok.1)
          (c.in_ok-on_visible.ensures.ok.1 ∙ ap (λ e. member_at words (codes "onVisible") e d) none)
          (at_held (all_elements control_shape) (codes "controls") d c.in_ok-controls.controls [] c.in_ok-controls.ensures.ok.1),
    )
