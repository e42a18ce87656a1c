use Rattle.std.proofs.Common.{◌≡◌, Some, [], codes, ap, map, ◌∙◌}
use Rattle.std.proofs.lemmas.Result.{err_from_is_err_and}
use Rattle.std.specs.Prelude.{option_and_then}
use Rattle.serde_json.specs.Find.{get}
use Rattle.serde_json.specs.View.{view}
use Rattle.fx_types.specs.declared.controls.Control.TheVariants as control
use Rattle.app_file.specs.Contents.{member_at, kind, kind_at, properties}
use Rattle.app_file.specs.FormOfApp.{gallery_before, kind_member}
use Rattle.app_file.proofs.Controls.{fine_control, kind_known, told_gallery, told_keys, told_kind, told_name, told_properties}
use Rattle.app_file.proofs.Fine.{at_held}
use Rattle.app_file.proofs.Objects.{ap4, name_held}
use Rattle.app_file.proofs.screens.ControlShapeElement.read_behind.Goals as goal

pub returns-in_err-check_keys-clause-bad : goal.returns-in_err-check_keys-clause-bad
returns-in_err-check_keys-clause-bad c =
    let p = err_from_is_err_and c.from_residual.result c.from_residual.ensures.1 in
    rw (p.1, p.2) (told_keys (map view c.args.before.now) (view c.args.part.now) c.in_err-check_keys.field-0.0 c.in_err-check_keys.ensures.bad)

pub returns-in_err-name-clause-bad : goal.returns-in_err-name-clause-bad
returns-in_err-name-clause-bad c =
    let p = err_from_is_err_and c.from_residual-in_err-name.result c.from_residual-in_err-name.ensures.1 in
    rw (p.1, p.2) (told_name (map view c.args.before.now) (view c.args.part.now) c.in_err-name.field-0.0 c.in_err-name.ensures.bad)

pub returns-in_err-kind-clause-bad : goal.returns-in_err-kind-clause-bad
returns-in_err-kind-clause-bad c =
    let p = err_from_is_err_and c.from_residual-in_err-kind.result c.from_residual-in_err-kind.ensures.1 in
    rw (p.1, p.2) (told_kind (map view c.args.before.now) (view c.args.part.now) c.in_err-kind.field-0.0 c.in_err-kind.ensures.bad)

pub returns-in_err-gallery-clause-bad : goal.returns-in_err-gallery-clause-bad
returns-in_err-gallery-clause-bad c =
    let d = view c.args.part.now in
    let known : kind_member d ≡ Some c.in_ok-kind.kind = kind_known (get (codes "kind") d) c.in_ok-kind.kind c.in_ok-kind.ensures.ok.0 c.in_ok-kind.ensures.ok.1 in
    let p = err_from_is_err_and c.from_residual-in_err-gallery.result c.from_residual-in_err-gallery.ensures.1 in
    rw (p.1, p.2) (told_gallery (map view c.args.before.now) d c.in_ok-kind.kind known c.in_err-gallery.field-0.0 c.in_err-gallery.ensures.bad)

pub returns-in_err-properties-clause-bad : goal.returns-in_err-properties-clause-bad
returns-in_err-properties-clause-bad c =
    let d = view c.args.part.now in
    let known : kind_member d ≡ Some c.in_ok-kind.kind = kind_known (get (codes "kind") d) c.in_ok-kind.kind c.in_ok-kind.ensures.ok.0 c.in_ok-kind.ensures.ok.1 in
    let p = err_from_is_err_and c.from_residual-in_err-properties.result c.from_residual-in_err-properties.ensures.1 in
    rw (p.1, p.2) (told_properties (map view c.args.before.now) d c.in_ok-kind.kind known c.in_err-properties.field-0.0 c.in_err-properties.ensures.bad)

pub returns-clause-ok : goal.returns-clause-ok
returns-clause-ok c =
    let d = view c.args.part.now in
    let before = map view c.args.before.now in
    let k = c.in_ok-kind.kind in
    let known : kind_member d ≡ Some k = kind_known (get (codes "kind") d) k c.in_ok-kind.ensures.ok.0 c.in_ok-kind.ensures.ok.1 in
    let is : k ≡ kind_at d = at_held kind (codes "kind") d k control.Label c.in_ok-kind.ensures.ok.1 in (
      fine_control before d k known c.in_ok-check_keys.ensures.ok (c.in_ok-name.ensures.ok.0, (c.in_ok-kind.ensures.ok.0, (c.in_ok-gallery.ensures.ok.0, (c.in_ok-properties.ensures.ok.0, tt)))),
      ap4 (λ n j g ps. record { name = n; kind = j; gallery = g; properties = ps }) (name_held (get (codes "name") d) c.in_ok-name.name c.in_ok-name.ensures.ok.1) is
          (c.in_ok-gallery.ensures.ok.1 ∙ ap (λ j. option_and_then (gallery_before before j) (get (codes "in") d)) is)
          (c.in_ok-properties.ensures.ok.1 ∙ ap (λ j. member_at (properties j) (codes "properties") [] d) is),
    )
