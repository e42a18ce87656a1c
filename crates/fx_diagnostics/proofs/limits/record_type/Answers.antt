use Rattle.std.proofs.Common.{◌<◌, ◌-◌, ◌∙◌, List, ap, arith, length, sym, ℕ}
use Rattle.fx_types.specs.TypeView.{shape}
use Rattle.fx_types.specs.Types.{column_list}
use Rattle.fx_types.specs.declared.types.Ty.{Ty}
use Rattle.fx_core.specs.SourceTypes.{put_column}
use Rattle.fx_typing.specs.TypedView.{typed}
use Rattle.fx_diagnostics.proofs.RecordTypes.{put_end, put_more}
use Rattle.fx_diagnostics.proofs.limits.record_type.Goals as goal

pub loop-place-init : goal.loop-place-init
loop-place-init c =
    let m = c.min-place.ensures in
    record {
      in_fields = omega (arith, m);
      in_values = omega (arith, m);
      made = ap column_list c.new-columns.ensures ∙ sym (put_end (λ v. typed v.now) c.args.fields.now c.args.values.now c.min-place.result m (omega (arith, m)));
    }

pub loop-place-preserved : goal.loop-place-preserved
loop-place-preserved c =
    let i = c.loop-place.invariant in
    let f : c.loop-place.place - 1 < length c.args.fields.now = omega (arith, c.loop-place-test.true, i.in_fields) in
    let v : c.loop-place.place - 1 < length c.args.values.now = omega (arith, c.loop-place-test.true, i.in_values) in
    let step = put_more (λ v. typed v.now) c.args.fields.now c.args.values.now (c.loop-place.place - 1) c.loop-place.place c.index-fields-place.result c.index-values-place.result
    (omega (arith, c.loop-place-test.true)) f c.index-fields-place.is v c.index-values-place.is in
    let put = λ (n : List ℕ) (t : Ty). put_column n (shape t) (column_list c.loop-place.columns) in
    let one = c.in_ok-columns.ensures
    ∙ ap (λ n. put n c.in_ok-copy.field-0) (c.in_ok-name.ensures ∙ ap (λ f. f.0.text) (sym c.index-fields-place.is))
    ∙ ap (put c.index-fields-place.result.0.text) (c.in_ok-copy.ensures ∙ ap (λ v. v.now.ty) (sym c.index-values-place.is)) in
    record {
      in_fields = omega arith;
      in_values = omega arith;
      made = one ∙ ap (put_column c.index-fields-place.result.0.text (shape c.index-values-place.result.now.ty)) i.made ∙ sym step;
    }
