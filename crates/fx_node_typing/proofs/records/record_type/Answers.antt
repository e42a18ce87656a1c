use Rattle.std.proofs.Common.{◌<◌, ◌-◌, ◌∙◌, List, ap, arith, length, sym, ℕ}
use Rattle.fx_types.specs.TypeView.{shape}
use Rattle.fx_types.specs.Types.{column_list}
use Rattle.fx_types.specs.declared.types.Ty.{Ty}
use Rattle.fx_core.specs.SourceTypes.{put_column}
use Rattle.fx_typing.specs.TypedView.{typed}
use Rattle.fx_node_typing.proofs.FieldTypes.{put_end, put_more}
use Rattle.fx_node_typing.proofs.records.record_type.Goals as goal

pub loop-place-init : goal.loop-place-init
loop-place-init c =
    let m = c.min-place.ensures in
    record {
      in_names = omega (arith, m);
      in_parts = omega (arith, m);
      made = ap column_list c.new-columns.ensures ∙ sym (put_end typed c.args.names.now c.args.parts.now c.min-place.result m (omega (arith, m)));
    }

pub loop-place-preserved : goal.loop-place-preserved
loop-place-preserved c =
    let i = c.loop-place.invariant in
    let n : c.loop-place.place - 1 < length c.args.names.now = omega (arith, c.loop-place-test.true, i.in_names) in
    let v : c.loop-place.place - 1 < length c.args.parts.now = omega (arith, c.loop-place-test.true, i.in_parts) in
    let step = put_more typed c.args.names.now c.args.parts.now (c.loop-place.place - 1) c.loop-place.place c.index-names-place.result c.index-parts-place.result
    (omega (arith, c.loop-place-test.true)) n c.index-names-place.is v c.index-parts-place.is in
    let put = λ (m : List ℕ) (t : Ty). put_column m (shape t) (column_list c.loop-place.columns) in
    let one = c.in_ok-columns.ensures
    ∙ ap (λ m. put m c.in_ok-ty.ty) c.in_ok-name.ensures
    ∙ ap (put c.index-names-place.result) (c.in_ok-ty.ensures ∙ ap (λ p. p.ty) (sym c.index-parts-place.is)) in
    record {
      in_names = omega arith;
      in_parts = omega arith;
      made = one ∙ ap (put_column c.index-names-place.result (shape c.index-parts-place.result.ty)) i.made ∙ sym step;
    }
