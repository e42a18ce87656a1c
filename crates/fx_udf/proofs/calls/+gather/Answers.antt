use Rattle.std.proofs.Common.{ap, arith}
use Rattle.fx_core.specs.Term.{all, field_terms, terms_size}
use Rattle.fx_udf.proofs.Falls.{field_falls, part_falls}
use Rattle.fx_udf.proofs.calls.+gather.Goals as goal

pub gather_all-gather-requires : goal.gather_all-gather-requires
gather_all-gather-requires t c =
    let h = part_falls c.as_slice-items.result.now c.loop-part.part-index c.part-item.result c.loop-part-test.true c.part-item.is in
    let e = ap (λ ts. terms_size (all ts)) c.as_slice-items.ensures in
    omega (arith, h, e)

pub gather_fields-gather-requires : goal.gather_fields-gather-requires
gather_fields-gather-requires t c =
    let h = field_falls c.as_slice-items.result.now c.loop-part.part-index c.loop-part-item.result c.loop-part-test.true c.loop-part-item.is in
    let e = ap (λ fs. terms_size (field_terms fs)) c.as_slice-items.ensures in
    omega (arith, h, e)
