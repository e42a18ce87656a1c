use Rattle.std.proofs.Common.{◌-◌, ◌∙◌, ap, arith, map, option_map, sym, take}
use Rattle.fx_typing.specs.Meaning.{this_record, or_else}
use Rattle.fx_resolve.proofs.Innermost.{this_record_step}
use Rattle.fx_resolve.proofs.scoped.this_record.Goals as goal
use Rattle.fx_resolve.specs.MeaningView.{as_valued}
use Rattle.fx_resolve.specs.ScopeView.{scope}

pub returns-in-Some : goal.returns-in-Some
returns-in-Some c =
    let s = this_record_step c.as_slice-items.result.now c.loop-number.number c.index-items-number.result c.loop-number-test.true c.loop-number.invariant.fits c.index-items-number.is in
    sym (
    sym c.loop-number.invariant.value ∙ s
    ∙ ap (λ o. or_else o (this_record 0 (map scope (take (c.loop-number.number - 1) c.as_slice-items.result.now)))) (sym c.in_ok-found.ensures ∙ ap (option_map as_valued) c.in-Some.is)
    )

pub loop-number-preserved : goal.loop-number-preserved
loop-number-preserved c =
    let s = this_record_step c.as_slice-items.result.now c.loop-number.number c.index-items-number.result c.loop-number-test.true c.loop-number.invariant.fits c.index-items-number.is in
    record {
      fits = omega arith;
      value = sym (
          sym c.loop-number.invariant.value ∙ s
          ∙ ap (λ o. or_else o (this_record 0 (map scope (take (c.loop-number.number - 1) c.as_slice-items.result.now)))) (sym c.in_ok-found.ensures ∙ ap (option_map as_valued) c.in_default.is)
          );
    }
