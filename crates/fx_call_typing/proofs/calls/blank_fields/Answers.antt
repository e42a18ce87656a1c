use Rattle.std.proofs.Common.{◌≤◌, ◌∙◌, ap, length, sym, subst, arith}
use Rattle.fx_types.specs.Rising.{AreNamesRising}
use Rattle.fx_types.specs.Values.{field_list}
use Rattle.fx_call_typing.proofs.Blanks.{all_blanked, blanks_are, blanks_rise}
use Rattle.fx_call_typing.proofs.calls.blank_fields.Goals as goal

pub from_rising-requires : goal.from_rising-requires
from_rising-requires c =
    let xs = c.args.columns.now in
    let h : length c.as_slice-name-items.result.now ≤ c.loop-name.name-index = grind arith in
    subst AreNamesRising (sym (c.loop-name.invariant ∙ all_blanked c.as_slice-name-items.result.now xs c.loop-name.name-index c.as_slice-name-items.ensures.columns h))
    (blanks_rise xs c.as_slice-name-items.ensures.rising)

pub returns : goal.returns
returns c =
    let xs = c.args.columns.now in
    let h : length c.as_slice-name-items.result.now ≤ c.loop-name.name-index = grind arith in
    ap field_list (c.from_rising.ensures ∙ c.loop-name.invariant ∙ all_blanked c.as_slice-name-items.result.now xs c.loop-name.name-index c.as_slice-name-items.ensures.columns h)
    ∙ blanks_are xs
