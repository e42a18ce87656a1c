use Rattle.std.proofs.Common.{◌≡◌, ◌∙◌, ap, map, get_or, subst, List, Some}
use Rattle.std.specs.List.{find}
use Rattle.fx_types.specs.ValueView.{view}
use Rattle.fx_types.specs.declared.values.Value.{Value}
use Rattle.fx_tables.specs.Unions.{is_fault}
use Rattle.fx_tables.proofs.UnionSteps.{no_fault}
use Rattle.fx_tables.proofs.FirstErrors.{found_passes}
use Rattle.fx_tables.proofs.errors.without_errors.Goals as goal

pub unreachable-requires : goal.unreachable-requires
unreachable-requires c =
    let v = c.swap_remove.result in
    let P : List Value → Type 0 = λ vs. (w : Value) → w ≡ get_or vs c.in-Some.place w → find is_fault (map view vs) ≡ Some (view w) in
    let first = subst P c.as_slice.ensures.value c.in-Some.ensures.1 v c.swap_remove.ensures.value in
    let passes = found_passes (map view c.args.values.items) (view v) first in
    let other = no_fault v c.in_default.not-Fault in
    cc

pub returns-in-Fault : goal.returns-in-Fault
returns-in-Fault c =
    let v = c.swap_remove.result in
    let P : List Value → Type 0 = λ vs. (w : Value) → w ≡ get_or vs c.in-Some.place w → find is_fault (map view vs) ≡ Some (view w) in
    subst P c.as_slice.ensures.value c.in-Some.ensures.1 v c.swap_remove.ensures.value ∙ ap (λ x. Some (view x)) c.in-Fault.is
