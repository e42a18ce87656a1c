use Rattle.std.proofs.Common.{◌++◌, ◌∷◌, [], Some, ap, sym, ◌∙◌}
use Rattle.app_names.specs.Tops.{is_name_in_set}
use Rattle.app_names.proofs.TwiceSteps.{twice_found, twice_later}
use Rattle.app_names.proofs.duplicates.first_twice.Goals as goal

pub returns-then-is_taken_by : goal.returns-then-is_taken_by
returns-then-is_taken_by c =
    let xs = c.loop-name.invariant.0 in
    ap Some c.in_ok-copy.ensures
    ∙ twice_found xs c.args.names.now c.loop-name.name-index c.name-item.result (is_name_in_set c.loop-name.seen) c.loop-name-test.true c.name-item.is c.loop-name.invariant.1 (sym c.is_taken_by.ensures ∙ c.if-is_taken_by.true)
    ∙ c.loop-name.invariant.2

pub loop-name-preserved : goal.loop-name-preserved
loop-name-preserved c =
    let xs = c.loop-name.invariant.0 in
    let x = c.name-item.result in (
      xs ++ x ∷ [],
      c.in_ok-put_name.ensures xs c.loop-name.invariant.1,
      twice_later xs c.args.names.now c.loop-name.name-index x (is_name_in_set c.loop-name.seen) c.loop-name-test.true c.name-item.is c.loop-name.invariant.1 (sym c.is_taken_by.ensures ∙ c.if-is_taken_by.false)
          ∙ c.loop-name.invariant.2,
    )
