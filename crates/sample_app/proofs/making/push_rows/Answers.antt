use Rattle.std.proofs.Common.{◌++◌, ◌+◌, refl, string_bytes}
use Rattle.std.specs.Prelude.{codes}
use Rattle.sample_app.specs.Sample.{row_text as row_text_of}
use Rattle.sample_app.proofs.Pushed.{more_lists}
use Rattle.sample_app.proofs.making.push_rows.Goals as goal

pub loop-before-preserved : goal.loop-before-preserved
loop-before-preserved c =
    more_lists (λ j. codes "," ++ row_text_of c.args.n j) c.args.from (string_bytes c.args.list.now) (string_bytes c.loop-before.list) (string_bytes c.push_row.new.list) c.loop-before.before (c.args.from + c.loop-before.before) refl
    c.loop-before.invariant c.in_ok-push_row.ensures
