use Rattle.std.proofs.Common.{ap, sym, ◌∙◌}
use Rattle.fx_base.specs.Silence.{SilenceCause}
use Rattle.row_requests.specs.Written.{tables_named}
use Rattle.row_requests.proofs.Naming.{writes_named}
use Rattle.row_requests.proofs.desk.keep_rows.Goals as goal

pub returns-then-is_ok-clause-wrote : goal.returns-then-is_ok-clause-wrote
returns-then-is_ok-clause-wrote g c =
    let shapes = c.args.schema.now.tables in
    let told = g.K.Keeper.told in
    let marks = g.K.Keeper.marks in
    writes_named (SilenceCause (marks c.args.keeper.now) (marks c.act_rows.new.keeper)) shapes c.args.posted.now.changes c.in-Ok-act_rows.prepared.outcome c.in-Ok-tables_named.tables.items
    (told c.args.keeper.now) (told c.act_rows.new.keeper) (sym c.is_ok.ensures.value ∙ c.if-is_ok.true) (c.in-Ok-tables_named.ensures ∙ ap (tables_named shapes) c.as_slice.ensures) c.in-Ok-act_rows.ensures.done
