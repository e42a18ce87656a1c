use Rattle.std.proofs.Common.{List, arith, length, map, ◌∙◌, subst, sym, true, ℕ, ◌<◌, ◌≡◌}
use Rattle.fx_value.specs.Columns.{LacksColumn}
use Rattle.fx_tables.proofs.ColumnTurns.{can_rename_rest, next_renamed, step_renamed}
use Rattle.std.proofs.lemmas.List.{at_drop_all}
use Rattle.fx_types.specs.Values.{row_list}
use Rattle.fx_value.specs.Fits.{rows_fit}
use Rattle.fx_value.specs.Columns.{Row}
use Rattle.fx_value.proofs.Unions.{rises_list}
use Rattle.fx_types.specs.Types.{column_list}
use Rattle.fx_tables.specs.ColumnCalls.{renamed_columns}
use Rattle.fx_tables.specs.NewColumn.{renaming_seen}
use Rattle.fx_tables.proofs.FitColumns.{all_renamed_fit}
use Rattle.fx_tables.proofs.column_calls.rename_columns.Goals as goal

pub rename_column-requires : goal.rename_column-requires
rename_column-requires c =
    let here = next_renamed c.args.renamings.now c.loop-renaming.renaming-index c.renaming-item.result c.loop-renaming.renamed (omega arith) c.renaming-item.is c.loop-renaming.invariant.free in
    subst (λ (n : List ℕ). LacksColumn n c.loop-renaming.renamed) (sym c.as_str-in-loop-renaming.ensures.scalars) here.0

pub loop-renaming-preserved : goal.loop-renaming-preserved
loop-renaming-preserved c =
    let all = c.args.renamings.now in
    let i = c.loop-renaming.renaming-index in
    let x = c.renaming-item.result in
    let rows = c.loop-renaming.renamed in
    let from = c.as_str.ensures.scalars in
    let to = c.as_str-in-loop-renaming.ensures.scalars in
    let within : i < length all = omega arith in
    record {
      value = step_renamed all i x _ _ rows c.in_ok-renamed.renamed _ within c.renaming-item.is from to c.in_ok-renamed.ensures c.loop-renaming.invariant.value;
      free = can_rename_rest all i x _ _ rows c.in_ok-renamed.renamed within c.renaming-item.is from to c.in_ok-renamed.ensures c.loop-renaming.invariant.free;
    }

pub returns-clause-fits : goal.returns-clause-fits
returns-clause-fits c = λ cs ds rising h e.
    let value : c.loop-renaming.renamed ≡ renamed_columns (map renaming_seen c.args.renamings.now) c.args.rows = sym (at_drop_all (λ ps. renamed_columns (map renaming_seen ps) c.loop-renaming.renamed) c.args.renamings.now c.loop-renaming.renaming-index (omega arith)) ∙ c.loop-renaming.invariant.value in
    let P : List Row → Type 0 = λ rows. rows_fit (row_list rows) ds ≡ true in
    subst P (sym value) (all_renamed_fit (map renaming_seen c.args.renamings.now) c.args.rows (column_list cs) ds (rises_list cs rising) c.requires h e)
