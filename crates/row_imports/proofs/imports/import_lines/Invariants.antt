use Rattle.std.proofs.Common.{◌≡◌, ◌+◌, true}
use Rattle.fx_base.specs.Silence.{MayFallSilent, IsLater, SilenceCause}
use Rattle.fx_base.specs.Telling.{Stays}
use Rattle.row_imports.proofs.Folding.{Leads}
use Rattle.row_imports.proofs.imports.import_lines.Given as goal

abbrev pub invariant-loop-line : goal.invariant-loop-line
invariant-loop-line g l =
    let told = g.K.Keeper.told in
    let began = g.K.Keeper.began in
    let marks = g.K.Keeper.marks in
    record {
      at : l.at ≡ l.line-index;
      counts : l.counts.added + l.counts.changed ≡ l.line-index;
      goes : MayFallSilent (SilenceCause (marks l.fn.keeper) (marks l.keeper)) (Leads l.shape.columns l.heading l.lines l.line-index l.counts) (told l.fn.keeper) (told l.keeper);
      stays : MayFallSilent (SilenceCause (marks l.fn.keeper) (marks l.keeper)) Stays (began l.fn.keeper) (began l.keeper);
      later : IsLater (marks l.fn.keeper) (marks l.keeper);
      begun : g.K.Keeper.in_transaction l.keeper ≡ true;
      shaped : g.K.Keeper.shaped l.keeper ≡ g.K.Keeper.shaped l.fn.keeper;
      loan : g.K.Keeper.loan l.keeper ≡ g.K.Keeper.loan l.fn.keeper;
    }
