use Rattle.std.proofs.Common.{◌≡◌, true}
use Rattle.fx_base.specs.Silence.{MayFallSilent, IsLater, SilenceCause}
use Rattle.fx_base.specs.Telling.{Stays}
use Rattle.row_requests.specs.Sound.{AreSound}
use Rattle.row_requests.proofs.AnyKeepers.{MayLead}
use Rattle.row_requests.proofs.Performing.{Leads}
use Rattle.row_requests.proofs.transaction.change_rows.Given as goal

abbrev pub invariant-loop-change : goal.invariant-loop-change
invariant-loop-change g l =
    let told = g.K.Keeper.told in
    let began = g.K.Keeper.began in
    let marks = g.K.Keeper.marks in
    record {
      at : l.at ≡ l.change-index;
      goes : MayFallSilent (SilenceCause (marks l.fn.keeper) (marks l.keeper)) (Leads l.schema.tables l.changes l.change-index l.ids) (told l.fn.keeper) (told l.keeper);
      sound : AreSound l.schema (told l.keeper);
      may : MayLead l.schema.tables l.changes l.change-index l.ids;
      stays : MayFallSilent (SilenceCause (marks l.fn.keeper) (marks l.keeper)) Stays (began l.fn.keeper) (began l.keeper);
      later : IsLater (marks l.fn.keeper) (marks l.keeper);
      begun : g.K.Keeper.in_transaction l.keeper ≡ true;
      shaped : g.K.Keeper.shaped l.keeper ≡ g.K.Keeper.shaped l.fn.keeper;
      loan : g.K.Keeper.loan l.keeper ≡ g.K.Keeper.loan l.fn.keeper;
    }
