use Rattle.std.proofs.Common.{◌≡◌, ◌<◌, ◌≤◌, ◌∙◌, ℕ, ap, arith, max}
use Rattle.row_keeper.specs.Skips.{passed_now}
use Rattle.row_keeper.specs.Slots.{rows_now, rows_then}
use Rattle.row_keeper.specs.TableView.{TableView}
use Rattle.row_keeper.proofs.table.Table.skip_to.Goals as goal

pub invariant_of-self : goal.invariant_of-self
invariant_of-self c =
    let w = c.self.invariant in
    let is : c.max-self-inside.result ≡ max c.self.inside.last c.args.number = c.max-self-inside.ensures in
    let first : c.self.inside.first ≤ c.self.inside.last = w.tallied.later in
    let lower : (i : ℕ) → c.max-self-inside.result < i → c.self.inside.last < i = λ i l. omega (arith, is, l) in
    record {
      narrow = w.narrow;
      covered_is = w.covered_is;
      agrees = w.agrees;
      tallied = record {
        above = λ i l. w.tallied.above i (lower i l);
        before = w.tallied.before;
        later = omega (arith, is, first);
        counted = w.tallied.counted;
        counted_then = w.tallied.counted_then;
        few = w.tallied.few;
        few_then = w.tallied.few_then;
      };
      good = w.good;
      good_then = w.good_then;
    }

pub returns : goal.returns
returns c =
    let rows = c.self.inside.slots.by_id.entries in
    let seen : ℕ → TableView = λ n. record { columns = c.self.inside.columns; now = record { rows = rows_now rows; last = n }; then = record { rows = rows_then rows; last = c.self.inside.first } } in
    ap seen c.max-self-inside.ensures ∙ ap (passed_now c.args.number) c.self.view_is
