use Rattle.fx_plan.proofs.Consumers.{counts_are_values, firsts_are_values, found_are_values, scans_are_first_rows, scans_are_values, totals_are_values}
use Rattle.fx_plan.proofs.laws.answers_are_values.Goals as goal

pub returns : goal.returns
returns c = record {
  scans = scans_are_values c.compare_is_total.ensures.total;
  first_rows = scans_are_first_rows c.compare_is_total.ensures.total;
  counts = counts_are_values c.compare_is_total.ensures.total;
  firsts = firsts_are_values c.compare_is_total.ensures.total;
  found = found_are_values c.compare_is_total.ensures.total;
  totals = totals_are_values c.compare_is_total.ensures.total;
}
