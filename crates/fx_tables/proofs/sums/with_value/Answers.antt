use Rattle.std.proofs.Common.{List, ℤ, ap, subst, sym, arith}
use Rattle.fx_types.specs.ValueView.{view}
use Rattle.fx_value.specs.Aggregates.{numbers_in, SumsUp}
use Rattle.fx_tables.proofs.SumSteps.{numbers_with, numbers_without, sums_more}
use Rattle.fx_tables.proofs.sums.with_value.Goals as goal

pub returns-in-Number-clause-adds : goal.returns-in-Number-clause-adds
returns-in-Number-clause-adds c = λ ds h.
    let P : List ℤ → Type 0 = λ zs. SumsUp zs c.with_number.result in
    subst P (sym (numbers_with ds (view c.args.value.now) c.in-Number.number (ap view c.in-Number.is))) (sums_more c.args.totals c.with_number.result c.in-Number.number (numbers_in ds) h c.with_number.ensures.count c.with_number.ensures.sum c.with_number.ensures.least c.with_number.ensures.greatest)

pub returns-in_default : goal.returns-in_default
returns-in_default c =
    let P : List ℤ → Type 0 = λ zs. SumsUp zs c.args.totals in
    record {
      few = omega arith;
      within = c.requires.within;
      adds = λ ds h. subst P (sym (numbers_without ds c.args.value.now c.in_default.not-Number)) h;
    }
