use Rattle.std.proofs.Common.{arith}
use Rattle.fx_value.proofs.FitsLemmas.{no_fit_of_lengths}
use Rattle.fx_types.proofs.Sizes.{field_is_smaller, row_is_smaller}
use Rattle.fx_value.proofs.fitting.+fits.Goals as goal

pub record_fits-fits-requires : goal.record_fits-fits-requires
record_fits-fits-requires t c = grind (arith, field_is_smaller)

pub table_fits-record_fits-requires : goal.table_fits-record_fits-requires
table_fits-record_fits-requires t c = grind (arith, row_is_smaller)

pub record_fits-returns-then-items-types : goal.record_fits-returns-then-items-types
record_fits-returns-then-items-types t c =
    rw (← c.as_slice-items.ensures.fields, ← c.as_slice-types.ensures.columns) (no_fit_of_lengths _ _ c.if-items-types.true)
