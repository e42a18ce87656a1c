use Rattle.std.proofs.Common.{arith}
use Rattle.fx_types.proofs.Sizes.{field_is_smaller, row_is_smaller}
use Rattle.view_text.proofs.plain_form.+plain.Goals as goal

pub write_record-write_value-requires : goal.write_record-write_value-requires
write_record-write_value-requires t c = grind (arith, field_is_smaller)

pub write_table-write_record-requires : goal.write_table-write_record-requires
write_table-write_record-requires t c = grind (arith, row_is_smaller)
