use Rattle.std.proofs.Common.{arith, ap}
use Rattle.fx_types.proofs.Sizes.{field_is_smaller, row_is_smaller}
use Rattle.fx_types.specs.Values.{rec, tab, field_list, row_list}
use Rattle.fx_value.proofs.SameLemmas.{rec_tells, tab_tells}
use Rattle.fx_value.proofs.equality.+same.Goals as goal

pub same_record-same-requires : goal.same_record-same-requires
same_record-same-requires t c = grind (arith, field_is_smaller)

pub same_table-same_record-requires : goal.same_table-same_record-requires
same_table-same_record-requires t c = grind (arith, row_is_smaller)

pub same-returns-in-Rec-Rec : goal.same-returns-in-Rec-Rec
same-returns-in-Rec-Rec t c =
    let s = c.same_record.ensures in
    rw (c.in-Rec-Rec.is-0, c.in-Rec-Rec.is-1) (λ h. ap (λ fs. rec (field_list fs)) (s.0 h), λ e. s.1 (rec_tells _ _ e))

pub same-returns-in-Tab-Tab : goal.same-returns-in-Tab-Tab
same-returns-in-Tab-Tab t c =
    let s = c.same_table.ensures in
    rw (c.in-Tab-Tab.is-0, c.in-Tab-Tab.is-1) (λ h. ap (λ rs. tab (row_list rs)) (s.0 h), λ e. s.1 (tab_tells _ _ e))
