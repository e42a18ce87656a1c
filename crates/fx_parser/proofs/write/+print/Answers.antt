use Rattle.std.proofs.Common.{rules, ◌∙◌, ap, sym, arith}
use Rattle.fx_core.specs.TreeView.{branch}
use Rattle.fx_parser.proofs.Falls.{parts_fall, fields_fall}
use Rattle.fx_parser.proofs.write.+print.Goals as goal

pub write-write_args-requires : goal.write-write_args-requires
write-write_args-requires t c = (let h = parts_fall _ _ _ _ _ (sym (ap (branch c.expr.inside.at) c.in-Call.is) ∙ c.expr.view_is) c.as_slice.ensures in omega (arith, h), tt)

pub write-write_parts-requires : goal.write-write_parts-requires
write-write_parts-requires t c = (let h = parts_fall _ _ _ _ _ (sym (ap (branch c.expr.inside.at) c.in-Joined.is) ∙ c.expr.view_is) c.as_slice-in-Joined.ensures in omega (arith, h), search rules)

pub write-write_all-requires : goal.write-write_all-requires
write-write_all-requires t c = (let h = parts_fall _ _ _ _ _ (sym (ap (branch c.expr.inside.at) c.in-And.is) ∙ c.expr.view_is) c.as_slice-in-And.ensures in omega (arith, h), tt)

pub write-write_any-requires : goal.write-write_any-requires
write-write_any-requires t c = (let h = parts_fall _ _ _ _ _ (sym (ap (branch c.expr.inside.at) c.in-Or.is) ∙ c.expr.view_is) c.as_slice-in-Or.ensures in omega (arith, h), tt)

pub write-write_parts-requires-in-Chain : goal.write-write_parts-requires-in-Chain
write-write_parts-requires-in-Chain t c = (let h = parts_fall _ _ _ _ _ (sym (ap (branch c.expr.inside.at) c.in-Chain.is) ∙ c.expr.view_is) c.as_slice-in-Chain.ensures in omega (arith, h), search rules)

pub write-write_record-requires : goal.write-write_record-requires
write-write_record-requires t c = (let h = fields_fall _ _ _ _ _ (sym (ap (branch c.expr.inside.at) c.in-Rec.is) ∙ c.expr.view_is) c.as_slice-in-Rec.ensures in omega (arith, h), tt)

pub write-write_list-requires : goal.write-write_list-requires
write-write_list-requires t c = (let h = parts_fall _ _ _ _ _ (sym (ap (branch c.expr.inside.at) c.in-List.is) ∙ c.expr.view_is) c.as_slice-in-List.ensures in omega (arith, h), tt)

pub write-write_woven-requires : goal.write-write_woven-requires
write-write_woven-requires t c = (let h = parts_fall _ _ _ _ _ (sym (ap (branch c.expr.inside.at) c.in-Woven.is) ∙ c.expr.view_is) c.as_slice-in-Woven.ensures in omega (arith, h), tt)
