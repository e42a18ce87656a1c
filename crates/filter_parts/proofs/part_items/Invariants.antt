use Rattle.filter_parts.proofs.Marking.{ArePartedSo}
use Rattle.filter_parts.proofs.part_items.Given as goal

-- what is parted, with what is left, is the whole
abbrev pub invariant-loop-part : goal.invariant-loop-part
invariant-loop-part l = ArePartedSo l.chosen l.others l.part-iterator.b.rest.now l.part-iterator.a.rest.now l.marks l.parts
