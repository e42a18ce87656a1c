use Rattle.std.proofs.Common.{inl, inr}
use Rattle.filter_parts.proofs.Marking.{chosen_are, others_are}
use Rattle.filter_parts.proofs.part_items.Goals as goal

pub returns-clause-chosen : goal.returns-clause-chosen
returns-clause-chosen c =
    chosen_are c.loop-part.chosen c.loop-part.others c.loop-part.part-iterator.b.rest.now c.loop-part.part-iterator.a.rest.now c.args.marks.now c.args.parts.now
    (elim (c.in-None.ensures.steps) [ inl h ↦ inl h.1.0 | inr h ↦ inr h.1.0 ]) c.loop-part.invariant

pub returns-clause-others : goal.returns-clause-others
returns-clause-others c =
    others_are c.loop-part.chosen c.loop-part.others c.loop-part.part-iterator.b.rest.now c.loop-part.part-iterator.a.rest.now c.args.marks.now c.args.parts.now
    (elim (c.in-None.ensures.steps) [ inl h ↦ inl h.1.0 | inr h ↦ inr h.1.0 ]) c.loop-part.invariant
