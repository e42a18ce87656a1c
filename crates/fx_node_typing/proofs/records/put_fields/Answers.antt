use Rattle.std.proofs.Common.{◌≡◌, ◌++◌, [], ◌∷◌, length, arith, ◌∙◌, ap, sym, map}
use Rattle.fx_typing.specs.TypedView.{typed}
use Rattle.fx_node_typing.specs.Fields.{field_view, put_onto}
use Rattle.fx_node_typing.proofs.Fields.{as_many_of, both_shorter, onto_last}
use Rattle.fx_node_typing.proofs.records.put_fields.Goals as goal

pub loop-part-init : goal.loop-part-init
loop-part-init c = record {
  onto = rw (c.truncate-2.ensures.items, c.truncate.ensures.items, c.new-fields.ensures.items)
      (as_many_of c.args.names.items c.args.parts.items c.len.result c.len-2.result (omega arith) (omega (arith, ap length c.truncate.ensures.items)));
  paired = omega arith;
}

pub loop-part-preserved : goal.loop-part-preserved
loop-part-preserved c =
    let ns : c.loop-part.names.items ≡ c.pop-in-loop-part.new.self.items ++ c.in-Some-pop.name ∷ [] = c.in-Some-pop.ensures.items in
    let xs : c.loop-part.parts.items ≡ c.pop.new.self.items ++ c.in-Some.part ∷ [] = c.in-Some.ensures.items in
    let p : length c.pop-in-loop-part.new.self.items ≡ length c.pop.new.self.items =
    both_shorter _ _ _ _ c.in-Some-pop.name c.in-Some.part ns xs c.loop-part.invariant.paired in
    record {
      onto =
          ap (put_onto c.pop-in-loop-part.new.self.items (map typed c.pop.new.self.items)) c.in_ok-put_field.ensures
          ∙ sym (onto_last c.pop-in-loop-part.new.self.items c.pop.new.self.items c.in-Some-pop.name c.in-Some.part (map field_view c.loop-part.fields.items) p)
          ∙ rw (← ns, ← xs) c.loop-part.invariant.onto;
      paired = p;
    }
