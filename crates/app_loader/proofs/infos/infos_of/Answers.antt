use Rattle.std.proofs.Common.{◌≡◌, ◌∷◌, ap, length, arith, rules}
use Rattle.std.proofs.lemmas.Grind.{common_steps}
use Rattle.app_loader.proofs.BreakLists.{all_elaborated, info_more, still_typed}
use Rattle.app_loader.proofs.infos.infos_of.Goals as goal

pub loop-cell-preserved : goal.loop-cell-preserved
loop-cell-preserved c =
    let a : c.loop-cell.cell-iterator.a.rest.items ≡ c.in-Some.cell ∷ c.next.new.self.a.rest.items = search rules in
    let b : c.loop-cell.cell-iterator.b.rest.items ≡ c.in-Some.tree ∷ c.next.new.self.b.rest.items = search rules in
    record {
      typed = still_typed c.args.names.now c.loop-cell.cell-iterator.a.rest.items c.next.new.self.a.rest.items c.loop-cell.cell-iterator.b.rest.items c.next.new.self.b.rest.items c.in-Some.cell c.in-Some.tree a b c.loop-cell.invariant.typed;
      done = info_more c.args.names.now c.args.limit c.args.cells.items c.loop-cell.all c.push.new.self c.loop-cell.cell-iterator.a.rest.items c.next.new.self.a.rest.items c.in-Some.cell c.in_ok-info_of.field-0 a c.in_ok-info_of.ensures c.in_ok-push.ensures.ok c.loop-cell.invariant.done;
      each = omega (arith, ap length a, ap length b, c.loop-cell.invariant.each);
    }

pub returns : goal.returns
returns c =
    let e : length c.loop-cell.cell-iterator.a.rest.items ≡ 0 = grind (arith, common_steps) in
    all_elaborated c.args.names.now c.args.limit c.args.cells.items c.loop-cell.all c.loop-cell.cell-iterator.a.rest.items e c.loop-cell.invariant.done
