use Rattle.std.proofs.Common.{◌≡◌, ◌∷◌, length, refl, arith, rules}
use Rattle.std.proofs.lemmas.Grind.{common_steps}
use Rattle.app_cells.specs.declared.app.CellInfo.{CellInfo}
use Rattle.app_loader.proofs.Supporting.{all_put, none_put, one_put}
use Rattle.app_loader.proofs.supports.with_supports.Goals as goal

pub loop-info-init : goal.loop-info-init
loop-info-init c =
    let a : c.into_iter-info-iterator.result.a.rest.items ≡ c.args.infos = search rules in
    let b : c.into_iter-info-iterator.result.b.rest.items ≡ c.args.supports.items = search rules in
    none_put c.args.infos c.args.supports.items c.new-all.result c.into_iter-info-iterator.result.a.rest.items c.into_iter-info-iterator.result.b.rest.items c.new-all.ensures a b c.requires

pub loop-info-preserved : goal.loop-info-preserved
loop-info-preserved c =
    let a : c.loop-info.info-iterator.a.rest.items ≡ c.in-Some.info ∷ c.next.new.self.a.rest.items = search rules in
    let b : c.loop-info.info-iterator.b.rest.items ≡ c.in-Some.support ∷ c.next.new.self.b.rest.items = search rules in
    let j : CellInfo = record c.in-Some.info { support = c.in-Some.support } in
    one_put c.args.infos c.args.supports.items c.loop-info.all c.push.new.self c.loop-info.info-iterator.a.rest.items c.next.new.self.a.rest.items c.loop-info.info-iterator.b.rest.items c.next.new.self.b.rest.items c.in-Some.info j c.in-Some.support
    c.loop-info.invariant a b refl refl c.in_ok-push.ensures.ok

pub returns-clause-same : goal.returns-clause-same
returns-clause-same c =
    let e : length c.loop-info.info-iterator.a.rest.items ≡ 0 = grind (arith, common_steps) in
    (all_put c.args.infos c.args.supports.items c.loop-info.all c.loop-info.info-iterator.a.rest.items c.loop-info.info-iterator.b.rest.items c.loop-info.invariant e).0

pub returns-clause-supports : goal.returns-clause-supports
returns-clause-supports c =
    let e : length c.loop-info.info-iterator.a.rest.items ≡ 0 = grind (arith, common_steps) in
    (all_put c.args.infos c.args.supports.items c.loop-info.all c.loop-info.info-iterator.a.rest.items c.loop-info.info-iterator.b.rest.items c.loop-info.invariant e).1
