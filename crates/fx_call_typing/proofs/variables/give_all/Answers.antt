use Rattle.std.proofs.Common.{◌≡◌, ◌∷◌, map, rules, arith, ap, Vec, Global}
use Rattle.std.proofs.lemmas.List.{nil_from_length}
use Rattle.fx_core.specs.declared.sources.Source.{Source}
use Rattle.fx_typing.specs.Deeds.{give_one, give_all}
use Rattle.fx_typing.specs.Targets.{screen_variable}
use Rattle.fx_core.specs.declared.trees.Core.{Core}
use Rattle.fx_typing.specs.TypedView.{typed}
use Rattle.fx_call_typing.proofs.Gives.{gives_on, gave_all, no_name}
use Rattle.fx_call_typing.proofs.variables.give_all.Goals as goal

pub loop-name-preserved : goal.loop-name-preserved
loop-name-preserved c =
    let n = c.args.names.now in
    let s : c.loop-name.name-iterator.rest.items ≡ c.in-Some.name ∷ c.next.new.self.rest.items = search rules in
    let v : c.loop-name.left.rest.items ≡ c.in-Some-next.value ∷ c.next-in-loop-name.new.self.rest.items = search rules in
    gives_on n c.args.screen (λ (gs : Vec (Source × Core) Global). gs.items) c.loop-name.given c.keep-given.result c.in-Some.name _ c.next.new.self.rest.items
    (typed c.in-Some-next.value) _ (map typed c.next-in-loop-name.new.self.rest.items) _ s (ap (map typed) v)
    (λ p h. c.keep-given.ensures p (give_one (screen_variable n c.args.screen c.in-Some.name) (typed c.in-Some-next.value)) h c.give_one.ensures) c.loop-name.invariant

pub returns : goal.returns
returns c =
    let done = c.in-None.ensures.steps in
    let e = nil_from_length c.loop-name.name-iterator.rest.items (omega arith) in
    gave_all c.args.names.now c.args.screen (λ (gs : Vec (Source × Core) Global). gs.items) c.loop-name.given c.loop-name.name-iterator.rest.items
    (map typed c.loop-name.left.rest.items) (give_all c.args.names.now c.args.screen c.args.variables.items (map typed c.args.values.items))
    (no_name c.args.names.now c.args.screen c.loop-name.name-iterator.rest.items (map typed c.loop-name.left.rest.items) e) c.loop-name.invariant
