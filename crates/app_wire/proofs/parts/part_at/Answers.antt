use Rattle.std.proofs.Common.{rules, suc, [], get_or, ap, arith, ◌∙◌}
use Rattle.app_wire.specs.Routing.{path_parts}
use Rattle.app_wire.proofs.RouteParts.{first_part, next_part}
use Rattle.app_wire.proofs.parts.part_at.Goals as goal

pub loop-init : goal.loop-init
loop-init c = (search rules, λ i. ap (λ n. get_or (path_parts c.args.path.now) n []) (omega arith))

pub loop-preserved : goal.loop-preserved
loop-preserved c = (
  c.behind_slash-rest.utf8,
  λ i. ap (λ p. get_or (path_parts p) i []) c.behind_slash-rest.ensures ∙ next_part c.loop.rest.now i ∙ c.loop.invariant.1 (suc i)
      ∙ ap (λ n. get_or (path_parts c.args.path.now) n []) (omega arith),
)

pub returns : goal.returns
returns c =
    c.before_slash.ensures ∙ first_part c.loop.rest.now ∙ c.loop.invariant.1 0
    ∙ ap (λ n. get_or (path_parts c.args.path.now) n []) (omega (arith, c.loop-test.false, c.loop.auto.counter-end))
