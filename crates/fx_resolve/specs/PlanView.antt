-- What a plan for a part, and where a node stands, are seen as.
use Rattle.fx_typing.specs.Parts as parts
use Rattle.fx_typing.specs.Plans as plans
use Rattle.fx_core.specs.Tree.{Tree, node, Head}
use Rattle.fx_typing.specs.WellTyped as typing
use Rattle.fx_resolve.specs.declared.plans.Grant.{Grant}
use Rattle.fx_resolve.specs.declared.plans.Grant.TheVariants as g
use Rattle.fx_resolve.specs.declared.plans.Standing.{Standing}
use Rattle.fx_resolve.specs.declared.plans.Standing.TheVariants as s
use Rattle.fx_resolve.specs.declared.plans.Plan.{Plan}

-- the head of a tree
abbrev pub tree_head : Tree → Head
tree_head (node at h ts) = h

abbrev pub grant : Grant → parts.Grant
grant g.Nothing = parts.nothing
grant g.Acting = parts.acting
grant g.AnAlias = parts.an_alias
grant g.AColumn = parts.a_column
grant g.ATarget = parts.a_target
grant g.AliasedTarget = parts.aliased_target
grant (g.AMeaning b) = parts.a_meaning b
grant (g.OnScreen b) = parts.on_screen b

abbrev pub part_scope : Standing → typing.PartScope
part_scope s.Plain = typing.plain
part_scope s.Inside = typing.inside
part_scope s.Bound = typing.bound
part_scope s.Catching = typing.catching

abbrev pub plan : Plan → plans.ArgumentRule
plan p = plans.argument_rule (part_scope p.standing) (grant p.grant)
