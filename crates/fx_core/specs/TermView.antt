-- What a typed tree is seen as.
use Rattle.fx_types.specs.TypeView.{shape}
use Rattle.fx_types.specs.ValueView.{view}
use Rattle.fx_core.specs.declared.functions.Form.TheVariants as form
use Rattle.fx_core.specs.Term.{Term, of, nil, cons, all, term_field_names, field_terms, Top}
use Rattle.fx_core.specs.Term as top
use Rattle.fx_core.specs.declared.trees.CoreNode.{CoreNode}
use Rattle.fx_core.specs.declared.trees.CoreNode.TheVariants as n

-- a node's head with the trees of its parts
abbrev pub core_branch : CoreNode → Term
core_branch (n.Const v) = of (top.const (view v)) nil
core_branch (n.Read s) = of (top.read s) nil
core_branch (n.Row k) = of (top.row k) nil
core_branch n.Item = of top.item nil
core_branch n.Caught = of top.caught nil
core_branch (n.Dot a x) = of (top.dot x) (cons a.value nil)
core_branch (n.Call f ps) = of (top.call f) (all ps)
core_branch (n.Over f a ps) = of (top.over f) (cons a.value (all ps))
core_branch (n.User f ps) = of (top.user f) (all ps)
core_branch (n.With a b) = of top.within (cons a.value (cons b.value nil))
core_branch (n.Rec fs) = of (top.rec (term_field_names fs)) (field_terms fs)
core_branch (n.List t ps) = of (top.list (shape t)) (all ps)
core_branch (n.All ps) = of (top.form form.All) (all ps)
core_branch (n.Any ps) = of (top.form form.Any) (all ps)
core_branch (n.If ps) = of (top.form form.If) (all ps)
core_branch (n.Switch ps) = of (top.form form.Switch) (all ps)
core_branch (n.IfError ps) = of (top.form form.IfError) (all ps)
core_branch (n.Coerce a t) = of (top.coerce (shape t)) (cons a.value nil)
core_branch (n.Chain ps) = of top.chain (all ps)
core_branch (n.Act d ps) = of (top.act d) (all ps)
