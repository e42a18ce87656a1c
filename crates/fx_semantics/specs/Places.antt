-- Where what acts may stand in a typed tree.
use Rattle.std.specs.Prelude.{◌≡◌, List, [], ◌∷◌, Bool, true, false}
use Rattle.fx_core.specs.declared.deeds.Deed.{Deed}
use Rattle.fx_core.specs.declared.deeds.Deed.TheVariants as deed
use Rattle.fx_core.specs.declared.functions.Form.TheVariants as form
use Rattle.fx_core.specs.declared.functions.Fun.{Fun}
use Rattle.fx_core.specs.declared.functions.Fun.TheVariants as fun
use Rattle.fx_core.specs.declared.sources.Source.{Source}
use Rattle.fx_core.specs.declared.sources.Source.TheVariants as source
use Rattle.fx_core.specs.Term.{Term, Terms, of, nil, cons, Top}
use Rattle.fx_core.specs.Term as top
use Rattle.fx_typing.specs.Acts.{acts}

-- of the functions over a table `ForAll` alone has a formula that acts
abbrev pub is_for_all : Fun → Bool
is_for_all fun.ForAll = true
is_for_all f = false

-- these are variables of a screen
abbrev pub are_of_screen : List Source → Bool
are_of_screen [] = true
are_of_screen (source.Context k ∷ ks) = are_of_screen ks
are_of_screen ks = false

-- `UpdateContext` sets variables of a screen alone
abbrev pub sets_of_screen : Deed → Bool
sets_of_screen (deed.UpdateContext ks) = are_of_screen ks
sets_of_screen d = true

-- a node that may act, or in which a part may: a change of state, a chain, a branch of `If`,
-- `Switch` or `IfError`, the formula of `With` or `ForAll`, what stands left of `.`, and what is
-- given to a change, which may be coerced or a row
abbrev pub part_may_act : Top → Bool
part_may_act top.chain = true
part_may_act (top.act d) = sets_of_screen d
part_may_act (top.form form.If) = true
part_may_act (top.form form.Switch) = true
part_may_act (top.form form.IfError) = true
part_may_act top.within = true
part_may_act (top.over f) = is_for_all f
part_may_act (top.dot n) = true
part_may_act (top.coerce r) = true
part_may_act (top.list r) = true
part_may_act h = false

abbrev mutual
  -- what acts in a tree acts in its place
  pub IsPlaced : Term → Type 0
  IsPlaced (of h ts) = (acts (of h ts) ≡ true → part_may_act h ≡ true) × ArePlaced ts

  pub ArePlaced : Terms → Type 0
  ArePlaced nil = Unit {0}
  ArePlaced (cons t ts) = IsPlaced t × ArePlaced ts
