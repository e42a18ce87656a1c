-- Which formulas may give types to names.
use Rattle.std.specs.Prelude.{◌||◌, Bool, true, false, List, Option, Some}
use Rattle.fx_core.specs.Tree.{Tree, node, Forest, none, more, Head}
use Rattle.fx_core.specs.Tree as tree
use Rattle.fx_core.specs.declared.functions.Acting.TheVariants as acts
use Rattle.fx_core.specs.declared.names.Names.{Names}
use Rattle.fx_core.specs.declared.signatures.SigShape.{SigShape}
use Rattle.fx_core.specs.declared.signatures.SigShape.TheVariants as sig
use Rattle.fx_typing.specs.Parts.{Grant, on_screen}
use Rattle.fx_typing.specs.Plans.{called_as}

-- calls of this shape give types to names
abbrev pub is_giving : Option SigShape → Bool
is_giving (Some (sig.Act acts.Set)) = true
is_giving (Some (sig.Act acts.UpdateContext)) = true
is_giving (Some (sig.Act acts.Collect)) = true
is_giving (Some (sig.Act acts.ClearCollect)) = true
is_giving s = false

-- a node is such a call
abbrev pub is_giving_call : Names → Head → Bool
is_giving_call n (tree.call x) = is_giving (called_as n x)
is_giving_call n h = false

-- one of the nodes is
abbrev mutual
  pub has_giving_call : Names → Tree → Bool
  has_giving_call n (node at h ts) = is_giving_call n h || have_giving_call n ts

  pub have_giving_call : Names → Forest → Bool
  have_giving_call n none = false
  have_giving_call n (more t ts) = has_giving_call n t || have_giving_call n ts

-- a record that gives its fields to the variables of a screen
abbrev pub is_for_variables : Grant → Bool
is_for_variables (on_screen b) = true
is_for_variables g = false

-- a formula that stands so may give types to names
abbrev pub may_give : Names → Grant → Tree → Bool
may_give n g e = is_for_variables g || has_giving_call n e
