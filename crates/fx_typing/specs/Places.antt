-- Where each part of a node stands, by its place in the node and by the first part.
use Rattle.std.specs.Prelude.{ℕ, suc, List, [], ◌∷◌, ◌++◌, Bool, true, false, ◌||◌, ◌&&◌, nat_lt}
use Rattle.std.specs.Prelude.{length, Option, Some, None}
use Rattle.fx_types.specs.Types.{tables}
use Rattle.fx_core.specs.declared.functions.Fun.{Fun}
use Rattle.fx_core.specs.declared.signatures.SigShape.{SigShape}
use Rattle.fx_core.specs.declared.signatures.SigShape.TheVariants as sig
use Rattle.fx_core.specs.Rows.{row_of, form_row}
use Rattle.fx_core.specs.declared.names.Names.{Names}
use Rattle.fx_core.specs.Tree.{Head}
use Rattle.fx_core.specs.Tree as tree
use Rattle.fx_typing.specs.Local.{value}
use Rattle.fx_typing.specs.Meaning.{or_else}
use Rattle.fx_typing.specs.WellTyped.{PartScope, plain, inside, bound, catching}
use Rattle.fx_typing.specs.Parts.{Grant, nothing, an_alias, a_target, a_meaning, JudgedPart, piece}
use Rattle.fx_typing.specs.Parts.{Setting, may_act}
use Rattle.fx_typing.specs.Plans.{ArgumentRule, argument_rule, if_acting, plan_by_row, plan_literal}
use Rattle.fx_typing.specs.Plans.{plan_with, first_then, plan_act, called_as, alias_grant}
use Rattle.fx_typing.specs.Plans.{field_grant, first_row, first_record, depth_of, is_inside}

-- the first of some parts
abbrev pub first_part : List JudgedPart → Option JudgedPart
first_part [] = None
first_part (q ∷ qs) = Some q

-- under one name: the function of the rows of a table where the first part is one or has a name for
-- its rows; else that of scalars
abbrev pub function_chosen : Fun → Fun → Option JudgedPart → Fun
function_chosen f g (Some (piece (value (Some a) c t))) = g
function_chosen f g (Some (piece (value None c (tables cs)))) = g
function_chosen f g first = f

-- the part of an overloaded call: the first one may be a table with a name for its rows
abbrev pub overloaded_part : Bool → Fun → Fun → ℕ → ℕ → Option JudgedPart → ArgumentRule
overloaded_part b f g n i None = argument_rule plain an_alias
overloaded_part b f g n i (Some q) = plan_by_row b (row_of (function_chosen f g (Some q))) n i

-- the part of a call: what its function takes there
abbrev pub called_part : Bool → Option SigShape → ℕ → ℕ → Option JudgedPart → ArgumentRule
called_part b (Some (sig.One f)) n i first = plan_by_row b (row_of f) n i
called_part b (Some (sig.Either f g)) n i first = overloaded_part b f g n i first
called_part b (Some (sig.Literal f)) n i first = plan_literal b f n i
called_part b (Some (sig.Form f)) n i first = plan_by_row b (form_row f) n i
called_part b (Some sig.With) n i first = plan_with b i
called_part b (Some sig.Defaults) n i first = first_then a_target plain nothing i
called_part b (Some (sig.Act a)) n i first = plan_act b a i
called_part b s n i first = argument_rule plain nothing

-- the part at a place of so many: what it stands in, and what it may be there. Behind a dot's left
-- side, in a chain and in the fields of a screen's variables what acts may stand where the whole
-- may act.
abbrev pub part_plan : Names → Grant → Head → ℕ → ℕ → Option JudgedPart → ArgumentRule
part_plan m g (tree.dot x) n i first = argument_rule plain (a_meaning (may_act g))
part_plan m g (tree.call x) n i first = called_part (may_act g) (called_as m x) n i first
part_plan m g tree.chain n i first = argument_rule plain (if_acting (may_act g))
part_plan m g (tree.alias x) n i first = argument_rule plain (alias_grant g)
part_plan m g (tree.rec ns ps) n i first = argument_rule plain (field_grant g)
part_plan m g h n i first = argument_rule plain nothing

-- a part that stands there: where the whole does; in the scope of a row of the first part, or in
-- that of the first part itself; or where an error is caught. The first part itself stands in no
-- scope of its own.
abbrev pub stood : Names → Setting → PartScope → Grant → Option JudgedPart → Setting
stood m s inside g (Some q) = record {
  scopes = s.scopes ++ first_row m q ∷ [];
  catches = s.catches;
  grant = g;
}
stood m s bound g (Some q) = record {
  scopes = s.scopes ++ first_record q ∷ [];
  catches = s.catches;
  grant = g;
}
stood m s catching g first = record { scopes = s.scopes; catches = true; grant = g }
stood m s st g first = record { scopes = s.scopes; catches = s.catches; grant = g }

-- where the part at a place of so many stands
abbrev pub part_setting : Names → Setting → Head → ℕ → ℕ → Option JudgedPart → Setting
part_setting m s h n i first = stood m s (part_plan m s.grant h n i first).standing
    (part_plan m s.grant h n i first).grant first

-- whether one of the parts, from a place on, stands in the scope of a row
abbrev pub opens_scope : Names → Grant → Head → ℕ → ℕ → Option JudgedPart → List JudgedPart → Bool
opens_scope m g h n i first [] = false
opens_scope m g h n i first (q ∷ qs) =
    is_inside (part_plan m g h n i first).standing
    || opens_scope m g h n (suc i) (or_else first (Some q)) qs

-- whether a call would be the fourth table call in whose scope a part stands
abbrev pub is_fourth_scope : Names → Setting → Head → List JudgedPart → Bool
is_fourth_scope m s h qs = opens_scope m s.grant h (length qs) 0 None qs
    && nat_lt 2 (depth_of s.scopes)
