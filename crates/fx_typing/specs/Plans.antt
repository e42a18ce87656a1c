-- How each part of a node is judged, from the parts before it.
use Rattle.std.specs.Prelude.{ℕ, zero, suc, List, [], ◌∷◌, ◌++◌, Bool, true, false, ◌||◌, nat_lt}
use Rattle.std.specs.Prelude.{length, Option, Some, None, encode_utf8_all, if◌then◌else◌}
use Rattle.fx_types.specs.Types.{Shape, records, tables, no_columns}
use Rattle.fx_core.specs.declared.functions.Acting.{Acting}
use Rattle.fx_core.specs.declared.functions.Acting.TheVariants as acts
use Rattle.fx_core.specs.declared.functions.Fun.{Fun}
use Rattle.fx_core.specs.declared.rows.Row.{Row}
use Rattle.fx_core.specs.declared.rows.Takes.{Takes}
use Rattle.fx_core.specs.declared.rows.Takes.TheVariants as takes
use Rattle.fx_core.specs.declared.signatures.SigShape.{SigShape}
use Rattle.fx_core.specs.declared.signatures.SigShape.TheVariants as sig
use Rattle.fx_core.specs.declared.signatures.Signature.{Signature}
use Rattle.fx_core.specs.Rows.{row_of, form_row, takes_at}
use Rattle.fx_core.specs.Signatures.{signature_in}
use Rattle.fx_core.specs.declared.names.Names.{Names}
use Rattle.fx_core.specs.Tree.{Head}
use Rattle.fx_core.specs.Tree as tree
use Rattle.fx_typing.specs.Local.{value}
use Rattle.fx_typing.specs.Meaning.{Scope}
use Rattle.fx_typing.specs.WellTyped.{PartScope, plain, inside, bound, catching, standing_of}
use Rattle.fx_typing.specs.WellTyped.{row_type}
use Rattle.fx_typing.specs.Parts.{Grant, nothing, acting, an_alias, a_column, a_target}
use Rattle.fx_typing.specs.Parts.{aliased_target, a_meaning, on_screen, JudgedPart, piece, target}
use Rattle.fx_typing.specs.Parts.{Setting, may_act}
use Rattle.fx_typing.specs.Targets.{target_columns}

-- how a part is judged: what it stands in, and what its place allows
pub record ArgumentRule : Type 0 where
  pub standing : PartScope
  pub grant : Grant

abbrev pub argument_rule : PartScope → Grant → ArgumentRule
argument_rule s g = record { standing = s; grant = g }

-- a part that acts where the whole may
abbrev pub if_acting : Bool → Grant
if_acting true = acting
if_acting false = nothing

-- what a place of a call allows
abbrev pub grant_of : Bool → Takes → Grant
grant_of b takes.Table = an_alias
grant_of b takes.RowFormula = if_acting b
grant_of b takes.Branch = if_acting b
grant_of b takes.Fallback = if_acting b
grant_of b takes.Column = a_column
grant_of b takes.NewColumn = a_column
grant_of b k = nothing

abbrev pub plan_of : Bool → Takes → ArgumentRule
plan_of b k = argument_rule (standing_of k) (grant_of b k)

abbrev pub plan_by_row : Bool → Row → ℕ → ℕ → ArgumentRule
plan_by_row b r n i = plan_of b (takes_at r n i)

-- under one name: the function of the rows of a table, where the first part is one or has a name
-- for its rows; else that of scalars
abbrev pub pick : Fun → Fun → List JudgedPart → Fun
pick f g (piece (value (Some a) c t) ∷ qs) = g
pick f g (piece (value None c (tables cs)) ∷ qs) = g
pick f g qs = f

-- the first part may be a table with a name for its rows
abbrev pub plan_either : Bool → Fun → Fun → ℕ → List JudgedPart → ArgumentRule
plan_either b f g n [] = argument_rule plain an_alias
plan_either b f g n (q ∷ qs) = plan_by_row b (row_of (pick f g (q ∷ qs))) n (length (q ∷ qs))

-- a literal stands behind all other arguments
abbrev pub plan_literal : Bool → Fun → ℕ → ℕ → ArgumentRule
plan_literal b f n i = if nat_lt i (row_of f).most then plan_by_row b (row_of f) n i else
    argument_rule plain nothing

-- `With`: the second part stands in the record's scope
abbrev pub plan_with : Bool → ℕ → ArgumentRule
plan_with b zero = argument_rule plain nothing
plan_with b (suc i) = argument_rule bound (if_acting b)

-- an acting call: the first place, and the ones behind it
abbrev pub first_then : Grant → PartScope → Grant → ℕ → ArgumentRule
first_then g s h zero = argument_rule plain g
first_then g s h (suc i) = argument_rule s h

abbrev pub plan_act : Bool → Acting → ℕ → ArgumentRule
plan_act b acts.Set i = first_then a_target plain (if_acting b) i
plan_act b acts.UpdateContext i = first_then (on_screen b) plain nothing i
plan_act b acts.Collect i = first_then a_target plain (if_acting b) i
plan_act b acts.RemoveIf i = first_then aliased_target inside nothing i
plan_act b acts.UpdateIf i = first_then aliased_target inside nothing i
plan_act b acts.Notify i = argument_rule plain nothing
plan_act b a i = first_then a_target plain nothing i

abbrev pub plan_call : Bool → Option SigShape → ℕ → List JudgedPart → ArgumentRule
plan_call b (Some (sig.One f)) n done = plan_by_row b (row_of f) n (length done)
plan_call b (Some (sig.Either f g)) n done = plan_either b f g n done
plan_call b (Some (sig.Literal f)) n done = plan_literal b f n (length done)
plan_call b (Some (sig.Form f)) n done = plan_by_row b (form_row f) n (length done)
plan_call b (Some sig.With) n done = plan_with b (length done)
plan_call b (Some sig.Defaults) n done = first_then a_target plain nothing (length done)
plan_call b (Some (sig.Act a)) n done = plan_act b a (length done)
plan_call b s n done = argument_rule plain nothing

abbrev pub shape_in : Option Signature → Option SigShape
shape_in (Some s) = Some s.shape
shape_in None = None

-- how a name is called
abbrev pub called_as : Names → List ℕ → Option SigShape
called_as n x = shape_in (signature_in n.signatures.now (encode_utf8_all x))

-- the part of an alias stands for what it names
abbrev pub alias_grant : Grant → Grant
alias_grant aliased_target = aliased_target
alias_grant g = nothing

-- the fields of the variables of a screen may act
abbrev pub field_grant : Grant → Grant
field_grant (on_screen b) = if_acting b
field_grant g = nothing

-- how the part behind the done ones is judged, of so many parts
abbrev pub plan_at : Names → Grant → Head → ℕ → List JudgedPart → ArgumentRule
plan_at m g (tree.dot x) n done = argument_rule plain (a_meaning (may_act g))
plan_at m g (tree.call x) n done = plan_call (may_act g) (called_as m x) n done
plan_at m g tree.chain n done = argument_rule plain (if_acting (may_act g))
plan_at m g (tree.alias x) n done = argument_rule plain (alias_grant g)
plan_at m g (tree.rec ns ps) n done = argument_rule plain (field_grant g)
plan_at m g h n done = argument_rule plain nothing

-- the scope of a row of the first part
abbrev pub row_scope : Option (List ℕ) → Shape → Scope
row_scope a t = record { row_type = t; alias = a; counted = true }

abbrev pub first_row : Names → JudgedPart → Scope
first_row n (piece (value a c t)) = row_scope a (row_type t)
first_row n (target a x) = row_scope a (records (target_columns n x))
first_row n q = row_scope None (records no_columns)

-- the scope of the first part itself, which is a record
abbrev pub record_type : Shape → Shape
record_type (records cs) = records cs
record_type t = records no_columns

abbrev pub record_scope : Shape → Scope
record_scope t = record { row_type = record_type t; alias = None; counted = false }

abbrev pub first_record : JudgedPart → Scope
first_record (piece (value a c t)) = record_scope t
first_record q = record_scope (records no_columns)

-- the scopes of a part
abbrev pub scopes_for : Names → PartScope → List Scope → List JudgedPart → List Scope
scopes_for n inside ss (q ∷ qs) = ss ++ first_row n q ∷ []
scopes_for n bound ss (q ∷ qs) = ss ++ first_record q ∷ []
scopes_for n s ss qs = ss

abbrev pub is_catching : PartScope → Bool
is_catching catching = true
is_catching s = false

-- where a part stands
abbrev pub setting_by : Names → Setting → ArgumentRule → List JudgedPart → Setting
setting_by n s p done =
    record {
      scopes = scopes_for n p.standing s.scopes done;
      catches = s.catches || is_catching p.standing;
      grant = p.grant;
    }

abbrev pub setting_at : Names → Setting → Head → ℕ → List JudgedPart → Setting
setting_at m s h n done = setting_by m s (plan_at m s.grant h n done) done

-- how many scopes of table calls are around
abbrev pub depth_of : List Scope → ℕ
depth_of [] = 0
depth_of (s ∷ ss) = if s.counted then suc (depth_of ss) else depth_of ss

abbrev pub is_inside : PartScope → Bool
is_inside inside = true
is_inside s = false

-- whether one of the parts stands in the scope of a row of the first
abbrev pub opens_rows : Names → Grant → Head → ℕ → List JudgedPart → List JudgedPart → Bool
opens_rows m g h n done [] = false
opens_rows m g h n done (q ∷ qs) = is_inside (plan_at m g h n done).standing
    || opens_rows m g h n (done ++ q ∷ []) qs
