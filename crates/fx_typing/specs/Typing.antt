-- Which formulas are admitted, as which typed tree, and where others are broken.
use Rattle.std.specs.Prelude.{ℕ, List, [], ◌∷◌, ◌++◌, Bool, true, false, ◌&&◌, not, nat_lt, length}
use Rattle.std.specs.Prelude.{map, option_map, slice_get, Option, Some, None, Result, Ok, Err}
use Rattle.std.specs.Prelude.{if◌then◌else◌}
use Rattle.fx_types.specs.TypeView.{shape}
use Rattle.fx_types.specs.Types.{Shape, numbers, texts, booleans, tables, no_columns}
use Rattle.fx_types.specs.Values.{Data, number, text, boolean}
use Rattle.fx_core.specs.declared.functions.Form.TheVariants as form
use Rattle.fx_core.specs.declared.functions.Fun.TheVariants as fun
use Rattle.fx_core.specs.declared.names.FunctionName.{FunctionName}
use Rattle.fx_core.specs.declared.names.Names.{Names}
use Rattle.fx_core.specs.declared.names.Parameter.{Parameter}
use Rattle.fx_core.specs.SourceTypes.{item_type, sources}
use Rattle.fx_core.specs.declared.expr.Op.{Op}
use Rattle.fx_core.specs.Tree.{Tree, node, Forest, none, more, Head}
use Rattle.fx_core.specs.Tree as tree
use Rattle.fx_core.specs.Term.{Term, of, nil, all, const, chain}
use Rattle.fx_core.specs.Rules as rules
use Rattle.fx_core.specs.ColumnLists.{and_then}
use Rattle.fx_typing.specs.Local.{Piece, value, label, by_way, firsts, node_made, formed}
use Rattle.fx_typing.specs.Meaning.{Place, Scope, NameMeaning, valued, in_globals, meaning_of}
use Rattle.fx_typing.specs.Meaning.{named, dotted}
use Rattle.fx_typing.specs.Operators.{function_of}
use Rattle.fx_typing.specs.WellTyped.{Context, last_type}
use Rattle.fx_typing.specs.Ways.{way}
use Rattle.fx_typing.specs.Builds.{types_of, typed_record, record_by, put_fields, is_bounded}
use Rattle.fx_typing.specs.Builds.{typed_list, are_names_distinct}
use Rattle.fx_typing.specs.Calls.{called, made_if}
use Rattle.fx_typing.specs.Parts.{Grant, nothing, acting, an_alias, a_column, a_target}
use Rattle.fx_typing.specs.Parts.{aliased_target, a_meaning, on_screen, JudgedPart, piece, meant}
use Rattle.fx_typing.specs.Parts.{target, assigned, Setting, may_act, plainly, as_part, pieces}
use Rattle.fx_typing.specs.Parts.{values, unless_rule, part_count}
use Rattle.fx_typing.specs.Plans.{setting_at, opens_rows, depth_of}

-- a constant
abbrev pub constant : Data → Shape → Result JudgedPart ℕ
constant v t = Ok (plainly (of (const v) nil, t))

-- a name, as its place takes it
abbrev pub left_of_dot : Option NameMeaning → Result JudgedPart ℕ
left_of_dot (Some (valued c t)) = Ok (plainly (c, t))
left_of_dot (Some m) = Ok (meant m)
left_of_dot None = Err rules.unknown_name

abbrev pub name_by : Grant → List ℕ → Option NameMeaning → Result JudgedPart ℕ
name_by a_column x m = Ok (piece (label x))
name_by a_target x m = Ok (target None x)
name_by aliased_target x m = Ok (target None x)
name_by (a_meaning b) x m = left_of_dot m
name_by g x m = as_part (named m)

-- `[@Name]` names no column
abbrev pub global_by : Grant → List ℕ → Option NameMeaning → Result JudgedPart ℕ
global_by a_target x m = Ok (target None x)
global_by aliased_target x m = Ok (target None x)
global_by (a_meaning b) x m = left_of_dot m
global_by g x m = as_part (named m)

-- what stands behind a dot
abbrev pub dot_by : Place → List ℕ → List JudgedPart → Result (Term × Shape) ℕ
dot_by p x (piece (value a c t) ∷ []) = dotted p.names x (Some (valued c t))
dot_by p x (meant m ∷ []) = dotted p.names x (Some m)
dot_by p x qs = Err rules.wrong_type

-- a table with a name for its rows, which stands at the first place of a call over it
abbrev pub alias_by : Grant → List ℕ → List JudgedPart → Result JudgedPart ℕ
alias_by an_alias x (piece (value a c t) ∷ []) = Ok (piece (value (Some x) c t))
alias_by aliased_target x (piece (value a c t) ∷ []) = Ok (piece (value (Some x) c t))
alias_by aliased_target x (target None y ∷ []) = Ok (target (Some x) y)
alias_by g x qs = Err rules.wrong_type

-- a record; or variables of a screen with their values, which are a record too
abbrev pub assigned_of : List (List ℕ) → List (Term × Shape) → Result JudgedPart ℕ
assigned_of ns xs =
    if are_names_distinct ns then unless_rule (not (is_bounded (record_by (put_fields ns xs)).1))
    rules.limit_passed (Ok (assigned ns xs)) else Err rules.name_twice

abbrev pub record_as : Grant → List (List ℕ) → List (Term × Shape) → Result JudgedPart ℕ
record_as (on_screen b) ns xs = assigned_of ns xs
record_as g ns xs = as_part (typed_record ns xs)

-- two operands: their types choose the function
abbrev pub paired_by : Op → List (Term × Shape) → List Piece → Result (Term × Shape) ℕ
paired_by o (x ∷ y ∷ []) ps = made_if (function_of o x.1 y.1) ps
paired_by o xs ps = Err rules.wrong_type

-- the pieces of a weave, of which there may be none
abbrev pub woven_by : List JudgedPart → Result (Term × Shape) ℕ
woven_by [] = Ok (of (const (text [])) nil, texts)
woven_by qs = node_made fun.Concatenation (pieces qs)

-- formulas in turn, which have the type of the last
abbrev pub chain_as : List (Term × Shape) → Option Shape → Result (Term × Shape) ℕ
chain_as xs (Some t) = Ok (of chain (all (firsts xs)), t)
chain_as xs None = Err rules.wrong_type

abbrev pub chain_by : List (Term × Shape) → Result (Term × Shape) ℕ
chain_by xs = chain_as xs (last_type (types_of xs))

-- a fourth scope of a table call isn't admitted
abbrev pub is_too_deep : Place → Setting → Head → List JudgedPart → Bool
is_too_deep p s h qs = opens_rows p.names s.grant h (length qs) [] qs
    && nat_lt 2 (depth_of s.scopes)

-- THE local rule: a head of these parts, where it stands, or a rule that it breaks
abbrev pub admit : Place → Setting → Head → List JudgedPart → Result JudgedPart ℕ
admit p s (tree.num z) [] = constant (number z) numbers
admit p s (tree.text cs) [] = constant (text cs) texts
admit p s (tree.truth b) [] = constant (boolean b) booleans
admit p s (tree.name x) [] = name_by s.grant x (meaning_of p s.scopes s.catches x)
admit p s (tree.global x) [] = global_by s.grant x (in_globals p.names x)
admit p s (tree.dot x) qs = as_part (dot_by p x qs)
admit p s (tree.call x) qs = as_part (unless_rule (is_too_deep p s (tree.call x) qs)
    rules.limit_passed (called p s x qs))
admit p s tree.neg qs = as_part (node_made fun.Negate (pieces qs))
admit p s tree.opposite qs = as_part (node_made fun.Not (pieces qs))
admit p s tree.percent qs = as_part (node_made fun.Percent (pieces qs))
admit p s (tree.pair o) qs = as_part (and_then (values qs) (λ xs. paired_by o xs (pieces qs)))
admit p s tree.joined qs = as_part (node_made fun.Concatenation (pieces qs))
admit p s tree.all qs = as_part (formed form.All (pieces qs))
admit p s tree.any qs = as_part (formed form.Any (pieces qs))
admit p s tree.chain qs = as_part (unless_rule (not (may_act s.grant)) rules.behaviour_in_pure
    (and_then (values qs) chain_by))
admit p s (tree.alias x) qs = alias_by s.grant x qs
admit p s (tree.rec ns ps) qs = and_then (values qs) (record_as s.grant ns)
admit p s tree.list qs = as_part (and_then (values qs) typed_list)
admit p s tree.woven qs = as_part (woven_by qs)
admit p s h qs = Err rules.wrong_type

-- goes on with a part that is admitted; else the broken node with its rule
abbrev pub onward : {A B : Type 0} → Result A (ℕ × ℕ) → (A → Result B (ℕ × ℕ)) → Result B (ℕ × ℕ)
onward (Ok a) go = go a
onward (Err w) go = Err w

abbrev pub at_node : {A : Type 0} → ℕ → Result A ℕ → Result A (ℕ × ℕ)
at_node at (Ok a) = Ok a
at_node at (Err e) = Err (at, e)

abbrev mutual
  -- a node: its parts from the left, each where the ones before put it, and then the rule of its
  -- head
  pub judge : Place → Setting → Tree → Result JudgedPart (ℕ × ℕ)
  judge p s (node at h ts) = onward (judge_parts p s h (part_count ts) [] ts)
      (λ qs. at_node at (admit p s h qs))

  -- the parts behind the done ones, of which there are so many in all
  pub judge_parts : Place → Setting → Head → ℕ → List JudgedPart → Forest
      → Result (List JudgedPart) (ℕ × ℕ)
  judge_parts p s h n done none = Ok done
  judge_parts p s h n done (more k ks) =
      onward (judge p (setting_at p.names s h n done) k)
      (λ q. judge_parts p s h n (done ++ q ∷ []) ks)

-- a whole formula stands in no scope
abbrev pub outermost_setting : Bool → Setting
outermost_setting true = record { scopes = []; catches = false; grant = acting }
outermost_setting false = record { scopes = []; catches = false; grant = nothing }

-- the context of a formula's typed tree
abbrev pub item_context : Names → Option ℕ → Option Shape
item_context n (Some g) = option_map item_type (slice_get n.controls g)
item_context n None = None

-- what a function of the app's own takes and answers
abbrev pub function_types : FunctionName → List Shape × Shape
function_types f = (map (λ (q : Parameter). shape q.ty) f.params, shape f.result)

abbrev pub context_of : Place → Setting → Context
context_of p s = record {
  sources = sources p.names;
  screens = length p.names.screens;
  rows = map (λ (r : Scope). r.row_type) s.scopes;
  item = item_context p.names p.gallery;
  caught = s.catches;
  functions = map function_types p.names.functions;
}

-- what is wanted of a formula: a table type without columns lets every table be
abbrev pub to_wanted : Option Shape → Term × Shape → Result (Term × Shape) ℕ
to_wanted None x = Ok x
to_wanted (Some (tables no_columns)) (c, tables cs) = Ok (c, tables cs)
to_wanted (Some t) x = by_way (way x.1 t) x.0 t

abbrev pub whole_argument : Option Shape → JudgedPart → Result (Term × Shape) ℕ
whole_argument w (piece (value a c t)) = to_wanted w (c, t)
whole_argument w q = Err rules.wrong_type

abbrev pub position : Tree → ℕ
position (node at h ts) = at

-- a formula as its typed tree and type, coerced to what is wanted of it
abbrev pub judge_whole : Place → Bool → Option Shape → Tree → Result (Term × Shape) (ℕ × ℕ)
judge_whole p acts w e = onward (judge p (outermost_setting acts) e)
    (λ q. at_node (position e) (whole_argument w q))
