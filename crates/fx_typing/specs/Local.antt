-- The one rule of all functions, operators and forms, over their parts as they were judged.
use Rattle.std.specs.Prelude.{ℕ, suc, codes, List, [], ◌∷◌, Bool, true, false, ◌||◌, ◌&&◌, length}
use Rattle.std.specs.Prelude.{Option, Some, None, Result, Ok, Err, if◌then◌else◌}
use Rattle.fx_types.specs.Types.{Shape, blanks, texts, records, tables, no_columns}
use Rattle.fx_types.specs.Values.{text}
use Rattle.fx_value.specs.Join.{join_of}
use Rattle.fx_core.specs.declared.functions.Form.{Form}
use Rattle.fx_core.specs.declared.functions.Fun.{Fun}
use Rattle.fx_core.specs.declared.rows.Row.{Row}
use Rattle.fx_core.specs.declared.rows.Takes.{Takes}
use Rattle.fx_core.specs.declared.rows.Takes.TheVariants as takes
use Rattle.fx_core.specs.Rows.{shape_of, row_of, form_row, takes_at, takes_count}
use Rattle.fx_core.specs.Term.{Term, of, nil, cons, all, Top, const, coerce, form}
use Rattle.fx_core.specs.Rules as rules
use Rattle.fx_typing.specs.Acts.{acts}
use Rattle.fx_typing.specs.Columns.{tells_error}
use Rattle.fx_core.specs.ColumnLists.{and_then, field_in}
use Rattle.fx_typing.specs.Ways.{Way, same, changed, refused, way, same_shape, is_scalar}
use Rattle.fx_typing.specs.Ways.{is_comparable}
use Rattle.fx_typing.specs.WellTyped.{answered_type, head_of}

-- a part as it was judged: the name of its rows if it has one, its tree and its type; or the name
-- of a column
pub data Piece : Type 0 where
  value : Option (List ℕ) → Term → Shape → Piece
  label : List ℕ → Piece

-- a value as one of a type
abbrev pub coerced : Term → Shape → Term
coerced c t = of (coerce t) (cons c nil)

-- a part that comes to a type, or rule 6
abbrev pub by_way : Way → Term → Shape → Result (Term × Shape) ℕ
by_way same c t = Ok (c, t)
by_way changed c t = Ok (coerced c t, t)
by_way refused c t = Err rules.wrong_type

-- to just this type: from itself and from Blank
abbrev pub exact_way : Shape → Shape → Way
exact_way blanks blanks = same
exact_way blanks t = changed
exact_way s t = if same_shape s t then same else refused

-- to the common type of branches: all come to Blank, where there is no other
abbrev pub to_blank : Shape → Way
to_blank blanks = same
to_blank s = changed

abbrev pub way_from : Shape → Shape → Way
way_from blanks s = to_blank s
way_from t s = way s t

abbrev pub branch_way : Shape → Shape → Way
branch_way s t = way_from t s

-- a part as it is, or a rule
abbrev pub part_or_rule : Bool → ℕ → Term → Shape → Result (Term × Shape) ℕ
part_or_rule true e c t = Ok (c, t)
part_or_rule false e c t = Err e

-- the rule that a record breaks which tells no error: no Kind, or one of a wrong type
abbrev pub without_kind : Option Shape → ℕ
without_kind None = rules.unknown_column
without_kind (Some t) = rules.wrong_type

-- a part as it stands at its place, where the first part and the branches have these types
abbrev pub stand : Takes → Shape → Shape → Piece → Result (Term × Shape) ℕ
stand (takes.Scalar s) first common (value a c t) = by_way (way t (shape_of s)) c (shape_of s)
stand (takes.Formula s) first common (value a c t) = by_way (way t (shape_of s)) c (shape_of s)
stand (takes.Exact s) first common (value a c t) = by_way (exact_way t (shape_of s)) c (shape_of s)
stand takes.Any first common (value a c t) = Ok (c, t)
stand takes.AnyFormula first common (value a c t) = Ok (c, t)
stand takes.ErrorRecord first common (value a c (records cs))
    = part_or_rule (tells_error cs) (without_kind (field_in (codes "Kind") cs)) c (records cs)
stand takes.Table first common (value a c (tables cs)) = Ok (c, tables cs)
stand takes.Table first common (value a c blanks)
    = Ok (coerced c (tables no_columns), tables no_columns)
stand takes.ScalarFormula first common (value a c t)
    = part_or_rule (is_scalar t) rules.wrong_type c t
stand takes.RowFormula first common (value a c (tables cs)) = Err rules.wrong_type
stand takes.RowFormula first common (value a c t) = Ok (c, t)
stand takes.Choice first common (value a c t) = by_way (branch_way t common) c common
stand takes.Branch first common (value a c t) = by_way (branch_way t common) c common
stand takes.Fallback first common (value a c t) = by_way (branch_way t common) c common
stand takes.Compared first common (value a c t) = part_or_rule (is_scalar t) rules.wrong_type c t
stand takes.Match first common (value a c t) = part_or_rule (is_comparable first t) rules.wrong_type
    c t
stand takes.Column first common (label x) = Ok (of (const (text x)) nil, texts)
stand takes.NewColumn first common (label x) = Ok (of (const (text x)) nil, texts)
stand k first common p = Err rules.wrong_type

-- the first rule that breaks, else all
abbrev pub put_first : Term × Shape → Result (List (Term × Shape)) ℕ
    → Result (List (Term × Shape)) ℕ
put_first x (Ok xs) = Ok (x ∷ xs)
put_first x (Err e) = Err e

-- the parts from a place on
abbrev pub stand_rest : Row → ℕ → ℕ → Shape → Shape → List Piece → Result (List (Term × Shape)) ℕ
stand_rest r n i first common [] = Ok []
stand_rest r n i first common (p ∷ ps) =
    and_then (stand (takes_at r n i) first common p)
    (λ x. put_first x (stand_rest r n (suc i) first common ps))

-- all parts: the first one's type, as it stands, is known to the others
abbrev pub stand_all : Row → Shape → List Piece → Result (List (Term × Shape)) ℕ
stand_all r common [] = Ok []
stand_all r common (p ∷ ps) =
    and_then (stand (takes_at r (suc (length ps)) 0) blanks common p)
    (λ x. put_first x (stand_rest r (suc (length ps)) 1 x.1 common ps))

-- the branches among the parts: their types, and whether one of them acts
abbrev pub is_branch : Takes → Bool
is_branch takes.Choice = true
is_branch takes.Branch = true
is_branch takes.Fallback = true
is_branch k = false

abbrev pub more_if : Bool → Piece → List (Term × Shape) → List (Term × Shape)
more_if true (value a c t) xs = (c, t) ∷ xs
more_if b p xs = xs

abbrev pub branches : Row → ℕ → ℕ → List Piece → List (Term × Shape)
branches r n i [] = []
branches r n i (p ∷ ps) = more_if (is_branch (takes_at r n i)) p (branches r n (suc i) ps)

abbrev pub then_join : Shape → Option Shape → Option Shape
then_join t (Some u) = join_of u t
then_join t None = None

-- the join of types, from the left
abbrev pub join_all : Option Shape → List (Term × Shape) → Option Shape
join_all t [] = t
join_all t (x ∷ xs) = join_all (then_join x.1 t) xs

abbrev pub all_scalar : List (Term × Shape) → Bool
all_scalar [] = true
all_scalar (x ∷ xs) = is_scalar x.1 && all_scalar xs

abbrev pub some_text : List (Term × Shape) → Bool
some_text [] = false
some_text (x ∷ xs) = same_shape x.1 texts || some_text xs

abbrev pub some_acts : List (Term × Shape) → Bool
some_acts [] = false
some_acts (x ∷ xs) = acts x.0 || some_acts xs

abbrev pub or_blank : Bool → Option Shape
or_blank true = Some blanks
or_blank false = None

-- the common type of branches: their join; or Text where all are scalars and one is Text; or Blank
-- where one acts
abbrev pub common_or : List (Term × Shape) → Option Shape → Option Shape
common_or xs (Some t) = Some t
common_or xs None = if all_scalar xs && some_text xs then Some texts else or_blank (some_acts xs)

abbrev pub common_of : List (Term × Shape) → Option Shape
common_of xs = common_or xs (join_all (Some blanks) xs)

abbrev pub firsts : List (Term × Shape) → List Term
firsts [] = []
firsts (x ∷ xs) = x.0 ∷ firsts xs

-- the tree of a head and its parts as they stand, with the type that it answers
abbrev pub answer_by : Row → Top → Shape → List (Term × Shape) → Result (Term × Shape) ℕ
answer_by r h common xs = and_then (answered_type r.answer common xs)
    (λ t. Ok (of h (all (firsts xs)), t))

abbrev pub made_as : Row → Top → List Piece → Option Shape → Result (Term × Shape) ℕ
made_as r h ps (Some common) = and_then (stand_all r common ps) (answer_by r h common)
made_as r h ps None = Err rules.wrong_type

-- THE rule: a head with this row, of these parts, or the rule that is broken
abbrev pub made_by : Row → Top → List Piece → Result (Term × Shape) ℕ
made_by r h ps = if takes_count r (length ps) then made_as r h ps
    (common_of (branches r (length ps) 0 ps)) else Err rules.wrong_count

-- a function or operator
abbrev pub node_made : Fun → List Piece → Result (Term × Shape) ℕ
node_made f ps = made_by (row_of f) (head_of f) ps

-- a form
abbrev pub formed : Form → List Piece → Result (Term × Shape) ℕ
formed f ps = made_by (form_row f) (form f) ps
