-- How much of a query expression a formula takes: the functions that a keeper answers over all rows
-- take the whole of it, and all else takes its first rows, up to the app's row limit. So does a
-- mixed filter: it is that of its other conditions over the first rows of its query expression.
use Rattle.std.specs.Prelude.{◌≡◌, ℕ, suc, ◌*◌, pos, List, map, Bool, true, false, not, ◌&&◌, ◌||◌}
use Rattle.std.specs.Prelude.{length, take, Option, Some, None, ◌↔◌}
use Rattle.filter_parts.specs.Splits.{split_with}
use Rattle.fx_types.specs.declared.faults.Kind.{Kind}
use Rattle.fx_types.specs.Types.{Shape}
use Rattle.fx_types.specs.Values.{Data, number, fault}
use Rattle.fx_core.specs.declared.functions.Fun.TheVariants as fun
use Rattle.fx_core.specs.declared.schema.TableShape.{TableShape}
use Rattle.fx_core.specs.Term.{Term, Terms, of, nil, cons, Top}
use Rattle.fx_core.specs.Term as top
use Rattle.fx_plan.specs.declared.plans.Sketch.{Sketch}
use Rattle.fx_plan.specs.Mixed.{MixOf, mix_of, split_of}
use Rattle.fx_plan.specs.QueryExpressions.{sketch_of}
use Rattle.fx_plan.specs.Sites.{terms_count, deeper, is_asked, is_first, is_query}
use Rattle.fx_plan.specs.Sites.{opens_row_scope, takes_whole}
use Rattle.fx_scalar.specs.LazyForms.{ErrorOr}
use Rattle.fx_semantics.specs.Around.{Around}
use Rattle.fx_semantics.specs.Fresh.{IsValue, meanings}
use Rattle.fx_semantics.specs.Rows.{IsMade, rows_in, table_of}
use Rattle.fx_value.specs.Columns.{Row as Fields}
use Rattle.fx_typing.specs.Acts.{acts}
use Rattle.fx_typing.specs.WellTyped.{Context}
use Rattle.fx_plan.specs.Constants.{HasType, ReadsTables}
use Rattle.fx_plan.specs.Settings.{EvalSetting, setting_around}

-- the first so many rows of a table: an error stays an error
abbrev pub first_rows_of : ℕ → Term → Term
first_rows_of n t = of (top.over fun.FirstN) (cons t
    (cons (of (top.const (number (pos (n * 10000)))) nil) nil))

-- whether a node takes the whole of its first part: it is a larger query expression itself, a mixed
-- filter, or one of those functions
abbrev pub takes_first_whole : List TableShape → ℕ → Term → Bool
takes_first_whole ts k t = is_asked ts k t || takes_whole ts k t

-- conditions over the first rows of a filter
abbrev pub over_first : ℕ → Term × Terms → Term
over_first n p = of (top.over fun.Filter) (cons (first_rows_of n p.0) p.1)

-- a tree whose parts are limited, as it is taken: a mixed filter is split wherever it stands, and a
-- query expression is cut
abbrev pub taken_as : ℕ → Option MixOf → Bool → Term → Term
taken_as n (Some m) cut t = over_first n (split_with m.marks t)
taken_as n None true t = first_rows_of n t
taken_as n None false t = t

abbrev mutual
  -- a tree that stands under k scopes, in which each largest query expression that isn't taken
  -- whole is its first n rows, and so is that of a mixed filter
  pub limited : List TableShape → ℕ → ℕ → Bool → Term → Term
  limited ts n k whole (of h cs) =
      taken_as n (mix_of ts k (of h cs)) (is_query ts k (of h cs) && not whole)
      (of h (parts_limited ts n k h (terms_count cs) (takes_first_whole ts k (of h cs)) 0 cs))

  -- the parts of a head from a place on, of which there are so many, each under its scopes; the
  -- first may be taken whole
  pub parts_limited : List TableShape → ℕ → ℕ → Top → ℕ → Bool → ℕ → Terms → Terms
  parts_limited ts n k h m whole i nil = nil
  parts_limited ts n k h m whole i (cons c cs)
      = cons (limited ts n (deeper (opens_row_scope h m i) k) (whole && is_first i) c)
      (parts_limited ts n k h m whole (suc i) cs)

-- THE value of a formula over these tables, where queries that aren't taken whole give so many rows
abbrev pub IsTakenValue : List TableShape → ℕ → Around → Term → Data → Type 0
IsTakenValue ts n a t v = IsValue a (limited ts n (length a.rows) false t) v

-- ---- mixed filters

-- conditions, each as it is taken in the scope of a row
abbrev pub conditions_limited : List TableShape → ℕ → ℕ → Terms → Terms
conditions_limited ts n k nil = nil
conditions_limited ts n k (cons c cs) = cons (limited ts n (suc k) false c)
    (conditions_limited ts n k cs)

-- a law: a mixed filter is worth that of its other conditions over what is taken of its query
-- expression, whose error is the answer
abbrev pub MixedAreTaken : Type 0
MixedAreTaken =
    (s : EvalSetting) (ts : List TableShape) (n : ℕ) (t x : Term) (rest : Terms) (v : Data)
    → split_of ts (length s.rows) t ≡ Some (x, rest)
    → (IsTakenValue ts n (setting_around s) t v
    ↔ ((w : Data) × IsTakenValue ts n (setting_around s) x w × ErrorOr w (IsMade fun.Filter
    (rows_in w) (meanings (conditions_limited ts n (length s.rows) rest)) (setting_around s) v) v))

-- ---- sketches

-- a sketch whose constants take what they take in the scope of a row
abbrev pub limited_sketch : List TableShape → ℕ → ℕ → Sketch → Sketch
limited_sketch ts n k s = record s { constants = map (limited ts n (suc k) false) s.constants }

-- a law: a query expression that is taken whole is sketched as before, but for what its constants
-- take
abbrev pub LimitedSketches : Type 0
LimitedSketches =
    (ts : List TableShape) (n k : ℕ) (q : Term) (s : Sketch) → sketch_of ts k q ≡ Some s
    → sketch_of ts k (limited ts n k true q) ≡ Some (limited_sketch ts n k s)

-- ---- types

-- a law: a well typed tree that doesn't act keeps its type, and doesn't begin to act
abbrev pub LimitedTypes : Type 0
LimitedTypes =
    (ts : List TableShape) (n : ℕ) (c : Context) (whole : Bool) (t : Term) (u : Shape)
    → ReadsTables ts c → HasType c t u → acts t ≡ false →
    HasType c (limited ts n (length c.rows) whole t) u
    × (acts (limited ts n (length c.rows) whole t) ≡ false)

-- ---- first rows

-- a law: of a table these are its first so many rows, and of an error the error
abbrev pub FirstRowsAre : Type 0
FirstRowsAre =
    (s : EvalSetting) (n : ℕ) (t : Term) → ((rows : List Fields)
    → IsValue (setting_around s) t (table_of rows)
    → IsValue (setting_around s) (first_rows_of n t) (table_of (take n rows)))
    × ((k : Kind) (cs : List ℕ) → IsValue (setting_around s) t (fault k cs)
    → IsValue (setting_around s) (first_rows_of n t) (fault k cs))
