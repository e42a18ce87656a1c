-- Query expressions in which the values of their constants stand for them, in the order of their
-- sketches. A constant may be an error.
use Rattle.std.specs.Prelude.{◌≡◌, ℕ, suc, ◌≤◌, List, [], ◌∷◌, false, true, length, Some, slice_get}
use Rattle.std.specs.Prelude.{if◌then◌else◌}
use Rattle.fx_types.specs.Types.{Shape}
use Rattle.fx_types.specs.Values.{Data}
use Rattle.fx_plan.specs.declared.plans.Sketch.{Sketch}
use Rattle.fx_plan.specs.Constants.{HasType, ReadsTables, in_row}
use Rattle.fx_plan.specs.Consumers.{over_query}
use Rattle.fx_plan.specs.Outlines.{constant_at}
use Rattle.fx_plan.specs.QueryExpressions.{is_constant, sketch_of}
use Rattle.fx_plan.specs.Settings.{EvalSetting, setting_around}
use Rattle.fx_semantics.specs.Around.{AreValues, inside}
use Rattle.fx_semantics.specs.Fresh.{IsValue, meanings}
use Rattle.fx_core.specs.declared.functions.Form.TheVariants as form
use Rattle.fx_core.specs.declared.functions.Fun.TheVariants as fun
use Rattle.fx_core.specs.declared.schema.TableShape.{TableShape}
use Rattle.fx_core.specs.Term.{Term, Terms, of, nil, cons, all, Top, term_size}
use Rattle.fx_core.specs.Term as top
use Rattle.fx_typing.specs.Acts.{acts}
use Rattle.fx_typing.specs.WellTyped.{Context}
use Rattle.fx_value.specs.Fits.{fits_in}

-- a value as a tree
abbrev pub as_value : Data → Term
as_value d = of (top.const d) nil

-- parts under a head, and the place of the next constant
abbrev pub under_head : Top → Terms × ℕ → Term × ℕ
under_head h p = (of h p.0, p.1)

abbrev pub in_front : Term → Terms × ℕ → Terms × ℕ
in_front c p = (cons c p.0, p.1)

-- by its head: what joins conditions or is made of one settles its parts, and a column stays
abbrev pub by_head : Top → Terms → ℕ → Terms × ℕ → Term × ℕ
by_head (top.form form.All) cs n p = under_head (top.form form.All) p
by_head (top.form form.Any) cs n p = under_head (top.form form.Any) p
by_head (top.call f) cs n p = under_head (top.call f) p
by_head h cs n p = (of h cs, n)

abbrev mutual
  -- a condition on the row of scope k, whose first constant is the one at this place among these,
  -- and the place of the next
  pub condition_settled : ℕ → List Data → Term → ℕ → Term × ℕ
  condition_settled k ds (of h cs) n = if is_constant k (of h cs) then
      (as_value (constant_at ds n), suc n) else by_head h cs n (conditions_settled k ds cs n)

  pub conditions_settled : ℕ → List Data → Terms → ℕ → Terms × ℕ
  conditions_settled k ds nil n = (nil, n)
  conditions_settled k ds (cons c cs) n = in_front (condition_settled k ds c n).0
      (conditions_settled k ds cs (condition_settled k ds c n).1)

-- a query expression under k scopes, and the place of the next constant: first come those of its
-- table
abbrev pub query_settled : ℕ → List Data → Term → Term × ℕ
query_settled k ds (of (top.over f) (cons q cs)) = (
  over_query f (query_settled k ds q).0 (conditions_settled k ds cs (query_settled k ds q).1).0,
  (conditions_settled k ds cs (query_settled k ds q).1).1,
)
query_settled k ds t = (t, 0)

-- a call over a query expression, whose other parts stay
abbrev pub call_settled : ℕ → List Data → Term → Term
call_settled k ds (of (top.over f) (cons q cs)) = over_query f (query_settled k ds q).0 cs
call_settled k ds t = t

-- the same where the first of the other parts is a condition too, as that of `LookUp`
abbrev pub search_settled : ℕ → List Data → Term → Term
search_settled k ds (of (top.over f) (cons q (cons c cs)))
    = over_query f (query_settled k ds q).0 (cons
    (condition_settled k ds c (query_settled k ds q).1).0 cs)
search_settled k ds t = call_settled k ds t

-- parts of which the first is a condition
abbrev pub with_first : ℕ → List Data → List Term → ℕ → List Term
with_first k ds [] n = []
with_first k ds (c ∷ cs) n = (condition_settled k ds c n).0 ∷ cs

-- ---- laws

-- the constants have these values, in whatever stands in the row's place
abbrev pub HaveValues : EvalSetting → Sketch → List Data → Type 0
HaveValues a s ds = (place : Data) × AreValues (meanings (all s.constants))
    (inside (setting_around a) place) ds

-- then, what the settled query expression is worth, it is worth itself
abbrev pub SettledAreWorth : Type 0
SettledAreWorth =
    (a : EvalSetting) (ts : List TableShape) (q : Term) (s : Sketch) (ds : List Data) (v : Data)
    → sketch_of ts (length a.rows) q ≡ Some s →
    HaveValues a s ds → IsValue (setting_around a) (query_settled (length a.rows) ds q).0 v
    → IsValue (setting_around a) q v

-- so is what `LookUp` is worth, the rows of which are those of one more filter
abbrev pub SearchesAreWorth : Type 0
SearchesAreWorth =
    (a : EvalSetting) (ts : List TableShape) (q c : Term) (cs : Terms) (s : Sketch) (ds : List Data)
    (v : Data) → sketch_of ts (length a.rows) (over_query fun.Filter q (cons c nil)) ≡ Some s →
    HaveValues a s ds → IsValue (setting_around a)
    (search_settled (length a.rows) ds (over_query fun.LookUp q (cons c cs))) v
    → IsValue (setting_around a) (over_query fun.LookUp q (cons c cs)) v

-- the values of constants fit the types that these have in the scope of a row
abbrev pub AreFitting : Context → TableShape → List Term → List Data → Type 0
AreFitting c t es ds = (i : ℕ) (x : Term) (u : Shape) → slice_get es i ≡ Some x
    → HasType (in_row c t) x u → fits_in (constant_at ds i) u ≡ true

-- those of a sketch's constants
abbrev pub AreFittingFor : List TableShape → Context → Sketch → List Data → Type 0
AreFittingFor ts c s ds = (t : TableShape) → slice_get ts s.table ≡ Some t
    → AreFitting c t s.constants ds

-- where the values of the constants fit, the settled query expression has the types of the query
-- expression
abbrev pub SettledHaveTypes : Type 0
SettledHaveTypes =
    (c : Context) (ts : List TableShape) (q : Term) (u : Shape) (s : Sketch) (ds : List Data)
    → ReadsTables ts c → HasType c q u → sketch_of ts (length c.rows) q ≡ Some s →
    AreFittingFor ts c s ds → HasType c (query_settled (length c.rows) ds q).0 u

-- and so has `LookUp`
abbrev pub SearchesHaveTypes : Type 0
SearchesHaveTypes =
    (c : Context) (ts : List TableShape) (q x : Term) (cs : Terms) (u : Shape) (s : Sketch)
    (ds : List Data) → ReadsTables ts c → HasType c (over_query fun.LookUp q (cons x cs)) u →
    sketch_of ts (length c.rows) (over_query fun.Filter q (cons x nil)) ≡ Some s
    → AreFittingFor ts c s ds →
    HasType c (search_settled (length c.rows) ds (over_query fun.LookUp q (cons x cs))) u

-- what is settled is no larger, and doesn't act where what it was made from doesn't
abbrev pub IsNoMore : Term → Term → Type 0
IsNoMore t x = (term_size x ≤ term_size t) × (acts t ≡ false → acts x ≡ false)

abbrev pub SettledAreNoMore : Type 0
SettledAreNoMore =
    (k : ℕ) (ds : List Data) (t : Term) → IsNoMore t (query_settled k ds t).0
    × IsNoMore t (call_settled k ds t) × IsNoMore t (search_settled k ds t)
