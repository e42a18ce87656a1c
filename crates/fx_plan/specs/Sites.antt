-- Sites: where a formula takes rows of tables. Each is a largest query expression of its tree or
-- that of a mixed filter, and they are numbered in the order in which they begin.
use Rattle.std.specs.Prelude.{ℕ, zero, suc, codes, List, [], ◌∷◌, ◌++◌, Bool, true, false, not}
use Rattle.std.specs.Prelude.{◌&&◌, ◌||◌, Option, Some, None, is_some, length, slice_get}
use Rattle.std.specs.Prelude.{option_and_then, unwrap_or, if◌then◌else◌}
use Rattle.fx_types.specs.Words.{scalars_of}
use Rattle.fx_core.specs.declared.deeds.Deed.{Deed}
use Rattle.fx_core.specs.declared.deeds.Deed.TheVariants as deed
use Rattle.fx_core.specs.declared.functions.Fun.TheVariants as fun
use Rattle.fx_core.specs.declared.rows.Scalar.TheVariants.{Number}
use Rattle.fx_core.specs.declared.rows.Takes.{Takes}
use Rattle.fx_core.specs.declared.rows.Takes.TheVariants as takes
use Rattle.fx_core.specs.declared.schema.TableShape.{TableShape}
use Rattle.fx_core.specs.Rows.{row_of, takes_at}
use Rattle.fx_core.specs.Term.{Term, Terms, of, nil, cons, Top}
use Rattle.fx_core.specs.Term as top
use Rattle.fx_plan.specs.declared.plans.Sketch.{Sketch}
use Rattle.fx_core.specs.declared.sites.Site.{Site}
use Rattle.fx_plan.specs.CallNames.{call_name}
use Rattle.fx_plan.specs.Mixed.{MixOf, is_mixed, mix_of}
use Rattle.fx_plan.specs.QueryExpressions.{column_of, sketch_of}

abbrev pub is_query : List TableShape → ℕ → Term → Bool
is_query ts k c = is_some (sketch_of ts k c)

-- a tree for which one query is asked: a query expression, or a mixed filter
abbrev pub is_asked : List TableShape → ℕ → Term → Bool
is_asked ts k c = is_mixed ts k c || is_query ts k c

-- ---- what takes a query expression

-- a column of numbers of the table that a query asks
abbrev pub number_column : List TableShape → ℕ → Term → Sketch → Option ℕ
number_column ts k f s = option_and_then (λ (t : TableShape). column_of t k Number f)
    (slice_get ts s.table)

-- the total of a plain column of numbers
abbrev pub totals_column : List TableShape → ℕ → Term → Term → Bool
totals_column ts k q f = is_some (option_and_then (number_column ts k f) (sketch_of ts k q))

abbrev pub totals : List TableShape → ℕ → Term → Terms → Bool
totals ts k q (cons f nil) = totals_column ts k q f
totals ts k q cs = false

-- rows with conditions besides
abbrev pub is_filter : List TableShape → ℕ → Term → Terms → Bool
is_filter ts k q cs = is_query ts k (of (top.over fun.Filter) (cons q cs))

-- whether a node takes the whole of the query expression that is its first part. `LookUp` does with
-- a delegable condition, so that its rows with that condition are a query expression too.
abbrev pub takes_whole : List TableShape → ℕ → Term → Bool
takes_whole ts k (of (top.over fun.CountRows) cs) = true
takes_whole ts k (of (top.over fun.First) cs) = true
takes_whole ts k (of (top.over fun.LookUp) (cons q (cons c cs))) = is_filter ts k q (cons c nil)
takes_whole ts k (of (top.over fun.SumRows) (cons q cs)) = totals ts k q cs
takes_whole ts k (of (top.over fun.MinRows) (cons q cs)) = totals ts k q cs
takes_whole ts k (of (top.over fun.MaxRows) (cons q cs)) = totals ts k q cs
takes_whole ts k (of (top.over fun.AverageRows) (cons q cs)) = totals ts k q cs
takes_whole ts k c = false

-- ---- where a tree stands

-- under how many scopes; in the call of which function, and `cell` where there is none around;
-- whether that takes the whole of it; and whether it is the first part of a larger query expression
-- or of a mixed filter
pub record Position : Type 0 where
  pub depth : ℕ
  pub by : List ℕ
  pub delegated : Bool
  pub inner : Bool

abbrev pub outermost_position : Position
outermost_position = record { depth = 0; by = codes "cell"; delegated = false; inner = false }

-- formulas in the scope of a row
abbrev pub is_formula : Takes → Bool
is_formula (takes.Formula s) = true
is_formula takes.ScalarFormula = true
is_formula takes.AnyFormula = true
is_formula takes.RowFormula = true
is_formula k = false

abbrev pub is_first : ℕ → Bool
is_first zero = true
is_first (suc i) = false

abbrev pub is_update : Deed → Bool
is_update (deed.UpdateIf t) = true
is_update d = false

-- whether the part at a place of so many stands in a scope of its node: the formulas behind a table
-- and the change of `UpdateIf` in that of each row, and the second part of `With` in that of its
-- record
abbrev pub opens_row_scope : Top → ℕ → ℕ → Bool
opens_row_scope (top.over f) n i = not (is_first i) && is_formula (takes_at (row_of f) n i)
opens_row_scope top.within n i = not (is_first i)
opens_row_scope (top.act d) n i = not (is_first i) && is_update d
opens_row_scope h n i = false

abbrev pub deeper : Bool → ℕ → ℕ
deeper b k = if b then suc k else k

abbrev pub terms_count : Terms → ℕ
terms_count nil = 0
terms_count (cons c cs) = suc (terms_count cs)

-- where the part at a place stands
abbrev pub part_at : List TableShape → Position → Term → ℕ → Position
part_at ts p (of h cs) i = record {
  depth = deeper (opens_row_scope h (terms_count cs) i) p.depth;
  by = unwrap_or (call_name h) p.by;
  delegated = takes_whole ts p.depth (of h cs) && is_first i;
  inner = is_asked ts p.depth (of h cs) && is_first i;
}

-- ---- sites

-- a site without its number
pub record Use : Type 0 where
  pub table : ℕ
  pub by : List ℕ
  pub delegated : Bool

abbrev pub site_use : ℕ → List ℕ → Bool → Use
site_use n by d = record { table = n; by = scalars_of by; delegated = d }

abbrev pub use_by : Position → Option Sketch → List Use
use_by p None = []
use_by p (Some s) = site_use s.table p.by p.delegated ∷ []

-- a mixed filter takes its query expression itself
abbrev pub own_by : Position → Option MixOf → Option Sketch → List Use
own_by p (Some m) s = site_use m.table (codes "Filter") false ∷ []
own_by p None s = if p.inner then [] else use_by p s

-- the tree itself, if it is a mixed filter, or a query expression and not the first part of a
-- larger one or of a mixed filter
abbrev pub own_use : List TableShape → Position → Term → List Use
own_use ts p c = own_by p (mix_of ts p.depth c) (sketch_of ts p.depth c)

abbrev mutual
  -- the largest query expressions in a tree, in the order in which they begin
  pub uses_in : List TableShape → Position → Term → List Use
  uses_in ts p (of h cs) = own_use ts p (of h cs) ++ uses_among ts (part_at ts p (of h cs)) 0 cs

  -- those in the parts from a place on
  pub uses_among : List TableShape → (ℕ → Position) → ℕ → Terms → List Use
  uses_among ts at i nil = []
  uses_among ts at i (cons c cs) = uses_in ts (at i) c ++ uses_among ts at (suc i) cs

abbrev pub site : ℕ → Use → Site
site n u = record { number = n; table = u.table; by = u.by; delegated = u.delegated }

abbrev pub sites_numbered : ℕ → List Use → List Site
sites_numbered n [] = []
sites_numbered n (u ∷ us) = site n u ∷ sites_numbered (suc n) us

-- these sites, and behind them those that follow, numbered on
abbrev pub listed : List Site → List Use → List Site
listed ss us = ss ++ sites_numbered (suc (length ss)) us

-- THE sites of a cell's tree
abbrev pub sites_of : List TableShape → Term → List Site
sites_of ts c = sites_numbered 1 (uses_in ts outermost_position c)
