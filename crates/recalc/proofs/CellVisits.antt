-- Rows that are visited while cells are brought up to date.
use Rattle.std.proofs.Common.{◌≡◌, ◌∙◌, ◌+◌, ℕ, List, [], ◌∷◌, true, false, Bool, Option, None, Some, ap, arith, inl, inr, refl, subst, sym}
use Rattle.std.specs.Prelude.{OnOk, Result, Ok, Err, slice_get}
use Rattle.fx_base.specs.Silence.{MayFallSilent, SilenceCause}
use Rattle.fx_base.specs.Telling.{Stays}
use Rattle.fx_types.specs.Values.{Data}
use Rattle.fx_env.specs.Scopes.{around}
use Rattle.fx_eval.proofs.Widening.{visits_stay}
use Rattle.fx_eval.specs.Visits.{AskedTables, AtMost, Visits}
use Rattle.fx_plan.specs.Limited.{limited}
use Rattle.fx_scalar.specs.ScalarFunctions.{IsToday}
use Rattle.fx_core.specs.Term.{Term}
use Rattle.recalc.proofs.Asked.{heard_before}
use Rattle.recalc.proofs.Freshening.{aside_fresh, clean_fresh}
use Rattle.recalc.proofs.Tellings.{over_gives, outermost}
use Rattle.recalc.proofs.Turns.{TicksWith, ticks_start}
use Rattle.recalc.specs.Asking.{HasRead, IsHeardOf, Keeping}
use Rattle.recalc.specs.Kept.{IsClean, IsRight, CacheState, Leans, cached_value}
use Rattle.recalc.specs.Outcomes.{IsRightOver}
use Rattle.recalc.specs.Reading.{types_over}
use Rattle.recalc.specs.Visits.{CellVisits, CellsVisit, FormulaVisits, MayVisit, VisitsPerCell}
use Rattle.recalc.specs.app_cells.declared.app.App.{App}
use Rattle.recalc.specs.app_cells.declared.app.CellInfo.{CellInfo}
use Rattle.recalc.specs.app_semantics.Fresh.{CanRead, IsWhere, reads_table, formula_context}
use Rattle.recalc.specs.app_semantics.Needed.{IsFreshAt, is_alone}
use Rattle.recalc.specs.app_semantics.Present.{SourceGives, present}
use Rattle.app_semantics.specs.Telling.{told_on}
use Rattle.row_keeper.specs.Tables.{Tables, rows_of_tables, rows_told}
use Rattle.row_queries.specs.declared.rows.Row.{Row}
use Rattle.session_state.specs.Sessions.{SessionState}

-- ---- one formula

-- a formula that reads no table visits no rows
pub none_read : (a : App) (s : SessionState) (rows : List (List Row)) (m : ℕ) (values : ℕ → Data) (item : Option Data) (c : CellInfo) → reads_table c.reads ≡ false → FormulaVisits a s rows m values item c 0
none_read a s rows m values item c e =
    subst (λ (b : Bool). IsWhere b (Visits (record { shapes = a.names.schema.tables; rows = rows }) (limited a.names.schema.tables a.limit 0 false c.core) (formula_context (present a s (Some rows) m) values c.reads item) 0) (◌≡◌ {A = ℕ} 0 0)) (sym e) refl

-- what it visits over what is told of its sources, it visits over what they give
pub over_rows : (a : App) (s : SessionState) (rows : List (List Row)) (m : ℕ) (values : ℕ → Data) (day : Data) (c : CellInfo) (item : Option Data) (n : ℕ) → IsToday m day → reads_table c.reads ≡ true →
    Visits (record { shapes = a.names.schema.tables; rows = rows }) (limited a.names.schema.tables a.limit 0 false c.core)
    (around (types_over a.names c.reads (told_on day a.names s None values)) (Some (told_on day a.names s (Some rows) values)) (outermost item)) n → FormulaVisits a s rows m values item c n
over_rows a s rows m values day c item n today reads h =
    let w : AskedTables = record { shapes = a.names.schema.tables; rows = rows } in
    let tree : Term = limited a.names.schema.tables a.limit 0 false c.core in
    subst (λ (b : Bool). IsWhere b (Visits w tree (formula_context (present a s (Some rows) m) values c.reads item) n) (n ≡ 0)) (sym reads)
    (visits_stay w (λ x d. CanRead c.reads x × SourceGives (present a s (Some rows) m) values x d) tree
    (around (types_over a.names c.reads (told_on day a.names s None values)) (Some (told_on day a.names s (Some rows) values)) (outermost item)) n (λ x d g. over_gives a s rows m values day c.reads x d today g.0 g.1) h)

-- ---- one cell

-- what a cell leans on is fresh before it is evaluated
pub leaned_fresh : (a : App) (s : SessionState) (m : ℕ) (c : CacheState) (before after : Keeping) (k : ℕ) (i : CellInfo) (t : Tables) → HasRead before after → IsRightOver a s before.told m c → slice_get a.cells k ≡ Some i →
    ((d : ℕ) → Leans a k d → IsClean a c d) → after.told ≡ Some t → (n : ℕ) → FormulaVisits a s (rows_of_tables t.states) m (cached_value c) None i n → CellVisits a s (rows_of_tables t.states) m k n
leaned_fresh a s m c before after k i t read right there clean told n h =
    let heard : IsHeardOf before.told (Some (rows_of_tables t.states)) = heard_before before after read (Some (rows_of_tables t.states)) (ap rows_told told) in
    (cached_value c, i, there, λ d leans. by (right (Some (rows_of_tables t.states)) heard) d (is_alone a.cells d) refl (λ alone. clean d (i, there, leans, alone)), h)
  where
    by : IsRight (present a s (Some (rows_of_tables t.states)) m) [] c → (d : ℕ) (b : Bool) → is_alone a.cells d ≡ b → (is_alone a.cells d ≡ true → IsClean a c d) → IsFreshAt (present a s (Some (rows_of_tables t.states)) m) (cached_value c) d
    by own d true e kept = clean_fresh a s (Some (rows_of_tables t.states)) m c d own (kept e)
    by own d false e kept = aside_fresh a s (Some (rows_of_tables t.states)) m c d own.order e

-- what is told later was told before
pub told_back : (before after : Keeping) → HasRead before after → (t : Tables) → after.told ≡ Some t → before.told ≡ Some t
told_back before after read t e = by before.told after.told read.told e
  where
    by : (x y : Option Tables) → MayFallSilent (SilenceCause before.marks after.marks) Stays x y → y ≡ Some t → x ≡ Some t
    by None y k h = absurd cc
    by (Some x) None k h = absurd cc
    by (Some x) (Some y) k h = ap Some (sym k) ∙ h

-- two things that hold after an answer
pub ok_two : {T E P Q R : Type 0} (r : Result T E) → (P → Q → R) → OnOk r P → OnOk r Q → OnOk r R
ok_two (Ok v) f p q = f p q
ok_two (Err e) f p q = tt

-- ---- many cells

-- these cells were evaluated, and no more rows were visited than that visits
abbrev pub Visited : App → SessionState → List (List Row) → ℕ → ℕ → ℕ → List ℕ → Type 0
Visited a s rows m before now cs = AtMost (CellsVisit a s rows m cs) before now

pub visited_more : (a : App) (s : SessionState) (rows : List (List Row)) (m k old new before mid now : ℕ) → MayVisit a s rows m k old new mid now →
    (new ≡ old + 1 → (cs : List ℕ) → Visited a s rows m before mid cs → Visited a s rows m before now (k ∷ cs)) × (new ≡ old → (cs : List ℕ) → Visited a s rows m before mid cs → Visited a s rows m before now cs)
visited_more a s rows m k old new before mid now (inl (one, v)) = (
  λ e cs h. let i = h.2 in let j = v.2 in (v.0 + h.0, (v.0, h.0, v.1, h.1, refl), omega (arith, i, j)),
  λ e cs h. absurd (omega (arith, one, e)),
)
visited_more a s rows m k old new before mid now (inr (none, l)) = (λ e cs h. absurd (omega (arith, none, e)), λ e cs h. let i = h.2 in (h.0, h.1, omega (arith, i, l)))

pub all_visits : (a : App) (s : SessionState) (rows : List (List Row)) (m : ℕ) (roots : List ℕ) (start c : CacheState) (i old new before now : ℕ) → TicksWith (Visited a s rows m before now) a roots start c i old new →
    VisitsPerCell a s rows m roots start c old new before now
all_visits a s rows m roots start c i old new before now (cs, apart, due, places, e, v) = (cs, apart, due, e, v)

pub no_visits : (a : App) (s : SessionState) (rows : List (List Row)) (m : ℕ) (roots : List ℕ) (start : CacheState) (n x : ℕ) → VisitsPerCell a s rows m roots start start n n x x
no_visits a s rows m roots start n x = all_visits a s rows m roots start start 0 n n x x (ticks_start (Visited a s rows m x x) a roots start n (0, refl, omega arith))
