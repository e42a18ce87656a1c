-- One table goes on in a transaction, and the others stay.
use Rattle.std.proofs.Common.{◌≡◌, ◌∙◌, ℕ, zero, suc, ◌+◌, List, [], ◌∷◌, Option, None, Some, ap, arith, refl, set, subst, sym}
use Rattle.std.specs.Prelude.{option_map, slice_get, unwrap_or}
use Rattle.fx_core.specs.declared.schema.Schema.{Schema}
use Rattle.fx_core.specs.declared.schema.TableShape.{TableShape}
use Rattle.sqlite.specs.Tree.{Trees}
use Rattle.sql_contents.specs.Contents.{Contents, contents_of, lines_in}
use Rattle.row_keeper.specs.Tables.{TableState, no_rows, shapes_of, with_state}
use Rattle.row_keeper.proofs.StoreLemmas.{set_same}
use Rattle.row_lines.specs.FromBytes.{schema_in}
use Rattle.row_changes.specs.Overlay.{last_of, overlay}
use Rattle.row_changes.specs.declared.table.TableChanges.{TableChanges}
use Rattle.row_plan.specs.Written.{AreOfTables, IsOfTable, lasts_then}
use Rattle.store_model.specs.Decoded.{schema_kept, state_in, states_now, tables_changed}
use Rattle.store_model.specs.Going.{GoesOn, GoesTold}
use Rattle.store_model.specs.Steady.{AreCounted, HasRows, HaveRows, IsCounted, IsShapedSo}
use Rattle.store_model.specs.declared.counts.RowCount.{RowCount}
use Rattle.store_model.proofs.CommitLemmas.{tables_of}

-- ---- at a place among the tables from one on

goes_here : (k : Contents) (tab at : ℕ) (u t : TableShape) (b c d : TableChanges) → at ≡ tab → u ≡ t → b ≡ c → GoesOn (k.lines at) t.columns c d → GoesOn (k.lines tab) u.columns b d
goes_here k tab at u t b c d here shape old goes =
    subst (λ n. GoesOn (k.lines n) u.columns b d) here (subst (λ (s : TableShape). GoesOn (k.lines at) s.columns b d) (sym shape) (subst (λ x. GoesOn (k.lines at) t.columns x d) (sym old) goes))

tables_go : (k : Contents) (tab i at : ℕ) (ts : List TableShape) (cs : List TableChanges) (t : TableShape) (c d : TableChanges) → at ≡ tab + i → slice_get ts i ≡ Some t → slice_get cs i ≡ Some c
    → AreOfTables k tab ts cs → HaveRows k tab ts cs → GoesOn (k.lines at) t.columns c d → AreOfTables k tab ts (set cs i d) × HaveRows k tab ts (set cs i d)
tables_go k tab i at [] cs t c d e ht hc was rows goes = absurd cc
tables_go k tab i at (u ∷ ts) [] t c d e ht hc was rows goes = absurd was
tables_go k tab zero at (u ∷ ts) (b ∷ cs) t c d e ht hc was rows goes =
    let shape : u ≡ t = cc in
    let old : b ≡ c = cc in
    let on = goes_here k tab at u t b c d (omega (arith, e)) shape old goes in
    let its : IsOfTable k tab u.columns d = record { ordered = on.ordered; changes = on.changes; marks = was.0.marks } in
    let has : HasRows k tab u.columns d = record { then = rows.0.then; now = on.rows } in
    ((its, was.1), (has, rows.1))
tables_go k tab (suc i) at (u ∷ ts) (b ∷ cs) t c d e ht hc was rows goes =
    let rest = tables_go k (suc tab) i at ts cs t c d (omega (arith, e)) ht hc was.1 rows.1 goes in
    ((was.0, rest.0), (rows.0, rest.1))

lasts_go : (tab i : ℕ) (cs : List TableChanges) (c d : TableChanges) → slice_get cs i ≡ Some c → d.first ≡ c.first → lasts_then tab cs ≡ lasts_then tab (set cs i d)
lasts_go tab i [] c d hc same = refl
lasts_go tab zero (b ∷ cs) c d hc same = let old : b ≡ c = cc in ap (λ n. (tab, n) ∷ lasts_then (suc tab) cs) (ap (λ (x : TableChanges). x.first) old ∙ sym same)
lasts_go tab (suc i) (b ∷ cs) c d hc same = ap (λ l. (tab, b.first) ∷ l) (lasts_go (suc tab) i cs c d hc same)

abbrev state_of : Trees → ℕ → TableShape → TableChanges → TableState
state_of trees tab t c = state_in t.columns (overlay c (lines_in trees tab)) (last_of c)

states_go : (trees : Trees) (tab i at : ℕ) (ts : List TableShape) (cs : List TableChanges) (t : TableShape) (c d : TableChanges) → at ≡ tab + i → slice_get ts i ≡ Some t → slice_get cs i ≡ Some c
    → states_now trees tab ts (set cs i d) ≡ set (states_now trees tab ts cs) i (state_of trees at t d)
states_go trees tab i at [] cs t c d e ht hc = absurd cc
states_go trees tab i at (u ∷ ts) [] t c d e ht hc = absurd cc
states_go trees tab zero at (u ∷ ts) (b ∷ cs) t c d e ht hc =
    let shape : u ≡ t = cc in
    let here : tab ≡ at = omega (arith, e) in
    ap (λ (s : TableShape). state_of trees tab s d ∷ states_now trees (suc tab) ts cs) shape ∙ ap (λ n. state_of trees n t d ∷ states_now trees (suc tab) ts cs) here
states_go trees tab (suc i) at (u ∷ ts) (b ∷ cs) t c d e ht hc = ap (λ l. state_of trees tab u b ∷ l) (states_go trees (suc tab) i at ts cs t c d (omega (arith, e)) ht hc)

states_at : (trees : Trees) (tab i at : ℕ) (ts : List TableShape) (cs : List TableChanges) (t : TableShape) (c : TableChanges) → at ≡ tab + i → slice_get ts i ≡ Some t → slice_get cs i ≡ Some c
    → slice_get (states_now trees tab ts cs) i ≡ Some (state_of trees at t c)
states_at trees tab i at [] cs t c e ht hc = absurd cc
states_at trees tab i at (u ∷ ts) [] t c e ht hc = absurd cc
states_at trees tab zero at (u ∷ ts) (b ∷ cs) t c e ht hc =
    let shape : u ≡ t = cc in
    let old : b ≡ c = cc in
    let here : tab ≡ at = omega (arith, e) in
    ap (λ (s : TableShape). Some (state_of trees tab s b)) shape ∙ ap (λ x. Some (state_of trees tab t x)) old ∙ ap (λ n. Some (state_of trees n t c)) here
states_at trees tab (suc i) at (u ∷ ts) (b ∷ cs) t c e ht hc = states_at trees (suc tab) i at ts cs t c (omega (arith, e)) ht hc

-- ---- all of them

pub kept_schema_is : (trees : Trees) (schema : Schema) (cs : List TableChanges) → IsShapedSo (contents_of trees) schema cs → schema_kept trees ≡ Some schema
kept_schema_is trees schema cs shaped = ap (λ o. option_map schema_in o) shaped.body ∙ ap (λ s. Some s) shaped.read

pub goes_told : GoesTold
goes_told trees schema cs tab t c d shaped ht hc goes =
    let at : tab ≡ 0 + tab = omega arith in
    let kept = kept_schema_is trees schema cs shaped in
    let both = tables_go (contents_of trees) 0 tab tab schema.tables cs t c d at ht hc shaped.changes shaped.rows goes in (
      record { lawful = shaped.lawful; body = shaped.body; read = shaped.read; lasts = shaped.lasts ∙ lasts_go 0 tab cs c d hc goes.first; changes = both.0; rows = both.1 },
      ap (λ o. unwrap_or (slice_get (states_now trees 0 (shapes_of o) cs) tab) no_rows) kept ∙ ap (λ o. unwrap_or o no_rows) (states_at trees 0 tab tab schema.tables cs t c at ht hc),
      ap (λ ss. tables_of (schema_kept trees) ss)
          (subst (λ o. states_now trees 0 (shapes_of o) (set cs tab d) ≡ set (states_now trees 0 (shapes_of o) cs) tab (state_of trees tab t d)) (sym kept) (states_go trees 0 tab tab schema.tables cs t c d at ht hc)),
    )

-- ---- their counts

pub counts_go : (k : Contents) (tab i at : ℕ) (cs : List TableChanges) (ns : List RowCount) (c d : TableChanges) (m : RowCount) → at ≡ tab + i → slice_get cs i ≡ Some c
    → AreCounted k tab cs ns → IsCounted (k.lines at) d m → AreCounted k tab (set cs i d) (set ns i m)
counts_go k tab i at [] ns c d m e hc was is = absurd cc
counts_go k tab i at (b ∷ cs) [] c d m e hc was is = absurd was
counts_go k tab zero at (b ∷ cs) (n ∷ ns) c d m e hc was is = (let here : at ≡ tab = omega (arith, e) in subst (λ p. IsCounted (k.lines p) d m) here is, was.1)
counts_go k tab (suc i) at (b ∷ cs) (n ∷ ns) c d m e hc was is = (was.0, counts_go k (suc tab) i at cs ns c d m (omega (arith, e)) hc was.1 is)

pub counted_at : (k : Contents) (tab i at : ℕ) (cs : List TableChanges) (ns : List RowCount) (c : TableChanges) (n : RowCount) → at ≡ tab + i → slice_get cs i ≡ Some c → slice_get ns i ≡ Some n
    → AreCounted k tab cs ns → IsCounted (k.lines at) c n
counted_at k tab i at [] ns c n e hc hn was = absurd cc
counted_at k tab i at (b ∷ cs) [] c n e hc hn was = absurd was
counted_at k tab zero at (b ∷ cs) (m ∷ ns) c n e hc hn was =
    let old : b ≡ c = cc in
    let its : m ≡ n = cc in
    let here : tab ≡ at = omega (arith, e) in
    subst (λ p. IsCounted (k.lines p) c n) here (subst (λ x. IsCounted (k.lines tab) x n) old (subst (λ y. IsCounted (k.lines tab) b y) its was.0))
counted_at k tab (suc i) at (b ∷ cs) (m ∷ ns) c n e hc hn was = counted_at k (suc tab) i at cs ns c n (omega (arith, e)) hc hn was.1

-- ---- where the table stays, all stay

pub told_itself : (trees : Trees) (schema : Schema) (cs : List TableChanges) (tab : ℕ) (t : TableShape) (c : TableChanges) → IsShapedSo (contents_of trees) schema cs → slice_get schema.tables tab ≡ Some t → slice_get cs tab ≡ Some c
    → with_state (tables_changed trees cs) tab (state_in t.columns (overlay c (lines_in trees tab)) (last_of c)) ≡ tables_changed trees cs
told_itself trees schema cs tab t c shaped ht hc =
    let at : tab ≡ 0 + tab = omega arith in
    ap (λ ss. tables_of (schema_kept trees) ss)
    (subst (λ o. set (states_now trees 0 (shapes_of o) cs) tab (state_of trees tab t c) ≡ states_now trees 0 (shapes_of o) cs) (sym (kept_schema_is trees schema cs shaped))
    (set_same (states_now trees 0 schema.tables cs) tab (state_of trees tab t c) (states_at trees 0 tab tab schema.tables cs t c at ht hc)))
