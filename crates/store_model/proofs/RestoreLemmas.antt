-- That a keeper is as its transaction began, once it has given up the changes.
use Rattle.std.proofs.Common.{◌≡◌, ◌∙◌, ℕ, suc, ◌+◌, ◌<◌, ◌≤◌, List, [], ◌∷◌, ◌++◌, length, Some, ap, ap₂, append_assoc, arith, refl, subst, sym}
use Rattle.std.specs.Prelude.{IfSome, option_map, unwrap_or}
use Rattle.std.specs.List.{AllByRecursion}
use Rattle.fx_core.specs.declared.schema.TableShape.{TableShape}
use Rattle.sqlite.specs.Tree.{Trees}
use Rattle.sql_meanings.specs.Lasts.{LastsOf}
use Rattle.sql_meanings.specs.Lines.{LinesOf}
use Rattle.sql_contents.specs.Contents.{contents_of, lasts_in, lines_in}
use Rattle.row_keeper.specs.Tables.{shapes_of}
use Rattle.row_lines.specs.FromBytes.{schema_in}
use Rattle.row_changes.specs.Moves.{HasNone}
use Rattle.row_changes.specs.Overlay.{AreOf, body_at, last_of}
use Rattle.row_changes.specs.declared.table.Change.{Change}
use Rattle.row_changes.specs.declared.table.TableChanges.{TableChanges}
use Rattle.row_changes.proofs.MoveLemmas.{change_in}
use Rattle.row_plan.specs.Written.{AreOfTables, IsOfTable, lasts_then}
use Rattle.store_model.specs.Decoded.{last_in, schema_kept, state_in, states_kept, states_now}
use Rattle.store_model.specs.Laws.{AreRestored, RestoresKept}
use Rattle.store_model.specs.Steady.{AreLinesOf, HasRows, HaveRows}
use Rattle.store_model.proofs.CommitLemmas.{found, one_more, tables_of}
use Rattle.store_model.proofs.ShapeLemmas.{no_order, same_lines}

-- ---- one table

restored : (c d : TableChanges) → HasNone d c.first → (kept : LinesOf) → AreOf kept c → AreOf kept d
restored c d h kept was = record {
  rising = was.rising;
  given = subst (λ f. AllByRecursion (λ (x : ℕ × List ℕ). x.0 ≤ f) kept) (sym h.first) was.given;
  had = λ q. subst (λ (es : List (ℕ × Change)). IfSome (change_in es q) (λ k. body_at q kept ≡ Some k.0)) (sym h.changed) tt;
}

last_then : (c d : TableChanges) → HasNone d c.first → last_of d ≡ c.first
last_then c d h = ap (λ bodies. d.first + length bodies) h.added ∙ (let none : d.first + 0 ≡ c.first = omega (arith, h.first) in none)

-- ---- all tables

lasts_same : (tab : ℕ) (cs ds : List TableChanges) → AreRestored cs ds → lasts_then tab cs ≡ lasts_then tab ds
lasts_same tab [] [] h = refl
lasts_same tab [] (d ∷ ds) h = absurd h
lasts_same tab (c ∷ cs) [] h = absurd h
lasts_same tab (c ∷ cs) (d ∷ ds) h = ap₂ ◌∷◌ (ap (λ n. (tab, n)) (sym h.0.first)) (lasts_same (suc tab) cs ds h.1)

tables_are : (trees : Trees) (tab : ℕ) (ts : List TableShape) (cs ds : List TableChanges) → AreRestored cs ds → AreOfTables (contents_of trees) tab ts cs → HaveRows (contents_of trees) tab ts cs
    → AreOfTables (contents_of trees) tab ts ds × HaveRows (contents_of trees) tab ts ds
tables_are trees tab [] [] [] h was rows = (tt, tt)
tables_are trees tab [] [] (d ∷ ds) h was rows = absurd h
tables_are trees tab [] (c ∷ cs) ds h was rows = absurd was
tables_are trees tab (t ∷ ts) [] ds h was rows = absurd was
tables_are trees tab (t ∷ ts) (c ∷ cs) [] h was rows = absurd h
tables_are trees tab (t ∷ ts) (c ∷ cs) (d ∷ ds) h was rows =
    let rest = tables_are trees (suc tab) ts cs ds h.1 was.1 rows.1 in
    let one : IsOfTable (contents_of trees) tab t.columns d = record { ordered = no_order d h.0.changed; changes = restored c d h.0 (lines_in trees tab) was.0.changes; marks = was.0.marks } in
    let its : HasRows (contents_of trees) tab t.columns d = record { then = rows.0.then; now = subst (AreLinesOf t.columns) (sym (same_lines d c.first (lines_in trees tab) h.0)) rows.0.then } in
    ((one, rest.0), (its, rest.1))

states_are : (trees : Trees) (tab : ℕ) (ts : List TableShape) (cs ds : List TableChanges) (before : LastsOf) → AreRestored cs ds → AreOfTables (contents_of trees) tab ts cs
    → AllByRecursion (λ (n : ℕ × ℕ). n.0 < tab) before → lasts_in trees ≡ before ++ lasts_then tab cs → states_now trees tab ts ds ≡ states_kept trees tab ts
states_are trees tab [] [] [] before h was below lasts = refl
states_are trees tab [] [] (d ∷ ds) before h was below lasts = absurd h
states_are trees tab [] (c ∷ cs) ds before h was below lasts = absurd was
states_are trees tab (t ∷ ts) [] ds before h was below lasts = absurd was
states_are trees tab (t ∷ ts) (c ∷ cs) [] before h was below lasts = absurd h
states_are trees tab (t ∷ ts) (c ∷ cs) (d ∷ ds) before h was below lasts =
    let last : last_in (lasts_in trees) tab ≡ c.first = ap (λ ns. last_in ns tab) lasts ∙ ap (λ o. unwrap_or o 0) (found tab c.first before (lasts_then (suc tab) cs) below) in
    let rest : lasts_in trees ≡ (before ++ (tab, c.first) ∷ []) ++ lasts_then (suc tab) cs = lasts ∙ sym (append_assoc before ((tab, c.first) ∷ []) (lasts_then (suc tab) cs)) in
    ap₂ ◌∷◌ (ap₂ (λ xs n. state_in t.columns xs n) (same_lines d c.first (lines_in trees tab) h.0) (last_then c d h.0 ∙ sym last))
    (states_are trees (suc tab) ts cs ds (before ++ (tab, c.first) ∷ []) h.1 was.1 (one_more tab c.first before below) rest)

pub restores_kept : RestoresKept
restores_kept trees schema cs ds shaped h =
    let both = tables_are trees 0 schema.tables cs ds h shaped.changes shaped.rows in
    let kept : schema_kept trees ≡ Some schema = ap (λ o. option_map schema_in o) shaped.body ∙ ap (λ s. Some s) shaped.read in (
      record { lawful = shaped.lawful; body = shaped.body; read = shaped.read; lasts = shaped.lasts ∙ lasts_same 0 cs ds h; changes = both.0; rows = both.1 },
      ap (λ o. tables_of o (states_now trees 0 (shapes_of o) ds)) kept
          ∙ ap (λ ss. tables_of (Some schema) ss) (states_are trees 0 schema.tables cs ds [] h shaped.changes tt shaped.lasts)
          ∙ sym (ap (λ o. tables_of o (states_kept trees 0 (shapes_of o))) kept),
    )
