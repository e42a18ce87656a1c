-- What is kept once the changes of a transaction are written.
use Rattle.std.proofs.Common.{◌≡◌, ◌∙◌, ℕ, suc, ◌<◌, ◌==◌, cond, List, [], ◌∷◌, ◌++◌, Option, Some, ap, ap₂, append_assoc, arith, refl, sym}
use Rattle.std.specs.Prelude.{option_map, unwrap_or}
use Rattle.std.specs.List.{AllByRecursion}
use Rattle.std.specs.Map.{lookup}
use Rattle.fx_core.specs.declared.schema.Schema.{Schema}
use Rattle.fx_core.specs.declared.schema.TableShape.{TableShape}
use Rattle.sqlite.specs.Tree.{Trees}
use Rattle.sqlite_keyed.proofs.ListLemmas.{all-append, all_weaker}
use Rattle.sql_meanings.specs.Lasts.{LastsOf}
use Rattle.sql_contents.specs.Contents.{Contents, Holds, contents_of, lasts_in, lines_in}
use Rattle.sql_contents.proofs.ContentLemmas.{body_is, lasts_are, lines_are}
use Rattle.row_keeper.specs.Tables.{TableState, Tables, shapes_of}
use Rattle.row_lines.specs.FromBytes.{schema_in}
use Rattle.row_changes.specs.Overlay.{last_of, overlay}
use Rattle.row_changes.specs.declared.table.TableChanges.{TableChanges}
use Rattle.row_plan.specs.Statements.{CanRunAll, after}
use Rattle.row_plan.specs.Written.{AreWritten, Writes, all_statements, lasts_now}
use Rattle.row_plan.proofs.RunLemmas.{apart, itself}
use Rattle.row_plan.proofs.WrittenLemmas.{plans_write}
use Rattle.store_model.specs.Decoded.{last_in, schema_kept, state_in, states_kept, states_now, tables_changed, tables_kept}
use Rattle.store_model.specs.Laws.{CommitsTold}

-- the last number of a table, behind those of the tables before it
pub found : (tab last : ℕ) (before rest : LastsOf) → AllByRecursion (λ (n : ℕ × ℕ). n.0 < tab) before → lookup (λ n. n == tab) (before ++ (tab, last) ∷ rest) ≡ Some last
found tab last [] rest h = ap (λ b. cond b (Some last) (lookup (λ n. n == tab) rest)) (itself tab)
found tab last (n ∷ ns) rest h =
    ap (λ b. cond b (Some n.1) (lookup (λ k. k == tab) (ns ++ (tab, last) ∷ rest))) (apart n.0 tab (λ e. omega (arith, h.0, e)))
    ∙ found tab last ns rest h.1

pub one_more : (tab last : ℕ) (before : LastsOf) → AllByRecursion (λ (n : ℕ × ℕ). n.0 < tab) before → AllByRecursion (λ (n : ℕ × ℕ). n.0 < suc tab) (before ++ (tab, last) ∷ [])
one_more tab last before h =
    all-append (λ (n : ℕ × ℕ). n.0 < suc tab) before ((tab, last) ∷ [])
    (all_weaker (λ (n : ℕ × ℕ). n.0 < tab) (λ (n : ℕ × ℕ). n.0 < suc tab) (λ n m. omega (arith, m)) before h) (omega arith, tt)

-- from one table on, with the last numbers of those before it
states_same : (old new : Trees) (l : Contents) (tab : ℕ) (ts : List TableShape) (cs : List TableChanges) (before : LastsOf) → Holds new l → AreWritten (contents_of old) l tab ts cs
    → AllByRecursion (λ (n : ℕ × ℕ). n.0 < tab) before → lasts_in new ≡ before ++ lasts_now tab cs → states_kept new tab ts ≡ states_now old tab ts cs
states_same old new l tab [] [] before held w below lasts = refl
states_same old new l tab [] (c ∷ cs) before held w below lasts = absurd w
states_same old new l tab (t ∷ ts) [] before held w below lasts = absurd w
states_same old new l tab (t ∷ ts) (c ∷ cs) before held w below lasts =
    let lines : lines_in new tab ≡ overlay c (lines_in old tab) = lines_are new tab (l.lines tab) (held.lines tab) ∙ w.0.lines in
    let last : last_in (lasts_in new) tab ≡ last_of c = ap (λ ns. last_in ns tab) lasts ∙ ap (λ o. unwrap_or o 0) (found tab (last_of c) before (lasts_now (suc tab) cs) below) in
    let rest : lasts_in new ≡ (before ++ (tab, last_of c) ∷ []) ++ lasts_now (suc tab) cs = lasts ∙ sym (append_assoc before ((tab, last_of c) ∷ []) (lasts_now (suc tab) cs)) in
    ap₂ ◌∷◌ (ap₂ (λ xs n. state_in t.columns xs n) lines last)
    (states_same old new l (suc tab) ts cs (before ++ (tab, last_of c) ∷ []) held w.1 (one_more tab (last_of c) before below) rest)

abbrev pub tables_of : Option Schema → List TableState → Tables
tables_of kept states = record { kept = kept; states = states }

pub commits_told : CommitsTold
commits_told old schema cs shaped = (writes.0, kept)
  where
    writes : CanRunAll (all_statements 0 schema.tables cs) (contents_of old) × Writes (contents_of old) (after (all_statements 0 schema.tables cs) (contents_of old)) schema.tables cs
    writes = plans_write (contents_of old) schema.tables cs shaped.changes shaped.lasts

    kept_old : schema_kept old ≡ Some schema
    kept_old = ap (λ o. option_map schema_in o) shaped.body ∙ ap (λ s. Some s) shaped.read

    kept : (new : Trees) → Holds new (after (all_statements 0 schema.tables cs) (contents_of old)) → tables_kept new ≡ tables_changed old cs
    kept new held =
        let l = after (all_statements 0 schema.tables cs) (contents_of old) in
        let kept_new : schema_kept new ≡ Some schema = ap (λ o. option_map schema_in o) (body_is new l.body held.body ∙ writes.1.body) ∙ kept_old in
        let lasts : lasts_in new ≡ [] ++ lasts_now 0 cs = lasts_are new l.lasts held.lasts ∙ writes.1.lasts in
        ap (λ o. tables_of o (states_kept new 0 (shapes_of o))) kept_new
        ∙ ap (λ ss. tables_of (Some schema) ss) (states_same old new l 0 schema.tables cs [] held writes.1.tables tt lasts)
        ∙ sym (ap (λ o. tables_of o (states_now old 0 (shapes_of o) cs)) kept_old)
