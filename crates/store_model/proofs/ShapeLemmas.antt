-- That a keeper stays steady once the changes of a transaction are written.
use Rattle.std.proofs.Common.{◌≡◌, ◌∙◌, ℕ, suc, List, [], ◌∷◌, ◌++◌, flat_map, None, ap, ap₂, append-nil, refl, subst, sym}
use Rattle.std.specs.Prelude.{option_map}
use Rattle.std.specs.List.Sorted.{IsStrictlySortedBy}
use Rattle.std.specs.Map.{keys_of}
use Rattle.std.specs.Ordering.{nat_cmp}
use Rattle.fx_core.specs.declared.schema.Column.{Column}
use Rattle.fx_core.specs.declared.schema.TableShape.{TableShape}
use Rattle.sqlite.specs.Tree.{Trees}
use Rattle.sql_meanings.specs.Lines.{LinesOf}
use Rattle.sql_contents.specs.Contents.{Contents, Holds, contents_of, lines_in, marks_in}
use Rattle.sql_contents.proofs.ContentLemmas.{body_is, lasts_are, lines_are, marks_are}
use Rattle.row_changes.specs.Moves.{HasNone}
use Rattle.row_changes.specs.Overlay.{AreOf, line_now, lines_from, last_of, made_of_kept, overlay}
use Rattle.row_changes.specs.declared.table.Change.{Change}
use Rattle.row_changes.specs.declared.table.TableChanges.{TableChanges}
use Rattle.row_changes.proofs.MoveLemmas.{change_in, settled}
use Rattle.row_plan.specs.Marked.{AreMarked}
use Rattle.row_plan.specs.Statements.{after}
use Rattle.row_plan.specs.Written.{AreOfTables, AreWritten, IsOfTable, IsWritten, all_statements, lasts_now, lasts_then}
use Rattle.row_plan.proofs.WrittenLemmas.{plans_write}
use Rattle.store_model.specs.Laws.{AreSettled, CommitsShaped}
use Rattle.store_model.specs.Steady.{AreLinesOf, HasRows, HaveRows}

-- ---- no change

no_change : (d : TableChanges) → d.changed.entries ≡ [] → (id : ℕ) → made_of_kept d id ≡ None
no_change d none id = ap (λ (es : List (ℕ × Change)). option_map (λ c. c.1) (change_in es id)) none

unchanged_lines : (d : TableChanges) → d.changed.entries ≡ [] → (xs : LinesOf) → flat_map (λ x. line_now (made_of_kept d x.0) x) xs ≡ xs
unchanged_lines d none [] = refl
unchanged_lines d none (x ∷ xs) = ap (λ o. line_now o x ++ flat_map (λ y. line_now (made_of_kept d y.0) y) xs) (no_change d none x.0) ∙ ap (λ l. x ∷ l) (unchanged_lines d none xs)

pub same_lines : (d : TableChanges) (last : ℕ) (xs : LinesOf) → HasNone d last → overlay d xs ≡ xs
same_lines d last xs h =
    ap (λ bodies. flat_map (λ x. line_now (made_of_kept d x.0) x) xs ++ lines_from (suc d.first) bodies) h.added
    ∙ append-nil (flat_map (λ x. line_now (made_of_kept d x.0) x) xs) ∙ unchanged_lines d h.changed xs

pub no_order : (d : TableChanges) → d.changed.entries ≡ [] → IsStrictlySortedBy nat_cmp (keys_of d.changed.entries)
unfolding IsStrictlySortedBy
no_order d none = subst (λ (es : List (ℕ × Change)). IsStrictlySortedBy nat_cmp (keys_of es)) (sym none) tt

same_lasts : (tab : ℕ) (cs ds : List TableChanges) → AreSettled cs ds → lasts_now tab cs ≡ lasts_then tab ds
same_lasts tab [] [] h = refl
same_lasts tab [] (d ∷ ds) h = absurd h
same_lasts tab (c ∷ cs) [] h = absurd h
same_lasts tab (c ∷ cs) (d ∷ ds) h = ap₂ ◌∷◌ (ap (λ n. (tab, n)) (sym h.0.first)) (same_lasts (suc tab) cs ds h.1)

-- ---- one table

module _ (old new : Trees) (l : Contents) (held : Holds new l) (tab : ℕ) (columns : List Column) (c d : TableChanges) (w : IsWritten (contents_of old) l tab columns c) (h : HasNone d (last_of c)) where
  lines_now : lines_in new tab ≡ overlay c (lines_in old tab)
  lines_now = lines_are new tab (l.lines tab) (held.lines tab) ∙ w.lines

  pub table_is : IsOfTable (contents_of old) tab columns c → IsOfTable (contents_of new) tab columns d
  table_is was = record {
    ordered = no_order d h.changed;
    changes = subst (λ xs. AreOf xs d) (sym lines_now) (settled c d h.first h.changed (lines_in old tab) was.changes);
    marks = λ place m.
        subst (λ xs. AreMarked (suc place) xs (marks_in new tab (suc place))) (sym (lines_are new tab (l.lines tab) (held.lines tab)))
        (subst (AreMarked (suc place) (l.lines tab)) (sym (marks_are new tab (suc place) (l.marks tab (suc place)) (held.marks tab (suc place)))) (w.marks place m));
  }

  rows_then : HasRows (contents_of old) tab columns c → AreLinesOf columns (lines_in new tab)
  rows_then was = subst (AreLinesOf columns) (sym lines_now) was.now

  pub rows_are : HasRows (contents_of old) tab columns c → HasRows (contents_of new) tab columns d
  rows_are was = record {
    then = rows_then was;
    now = subst (AreLinesOf columns) (sym (same_lines d (last_of c) (lines_in new tab) h)) (rows_then was);
  }

-- ---- all tables

tables_are : (old new : Trees) (l : Contents) (tab : ℕ) (ts : List TableShape) (cs ds : List TableChanges) → Holds new l → AreWritten (contents_of old) l tab ts cs → AreSettled cs ds
    → AreOfTables (contents_of old) tab ts cs → HaveRows (contents_of old) tab ts cs → AreOfTables (contents_of new) tab ts ds × HaveRows (contents_of new) tab ts ds
tables_are old new l tab [] [] [] held w h was rows = (tt, tt)
tables_are old new l tab [] [] (d ∷ ds) held w h was rows = absurd h
tables_are old new l tab [] (c ∷ cs) ds held w h was rows = absurd w
tables_are old new l tab (t ∷ ts) [] ds held w h was rows = absurd w
tables_are old new l tab (t ∷ ts) (c ∷ cs) [] held w h was rows = absurd h
tables_are old new l tab (t ∷ ts) (c ∷ cs) (d ∷ ds) held w h was rows =
    let rest = tables_are old new l (suc tab) ts cs ds held w.1 h.1 was.1 rows.1 in
    ((table_is old new l held tab t.columns c d w.0 h.0 was.0, rest.0), (rows_are old new l held tab t.columns c d w.0 h.0 rows.0, rest.1))

pub commits_shaped : CommitsShaped
commits_shaped old new schema cs ds shaped held h =
    let l = after (all_statements 0 schema.tables cs) (contents_of old) in
    let writes = (plans_write (contents_of old) schema.tables cs shaped.changes shaped.lasts).1 in
    let both = tables_are old new l 0 schema.tables cs ds held writes.tables h shaped.changes shaped.rows in
    record {
      lawful = shaped.lawful;
      body = body_is new l.body held.body ∙ writes.body ∙ shaped.body;
      read = shaped.read;
      lasts = lasts_are new l.lasts held.lasts ∙ writes.lasts ∙ same_lasts 0 cs ds h;
      changes = both.0;
      rows = both.1;
    }
