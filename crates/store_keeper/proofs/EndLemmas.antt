-- Tables once a transaction has ended.
use Rattle.std.proofs.Common.{◌≡◌, ◌∙◌, ℕ, suc, true, false, List, [], ◌∷◌, length, map, ap, refl, sym}
use Rattle.std.specs.List.{AllByRecursion}
use Rattle.fx_core.specs.declared.schema.TableShape.{TableShape}
use Rattle.sqlite.specs.Tree.{Trees}
use Rattle.sql_contents.specs.Contents.{Contents, Holds, contents_of, lines_in}
use Rattle.sql_contents.proofs.ContentLemmas.{lines_are}
use Rattle.row_changes.specs.Moves.{HasNone}
use Rattle.row_changes.specs.Overlay.{last_of, overlay}
use Rattle.row_changes.specs.declared.table.TableChanges.{TableChanges}
use Rattle.row_plan.specs.Written.{AreWritten}
use Rattle.store_model.specs.Laws.{AreRestored, AreSettled, count_at_end}
use Rattle.store_model.specs.Steady.{AreCounted, IsUnchanged}
use Rattle.store_model.specs.declared.counts.RowCount.{RowCount}
use Rattle.store_model.proofs.ShapeLemmas.{same_lines}

-- ---- nothing has changed

none_itself : (d : TableChanges) (n : ℕ) → HasNone d n → IsUnchanged d
none_itself d n h = record { first = refl; changed = h.changed; added = h.added }

pub settled_unchanged : (cs ds : List TableChanges) → AreSettled cs ds → AllByRecursion IsUnchanged ds
settled_unchanged [] [] h = tt
settled_unchanged [] (d ∷ ds) h = absurd h
settled_unchanged (c ∷ cs) [] h = absurd h
settled_unchanged (c ∷ cs) (d ∷ ds) h = (none_itself d (last_of c) h.0, settled_unchanged cs ds h.1)

pub restored_unchanged : (cs ds : List TableChanges) → AreRestored cs ds → AllByRecursion IsUnchanged ds
restored_unchanged [] [] h = tt
restored_unchanged [] (d ∷ ds) h = absurd h
restored_unchanged (c ∷ cs) [] h = absurd h
restored_unchanged (c ∷ cs) (d ∷ ds) h = (none_itself d c.first h.0, restored_unchanged cs ds h.1)

pub restored_none : (cs ds : List TableChanges) → AreRestored cs ds → cs ≡ [] → ds ≡ []
restored_none [] [] h e = refl
restored_none [] (d ∷ ds) h e = absurd h
restored_none (c ∷ cs) ds h e = absurd cc

-- ---- the counts

pub counted_settled : (old new : Trees) (l : Contents) (tab : ℕ) (ts : List TableShape) (cs ds : List TableChanges) (ns : List RowCount) → Holds new l → AreWritten (contents_of old) l tab ts cs → AreSettled cs ds
    → AreCounted (contents_of old) tab cs ns → AreCounted (contents_of new) tab ds (map (count_at_end true) ns)
counted_settled old new l tab ts [] [] [] held w h was = tt
counted_settled old new l tab ts [] [] (n ∷ ns) held w h was = absurd was
counted_settled old new l tab ts [] (d ∷ ds) ns held w h was = absurd h
counted_settled old new l tab ts (c ∷ cs) [] ns held w h was = absurd h
counted_settled old new l tab ts (c ∷ cs) (d ∷ ds) [] held w h was = absurd was
counted_settled old new l tab [] (c ∷ cs) (d ∷ ds) (n ∷ ns) held w h was = absurd w
counted_settled old new l tab (t ∷ ts) (c ∷ cs) (d ∷ ds) (n ∷ ns) held w h was =
    let lines : lines_in new tab ≡ overlay c (lines_in old tab) = lines_are new tab (l.lines tab) (held.lines tab) ∙ w.0.lines in (
      record {
        now = was.0.now ∙ ap length (sym (same_lines d (last_of c) (lines_in new tab) h.0 ∙ lines));
        then = was.0.now ∙ ap length (sym lines);
      },
      counted_settled old new l (suc tab) ts cs ds ns held w.1 h.1 was.1,
    )

pub counted_restored : (k : Contents) (tab : ℕ) (cs ds : List TableChanges) (ns : List RowCount) → AreRestored cs ds → AreCounted k tab cs ns → AreCounted k tab ds (map (count_at_end false) ns)
counted_restored k tab [] [] [] h was = tt
counted_restored k tab [] [] (n ∷ ns) h was = absurd was
counted_restored k tab [] (d ∷ ds) ns h was = absurd h
counted_restored k tab (c ∷ cs) [] ns h was = absurd h
counted_restored k tab (c ∷ cs) (d ∷ ds) [] h was = absurd was
counted_restored k tab (c ∷ cs) (d ∷ ds) (n ∷ ns) h was = (
  record { now = was.0.then ∙ ap length (sym (same_lines d c.first (k.lines tab) h.0)); then = was.0.then },
  counted_restored k (suc tab) cs ds ns h.1 was.1,
)
