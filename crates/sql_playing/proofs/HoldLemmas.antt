-- What the tables hold after one statement.
use Rattle.std.proofs.Common.{◌≡◌, ◌==◌, ◌&&◌, inl, inr, ℕ, Bool, true, false, if◌then◌else◌, List, Option, refl, subst, sym}
use Rattle.std.proofs.lemmas.Bool.Decides.{Decides-eqb, not_from_Decides}
use Rattle.sqlite.specs.State.{State}
use Rattle.sqlite.specs.Tree.{Trees}
use Rattle.sql_meanings.specs.Body.{HasBody}
use Rattle.sql_meanings.specs.Lasts.{AreLasts, ChangesLasts, LastsOf}
use Rattle.sql_meanings.specs.Lines.{AreLines, ChangesLines, LinesOf}
use Rattle.sql_meanings.specs.Marks.{AreMarks, ChangesMarks, MarksOf}
use Rattle.sql_contents.specs.Contents.{Contents, Holds}
use Rattle.sql_playing.specs.Played.{IsAt}

-- ---- what stays where its tree stays

body_stays : (old new : Trees) (body : Option (List ℕ)) → new 0 ≡ old 0 → HasBody old body → HasBody new body
body_stays old new body same h = record { stored = rw same h.stored }

lasts_stay : (old new : Trees) (ns : LastsOf) → new 1 ≡ old 1 → AreLasts old ns → AreLasts new ns
lasts_stay old new ns same h = record { lasts = rw same h.lasts; order = h.order }

lines_stay : (old new : Trees) (tab : ℕ) (xs : LinesOf) → new 2 ≡ old 2 → AreLines old tab xs → AreLines new tab xs
lines_stay old new tab xs same h = record { lines = rw same h.lines; order = h.order }

marks_stay : (old new : Trees) (tab column : ℕ) (ms : MarksOf) → new 4 ≡ old 4 → AreMarks old tab column ms → AreMarks new tab column ms
marks_stay old new tab column ms same h = record { marks = rw same h.marks; order = h.order }

module _ (old new : State) (k : Contents) (holds : Holds old.now.trees k) where
  body_before : new.now.trees 0 ≡ old.now.trees 0 → HasBody new.now.trees k.body
  body_before same = body_stays old.now.trees new.now.trees k.body same holds.body

  lasts_before : new.now.trees 1 ≡ old.now.trees 1 → AreLasts new.now.trees k.lasts
  lasts_before same = lasts_stay old.now.trees new.now.trees k.lasts same holds.lasts

  lines_before : new.now.trees 2 ≡ old.now.trees 2 → (t : ℕ) → AreLines new.now.trees t (k.lines t)
  lines_before same t = lines_stay old.now.trees new.now.trees t (k.lines t) same (holds.lines t)

  marks_before : new.now.trees 4 ≡ old.now.trees 4 → (t c : ℕ) → AreMarks new.now.trees t c (k.marks t c)
  marks_before same t c = marks_stay old.now.trees new.now.trees t c (k.marks t c) same (holds.marks t c)

  -- ---- the lines of a table

  module _ (tab : ℕ) (Fits : LinesOf → Type 0) (go : LinesOf → LinesOf) (changed : LinesOf → ℕ) (count : ℕ) (w : ChangesLines old new tab Fits go changed count) (fits : Fits (k.lines tab)) where
    lines_at : (t : ℕ) (b : Bool) → (t == tab) ≡ b → AreLines new.now.trees t (if b then go (k.lines t) else k.lines t)
    lines_at t true e = (let same : t ≡ tab = (Decides-eqb t tab).0 e in subst (λ n. AreLines new.now.trees n (go (k.lines n))) (sym same) (w.here (k.lines tab) (holds.lines tab) fits))
    lines_at t false e = w.others t (not_from_Decides (t == tab) (Decides-eqb t tab) e) (k.lines t) (holds.lines t)

    pub after_lines : IsAt new (record { body = k.body; lasts = k.lasts; lines = λ t. if t == tab then go (k.lines t) else k.lines t; marks = k.marks })
    after_lines = record {
      goes_on = w.goes_on;
      holds = record { body = body_before w.shape; lasts = lasts_before w.tabs; lines = λ t. lines_at t (t == tab) refl; marks = marks_before w.marks };
    }

  -- ---- the marks of a column

  module _ (tab column : ℕ) (Fits : MarksOf → Type 0) (go : MarksOf → MarksOf) (changed : MarksOf → ℕ) (count : ℕ) (w : ChangesMarks old new tab column Fits go changed count) (fits : Fits (k.marks tab column)) where
    marks_at : (t c : ℕ) (a b : Bool) → (t == tab) ≡ a → (c == column) ≡ b → AreMarks new.now.trees t c (if a && b then go (k.marks t c) else k.marks t c)
    marks_at t c true true e f =
        let table : t ≡ tab = (Decides-eqb t tab).0 e in
        let place : c ≡ column = (Decides-eqb c column).0 f in
        subst (λ n. AreMarks new.now.trees n c (go (k.marks n c))) (sym table) (subst (λ n. AreMarks new.now.trees tab n (go (k.marks tab n))) (sym place) (w.here (k.marks tab column) (holds.marks tab column) fits))
    marks_at t c true false e f = w.others t c (inr (not_from_Decides (c == column) (Decides-eqb c column) f)) (k.marks t c) (holds.marks t c)
    marks_at t c false b e f = w.others t c (inl (not_from_Decides (t == tab) (Decides-eqb t tab) e)) (k.marks t c) (holds.marks t c)

    pub after_marks : IsAt new (record { body = k.body; lasts = k.lasts; lines = k.lines; marks = λ t c. if (t == tab) && (c == column) then go (k.marks t c) else k.marks t c })
    after_marks = record {
      goes_on = w.goes_on;
      holds = record { body = body_before w.shape; lasts = lasts_before w.tabs; lines = lines_before w.lines; marks = λ t c. marks_at t c (t == tab) (c == column) refl refl };
    }

  -- ---- the last numbers

  module _ (Fits : LastsOf → Type 0) (go : LastsOf → LastsOf) (changed : LastsOf → ℕ) (count : ℕ) (w : ChangesLasts old new Fits go changed count) (fits : Fits k.lasts) where
    pub after_lasts : IsAt new (record { body = k.body; lasts = go k.lasts; lines = k.lines; marks = k.marks })
    after_lasts = record {
      goes_on = w.goes_on;
      holds = record { body = body_before w.shape; lasts = w.here k.lasts holds.lasts fits; lines = lines_before w.lines; marks = marks_before w.marks };
    }
