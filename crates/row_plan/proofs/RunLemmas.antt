-- Statements one after another, by the lines of each table and the marks of each column.
use Rattle.std.proofs.Common.{◌≡◌, ◌≢◌, ◌∙◌, ℕ, ◌==◌, ◌&&◌, Bool, true, false, List, [], ◌∷◌, ◌++◌, ap, refl, subst, sym, arith}
use Rattle.std.specs.Prelude.{⊤}
use Rattle.std.specs.List.{AllByRecursion}
use Rattle.std.proofs.lemmas.Bool.Decides.{nat_tests}
use Rattle.sql_meanings.specs.Lasts.{LastsOf}
use Rattle.sql_meanings.specs.Lines.{AreBelow, LinesOf}
use Rattle.sql_meanings.specs.Marks.{IsUnmarked, MarksOf}
use Rattle.sql_contents.specs.Contents.{Contents}
use Rattle.row_plan.specs.Statements.{CanRun, CanRunAll, Statement, after, contents_after, insert_line, insert_mark, lasts_after, lines_after, marks_after, remove_line, remove_mark, replace_last, replace_line}

-- ---- by parts

abbrev pub lines_run : List Statement → ℕ → LinesOf → LinesOf
lines_run [] t xs = xs
lines_run (s ∷ ss) t xs = lines_run ss t (lines_after s t xs)

abbrev pub marks_run : List Statement → ℕ → ℕ → MarksOf → MarksOf
marks_run [] t c ms = ms
marks_run (s ∷ ss) t c ms = marks_run ss t c (marks_after s t c ms)

abbrev pub lasts_run : List Statement → LastsOf → LastsOf
lasts_run [] ns = ns
lasts_run (s ∷ ss) ns = lasts_run ss (lasts_after s ns)

pub lines_of_run : (ss : List Statement) (k : Contents) (t : ℕ) → (after ss k).lines t ≡ lines_run ss t (k.lines t)
lines_of_run [] k t = refl
lines_of_run (s ∷ ss) k t = lines_of_run ss (contents_after s k) t

pub marks_of_run : (ss : List Statement) (k : Contents) (t c : ℕ) → (after ss k).marks t c ≡ marks_run ss t c (k.marks t c)
marks_of_run [] k t c = refl
marks_of_run (s ∷ ss) k t c = marks_of_run ss (contents_after s k) t c

pub lasts_of_run : (ss : List Statement) (k : Contents) → (after ss k).lasts ≡ lasts_run ss k.lasts
lasts_of_run [] k = refl
lasts_of_run (s ∷ ss) k = lasts_of_run ss (contents_after s k)

pub body_of_run : (ss : List Statement) (k : Contents) → (after ss k).body ≡ k.body
body_of_run [] k = refl
body_of_run (s ∷ ss) k = body_of_run ss (contents_after s k)

-- where a statement has its meaning, by its part
abbrev pub lines_can : Statement → ℕ → LinesOf → Type 0
lines_can (insert_line tab id body) t xs = t ≡ tab → AreBelow id xs
lines_can (replace_line tab id body) t xs = ⊤
lines_can (remove_line tab id) t xs = ⊤
lines_can (insert_mark tab column key id) t xs = ⊤
lines_can (remove_mark tab column key id) t xs = ⊤
lines_can (replace_last tab last) t xs = ⊤

abbrev pub marks_can : Statement → ℕ → ℕ → MarksOf → Type 0
marks_can (insert_mark tab column key id) t c ms = t ≡ tab → c ≡ column → IsUnmarked id ms
marks_can (insert_line tab id body) t c ms = ⊤
marks_can (replace_line tab id body) t c ms = ⊤
marks_can (remove_line tab id) t c ms = ⊤
marks_can (remove_mark tab column key id) t c ms = ⊤
marks_can (replace_last tab last) t c ms = ⊤

abbrev pub LinesCan : List Statement → ℕ → LinesOf → Type 0
LinesCan [] t xs = ⊤
LinesCan (s ∷ ss) t xs = lines_can s t xs × LinesCan ss t (lines_after s t xs)

abbrev pub MarksCan : List Statement → ℕ → ℕ → MarksOf → Type 0
MarksCan [] t c ms = ⊤
MarksCan (s ∷ ss) t c ms = marks_can s t c ms × MarksCan ss t c (marks_after s t c ms)

one_can : (s : Statement) (k : Contents) → ((t : ℕ) → lines_can s t (k.lines t)) → ((t c : ℕ) → marks_can s t c (k.marks t c)) → CanRun s k
one_can (insert_line tab id body) k l m = l tab refl
one_can (insert_mark tab column key id) k l m = m tab column refl refl
one_can (replace_line tab id body) k l m = tt
one_can (remove_line tab id) k l m = tt
one_can (remove_mark tab column key id) k l m = tt
one_can (replace_last tab last) k l m = tt

pub can_all : (ss : List Statement) (k : Contents) → ((t : ℕ) → LinesCan ss t (k.lines t)) → ((t c : ℕ) → MarksCan ss t c (k.marks t c)) → CanRunAll ss k
can_all [] k l m = tt
can_all (s ∷ ss) k l m = (one_can s k (λ t. (l t).0) (λ t c. (m t c).0), can_all ss (contents_after s k) (λ t. (l t).1) (λ t c. (m t c).1))

-- ---- one behind another

pub lines_run-append : (ss rs : List Statement) (t : ℕ) (xs : LinesOf) → lines_run (ss ++ rs) t xs ≡ lines_run rs t (lines_run ss t xs)
lines_run-append [] rs t xs = refl
lines_run-append (s ∷ ss) rs t xs = lines_run-append ss rs t (lines_after s t xs)

pub marks_run-append : (ss rs : List Statement) (t c : ℕ) (ms : MarksOf) → marks_run (ss ++ rs) t c ms ≡ marks_run rs t c (marks_run ss t c ms)
marks_run-append [] rs t c ms = refl
marks_run-append (s ∷ ss) rs t c ms = marks_run-append ss rs t c (marks_after s t c ms)

pub LinesCan-append : (ss rs : List Statement) (t : ℕ) (xs : LinesOf) → LinesCan ss t xs → LinesCan rs t (lines_run ss t xs) → LinesCan (ss ++ rs) t xs
LinesCan-append [] rs t xs h g = g
LinesCan-append (s ∷ ss) rs t xs h g = (h.0, LinesCan-append ss rs t (lines_after s t xs) h.1 g)

pub MarksCan-append : (ss rs : List Statement) (t c : ℕ) (ms : MarksOf) → MarksCan ss t c ms → MarksCan rs t c (marks_run ss t c ms) → MarksCan (ss ++ rs) t c ms
MarksCan-append [] rs t c ms h g = g
MarksCan-append (s ∷ ss) rs t c ms h g = (h.0, MarksCan-append ss rs t c (marks_after s t c ms) h.1 g)

-- ---- statements of other parts

-- a statement changes no line of this table, and puts none there
abbrev pub SparesLines : ℕ → Statement → Type 0
SparesLines t s = (xs : LinesOf) → (lines_after s t xs ≡ xs) × lines_can s t xs

abbrev pub SparesMarks : ℕ → ℕ → Statement → Type 0
SparesMarks t c s = (ms : MarksOf) → (marks_after s t c ms ≡ ms) × marks_can s t c ms

pub spared_lines : (ss : List Statement) (t : ℕ) (xs : LinesOf) → AllByRecursion (SparesLines t) ss → (lines_run ss t xs ≡ xs) × LinesCan ss t xs
spared_lines [] t xs h = (refl, tt)
spared_lines (s ∷ ss) t xs h =
    let one = h.0 xs in
    let more = spared_lines ss t xs h.1 in
    (ap (λ l. lines_run ss t l) one.0 ∙ more.0, (one.1, subst (LinesCan ss t) (sym one.0) more.1))

pub spared_marks : (ss : List Statement) (t c : ℕ) (ms : MarksOf) → AllByRecursion (SparesMarks t c) ss → (marks_run ss t c ms ≡ ms) × MarksCan ss t c ms
spared_marks [] t c ms h = (refl, tt)
spared_marks (s ∷ ss) t c ms h =
    let one = h.0 ms in
    let more = spared_marks ss t c ms h.1 in
    (ap (λ l. marks_run ss t c l) one.0 ∙ more.0, (one.1, subst (MarksCan ss t c) (sym one.0) more.1))

abbrev pub SparesLasts : Statement → Type 0
SparesLasts s = (ns : LastsOf) → lasts_after s ns ≡ ns

pub spared_lasts : (ss : List Statement) (ns : LastsOf) → AllByRecursion SparesLasts ss → lasts_run ss ns ≡ ns
spared_lasts [] ns h = refl
spared_lasts (s ∷ ss) ns h = ap (λ l. lasts_run ss l) (h.0 ns) ∙ spared_lasts ss ns h.1

pub lasts_run-append : (ss rs : List Statement) (ns : LastsOf) → lasts_run (ss ++ rs) ns ≡ lasts_run rs (lasts_run ss ns)
lasts_run-append [] rs ns = refl
lasts_run-append (s ∷ ss) rs ns = lasts_run-append ss rs (lasts_after s ns)

-- ---- tests of places

pub itself : (n : ℕ) → (n == n) ≡ true
itself n = grind (arith, nat_tests)

pub apart : (a b : ℕ) → a ≢ b → (a == b) ≡ false
apart a b n = grind (arith, nat_tests)

pub and_no : (b : Bool) → (b && false) ≡ false
and_no true = refl
and_no false = refl
