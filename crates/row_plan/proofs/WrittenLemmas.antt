-- The statements of all tables.
use Rattle.std.proofs.Common.{◌≡◌, ◌≢◌, ◌∙◌, ℕ, zero, suc, ◌+◌, ◌<◌, ◌≤◌, ◌==◌, Bool, true, false, cond, List, [], ◌∷◌, ◌++◌, length, Option, ap, ap₂, append_assoc, arith, refl, subst, sym}
use Rattle.std.specs.List.{AllByRecursion}
use Rattle.std.specs.Prelude.{Vec}
use Rattle.std.specs.declared.alloc.Global.{Global}
use Rattle.std.proofs.lemmas.Bool.{eqb-true}
use Rattle.std.proofs.lemmas.Bool.Decides.{nat_tests}
use Rattle.std.proofs.lemmas.List.{map-append}
use Rattle.fx_core.specs.declared.schema.Column.{Column}
use Rattle.fx_core.specs.declared.schema.TableShape.{TableShape}
use Rattle.sqlite_keyed.proofs.ListLemmas.{all-append, all_weaker}
use Rattle.sql_meanings.specs.Lasts.{LastsOf, with_last}
use Rattle.sql_contents.specs.Contents.{Contents}
use Rattle.row_changes.specs.Overlay.{last_of, overlay}
use Rattle.row_changes.specs.declared.table.TableChanges.{TableChanges}
use Rattle.row_plan.specs.Marked.{AreMarked, marked_at, marked_in}
use Rattle.row_plan.specs.Plan.{last_statements, table_statements}
use Rattle.row_plan.specs.Statements.{CanRunAll, Statement, after, replace_last}
use Rattle.row_plan.specs.Written.{AreOfTables, AreWritten, IsOfTable, IsWritten, Writes, all_statements, lasts_now, lasts_then}
use Rattle.row_plan.proofs.RunLemmas.{LinesCan, LinesCan-append, MarksCan, MarksCan-append, SparesLines, SparesMarks, apart, body_of_run, can_all, itself, lasts_of_run, lasts_run, lasts_run-append, lines_of_run, lines_run, lines_run-append, marks_of_run, marks_run, marks_run-append, spared_lines, spared_marks}
use Rattle.row_plan.proofs.TableLemmas.{table_lasts, table_lines, table_marks, table_spares_column, table_spares_lines, table_spares_marks}

-- tables from one on leave those before it alone
all_spare_lines : (t tab : ℕ) (ts : List TableShape) (cs : List TableChanges) → t < tab → AllByRecursion (SparesLines t) (all_statements tab ts cs)
all_spare_lines t tab [] cs l = tt
all_spare_lines t tab (s ∷ ts) [] l = tt
all_spare_lines t tab (s ∷ ts) (c ∷ cs) l =
    all-append (SparesLines t) (table_statements tab s.columns c) (all_statements (suc tab) ts cs)
    (table_spares_lines tab s.columns t (λ e. omega (arith, l, e)) c) (all_spare_lines t (suc tab) ts cs (omega (arith, l)))

all_spare_marks : (t column tab : ℕ) (ts : List TableShape) (cs : List TableChanges) → t < tab → AllByRecursion (SparesMarks t column) (all_statements tab ts cs)
all_spare_marks t column tab [] cs l = tt
all_spare_marks t column tab (s ∷ ts) [] l = tt
all_spare_marks t column tab (s ∷ ts) (c ∷ cs) l =
    all-append (SparesMarks t column) (table_statements tab s.columns c) (all_statements (suc tab) ts cs)
    (table_spares_marks tab s.columns t column (λ e. omega (arith, l, e)) c) (all_spare_marks t column (suc tab) ts cs (omega (arith, l)))

-- and tables before one leave it alone
all_spare_later : (t tab : ℕ) (ts : List TableShape) (cs : List TableChanges) → tab + length ts ≤ t → AllByRecursion (SparesLines t) (all_statements tab ts cs)
all_spare_later t tab [] cs l = tt
all_spare_later t tab (s ∷ ts) [] l = tt
all_spare_later t tab (s ∷ ts) (c ∷ cs) l =
    all-append (SparesLines t) (table_statements tab s.columns c) (all_statements (suc tab) ts cs)
    (table_spares_lines tab s.columns t (λ e. omega (arith, l, e)) c) (all_spare_later t (suc tab) ts cs (omega (arith, l)))

-- ---- where they have their meaning

can_lines : (k : Contents) (t tab : ℕ) (ts : List TableShape) (cs : List TableChanges) → AreOfTables k tab ts cs → LinesCan (all_statements tab ts cs) t (k.lines t)
can_lines k t tab [] cs h = tt
can_lines k t tab (s ∷ ts) [] h = tt
can_lines k t tab (s ∷ ts) (c ∷ cs) h = by (tab == t) refl (can_lines k t (suc tab) ts cs h.1)
  where
    by : (b : Bool) → (tab == t) ≡ b → LinesCan (all_statements (suc tab) ts cs) t (k.lines t) → LinesCan (table_statements tab s.columns c ++ all_statements (suc tab) ts cs) t (k.lines t)
    by true e more =
        let one = table_lines tab s.columns c (k.lines tab) h.0.ordered h.0.changes in
        subst (λ n. LinesCan (table_statements tab s.columns c ++ all_statements (suc tab) ts cs) n (k.lines n)) (eqb-true tab t e)
        (LinesCan-append (table_statements tab s.columns c) (all_statements (suc tab) ts cs) tab (k.lines tab) one.1
        (spared_lines (all_statements (suc tab) ts cs) tab (lines_run (table_statements tab s.columns c) tab (k.lines tab)) (all_spare_lines tab (suc tab) ts cs (omega arith))).1)
    by false e more =
        let n : t ≢ tab = grind (arith, nat_tests) in
        let one = spared_lines (table_statements tab s.columns c) t (k.lines t) (table_spares_lines tab s.columns t n c) in
        LinesCan-append (table_statements tab s.columns c) (all_statements (suc tab) ts cs) t (k.lines t) one.1 (subst (LinesCan (all_statements (suc tab) ts cs) t) (sym one.0) more)

-- the marks of a column of the table itself, marked or not
column_can : (k : Contents) (tab column : ℕ) (columns : List Column) (c : TableChanges) → IsOfTable k tab columns c → MarksCan (table_statements tab columns c) tab column (k.marks tab column)
column_can k tab column columns c h = by column (marked_in columns column) refl
  where
    by : (n : ℕ) (b : Bool) → marked_in columns n ≡ b → MarksCan (table_statements tab columns c) tab n (k.marks tab n)
    by zero b m = (spared_marks (table_statements tab columns c) tab zero (k.marks tab zero) (table_spares_column tab columns zero refl c)).1
    by (suc place) true m = (table_marks tab columns (suc place) place refl m c (k.lines tab) (k.marks tab (suc place)) h.ordered h.changes (h.marks place m)).1
    by (suc place) false m = (spared_marks (table_statements tab columns c) tab (suc place) (k.marks tab (suc place)) (table_spares_column tab columns (suc place) m c)).1

can_marks : (k : Contents) (t column tab : ℕ) (ts : List TableShape) (cs : List TableChanges) → AreOfTables k tab ts cs → MarksCan (all_statements tab ts cs) t column (k.marks t column)
can_marks k t column tab [] cs h = tt
can_marks k t column tab (s ∷ ts) [] h = tt
can_marks k t column tab (s ∷ ts) (c ∷ cs) h = by (tab == t) refl (can_marks k t column (suc tab) ts cs h.1)
  where
    by : (b : Bool) → (tab == t) ≡ b → MarksCan (all_statements (suc tab) ts cs) t column (k.marks t column) → MarksCan (table_statements tab s.columns c ++ all_statements (suc tab) ts cs) t column (k.marks t column)
    by true e more =
        subst (λ n. MarksCan (table_statements tab s.columns c ++ all_statements (suc tab) ts cs) n column (k.marks n column)) (eqb-true tab t e)
        (MarksCan-append (table_statements tab s.columns c) (all_statements (suc tab) ts cs) tab column (k.marks tab column) (column_can k tab column s.columns c h.0)
        (spared_marks (all_statements (suc tab) ts cs) tab column (marks_run (table_statements tab s.columns c) tab column (k.marks tab column)) (all_spare_marks tab column (suc tab) ts cs (omega arith))).1)
    by false e more =
        let n : t ≢ tab = grind (arith, nat_tests) in
        let one = spared_marks (table_statements tab s.columns c) t column (k.marks t column) (table_spares_marks tab s.columns t column n c) in
        MarksCan-append (table_statements tab s.columns c) (all_statements (suc tab) ts cs) t column (k.marks t column) one.1 (subst (MarksCan (all_statements (suc tab) ts cs) t column) (sym one.0) more)

pub all_can : (k : Contents) (ts : List TableShape) (cs : List TableChanges) → AreOfTables k 0 ts cs → CanRunAll (all_statements 0 ts cs) k
all_can k ts cs h = can_all (all_statements 0 ts cs) k (λ t. can_lines k t 0 ts cs h) (λ t column. can_marks k t column 0 ts cs h)

-- ---- what they make of each table

-- behind statements that leave the tables from this one on alone
written : (k : Contents) (before : List Statement) (tab : ℕ) (ts : List TableShape) (cs : List TableChanges) → ((t : ℕ) → tab ≤ t → AllByRecursion (SparesLines t) before) → ((t column : ℕ) → tab ≤ t → AllByRecursion (SparesMarks t column) before)
    → AreOfTables k tab ts cs → (all : List Statement) → all ≡ before ++ all_statements tab ts cs → AreWritten k (after all k) tab ts cs
written k before tab [] [] spare spare_marks h all e = tt
written k before tab [] (c ∷ cs) spare spare_marks h all e = absurd h
written k before tab (s ∷ ts) [] spare spare_marks h all e = absurd h
written k before tab (s ∷ ts) (c ∷ cs) spare spare_marks h all e =
    let ss = table_statements tab s.columns c in
    let rs = all_statements (suc tab) ts cs in
    let next : all ≡ (before ++ ss) ++ rs = e ∙ sym (append_assoc before ss rs) in (
      here,
      written k (before ++ ss) (suc tab) ts cs
          (λ t l. all-append (SparesLines t) before ss (spare t (omega (arith, l))) (table_spares_lines tab s.columns t (λ f. omega (arith, l, f)) c))
          (λ t column l. all-append (SparesMarks t column) before ss (spare_marks t column (omega (arith, l))) (table_spares_marks tab s.columns t column (λ f. omega (arith, l, f)) c))
          h.1 all next,
    )
  where
    lines_here : (after all k).lines tab ≡ overlay c (k.lines tab)
    lines_here =
        let ss = table_statements tab s.columns c in
        let rs = all_statements (suc tab) ts cs in
        lines_of_run all k tab ∙ ap (λ l. lines_run l tab (k.lines tab)) e ∙ lines_run-append before (ss ++ rs) tab (k.lines tab)
        ∙ ap (λ l. lines_run (ss ++ rs) tab l) (spared_lines before tab (k.lines tab) (spare tab (omega arith))).0
        ∙ lines_run-append ss rs tab (k.lines tab) ∙ ap (λ l. lines_run rs tab l) (table_lines tab s.columns c (k.lines tab) h.0.ordered h.0.changes).0
        ∙ (spared_lines rs tab (overlay c (k.lines tab)) (all_spare_lines tab (suc tab) ts cs (omega arith))).0

    marks_here : (place : ℕ) → marked_at s.columns place ≡ true → (after all k).marks tab (suc place) ≡ marks_run (table_statements tab s.columns c) tab (suc place) (k.marks tab (suc place))
    marks_here place m =
        let ss = table_statements tab s.columns c in
        let rs = all_statements (suc tab) ts cs in
        let ms = k.marks tab (suc place) in
        marks_of_run all k tab (suc place) ∙ ap (λ l. marks_run l tab (suc place) ms) e ∙ marks_run-append before (ss ++ rs) tab (suc place) ms
        ∙ ap (λ l. marks_run (ss ++ rs) tab (suc place) l) (spared_marks before tab (suc place) ms (spare_marks tab (suc place) (omega arith))).0
        ∙ marks_run-append ss rs tab (suc place) ms
        ∙ (spared_marks rs tab (suc place) (marks_run ss tab (suc place) ms) (all_spare_marks tab (suc place) (suc tab) ts cs (omega arith))).0

    here : IsWritten k (after all k) tab s.columns c
    here = record {
      lines = lines_here;
      marks = λ place m.
          subst (λ xs. AreMarked (suc place) xs ((after all k).marks tab (suc place))) (sym lines_here)
          (subst (AreMarked (suc place) (overlay c (k.lines tab))) (sym (marks_here place m))
          (table_marks tab s.columns (suc place) place refl m c (k.lines tab) (k.marks tab (suc place)) h.0.ordered h.0.changes (h.0.marks place m)).0);
    }

-- ---- the last numbers

-- numbers of tables from this one on
lasts_above : (t tab : ℕ) (cs : List TableChanges) → t < tab → AllByRecursion (λ (n : ℕ × ℕ). n.0 ≢ t) (lasts_then tab cs)
lasts_above t tab [] l = tt
lasts_above t tab (c ∷ cs) l = ((λ e. omega (arith, l, e)), lasts_above t (suc tab) cs (omega (arith, l)))

stays : (tab last : ℕ) (ns : LastsOf) → AllByRecursion (λ (n : ℕ × ℕ). n.0 ≢ tab) ns → with_last tab last ns ≡ ns
stays tab last [] h = refl
stays tab last (n ∷ ns) h = ap₂ ◌∷◌ (ap (λ b. cond b (n.0, last) n) (apart n.0 tab h.0)) (stays tab last ns h.1)

below_apart : (tab : ℕ) (ns : LastsOf) → AllByRecursion (λ (n : ℕ × ℕ). n.0 < tab) ns → AllByRecursion (λ (n : ℕ × ℕ). n.0 ≢ tab) ns
below_apart tab ns h = all_weaker (λ (n : ℕ × ℕ). n.0 < tab) (λ (n : ℕ × ℕ). n.0 ≢ tab) (λ n l e. omega (arith, l, e)) ns h

one_last : (tab : ℕ) (before : LastsOf) (c : TableChanges) (cs : List TableChanges) → AllByRecursion (λ (n : ℕ × ℕ). n.0 < tab) before
    → lasts_run (last_statements tab c) (before ++ (tab, c.first) ∷ lasts_then (suc tab) cs) ≡ before ++ (tab, last_of c) ∷ lasts_then (suc tab) cs
one_last tab before c cs h = by c.added.items
  where
    rest : LastsOf
    rest = lasts_then (suc tab) cs

    by : (bodies : List (Option (Vec ℕ Global))) → lasts_run (cond (length bodies == 0) [] (replace_last tab (c.first + length bodies) ∷ [])) (before ++ (tab, c.first) ∷ lasts_then (suc tab) cs)
        ≡ before ++ (tab, c.first + length bodies) ∷ lasts_then (suc tab) cs
    by [] = ap (λ n. before ++ (tab, n) ∷ lasts_then (suc tab) cs) (let e : c.first ≡ c.first + 0 = omega arith in e)
    by (b ∷ bodies) =
        let last = c.first + length (b ∷ bodies) in
        let some : (length (b ∷ bodies) == 0) ≡ false = apart (length (b ∷ bodies)) 0 (λ e. omega (arith, e)) in
        ap (λ none. lasts_run (cond none [] (replace_last tab last ∷ [])) (before ++ (tab, c.first) ∷ lasts_then (suc tab) cs)) some
        ∙ map-append (λ (n : ℕ × ℕ). cond (n.0 == tab) (n.0, last) n) before ((tab, c.first) ∷ lasts_then (suc tab) cs)
        ∙ ap₂ ◌++◌ (stays tab last before (below_apart tab before h))
        (ap₂ ◌∷◌ (ap (λ t. cond t (tab, last) (tab, c.first)) (itself tab)) (stays tab last (lasts_then (suc tab) cs) (lasts_above tab (suc tab) cs (omega arith))))

all_lasts : (k : Contents) (tab : ℕ) (ts : List TableShape) (cs : List TableChanges) (before : LastsOf) → AreOfTables k tab ts cs → AllByRecursion (λ (n : ℕ × ℕ). n.0 < tab) before
    → lasts_run (all_statements tab ts cs) (before ++ lasts_then tab cs) ≡ before ++ lasts_now tab cs
all_lasts k tab [] [] before h l = refl
all_lasts k tab [] (c ∷ cs) before h l = absurd h
all_lasts k tab (s ∷ ts) [] before h l = absurd h
all_lasts k tab (s ∷ ts) (c ∷ cs) before h l =
    let ss = table_statements tab s.columns c in
    let rs = all_statements (suc tab) ts cs in
    let ns = before ++ (tab, c.first) ∷ lasts_then (suc tab) cs in
    let up : AllByRecursion (λ (n : ℕ × ℕ). n.0 < suc tab) (before ++ (tab, last_of c) ∷ []) =
    all-append (λ (n : ℕ × ℕ). n.0 < suc tab) before ((tab, last_of c) ∷ []) (all_weaker (λ (n : ℕ × ℕ). n.0 < tab) (λ (n : ℕ × ℕ). n.0 < suc tab) (λ n m. omega (arith, m)) before l) (omega arith, tt) in
    lasts_run-append ss rs ns ∙ ap (λ x. lasts_run rs x) (table_lasts tab s.columns c ns ∙ one_last tab before c cs l ∙ sym (append_assoc before ((tab, last_of c) ∷ []) (lasts_then (suc tab) cs)))
    ∙ all_lasts k (suc tab) ts cs (before ++ (tab, last_of c) ∷ []) h.1 up ∙ append_assoc before ((tab, last_of c) ∷ []) (lasts_now (suc tab) cs)

-- ---- all together

pub plans_write : (k : Contents) (ts : List TableShape) (cs : List TableChanges) → AreOfTables k 0 ts cs → k.lasts ≡ lasts_then 0 cs
    → CanRunAll (all_statements 0 ts cs) k × Writes k (after (all_statements 0 ts cs) k) ts cs
plans_write k ts cs h lasts = (
  all_can k ts cs h,
  record {
    tables = written k [] 0 ts cs (λ t l. tt) (λ t column l. tt) h (all_statements 0 ts cs) refl;
    lasts = lasts_of_run (all_statements 0 ts cs) k ∙ ap (λ l. lasts_run (all_statements 0 ts cs) l) lasts ∙ all_lasts k 0 ts cs [] h tt;
    body = body_of_run (all_statements 0 ts cs) k;
    others = λ tab l. lines_of_run (all_statements 0 ts cs) k tab ∙ (spared_lines (all_statements 0 ts cs) tab (k.lines tab) (all_spare_later tab 0 ts cs (omega (arith, l)))).0;
  },
)
