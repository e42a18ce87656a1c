-- The statements that write one row.
use Rattle.std.proofs.Common.{◌≡◌, ◌≢◌, ◌∙◌, ℕ, zero, suc, ◌+◌, ◌<◌, ◌==◌, ◌&&◌, Bool, true, false, cond, List, [], ◌∷◌, ◌++◌, Option, None, Some, ap, arith, refl, subst, sym}
use Rattle.std.specs.List.{AllByRecursion}
use Rattle.std.specs.Option.{option_map}
use Rattle.std.specs.Prelude.{bytes_eq}
use Rattle.std.proofs.lemmas.Slice.Eq.{bytes_eq-Decides}
use Rattle.fx_core.specs.declared.schema.Column.{Column}
use Rattle.sqlite_keyed.proofs.ListLemmas.{all-append, all_weaker}
use Rattle.sql_meanings.specs.Lines.{AreBelow, LinesOf, with_body, with_line, without_line}
use Rattle.sql_meanings.specs.Marks.{MarksOf, with_mark, without_mark}
use Rattle.row_changes.specs.Overlay.{body_at}
use Rattle.row_plan.specs.Marked.{AreMarked, is_marked, key_in, marked_at, marked_in}
use Rattle.row_plan.specs.Plan.{line_statements, mark_statements, marks_statements, row_statements}
use Rattle.row_plan.specs.Statements.{Statement, insert_mark, remove_mark}
use Rattle.row_changes.proofs.ChangeLemmas.{Rising}
use Rattle.row_plan.proofs.MarkingLemmas.{put_marked, set_marked, set_same, taken_marked, taken_unmarked, unmarked}
use Rattle.row_plan.proofs.RunLemmas.{LinesCan, LinesCan-append, MarksCan, MarksCan-append, SparesLasts, SparesLines, SparesMarks, and_no, apart, itself, lines_run, lines_run-append, marks_run, marks_run-append, spared_lines, spared_marks}

-- what becomes of the lines as a row goes from one body, or none, to another, or none
abbrev pub row_now : ℕ → Option (List ℕ) → Option (List ℕ) → LinesOf → LinesOf
row_now id None None xs = xs
row_now id None (Some body) xs = with_line id body xs
row_now id (Some was) None xs = without_line id xs
row_now id (Some was) (Some body) xs = with_body id body xs

-- the row is new, or its line has that body
abbrev pub Fits : ℕ → Option (List ℕ) → LinesOf → Type 0
Fits id None xs = AreBelow id xs
Fits id (Some was) xs = body_at id xs ≡ Some was

-- ---- what they leave alone

line_spares_marks : (tab id t c : ℕ) (was now : Option (List ℕ)) → AllByRecursion (SparesMarks t c) (line_statements tab id was now)
line_spares_marks tab id t c None None = tt
line_spares_marks tab id t c None (Some body) = ((λ ms. (refl, tt)), tt)
line_spares_marks tab id t c (Some was) (Some body) = ((λ ms. (refl, tt)), tt)
line_spares_marks tab id t c (Some was) None = ((λ ms. (refl, tt)), tt)

line_spares_lines : (tab id t : ℕ) (was now : Option (List ℕ)) → t ≢ tab → AllByRecursion (SparesLines t) (line_statements tab id was now)
line_spares_lines tab id t None None n = tt
line_spares_lines tab id t None (Some body) n = ((λ xs. (ap (λ b. cond b (with_line id body xs) xs) (apart t tab n), λ e. absurd (n e))), tt)
line_spares_lines tab id t (Some was) (Some body) n = ((λ xs. (ap (λ b. cond b (with_body id body xs) xs) (apart t tab n), tt)), tt)
line_spares_lines tab id t (Some was) None n = ((λ xs. (ap (λ b. cond b (without_line id xs) xs) (apart t tab n), tt)), tt)

mark_spares_lines : (tab column id t : ℕ) (was now : Option (List ℕ)) → AllByRecursion (SparesLines t) (mark_statements tab column id was now)
mark_spares_lines tab column id t None None = tt
mark_spares_lines tab column id t None (Some key) = ((λ xs. (refl, tt)), tt)
mark_spares_lines tab column id t (Some was) None = ((λ xs. (refl, tt)), tt)
mark_spares_lines tab column id t (Some was) (Some key) =
    elim (bytes_eq was key) as (λ b. AllByRecursion (SparesLines t) (cond b [] (remove_mark tab column was id ∷ insert_mark tab column key id ∷ [])))
    [ true ↦ tt | false ↦ ((λ xs. (refl, tt)), ((λ xs. (refl, tt)), tt)) ]

-- the marks of another column, or of a column of another table
abbrev IsElsewhere : ℕ → ℕ → ℕ → ℕ → Type 0
IsElsewhere tab column t c = ((t == tab) && (c == column)) ≡ false

mark_spares_marks : (tab column id t c : ℕ) (was now : Option (List ℕ)) → IsElsewhere tab column t c → (t ≡ tab → c ≡ column → ⊥) → AllByRecursion (SparesMarks t c) (mark_statements tab column id was now)
mark_spares_marks tab column id t c None None e n = tt
mark_spares_marks tab column id t c None (Some key) e n = ((λ ms. (ap (λ b. cond b (with_mark key id ms) ms) e, λ p q. absurd (n p q))), tt)
mark_spares_marks tab column id t c (Some was) None e n = ((λ ms. (ap (λ b. cond b (without_mark was id ms) ms) e, tt)), tt)
mark_spares_marks tab column id t c (Some was) (Some key) e n =
    elim (bytes_eq was key) as (λ b. AllByRecursion (SparesMarks t c) (cond b [] (remove_mark tab column was id ∷ insert_mark tab column key id ∷ []))) [
      | true ↦ tt
      | false ↦ ((λ ms. (ap (λ b. cond b (without_mark was id ms) ms) e, tt)), ((λ ms. (ap (λ b. cond b (with_mark key id ms) ms) e, λ p q. absurd (n p q))), tt))
    ]

-- the statements of a column, if it is marked
abbrev of_column : ℕ → ℕ → ℕ → Column → Option (List ℕ) → Option (List ℕ) → List Statement
of_column tab column id c was now = cond (is_marked c) (mark_statements tab column id (option_map (key_in column) was) (option_map (key_in column) now)) []

where_marked : (P : Statement → Type 0) (b : Bool) (ss : List Statement) → AllByRecursion P ss → AllByRecursion P (cond b ss [])
where_marked P true ss h = h
where_marked P false ss h = tt

marks_spare_lines : (tab first id t : ℕ) (cs : List Column) (was now : Option (List ℕ)) → AllByRecursion (SparesLines t) (marks_statements tab first cs id was now)
marks_spare_lines tab first id t [] was now = tt
marks_spare_lines tab first id t (c ∷ cs) was now =
    all-append (SparesLines t) (of_column tab first id c was now) (marks_statements tab (suc first) cs id was now)
    (where_marked (SparesLines t) (is_marked c) (mark_statements tab first id (option_map (key_in first) was) (option_map (key_in first) now)) (mark_spares_lines tab first id t (option_map (key_in first) was) (option_map (key_in first) now)))
    (marks_spare_lines tab (suc first) id t cs was now)

mark_spares_lasts : (tab column id : ℕ) (was now : Option (List ℕ)) → AllByRecursion SparesLasts (mark_statements tab column id was now)
mark_spares_lasts tab column id None None = tt
mark_spares_lasts tab column id None (Some key) = ((λ ns. refl), tt)
mark_spares_lasts tab column id (Some was) None = ((λ ns. refl), tt)
mark_spares_lasts tab column id (Some was) (Some key) =
    elim (bytes_eq was key) as (λ b. AllByRecursion SparesLasts (cond b [] (remove_mark tab column was id ∷ insert_mark tab column key id ∷ [])))
    [ true ↦ tt | false ↦ ((λ ns. refl), ((λ ns. refl), tt)) ]

marks_spare_lasts : (tab first id : ℕ) (cs : List Column) (was now : Option (List ℕ)) → AllByRecursion SparesLasts (marks_statements tab first cs id was now)
marks_spare_lasts tab first id [] was now = tt
marks_spare_lasts tab first id (c ∷ cs) was now =
    all-append SparesLasts (of_column tab first id c was now) (marks_statements tab (suc first) cs id was now)
    (where_marked SparesLasts (is_marked c) (mark_statements tab first id (option_map (key_in first) was) (option_map (key_in first) now)) (mark_spares_lasts tab first id (option_map (key_in first) was) (option_map (key_in first) now)))
    (marks_spare_lasts tab (suc first) id cs was now)

-- those of columns from one on leave those before it alone
marks_spare_before : (tab first id c : ℕ) (cs : List Column) (was now : Option (List ℕ)) → c < first → AllByRecursion (SparesMarks tab c) (marks_statements tab first cs id was now)
marks_spare_before tab first id c [] was now l = tt
marks_spare_before tab first id c (d ∷ cs) was now l =
    all-append (SparesMarks tab c) (of_column tab first id d was now) (marks_statements tab (suc first) cs id was now)
    (where_marked (SparesMarks tab c) (is_marked d) (mark_statements tab first id (option_map (key_in first) was) (option_map (key_in first) now))
    (mark_spares_marks tab first id tab c (option_map (key_in first) was) (option_map (key_in first) now)
    (ap (λ b. (tab == tab) && b) (apart c first (omega (arith, l))) ∙ and_no (tab == tab)) (λ p q. omega (arith, l, q))))
    (marks_spare_before tab (suc first) id c cs was now (omega (arith, l)))

marks_spare_tables : (tab first id t c : ℕ) (cs : List Column) (was now : Option (List ℕ)) → t ≢ tab → AllByRecursion (SparesMarks t c) (marks_statements tab first cs id was now)
marks_spare_tables tab first id t c [] was now n = tt
marks_spare_tables tab first id t c (d ∷ cs) was now n =
    all-append (SparesMarks t c) (of_column tab first id d was now) (marks_statements tab (suc first) cs id was now)
    (where_marked (SparesMarks t c) (is_marked d) (mark_statements tab first id (option_map (key_in first) was) (option_map (key_in first) now))
    (mark_spares_marks tab first id t c (option_map (key_in first) was) (option_map (key_in first) now) (ap (λ b. b && (c == first)) (apart t tab n)) (λ p q. absurd (n p))))
    (marks_spare_tables tab (suc first) id t c cs was now n)

-- a column that isn't marked is left alone
marks_spare_unmarked : (tab first column id : ℕ) (cs : List Column) (place : ℕ) (was now : Option (List ℕ)) → column ≡ first + place → marked_at cs place ≡ false → AllByRecursion (SparesMarks tab column) (marks_statements tab first cs id was now)
marks_spare_unmarked tab first column id [] place was now e m = tt
marks_spare_unmarked tab first column id (c ∷ cs) zero was now e m =
    all-append (SparesMarks tab column) (of_column tab first id c was now) (marks_statements tab (suc first) cs id was now)
    (subst (λ b. AllByRecursion (SparesMarks tab column) (cond b (mark_statements tab first id (option_map (key_in first) was) (option_map (key_in first) now)) [])) (sym m) tt)
    (marks_spare_before tab (suc first) id column cs was now (omega (arith, e)))
marks_spare_unmarked tab first column id (c ∷ cs) (suc place) was now e m =
    all-append (SparesMarks tab column) (of_column tab first id c was now) (marks_statements tab (suc first) cs id was now)
    (where_marked (SparesMarks tab column) (is_marked c) (mark_statements tab first id (option_map (key_in first) was) (option_map (key_in first) now))
    (mark_spares_marks tab first id tab column (option_map (key_in first) was) (option_map (key_in first) now)
    (ap (λ b. (tab == tab) && b) (apart column first (omega (arith, e))) ∙ and_no (tab == tab)) (λ p q. omega (arith, e, q))))
    (marks_spare_unmarked tab (suc first) column id cs place was now (omega (arith, e)) m)

pub row_spares_column : (tab column id : ℕ) (cs : List Column) (was now : Option (List ℕ)) → marked_in cs column ≡ false → AllByRecursion (SparesMarks tab column) (row_statements tab cs id was now)
row_spares_column tab zero id cs was now m =
    all-append (SparesMarks tab zero) (line_statements tab id was now) (marks_statements tab 1 cs id was now) (line_spares_marks tab id tab zero was now) (marks_spare_before tab 1 id zero cs was now (omega arith))
row_spares_column tab (suc place) id cs was now m =
    all-append (SparesMarks tab (suc place)) (line_statements tab id was now) (marks_statements tab 1 cs id was now) (line_spares_marks tab id tab (suc place) was now)
    (marks_spare_unmarked tab 1 (suc place) id cs place was now (omega arith) m)

-- and so are the last numbers
pub row_spares_lasts : (tab id : ℕ) (cs : List Column) (was now : Option (List ℕ)) → AllByRecursion SparesLasts (row_statements tab cs id was now)
row_spares_lasts tab id cs was now = all-append SparesLasts (line_statements tab id was now) (marks_statements tab 1 cs id was now) (line_spares was now) (marks_spare_lasts tab 1 id cs was now)
  where
    line_spares : (v w : Option (List ℕ)) → AllByRecursion SparesLasts (line_statements tab id v w)
    line_spares None None = tt
    line_spares None (Some body) = ((λ ns. refl), tt)
    line_spares (Some v) None = ((λ ns. refl), tt)
    line_spares (Some v) (Some body) = ((λ ns. refl), tt)

-- a row's statements leave other tables alone
pub row_spares_lines : (tab id t : ℕ) (cs : List Column) (was now : Option (List ℕ)) → t ≢ tab → AllByRecursion (SparesLines t) (row_statements tab cs id was now)
row_spares_lines tab id t cs was now n = all-append (SparesLines t) (line_statements tab id was now) (marks_statements tab 1 cs id was now) (line_spares_lines tab id t was now n) (marks_spare_lines tab 1 id t cs was now)

pub row_spares_marks : (tab id t c : ℕ) (cs : List Column) (was now : Option (List ℕ)) → t ≢ tab → AllByRecursion (SparesMarks t c) (row_statements tab cs id was now)
row_spares_marks tab id t c cs was now n = all-append (SparesMarks t c) (line_statements tab id was now) (marks_statements tab 1 cs id was now) (line_spares_marks tab id t c was now) (marks_spare_tables tab 1 id t c cs was now n)

-- ---- the lines

line_runs : (tab id : ℕ) (was now : Option (List ℕ)) (xs : LinesOf) → Fits id was xs → (lines_run (line_statements tab id was now) tab xs ≡ row_now id was now xs) × LinesCan (line_statements tab id was now) tab xs
line_runs tab id None None xs fits = (refl, tt)
line_runs tab id None (Some body) xs fits = (ap (λ b. cond b (with_line id body xs) xs) (itself tab), ((λ e. fits), tt))
line_runs tab id (Some was) (Some body) xs fits = (ap (λ b. cond b (with_body id body xs) xs) (itself tab), (tt, tt))
line_runs tab id (Some was) None xs fits = (ap (λ b. cond b (without_line id xs) xs) (itself tab), (tt, tt))

pub row_lines : (tab id : ℕ) (cs : List Column) (was now : Option (List ℕ)) (xs : LinesOf) → Fits id was xs
    → (lines_run (row_statements tab cs id was now) tab xs ≡ row_now id was now xs) × LinesCan (row_statements tab cs id was now) tab xs
row_lines tab id cs was now xs fits =
    let ls = line_statements tab id was now in
    let ms = marks_statements tab 1 cs id was now in
    let one = line_runs tab id was now xs fits in
    let more = spared_lines ms tab (lines_run ls tab xs) (marks_spare_lines tab 1 id tab cs was now) in
    (lines_run-append ls ms tab xs ∙ more.0 ∙ one.0, LinesCan-append ls ms tab xs one.1 more.1)

-- ---- the marks of a column

abbrev pub Runs : List Statement → ℕ → ℕ → LinesOf → MarksOf → Type 0
Runs ss tab column xs ms = AreMarked column xs (marks_run ss tab column ms) × MarksCan ss tab column ms

here : (tab column : ℕ) → ((tab == tab) && (column == column)) ≡ true
here tab column = ap (λ b. b && (column == column)) (itself tab) ∙ itself column

mark_runs : (tab column id : ℕ) (was now : Option (List ℕ)) (xs : LinesOf) (ms : MarksOf) → Rising xs → Fits id was xs → AreMarked column xs ms
    → Runs (mark_statements tab column id (option_map (key_in column) was) (option_map (key_in column) now)) tab column (row_now id was now xs) ms
mark_runs tab column id None None xs ms up fits h = (h, tt)
mark_runs tab column id None (Some body) xs ms up fits h =
    let key = key_in column in (
      subst (λ b. AreMarked column (with_line id body xs) (cond b (with_mark (key body) id ms) ms)) (sym (here tab column)) (put_marked key id body xs ms h),
      ((λ p q. unmarked key id xs ms h (all_weaker (λ (x : ℕ × List ℕ). x.0 < id) (λ (x : ℕ × List ℕ). x.0 ≢ id) (λ x below. omega (arith, below)) xs fits)), tt),
    )
mark_runs tab column id (Some was) None xs ms up fits h =
    let key = key_in column in
    (subst (λ b. AreMarked column (without_line id xs) (cond b (without_mark (key was) id ms) ms)) (sym (here tab column)) (taken_marked key id was xs ms up fits h), (tt, tt))
mark_runs tab column id (Some was) (Some body) xs ms up fits h = by (bytes_eq (key_in column was) (key_in column body)) refl
  where
    key : List ℕ → List ℕ
    key = key_in column

    by : (b : Bool) → bytes_eq (key_in column was) (key_in column body) ≡ b
        → Runs (cond b [] (remove_mark tab column (key_in column was) id ∷ insert_mark tab column (key_in column body) id ∷ [])) tab column (with_body id body xs) ms
    by true e = (set_same (key_in column) id was body xs ms up fits ((bytes_eq-Decides (key_in column was) (key_in column body)).0 e) h, tt)
    by false e =
        let old = key_in column was in
        let new = key_in column body in (
          subst (λ b. AreMarked column (with_body id body xs) (cond b (with_mark new id (cond b (without_mark old id ms) ms)) (cond b (without_mark old id ms) ms))) (sym (here tab column)) (set_marked (key_in column) id was body xs ms up fits h),
          (tt, ((λ p q. subst (λ b. Rattle.sql_meanings.specs.Marks.IsUnmarked id (cond b (without_mark old id ms) ms)) (sym (here tab column)) (taken_unmarked (key_in column) id was xs ms up fits h)), tt)),
        )

marks_runs : (tab first column id : ℕ) (cs : List Column) (place : ℕ) (was now : Option (List ℕ)) (xs : LinesOf) (ms : MarksOf) → column ≡ first + place → marked_at cs place ≡ true
    → Rising xs → Fits id was xs → AreMarked column xs ms → Runs (marks_statements tab first cs id was now) tab column (row_now id was now xs) ms
marks_runs tab first column id [] place was now xs ms e m up fits h = absurd cc
marks_runs tab first column id (c ∷ cs) zero was now xs ms e m up fits h =
    let same : first ≡ column = omega (arith, e) in
    subst (λ n. Runs (marks_statements tab n (c ∷ cs) id was now) tab column (row_now id was now xs) ms) (sym same)
    (subst (λ b. Runs ((cond b (mark_statements tab column id (option_map (key_in column) was) (option_map (key_in column) now)) []) ++ marks_statements tab (suc column) cs id was now) tab column (row_now id was now xs) ms) (sym m)
    (both (mark_statements tab column id (option_map (key_in column) was) (option_map (key_in column) now)) (marks_statements tab (suc column) cs id was now)
    (mark_runs tab column id was now xs ms up fits h) (marks_spare_before tab (suc column) id column cs was now (omega arith))))
  where
    both : (ss rs : List Statement) → Runs ss tab column (row_now id was now xs) ms → AllByRecursion (SparesMarks tab column) rs → Runs (ss ++ rs) tab column (row_now id was now xs) ms
    both ss rs r s =
        let more = spared_marks rs tab column (marks_run ss tab column ms) s in
        (subst (AreMarked column (row_now id was now xs)) (sym (marks_run-append ss rs tab column ms ∙ more.0)) r.0, MarksCan-append ss rs tab column ms r.1 more.1)
marks_runs tab first column id (c ∷ cs) (suc place) was now xs ms e m up fits h =
    let ss = cond (is_marked c) (mark_statements tab first id (option_map (key_in first) was) (option_map (key_in first) now)) [] in
    let rs = marks_statements tab (suc first) cs id was now in
    let spares : AllByRecursion (SparesMarks tab column) ss =
    where_marked (SparesMarks tab column) (is_marked c) (mark_statements tab first id (option_map (key_in first) was) (option_map (key_in first) now))
    (mark_spares_marks tab first id tab column (option_map (key_in first) was) (option_map (key_in first) now)
    (ap (λ b. (tab == tab) && b) (apart column first (omega (arith, e))) ∙ and_no (tab == tab)) (λ p q. omega (arith, e, q))) in
    let one = spared_marks ss tab column ms spares in
    let more = marks_runs tab (suc first) column id cs place was now xs ms (omega (arith, e)) m up fits h in (
      subst (AreMarked column (row_now id was now xs)) (sym (marks_run-append ss rs tab column ms ∙ ap (λ l. marks_run rs tab column l) one.0)) more.0,
      MarksCan-append ss rs tab column ms one.1 (subst (MarksCan rs tab column) (sym one.0) more.1),
    )

pub row_marks : (tab column id : ℕ) (cs : List Column) (place : ℕ) (was now : Option (List ℕ)) (xs : LinesOf) (ms : MarksOf) → column ≡ suc place → marked_at cs place ≡ true
    → Rising xs → Fits id was xs → AreMarked column xs ms → Runs (row_statements tab cs id was now) tab column (row_now id was now xs) ms
row_marks tab column id cs place was now xs ms e m up fits h =
    let ls = line_statements tab id was now in
    let rs = marks_statements tab 1 cs id was now in
    let one = spared_marks ls tab column ms (line_spares_marks tab id tab column was now) in
    let more = marks_runs tab 1 column id cs place was now xs ms (omega (arith, e)) m up fits h in (
      subst (AreMarked column (row_now id was now xs)) (sym (marks_run-append ls rs tab column ms ∙ ap (λ l. marks_run rs tab column l) one.0)) more.0,
      MarksCan-append ls rs tab column ms one.1 (subst (MarksCan rs tab column) (sym one.0) more.1),
    )
