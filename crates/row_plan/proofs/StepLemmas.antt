-- Statements added one after another, in loops.
use Rattle.std.proofs.Common.{◌≡◌, ◌∙◌, ℕ, zero, suc, ◌+◌, ◌<◌, ◌≤◌, cond, List, [], ◌∷◌, ◌++◌, flat_map, get_or, length, take, Option, None, ap, append-nil, append_assoc, arith, refl, subst, sym}
use Rattle.std.specs.Prelude.{Vec}
use Rattle.std.specs.declared.alloc.Global.{Global}
use Rattle.std.proofs.lemmas.List.{take_all}
use Rattle.std.proofs.lemmas.List.Concat.{flat_map-append}
use Rattle.fx_core.specs.declared.schema.Column.{Column}
use Rattle.fx_core.specs.declared.schema.TableShape.{TableShape}
use Rattle.row_changes.specs.Overlay.{bytes_in}
use Rattle.row_changes.specs.declared.table.Change.{Change}
use Rattle.row_changes.specs.declared.table.TableChanges.{TableChanges}
use Rattle.row_plan.specs.Marked.{is_marked, key_in}
use Rattle.row_plan.specs.Plan.{added_statements, change_statements, mark_statements, marks_statements, row_statements, table_statements}
use Rattle.row_plan.specs.Statements.{Statement}
use Rattle.row_plan.specs.Written.{all_statements}
use Rattle.std.specs.Option.{option_map}

-- one column more
pub marks_more : (tab first n id : ℕ) (cs : List Column) (i : ℕ) (c : Column) (was now : Option (List ℕ)) → i < length cs → c ≡ get_or cs i c → n ≡ first + i
    → marks_statements tab first (take (suc i) cs) id was now
    ≡ marks_statements tab first (take i cs) id was now ++ cond (is_marked c) (mark_statements tab n id (option_map (key_in n) was) (option_map (key_in n) now)) []
marks_more tab first n id [] i c was now l e number = absurd (omega (arith, l))
marks_more tab first n id (d ∷ cs) zero c was now l e number =
    let same : first ≡ n = omega (arith, number) in
    append-nil (cond (is_marked d) (mark_statements tab first id (option_map (key_in first) was) (option_map (key_in first) now)) [])
    ∙ ap (λ (x : Column). cond (is_marked x) (mark_statements tab first id (option_map (key_in first) was) (option_map (key_in first) now)) []) (sym e)
    ∙ ap (λ k. cond (is_marked c) (mark_statements tab k id (option_map (key_in k) was) (option_map (key_in k) now)) []) same
marks_more tab first n id (d ∷ cs) (suc i) c was now l e number =
    let head = cond (is_marked d) (mark_statements tab first id (option_map (key_in first) was) (option_map (key_in first) now)) [] in
    ap (λ ss. head ++ ss) (marks_more tab (suc first) n id cs i c was now (omega (arith, l)) e (omega (arith, number)))
    ∙ sym (append_assoc head (marks_statements tab (suc first) (take i cs) id was now) (cond (is_marked c) (mark_statements tab n id (option_map (key_in n) was) (option_map (key_in n) now)) []))

-- one row more of those that were put
pub added_more : (tab n : ℕ) (cs : List Column) (first : ℕ) (bodies : List (Option (Vec ℕ Global))) (i : ℕ) (body : Option (Vec ℕ Global)) → i < length bodies → body ≡ get_or bodies i body → n ≡ first + i
    → added_statements tab cs first (take (suc i) bodies) ≡ added_statements tab cs first (take i bodies) ++ row_statements tab cs n None (bytes_in body)
added_more tab n cs first [] i body l e number = absurd (omega (arith, l))
added_more tab n cs first (b ∷ bodies) zero body l e number =
    let same : first ≡ n = omega (arith, number) in
    append-nil (row_statements tab cs first None (bytes_in b)) ∙ ap (λ (x : Option (Vec ℕ Global)). row_statements tab cs first None (bytes_in x)) (sym e) ∙ ap (λ k. row_statements tab cs k None (bytes_in body)) same
added_more tab n cs first (b ∷ bodies) (suc i) body l e number =
    let head = row_statements tab cs first None (bytes_in b) in
    ap (λ ss. head ++ ss) (added_more tab n cs (suc first) bodies i body (omega (arith, l)) e (omega (arith, number)))
    ∙ sym (append_assoc head (added_statements tab cs (suc first) (take i bodies)) (row_statements tab cs n None (bytes_in body)))

-- one table more
pub all_more : (tab n : ℕ) (ts : List TableShape) (cs : List TableChanges) (i : ℕ) (t : TableShape) (c : TableChanges) → i < length ts → i < length cs → t ≡ get_or ts i t → c ≡ get_or cs i c → n ≡ tab + i
    → all_statements tab (take (suc i) ts) (take (suc i) cs) ≡ all_statements tab (take i ts) (take i cs) ++ table_statements n t.columns c
all_more tab n [] cs i t c l m e f number = absurd (omega (arith, l))
all_more tab n (s ∷ ts) [] i t c l m e f number = absurd (omega (arith, m))
all_more tab n (s ∷ ts) (d ∷ cs) zero t c l m e f number =
    let same : tab ≡ n = omega (arith, number) in
    append-nil (table_statements tab s.columns d) ∙ ap (λ (x : TableShape). table_statements tab x.columns d) (sym e) ∙ ap (λ (x : TableChanges). table_statements tab t.columns x) (sym f) ∙ ap (λ k. table_statements k t.columns c) same
all_more tab n (s ∷ ts) (d ∷ cs) (suc i) t c l m e f number =
    let head = table_statements tab s.columns d in
    ap (λ ss. head ++ ss) (all_more (suc tab) n ts cs i t c (omega (arith, l)) (omega (arith, m)) e f (omega (arith, number)))
    ∙ sym (append_assoc head (all_statements (suc tab) (take i ts) (take i cs)) (table_statements n t.columns c))

-- changes behind the last table don't count
pub all_enough : (tab : ℕ) (ts : List TableShape) (cs : List TableChanges) → all_statements tab ts (take (length ts) cs) ≡ all_statements tab ts cs
all_enough tab [] cs = refl
all_enough tab (t ∷ ts) [] = refl
all_enough tab (t ∷ ts) (c ∷ cs) = ap (λ ss. table_statements tab t.columns c ++ ss) (all_enough (suc tab) ts cs)

-- ---- and what a loop has added then

one_more : (i : ℕ) → suc i ≡ i + 1
one_more i = omega arith

pub marks_step : (start before end : List Statement) (tab last number i id : ℕ) (cs : List Column) (c : Column) (was now : Option (List ℕ)) → i < length cs → c ≡ get_or cs i c → last ≡ i → number ≡ last + 1
    → before ≡ start ++ marks_statements tab 1 (take i cs) id was now
    → end ≡ before ++ cond (is_marked c) (mark_statements tab number id (option_map (key_in number) was) (option_map (key_in number) now)) []
    → end ≡ start ++ marks_statements tab 1 (take (i + 1) cs) id was now
marks_step start before end tab last number i id cs c was now l e counted next b n =
    let more = cond (is_marked c) (mark_statements tab number id (option_map (key_in number) was) (option_map (key_in number) now)) [] in
    n ∙ ap (λ ss. ss ++ more) b ∙ append_assoc start (marks_statements tab 1 (take i cs) id was now) more
    ∙ ap (λ ss. start ++ ss) (sym (marks_more tab 1 number id cs i c was now l e (omega (arith, counted, next)))) ∙ ap (λ k. start ++ marks_statements tab 1 (take k cs) id was now) (one_more i)

pub added_step : (start before end : List Statement) (tab first last i : ℕ) (cs : List Column) (given bodies : List (Option (Vec ℕ Global))) (body : Option (Vec ℕ Global)) → given ≡ bodies → i < length given → body ≡ get_or given i body → last ≡ first + i
    → before ≡ start ++ added_statements tab cs (suc first) (take i bodies) → end ≡ before ++ row_statements tab cs (last + 1) None (bytes_in body)
    → end ≡ start ++ added_statements tab cs (suc first) (take (i + 1) bodies)
added_step start before end tab first last i cs given bodies body same l item counted b n =
    let short : i < length bodies = subst (λ (xs : List (Option (Vec ℕ Global))). i < length xs) same l in
    let here : body ≡ get_or bodies i body = item ∙ ap (λ (xs : List (Option (Vec ℕ Global))). get_or xs i body) same in
    let more = row_statements tab cs (last + 1) None (bytes_in body) in
    n ∙ ap (λ ss. ss ++ more) b ∙ append_assoc start (added_statements tab cs (suc first) (take i bodies)) more
    ∙ ap (λ ss. start ++ ss) (sym (added_more tab (last + 1) cs (suc first) bodies i body short here (omega (arith, counted)))) ∙ ap (λ k. start ++ added_statements tab cs (suc first) (take k bodies)) (one_more i)

pub table_step : (before end : List Statement) (i tab : ℕ) (ts : List TableShape) (cs : List TableChanges) (t : TableShape) (columns : List Column) (c : TableChanges) → tab ≡ i → i < length ts → tab < length cs → t ≡ get_or ts i t → columns ≡ t.columns → c ≡ get_or cs tab c
    → before ≡ all_statements 0 (take i ts) (take i cs) → end ≡ before ++ table_statements tab columns c → end ≡ all_statements 0 (take (i + 1) ts) (take (i + 1) cs)
table_step before end i tab ts cs t columns c counted l m e cols f b n =
    let there : c ≡ get_or cs i c = f ∙ ap (λ k. get_or cs k c) counted in
    let inside : i < length cs = omega (arith, counted, m) in
    n ∙ ap (λ k. before ++ table_statements k columns c) counted ∙ ap (λ k. before ++ table_statements i k c) cols
    ∙ ap (λ ss. ss ++ table_statements i t.columns c) b ∙ sym (all_more 0 i ts cs i t c l inside e there (omega arith)) ∙ ap (λ k. all_statements 0 (take k ts) (take k cs)) (one_more i)

-- at the end of the loop
pub tables_done : (end : List Statement) (i : ℕ) (ts : List TableShape) (cs : List TableChanges) → length ts ≤ i → i ≤ length ts → end ≡ all_statements 0 (take i ts) (take i cs) → end ≡ all_statements 0 ts cs
tables_done end i ts cs l m e =
    let same : i ≡ length ts = omega (arith, l, m) in
    e ∙ ap (λ k. all_statements 0 (take k ts) (take k cs)) same ∙ ap (λ xs. all_statements 0 xs (take (length ts) cs)) (take_all (length ts) ts (omega arith)) ∙ all_enough 0 ts cs

pub rows_step : (start before end : List Statement) (tab : ℕ) (cs : List Column) (es : List (ℕ × Change)) (e : ℕ × Change) → before ≡ start ++ flat_map (change_statements tab cs) es → end ≡ before ++ change_statements tab cs e
    → end ≡ start ++ flat_map (change_statements tab cs) (es ++ e ∷ [])
rows_step start before end tab cs es e b n =
    n ∙ ap (λ ss. ss ++ change_statements tab cs e) b ∙ append_assoc start (flat_map (change_statements tab cs) es) (change_statements tab cs e)
    ∙ ap (λ ss. start ++ ss) (sym (flat_map-append (change_statements tab cs) es (e ∷ []) ∙ ap (λ l. flat_map (change_statements tab cs) es ++ l) (append-nil (change_statements tab cs e))))
