-- Rows out of lines, one after another.
use Rattle.std.proofs.Common.{◌≡◌, ◌∙◌, ℕ, zero, suc, ◌+◌, ◌-◌, ◌<◌, ◌≤◌, true, cond, List, [], ◌∷◌, ◌++◌, get_or, length, map, pos, take, Option, None, Some, IfOk, OnOk, Result, Ok, Err, ap, ap₂, append-nil, append_assoc, arith, refl, sym}
use Rattle.std.specs.Prelude.{ℤ, negsuc, IfSome, nat_le, option_map, unsigned_abs}
use Rattle.std.specs.Int.{FitsUnsignedBits}
use Rattle.std.specs.Borrow.{Bor}
use Rattle.std.specs.List.{AllByRecursion}
use Rattle.std.proofs.lemmas.Bool.Decides.{nat_tests}
use Rattle.std.proofs.lemmas.List.{get_or-map, length-map, take_more}
use Rattle.std.proofs.lemmas.List.Elements.{filter-append}
use Rattle.fx_types.specs.Values.{Data}
use Rattle.fx_core.specs.declared.schema.Column.{Column}
use Rattle.sqlite.specs.Order as sql
use Rattle.sqlite.specs.declared.types.Value.TheVariants.{Int, Blob}
use Rattle.sql_meanings.specs.Lines.{LinesOf, line_at}
use Rattle.row_queries.specs.declared.rows.Row.{Row}
use Rattle.row_lines.specs.FromBytes.{cells_in}
use Rattle.row_changes.specs.Overlay.{LineChange, body_of_added, change_at, is_unchanged, made_of, made_of_kept, shown, shown_line, shown_lines, unchanged}
use Rattle.row_changes.specs.declared.table.Made.{Made}
use Rattle.row_changes.specs.declared.table.Made.TheVariants.{Same, Body}
use Rattle.row_changes.specs.declared.table.TableChanges.{TableChanges}
use Rattle.store_model.specs.Decoded.{row_in}

abbrev row_with : ℕ → List Data → Row
row_with id cells = record { id = id; cells = cells }

abbrev pair_of : ℕ → List ℕ → ℕ × List ℕ
pair_of id body = (id, body)

pub row_is : (columns : List Column) (r : Row) (id : ℕ) (body : List ℕ) → r.id ≡ id → r.cells ≡ cells_in columns body → r ≡ row_in columns (id, body)
row_is columns r id body number cells = ap₂ row_with number cells

pub map-append : {A B : Type 0} (f : A → B) (xs ys : List A) → map f (xs ++ ys) ≡ map f xs ++ map f ys
map-append f [] ys = refl
map-append f (x ∷ xs) ys = ap (λ l. f x ∷ l) (map-append f xs ys)

-- ---- what was made of one line

made_kept : (c : TableChanges) (id : ℕ) → id ≤ c.first → made_of c id ≡ made_of_kept c id
made_kept c id low = (let yes : nat_le id c.first ≡ true = grind (arith, nat_tests) in ap (λ b. cond b (made_of_kept c id) (Some (body_of_added c (id - c.first - 1)))) yes)

alike : (o : Option LineChange) (x : ℕ × List ℕ) → option_map (λ c. c.1) o ≡ None → cond (is_unchanged o) (x ∷ []) [] ≡ x ∷ []
alike None x e = refl
alike (Some c) x e = absurd cc

apart : (o : Option LineChange) (x : ℕ × List ℕ) (m : Option (List ℕ)) → option_map (λ c. c.1) o ≡ Some m → cond (is_unchanged o) (x ∷ []) [] ≡ []
apart None x m e = absurd cc
apart (Some c) x m e = refl

pub same_line : (c : TableChanges) (x : ℕ × List ℕ) → made_of c x.0 ≡ None → x.0 ≤ c.first → unchanged c (x ∷ []) ≡ x ∷ []
same_line c x e low = alike (change_at c x.0) x (sym (made_kept c x.0 low) ∙ e)

pub other_line : (c : TableChanges) (x : ℕ × List ℕ) (m : Option (List ℕ)) → made_of c x.0 ≡ Some m → x.0 ≤ c.first → unchanged c (x ∷ []) ≡ []
other_line c x m e low = apart (change_at c x.0) x m (sym (made_kept c x.0 low) ∙ e)

-- ---- one line more

pub line_of : (lines : List sql.Row) (i : ℕ) (line : sql.Row) (xs : LinesOf) → i < length lines → line ≡ get_or lines i line → lines ≡ map line_at xs → (i < length xs) × (line ≡ line_at (get_or xs i (0, [])))
line_of lines i line xs low is same =
    let long : length lines ≡ length xs = ap length same ∙ length-map xs line_at in
    let here : i < length xs = omega (arith, low, long) in
    (here, is ∙ ap (λ ls. get_or ls i line) same ∙ get_or-map line_at xs i (0, []) line here)

one_of : (P : ℕ × List ℕ → Type 0) (xs : LinesOf) (i : ℕ) (d : ℕ × List ℕ) → AllByRecursion P xs → i < length xs → P (get_or xs i d)
one_of P [] i d h low = absurd (omega (arith, low))
one_of P (x ∷ xs) zero d h low = h.0
one_of P (x ∷ xs) (suc i) d h low = one_of P xs i d h.1 (omega (arith, low))

pub kept_step : (c : TableChanges) (columns : List Column) (lines : List sql.Row) (i : ℕ) (line : sql.Row) (start before now : List Row) → i < length lines → line ≡ get_or lines i line
    → ((x : ℕ × List ℕ) → line ≡ line_at x → x.0 ≤ c.first → now ≡ before ++ map (row_in columns) (unchanged c (x ∷ [])))
    → ((xs : LinesOf) → lines ≡ map line_at xs → AllByRecursion (λ (x : ℕ × List ℕ). x.0 ≤ c.first) xs → before ≡ start ++ map (row_in columns) (unchanged c (take i xs)))
    → (xs : LinesOf) → lines ≡ map line_at xs → AllByRecursion (λ (x : ℕ × List ℕ). x.0 ≤ c.first) xs → now ≡ start ++ map (row_in columns) (unchanged c (take (i + 1) xs))
kept_step c columns lines i line start before now low is one so_far xs same given =
    let at = line_of lines i line xs low is same in
    let x = get_or xs i (0, []) in
    one x at.1 (one_of (λ (y : ℕ × List ℕ). y.0 ≤ c.first) xs i (0, []) given at.0)
    ∙ ap (λ l. l ++ map (row_in columns) (unchanged c (x ∷ []))) (so_far xs same given)
    ∙ append_assoc start (map (row_in columns) (unchanged c (take i xs))) (map (row_in columns) (unchanged c (x ∷ [])))
    ∙ ap (λ l. start ++ l) (sym (map-append (row_in columns) (unchanged c (take i xs)) (unchanged c (x ∷ []))))
    ∙ ap (λ l. start ++ map (row_in columns) l) (sym (filter-append (λ y. is_unchanged (change_at c y.0)) (take i xs) (x ∷ [])))
    ∙ ap (λ l. start ++ map (row_in columns) (unchanged c l)) (sym (take_more xs i (0, []) at.0))

pub made_step : (columns : List Column) (lines : List (ℕ × Bor (List ℕ))) (i : ℕ) (d : ℕ × Bor (List ℕ)) (start before now : List Row) → i < length lines
    → now ≡ before ++ row_in columns (shown_line (get_or lines i d)) ∷ [] → before ≡ start ++ map (row_in columns) (shown_lines (take i lines)) → now ≡ start ++ map (row_in columns) (shown_lines (take (i + 1) lines))
made_step columns lines i d start before now low one so_far =
    let line = get_or lines i d in
    let rest = map (row_in columns) (shown_lines (take i lines)) in
    one ∙ ap (λ l. l ++ row_in columns (shown_line line) ∷ []) so_far
    ∙ append_assoc start rest (row_in columns (shown_line line) ∷ [])
    ∙ ap (λ l. start ++ l) (sym (ap (λ l. map (row_in columns) (shown_lines l)) (take_more lines i d low)
    ∙ ap (λ l. map (row_in columns) l) (map-append shown_line (take i lines) (line ∷ [])) ∙ map-append (row_in columns) (shown_lines (take i lines)) (shown_line line ∷ [])))

-- ---- what a call adds

pub on_ok : {A E P Q : Type 0} (r : Result A E) → (P → Q) → OnOk r P → OnOk r Q
on_ok (Ok x) f p = f p
on_ok (Err e) f p = tt

pub if_ok : {X Y : Type 0} (r : Result X Y) {P Q : X → Type 0} → IfOk r P → ((x : X) → P x → Q x) → IfOk r Q
if_ok (Ok x) h f = f x h
if_ok (Err e) h f = tt

-- the number and the body of a line are those that are read of it
line_is : (line : sql.Row) (x : ℕ × List ℕ) (id : ℕ) (body : List ℕ) → line ≡ line_at x → sql.column line 0 ≡ Int (pos id) → sql.column line 1 ≡ Blob body → (id, body) ≡ x
line_is line x id body is number bytes =
    let n : Int (pos id) ≡ Int (pos x.0) = sym number ∙ ap (λ r. sql.column r 0) is in
    let b : Blob body ≡ Blob x.1 = sym bytes ∙ ap (λ r. sql.column r 1) is in
    let same_number : id ≡ x.0 = cc in
    let same_body : body ≡ x.1 = cc in
    ap₂ pair_of same_number same_body

pub row_kept : (c : TableChanges) (columns : List Column) (line : sql.Row) (id : ℕ) (body : List ℕ) (x : ℕ × List ℕ) (before now : List Row) → sql.column line 0 ≡ Int (pos id) → sql.column line 1 ≡ Blob body → line ≡ line_at x → x.0 ≤ c.first
    → (m : Made) → shown m ≡ made_of c id → m ≡ Same → now ≡ before ++ row_in columns (id, body) ∷ [] → now ≡ before ++ map (row_in columns) (unchanged c (x ∷ []))
row_kept c columns line id body x before now number bytes is low m made same pushed =
    let here = line_is line x id body is number bytes in
    let none : made_of c x.0 ≡ None = ap (λ (y : ℕ × List ℕ). made_of c y.0) (sym here) ∙ sym made ∙ ap shown same in
    pushed ∙ ap (λ y. before ++ row_in columns y ∷ []) here ∙ ap (λ l. before ++ map (row_in columns) l) (sym (same_line c x none low))

pub row_gone : (c : TableChanges) (columns : List Column) (line : sql.Row) (id : ℕ) (body : List ℕ) (x : ℕ × List ℕ) (before : List Row) → sql.column line 0 ≡ Int (pos id) → sql.column line 1 ≡ Blob body → line ≡ line_at x → x.0 ≤ c.first
    → (m : Made) (o : Option (List ℕ)) → shown m ≡ made_of c id → shown m ≡ Some o → before ≡ before ++ map (row_in columns) (unchanged c (x ∷ []))
row_gone c columns line id body x before number bytes is low m o made other =
    let here = line_is line x id body is number bytes in
    let some : made_of c x.0 ≡ Some o = ap (λ (y : ℕ × List ℕ). made_of c y.0) (sym here) ∙ sym made ∙ other in
    sym (ap (λ l. before ++ map (row_in columns) l) (other_line c x o some low) ∙ append-nil before)

pub row_made : (c : TableChanges) (columns : List Column) (line : sql.Row) (id : ℕ) (body : List ℕ) (x : ℕ × List ℕ) (before : List Row) → sql.column line 0 ≡ Int (pos id) → sql.column line 1 ≡ Blob body → line ≡ line_at x → x.0 ≤ c.first
    → (m : Made) (b : Bor (List ℕ)) → shown m ≡ made_of c id → m ≡ Body b → before ≡ before ++ map (row_in columns) (unchanged c (x ∷ []))
row_made c columns line id body x before number bytes is low m b made other = row_gone c columns line id body x before number bytes is low m (Some b.now) made (ap shown other)

-- ---- numbers of rows

pub whole_of : (z : ℤ) (id : ℕ) → FitsUnsignedBits 32 z × (id ≡ unsigned_abs z) → z ≡ pos id
whole_of (pos n) id h = ap pos (sym h.1)
whole_of (negsuc n) id h = absurd h.0

pub id_read : (line : sql.Row) (number : ℤ) (o : Option ℕ) → sql.column line 0 ≡ Int number → IfSome o (λ id. number ≡ pos id) → IfSome o (λ id. sql.column line 0 ≡ Int (pos id))
id_read line number None is told = tt
id_read line number (Some id) is told = is ∙ ap Int told
