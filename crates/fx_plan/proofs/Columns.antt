-- The values of a row by its columns' names, and by their numbers.
use Rattle.std.proofs.Common.{◌≡◌, ℕ, suc, ◌+◌, List, [], ◌∷◌, length, Bool, true, false, bytes_eq, Option, Some, None, refl, sym, ap, ◌∙◌, arith}
use Rattle.std.specs.Prelude.{cond, nat_lt, not, option_map, position, if◌then◌else◌}
use Rattle.std.specs.List.{position_or_len}
use Rattle.std.proofs.lemmas.Bool.{ltb-true, ltb-false, lt-ltb, le-ltb}
use Rattle.std.specs.Cmp.Lexicographic.{slice_cmp}
use Rattle.std.specs.Ordering.{is_lt, nat_cmp}
use Rattle.std.proofs.lemmas.Slice.Eq.{bytes_eq-Decides}
use Rattle.fx_types.specs.Values.{Data, blank, field_list}
use Rattle.fx_plan.specs.QueryExpressions.{column_number}
use Rattle.fx_value.specs.Columns.{with_field}
use Rattle.fx_value.specs.Columns.{Row as Fields}
use Rattle.fx_core.specs.declared.schema.Column.{Column}
use Rattle.fx_core.specs.declared.schema.TableShape.{TableShape}
use Rattle.fx_core.specs.Lawful.{AreDistinct, DiffersFromAll, IsLawfulTable, id_name}
use Rattle.fx_value.specs.Coercion.{field_or_blank}
use Rattle.row_queries.specs.declared.rows.Row.{Row}
use Rattle.row_queries.specs.TableRows.{AreCellsOf, IsRowOf, id_value, record_of_row, value_at, values_of, cells_by_name}
use Rattle.row_queries.proofs.Lacking.{AllLack, Lacks, all_lack_one, all_lack_put, names_of}

-- the value under a name
abbrev under : List ℕ → Fields → Data
under n fs = field_or_blank n (field_list fs)

-- the place of what passes first, element by element
pub position_step : {A : Type 0} (p : A → Bool) (x : A) (xs : List A) → position p (x ∷ xs) ≡ (if p x then Some 0 else option_map suc (position p xs))
position_step {A} p x xs = by (p x)
  where
    n : ℕ
    n = position_or_len p xs

    inner : (b : Bool) → nat_lt n (length xs) ≡ b → cond (nat_lt (1 + n) (suc (length xs))) (Some (1 + n)) None ≡ option_map suc (cond b (Some n) None)
    inner true e =
        let l = ltb-true n (length xs) e in
        ap (λ (b : Bool). cond b (Some (1 + n)) None) (lt-ltb (1 + n) (suc (length xs)) (omega (arith, l))) ∙ ap Some (omega arith)
    inner false e =
        let l = ltb-false n (length xs) e in
        ap (λ (b : Bool). cond b (Some (1 + n)) None) (le-ltb (1 + n) (suc (length xs)) (omega (arith, l)))

    by : (b : Bool) → cond (nat_lt (cond (not b) (1 + n) 0) (suc (length xs))) (Some (cond (not b) (1 + n) 0)) None ≡ (if b then Some 0 else option_map suc (position p xs))
    by true = ap (λ (b : Bool). cond b (Some 0) None) (lt-ltb 0 (suc (length xs)) (omega arith))
    by false = inner (nat_lt n (length xs)) refl

choice_swap : {A : Type 0} (a b : Bool) (x y z : A) → (a ≡ true → b ≡ true → ⊥) → (if a then x else (if b then y else z)) ≡ (if b then y else (if a then x else z))
choice_swap true true x y z n = absurd (n refl refl)
choice_swap true false x y z n = refl
choice_swap false true x y z n = refl
choice_swap false false x y z n = refl

put_under : (n m : List ℕ) (d : Data) (fs : Fields) → Lacks m fs → under n (with_field m d fs) ≡ (if bytes_eq m n then d else under n fs)
put_under n m d [] l = refl
put_under n m d (f ∷ fs) l = by (is_lt (slice_cmp nat_cmp m f.0)) (put_under n m d fs l.1)
  where
    never : bytes_eq f.0 n ≡ true → bytes_eq m n ≡ true → ⊥
    never e g = l.0 ((bytes_eq-Decides m n).0 g ∙ sym ((bytes_eq-Decides f.0 n).0 e))

    by : (b : Bool) → under n (with_field m d fs) ≡ (if bytes_eq m n then d else under n fs) →
        under n (if b then (m, d) ∷ f ∷ fs else f ∷ with_field m d fs) ≡ (if bytes_eq m n then d else under n (f ∷ fs))
    by true h = refl
    by false h =
        ap (λ (x : Data). if bytes_eq f.0 n then f.1 else x) h
        ∙ choice_swap (bytes_eq f.0 n) (bytes_eq m n) f.1 d (under n fs) never

abbrev place_of : List ℕ → List Column → Option ℕ
place_of n cs = position (λ (c : Column). bytes_eq c.name n) cs

-- the value at a place, if there is one
abbrev at_place : Option ℕ → List Data → Data → Data
at_place None ds x = x
at_place (Some i) ds x = value_at ds i

nowhere : (n m : List ℕ) (cs : List Column) → m ≡ n → DiffersFromAll m (names_of cs) → place_of n cs ≡ None
nowhere n m [] e a = refl
nowhere n m (c ∷ cs) e a = position_step (λ (d : Column). bytes_eq d.name n) c cs ∙ by (bytes_eq c.name n) refl (nowhere n m cs e a.1)
  where
    by : (b : Bool) → bytes_eq c.name n ≡ b → place_of n cs ≡ None → (if b then Some 0 else option_map suc (place_of n cs)) ≡ None
    by true q h = absurd (a.0 (e ∙ sym ((bytes_eq-Decides c.name n).0 q)))
    by false q h = ap (option_map suc) h

next_place : (o : Option ℕ) (d : Data) (ds : List Data) (x : Data) → at_place (option_map suc o) (d ∷ ds) x ≡ at_place o ds x
next_place None d ds x = refl
next_place (Some i) d ds x = refl

cells_under : (n : List ℕ) (cs : List Column) (ds : List Data) (fs : Fields) → AreCellsOf cs ds → AreDistinct (names_of cs) → AllLack cs fs →
    under n (cells_by_name cs ds fs) ≡ at_place (place_of n cs) ds (under n fs)
cells_under n [] [] fs a x l = refl
cells_under n (c ∷ cs) (d ∷ ds) fs a x l =
    cells_under n cs ds (with_field c.name d fs) a.2 x.1 (all_lack_put c.name d cs fs x.0 l.1)
    ∙ ap (λ (y : Data). at_place (place_of n cs) ds y) (put_under n c.name d fs l.0)
    ∙ by (bytes_eq c.name n) refl
    ∙ ap (λ (o : Option ℕ). at_place o (d ∷ ds) (under n fs)) (sym (position_step (λ (k : Column). bytes_eq k.name n) c cs))
  where
    by : (b : Bool) → bytes_eq c.name n ≡ b →
        at_place (place_of n cs) ds (if b then d else under n fs) ≡ at_place (if b then Some 0 else option_map suc (place_of n cs)) (d ∷ ds) (under n fs)
    by true q = ap (λ (o : Option ℕ). at_place o ds d) (nowhere n c.name cs ((bytes_eq-Decides c.name n).0 q) x.0)
    by false q = sym (next_place (place_of n cs) d ds (under n fs))
cells_under n [] (d ∷ ds) fs a x l = absurd a
cells_under n (c ∷ cs) [] fs a x l = absurd a

-- a column under its name is the value at its number
pub column_worth : (t : TableShape) (r : Row) (n : List ℕ) (i : ℕ) → IsLawfulTable t → IsRowOf t r → column_number t n ≡ Some i → under n (record_of_row t r) ≡ value_at (values_of r) i
column_worth t r n i l h e =
    cells_under n t.columns r.cells ((id_name, id_value r.id) ∷ []) h.1 l.2.1 (all_lack_one id_name (id_value r.id) t.columns l.2.0)
    ∙ by (bytes_eq n id_name) refl e
  where
    other : (o : Option ℕ) → option_map suc o ≡ Some i → (x : Data) → at_place o r.cells x ≡ value_at (values_of r) i
    other None q x = absurd cc
    other (Some j) q x = let same : suc j ≡ i = cc in ap (value_at (values_of r)) same

    by : (b : Bool) → bytes_eq n id_name ≡ b → (if b then Some 0 else option_map suc (place_of n t.columns)) ≡ Some i →
        at_place (place_of n t.columns) r.cells (if bytes_eq id_name n then id_value r.id else blank) ≡ value_at (values_of r) i
    by true q k =
        let same : id_name ≡ n = sym ((bytes_eq-Decides n id_name).0 q) in
        let first : 0 ≡ i = cc in
        let own : bytes_eq id_name n ≡ true = (bytes_eq-Decides id_name n).1 same in
        ap (λ (o : Option ℕ). at_place o r.cells (if bytes_eq id_name n then id_value r.id else blank)) (nowhere n id_name t.columns same l.2.0)
        ∙ ap (λ (b : Bool). if b then id_value r.id else blank) own ∙ ap (value_at (values_of r)) first
    by false q k = other (place_of n t.columns) k (if bytes_eq id_name n then id_value r.id else blank)
