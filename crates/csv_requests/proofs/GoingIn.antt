-- The lines of batches go into the table that they were read for.
use Rattle.std.proofs.Common.{◌≡◌, ◌≢◌, ◌∙◌, ℕ, zero, suc, ◌+◌, ◌-◌, ◌≤◌, ◌==◌, ◌||◌, Bool, true, false, not, cond, nat_lt, bytes_eq, List, [], ◌∷◌, ◌++◌, length, map, Option, Some, None, refl, sym, ap, ap₂, subst, append_assoc, arith}
use Rattle.std.specs.Prelude.{ℤ, IfSome, IsSome, IsSomeAnd, option_and_then, option_map, slice_get, unwrap_or, Result, Ok, Err}
use Rattle.std.specs.List.{AllByRecursion, list_any, position}
use Rattle.std.specs.Cmp.{IsTotalOrder}
use Rattle.std.proofs.lemmas.Bool.Decides.{nat_tests}
use Rattle.std.proofs.lemmas.Bool.{eq-eqb, or_parts, or_right}
use Rattle.std.proofs.lemmas.List.{append-nil}
use Rattle.std.proofs.lemmas.List.Elements.{All-from_recursion}
use Rattle.std.proofs.lemmas.Option.{same_Some}
use Rattle.std.proofs.lemmas.Slice.Eq.{bytes_eq-Decides}
use Rattle.fx_types.specs.TypeView.{shape}
use Rattle.fx_types.specs.Types.{Shape, blanks, numbers, texts, booleans, dates, records, tables}
use Rattle.fx_types.specs.Values.{Data, blank, number, text, boolean, date}
use Rattle.fx_types.specs.Words.{scalars_of}
use Rattle.fx_core.specs.declared.schema.Column.{Column}
use Rattle.fx_value.specs.Fits.{fits_in}
use Rattle.fx_value.specs.Order.{IsScalar, order}
use Rattle.field_texts.specs.Fields.{spelled_in, value_of}
use Rattle.field_texts.specs.Spelled.{spelled_day, spelled_number, spelled_truth}
use Rattle.row_queries.specs.TableRows.{value_at}
use Rattle.row_keeper.specs.RowRules.{is_same_key}
use Rattle.row_keeper.specs.Rules.{FitsColumn}
use Rattle.row_files.specs.Batches.{bad_name, batch_in, batch_of, batch_with, cell_of, cells_of, column_at, count_refusal, has_key, header_of, if_unique, is_among, is_blank, key_named, key_place, key_refusal, key_rule, lacking_key, length_refusal, line_of, lines_of, name_at, number_of, numbers_of, refused_name}
use Rattle.row_files.specs.Ends.{and_then, unless}
use Rattle.row_files.specs.Records.{Fields}
use Rattle.row_files.specs.declared.batches.Batch.{Batch}
use Rattle.row_files.specs.declared.ends.BatchEnd.{BatchEnd}
use Rattle.row_files.specs.declared.ends.BatchEnd.TheVariants.{Refused}
use Rattle.row_files.specs.declared.ends.ImportRule.TheVariants as rule
use Rattle.row_files.proofs.Places.{position_here, position_past}
use Rattle.row_imports.specs.Imports.{given_for, key_of}
use Rattle.row_imports.specs.Laws.{HasOtherKey, HaveKeys}
use Rattle.row_imports.specs.Lines.{FitsNumber, IsLineOf, IsUniqueAt}
use Rattle.row_imports.specs.declared.lines.Heading.{Heading}
use Rattle.row_imports.proofs.Repeats.{same_ok}
use Rattle.row_imports.proofs.Rows.{turned_same}
use Rattle.csv_requests.specs.Laws.{BatchesGoIn, GoIn, heading_of}

-- ---- what was accepted

ok_then : {A B : Type 0} (r : Result A BatchEnd) (go : A → Result B BatchEnd) (b : B) → and_then r go ≡ Ok b → (a : A) × (r ≡ Ok a) × (go a ≡ Ok b)
ok_then (Ok a) go b e = (a, refl, e)
ok_then (Err x) go b e = absurd cc

ok_unless : {A : Type 0} (o : Option BatchEnd) (r : Result A BatchEnd) (a : A) → unless o r ≡ Ok a → (o ≡ None) × (r ≡ Ok a)
ok_unless None r a e = (refl, e)
ok_unless (Some x) r a e = absurd cc

none_mapped : {A B : Type 0} (f : A → B) (o : Option A) → option_map f o ≡ None → o ≡ None
none_mapped f None e = refl
none_mapped f (Some x) e = absurd cc

-- ---- what fields spell fits

abbrev Fits : Shape → Data → Type 0
Fits t d = IsScalar d × (fits_in d t ≡ true)

of_number : (o : Option ℤ) (d : Data) → option_map number o ≡ Some d → Fits numbers d
of_number None d e = absurd cc
of_number (Some z) d e = subst (Fits numbers) (same_Some (number z) d e) (tt, refl)

of_truth : (o : Option Bool) (d : Data) → option_map boolean o ≡ Some d → Fits booleans d
of_truth None d e = absurd cc
of_truth (Some b) d e = subst (Fits booleans) (same_Some (boolean b) d e) (tt, refl)

of_day : (o : Option ℤ) (d : Data) → option_map date o ≡ Some d → Fits dates d
of_day None d e = absurd cc
of_day (Some z) d e = subst (Fits dates) (same_Some (date z) d e) (tt, refl)

spelled_fits : (t : Shape) (s : List ℕ) (d : Data) → spelled_in t s ≡ Some d → Fits t d
spelled_fits blanks s d e = absurd cc
spelled_fits numbers s d e = of_number (spelled_number s) d e
spelled_fits texts s d e = subst (Fits texts) (same_Some (text (scalars_of s)) d e) (tt, refl)
spelled_fits booleans s d e = of_truth (spelled_truth s) d e
spelled_fits dates s d e = of_day (spelled_day s) d e
spelled_fits (records cs) s d e = absurd cc
spelled_fits (tables cs) s d e = absurd cc

value_fits : (t : Shape) (s : List ℕ) (d : Data) → value_of t s ≡ Some d → Fits t d
value_fits t [] d e = subst (Fits t) (same_Some blank d e) (tt, refl)
value_fits t (c ∷ cs) d e = spelled_fits t (c ∷ cs) d e

cell_fits : (o : Option Column) (at : ℕ) (f : List ℕ) (d : Data) → cell_of o at f ≡ Ok d → IsSomeAnd o (λ (c : Column). Fits (shape c.ty) d)
cell_fits None at f d e = absurd cc
cell_fits (Some c) at f d e = by (value_of (shape c.ty) f) refl e
  where
    by : (v : Option Data) → value_of (shape c.ty) f ≡ v → unwrap_or (option_map Ok v) (Err (Refused at c.name rule.Kind)) ≡ Ok d → Fits (shape c.ty) d
    by None q p = absurd cc
    by (Some x) q p = value_fits (shape c.ty) f d (q ∙ ap Some (same_ok (unwrap_or (option_map Ok (Some x)) (Err (Refused at c.name rule.Kind))) x d refl p))

fits_column : (columns : List Column) (k : ℕ) (d : Data) → IsSomeAnd (slice_get columns k) (λ (c : Column). Fits (shape c.ty) d) → FitsColumn columns k d
fits_column [] k d h = absurd h
fits_column (c ∷ cs) zero d h = h
fits_column (c ∷ cs) (suc k) d h = fits_column cs k d h

-- ---- what a line gives

given_cons : (n : ℕ) (ns : List ℕ) (d : Data) (ds : List Data) (k : ℕ) → given_for (n ∷ ns) (d ∷ ds) k ≡ cond (n == k) (Some d) (given_for ns ds k)
given_cons n ns d ds k = by (n == k) refl
  where
    over : (o : Option ℕ) → option_and_then (slice_get (d ∷ ds)) (option_map suc o) ≡ option_and_then (slice_get ds) o
    over None = refl
    over (Some i) = refl

    by : (b : Bool) → (n == k) ≡ b → given_for (n ∷ ns) (d ∷ ds) k ≡ cond b (Some d) (given_for ns ds k)
    by true e = ap (option_and_then (slice_get (d ∷ ds))) (position_here (λ m. m == k) n ns e)
    by false e = ap (option_and_then (slice_get (d ∷ ds))) (position_past (λ m. m == k) n ns e) ∙ over (position (λ m. m == k) ns)

equal : (a b : ℕ) → (a == b) ≡ true → a ≡ b
equal a b e = grind (arith, e)

-- what the cells of a record give in a column fits it
abbrev GivenFits : List Column → List ℕ → List Data → ℕ → Type 0
GivenFits columns ns line k = IfSome (given_for ns line (suc k)) (λ d. FitsColumn columns k d)

one_fits : (columns : List Column) (n : ℕ) (ns : List ℕ) (d : Data) (ds : List Data) (k : ℕ) → IsSomeAnd (column_at columns n) (λ (c : Column). Fits (shape c.ty) d) → GivenFits columns ns ds k → GivenFits columns (n ∷ ns) (d ∷ ds) k
one_fits columns n ns d ds k h ih = subst (λ o. IfSome o (λ x. FitsColumn columns k x)) (sym (given_cons n ns d ds (suc k))) (by (n == suc k) refl)
  where
    by : (b : Bool) → (n == suc k) ≡ b → IfSome (cond b (Some d) (given_for ns ds (suc k))) (λ x. FitsColumn columns k x)
    by true e =
        let same = equal n (suc k) e in
        let place : n - 1 ≡ k = omega (arith, same) in
        fits_column columns k d (subst (λ m. IsSomeAnd (slice_get columns m) (λ (c : Column). Fits (shape c.ty) d)) place h)
    by false e = ih

none_given : (P : Data → Type 0) (o : Option ℕ) → IfSome (option_and_then (slice_get []) o) P
none_given P None = tt
none_given P (Some i) = tt

cells_fit : (columns : List Column) (at : ℕ) (ns : List ℕ) (fs : Fields) (line : List Data) → cells_of columns at ns fs ≡ Ok line → (k : ℕ) → GivenFits columns ns line k
cells_fit columns at [] fs line e k = tt
cells_fit columns at (n ∷ ns) [] line e k =
    subst (λ xs. GivenFits columns (n ∷ ns) xs k) (same_ok (cells_of columns at (n ∷ ns) []) [] line refl e) (none_given (λ d. FitsColumn columns k d) (position (λ m. m == suc k) (n ∷ ns)))
cells_fit columns at (n ∷ ns) (f ∷ fs) line e k =
    let one = ok_then (cell_of (column_at columns n) at f) (λ d. and_then (cells_of columns at ns fs) (λ ds. Ok (d ∷ ds))) line e in
    let two = ok_then (cells_of columns at ns fs) (λ ds. Ok (one.0 ∷ ds)) line one.2 in
    subst (λ xs. GivenFits columns (n ∷ ns) xs k) (same_ok (Ok (one.0 ∷ two.0)) (one.0 ∷ two.0) line refl two.2)
    (one_fits columns n ns one.0 two.0 k (cell_fits (column_at columns n) at f one.0 one.1) (cells_fit columns at ns fs two.0 two.1 k))

cells_many : (columns : List Column) (at : ℕ) (ns : List ℕ) (fs : Fields) (line : List Data) → cells_of columns at ns fs ≡ Ok line → length fs ≡ length ns → length line ≡ length ns
cells_many columns at [] fs line e l = ap length (sym (same_ok (cells_of columns at [] fs) [] line refl e))
cells_many columns at (n ∷ ns) [] line e l = absurd (omega (arith, l))
cells_many columns at (n ∷ ns) (f ∷ fs) line e l =
    let one = ok_then (cell_of (column_at columns n) at f) (λ d. and_then (cells_of columns at ns fs) (λ ds. Ok (d ∷ ds))) line e in
    let two = ok_then (cells_of columns at ns fs) (λ ds. Ok (one.0 ∷ ds)) line one.2 in
    ap length (sym (same_ok (Ok (one.0 ∷ two.0)) (one.0 ∷ two.0) line refl two.2)) ∙ ap suc (cells_many columns at ns fs two.0 two.1 (omega (arith, l)))

is_given : (ns : List ℕ) (line : List Data) (key : ℕ) → length line ≡ length ns → list_any (λ n. n == key) ns ≡ true → IsSome (given_for ns line key)
is_given [] line key l e = absurd cc
is_given (n ∷ ns) [] key l e = absurd (omega (arith, l))
is_given (n ∷ ns) (d ∷ ds) key l e = subst (λ o. IsSome o) (sym (given_cons n ns d ds key)) (by (n == key) e (λ q. is_given ns ds key (omega (arith, l)) q))
  where
    by : (b : Bool) → (b || list_any (λ m. m == key) ns) ≡ true → (list_any (λ m. m == key) ns ≡ true → IsSome (given_for ns ds key)) → IsSome (cond b (Some d) (given_for ns ds key))
    by true q ih = refl
    by false q ih = ih q

-- ---- the key's column

position_is : {X : Type 0} (p : X → Bool) (xs : List X) (i : ℕ) (x : X) → position p xs ≡ Some i → slice_get xs i ≡ Some x → p x ≡ true
position_is p [] i x e f = absurd cc
position_is p (y ∷ ys) i x e f = by (λ j q r. position_is p ys j x q r) (p y) refl
  where
    later : ((j : ℕ) → position p ys ≡ Some j → slice_get ys j ≡ Some x → p x ≡ true) → (o : Option ℕ) → position p ys ≡ o → option_map suc o ≡ Some i → p x ≡ true
    later go None q r = absurd cc
    later go (Some j) q r = go j q (subst (λ m. slice_get (y ∷ ys) m ≡ Some x) (sym (same_Some (suc j) i r)) f)

    by : ((j : ℕ) → position p ys ≡ Some j → slice_get ys j ≡ Some x → p x ≡ true) → (b : Bool) → p y ≡ b → p x ≡ true
    by go true q =
        let first : 0 ≡ i = same_Some 0 i (sym (position_here p y ys q) ∙ e) in
        ap p (sym (same_Some y x (subst (λ m. slice_get (y ∷ ys) m ≡ Some x) (sym first) f))) ∙ q
    by go false q = later go (position p ys) refl (sym (position_past p y ys q) ∙ e)

record IsKey (columns : List Column) (key : ℕ) : Type 0 where
  pub place : ℕ
  pub is : key ≡ suc place
  pub column : Column
  pub there : slice_get columns place ≡ Some column
  pub unique : column.unique ≡ true
  pub named : number_of column.name columns ≡ Some key

key_is : (name : List ℕ) (columns : List Column) (key : ℕ) → key_named name columns ≡ Some key → IsKey columns key
key_is name columns key e = at (position (λ (x : Column). bytes_eq x.name name) columns) refl e
  where
    found : (i : ℕ) (c : Column) → position (λ (x : Column). bytes_eq x.name name) columns ≡ Some i → slice_get columns i ≡ Some c → (b : Bool) → c.unique ≡ b → cond b (Some (suc i)) None ≡ Some key → IsKey columns key
    found i c q r true u k =
        let number = same_Some (suc i) key k in
        let same : c.name ≡ name = (bytes_eq-Decides c.name name).0 (position_is (λ (x : Column). bytes_eq x.name name) columns i c q r) in
        record {
          place = i;
          is = sym number;
          column = c;
          there = r;
          unique = u;
          named = ap (λ n. number_of n columns) same ∙ ap (option_map suc) q ∙ ap Some number;
        }
    found i c q r false u k = absurd cc

    by : (i : ℕ) → position (λ (x : Column). bytes_eq x.name name) columns ≡ Some i → (o : Option Column) → slice_get columns i ≡ o → if_unique (suc i) o ≡ Some key → IsKey columns key
    by i q None r k = absurd cc
    by i q (Some c) r k = found i c q r c.unique refl k

    at : (o : Option ℕ) → position (λ (x : Column). bytes_eq x.name name) columns ≡ o → option_and_then (λ k. if_unique k (column_at columns k)) (option_map suc o) ≡ Some key → IsKey columns key
    at None q k = absurd cc
    at (Some i) q k = let place : suc i - 1 ≡ i = omega arith in by i q (slice_get columns i) refl (subst (λ m. if_unique (suc i) (slice_get columns m) ≡ Some key) place k)

unique_at : (columns : List Column) (key : ℕ) → IsKey columns key → IsUniqueAt columns key
unique_at columns key k = subst (IsUniqueAt columns) (sym k.is) (subst (λ o. IsSomeAnd o (λ (c : Column). c.unique ≡ true)) (sym k.there) k.unique)

-- the key is among the header's columns
among_numbers : (columns : List Column) (name : List ℕ) (key : ℕ) (names : List (List ℕ)) → number_of name columns ≡ Some key → is_among name names ≡ true → list_any (λ n. n == key) (numbers_of columns names) ≡ true
among_numbers columns name key [] h e = absurd cc
among_numbers columns name key (n ∷ ns) h e = by (bytes_eq n name) refl e (λ q. among_numbers columns name key ns h q)
  where
    by : (b : Bool) → bytes_eq n name ≡ b → (b || is_among name ns) ≡ true → (is_among name ns ≡ true → list_any (λ m. m == key) (numbers_of columns ns) ≡ true)
        → ((unwrap_or (number_of n columns) 0 == key) || list_any (λ m. m == key) (numbers_of columns ns)) ≡ true
    by true q r ih =
        let same : n ≡ name = (bytes_eq-Decides n name).0 q in
        let number : unwrap_or (number_of n columns) 0 ≡ key = ap (λ (o : Option ℕ). unwrap_or o 0) (ap (λ x. number_of x columns) same ∙ h) in
        ap (λ t. t || list_any (λ m. m == key) (numbers_of columns ns)) (eq-eqb (unwrap_or (number_of n columns) 0) key number)
    by false q r ih = or_right (unwrap_or (number_of n columns) 0 == key) (list_any (λ m. m == key) (numbers_of columns ns)) (ih r)

key_among : (columns : List Column) (key : ℕ) (names : List (List ℕ)) → IsKey columns key → lacking_key (column_at columns key) names ≡ None → list_any (λ n. n == key) (numbers_of columns names) ≡ true
key_among columns key names k e = among_numbers columns k.column.name key names k.named (by (is_among k.column.name names) refl)
  where
    place : key - 1 ≡ k.place
    place = let q = k.is in omega (arith, q)

    here : cond (is_among k.column.name names) None (Some k.column.name) ≡ None
    here = ap (λ o. lacking_key o names) (sym (ap (slice_get columns) place ∙ k.there)) ∙ e

    by : (b : Bool) → is_among k.column.name names ≡ b → is_among k.column.name names ≡ true
    by true q = q
    by false q = absurd (let z : Some k.column.name ≡ None = ap (λ t. cond t None (Some k.column.name)) (sym q) ∙ here in cc)

-- ---- lines

-- a line that was accepted behind others
record IsLine (columns : List Column) (h : Heading) (before : List (List Data)) (line : List Data) : Type 0 where
  pub fits : IsLineOf columns h line
  pub key_fine : key_rule (key_place h.key h.columns) before (value_at line (key_place h.key h.columns)) ≡ None

abbrev AreLines : List Column → Heading → List (List Data) → List (List Data) → Type 0
AreLines columns h before [] = Unit {0}
AreLines columns h before (l ∷ ls) = IsLine columns h before l × AreLines columns h (before ++ l ∷ []) ls

key_given : (columns : List Column) (key : ℕ) (o : Option Data) → IsSome o → IfSome o (λ d. FitsNumber columns key d) → IsSomeAnd o (FitsNumber columns key)
key_given columns key None s f = absurd cc
key_given columns key (Some d) s f = f

line_is : (columns : List Column) (h : Heading) (at : ℕ) (fields : Fields) (line : List Data) → IsKey columns h.key → list_any (λ n. n == h.key) h.columns ≡ true → length fields ≡ length h.columns → cells_of columns at h.columns fields ≡ Ok line → IsLineOf columns h line
line_is columns h at fields line k among l e =
    let fit = cells_fit columns at h.columns fields line e in
    record {
      key = key_given columns h.key (given_for h.columns line h.key) (is_given h.columns line h.key (cells_many columns at h.columns fields line e l) among)
          (subst (λ n. IfSome (given_for h.columns line n) (λ d. FitsNumber columns n d)) (sym k.is) (fit k.place));
      fit = λ i below. fit i;
    }

-- lines behind others, and all of them
record Comes (columns : List Column) (h : Heading) (before all : List (List Data)) (count : ℕ) : Type 0 where
  pub lines : List (List Data)
  pub all_are : all ≡ before ++ lines
  pub are : AreLines columns h before lines
  pub many : length lines ≡ count

lines_come : (columns : List Column) (h : Heading) → IsKey columns h.key → list_any (λ n. n == h.key) h.columns ≡ true → (before : List (List Data)) (entries : List Fields) (all : List (List Data))
    → lines_of columns h.key h.columns before entries ≡ Ok all → AllByRecursion (λ (r : Fields). length r ≡ length h.columns) entries → Comes columns h before all (length entries)
lines_come columns h k among before [] all e l = record {
  lines = [];
  all_are = sym (same_ok (lines_of columns h.key h.columns before []) before all refl e) ∙ sym (append-nil before);
  are = tt;
  many = refl;
}
lines_come columns h k among before (r ∷ rs) all e l =
    let at = length before + 1 in
    let one = ok_then (line_of columns h.key h.columns before r) (λ line. lines_of columns h.key h.columns (before ++ line ∷ []) rs) all e in
    let line = one.0 in
    let two = ok_then (cells_of columns at h.columns r) (λ x. unless (key_refusal columns h.key h.columns at before x) (Ok x)) line one.1 in
    let three = ok_unless (key_refusal columns h.key h.columns at before two.0) (Ok two.0) line two.2 in
    let same : two.0 ≡ line = same_ok (Ok two.0) two.0 line refl three.1 in
    let fine : key_rule (key_place h.key h.columns) before (value_at two.0 (key_place h.key h.columns)) ≡ None =
    none_mapped (Refused at (name_at columns h.key)) (key_rule (key_place h.key h.columns) before (value_at two.0 (key_place h.key h.columns))) three.0 in
    let rest = lines_come columns h k among (before ++ line ∷ []) rs all one.2 l.1 in
    record {
      lines = line ∷ rest.lines;
      all_are = rest.all_are ∙ append_assoc before (line ∷ []) rest.lines;
      are = (
        record {
          fits = line_is columns h at r line k among l.0 (subst (λ x. cells_of columns at h.columns r ≡ Ok x) same two.1);
          key_fine = subst (λ x. key_rule (key_place h.key h.columns) before (value_at x (key_place h.key h.columns)) ≡ None) same fine;
        },
        rest.are,
      );
      many = ap suc rest.many;
    }

lines_fit : (columns : List Column) (h : Heading) (before ls : List (List Data)) → AreLines columns h before ls → AllByRecursion (IsLineOf columns h) ls
lines_fit columns h before [] a = tt
lines_fit columns h before (l ∷ ls) a = (a.0.fits, lines_fit columns h (before ++ l ∷ []) ls a.1)

-- ---- keys

-- the value at the key's place is the key
value_is : (P : Data → Type 0) (line : List Data) (o : Option ℕ) → IsSomeAnd (option_and_then (slice_get line) o) P → unwrap_or (slice_get line (unwrap_or o 0)) blank ≡ unwrap_or (option_and_then (slice_get line) o) blank
value_is P line None h = absurd h
value_is P line (Some i) h = refl

some_is : (P : Data → Type 0) (o : Option Data) → IsSomeAnd o P → o ≡ Some (unwrap_or o blank)
some_is P None h = absurd h
some_is P (Some d) h = refl

rule_parts : (place : ℕ) (before : List (List Data)) (d : Data) → key_rule place before d ≡ None → (is_blank d ≡ false) × (list_any (has_key place d) before ≡ false)
rule_parts place before d e = by (is_blank d) (list_any (has_key place d) before) refl refl e
  where
    by : (a b : Bool) → is_blank d ≡ a → list_any (has_key place d) before ≡ b → cond a (Some rule.Blank) (cond b (Some rule.Twice) None) ≡ None → (is_blank d ≡ false) × (list_any (has_key place d) before ≡ false)
    by true b p q e = absurd cc
    by false true p q e = absurd cc
    by false false p q e = (p, q)

not_blank : (d : Data) → is_blank d ≡ false → d ≢ blank
not_blank d e = λ q. clash (sym (ap is_blank q) ∙ e)
  where
    clash : true ≡ false → ⊥
    clash q = cc

any_parts : {X : Type 0} (f : X → Bool) (xs : List X) (x : X) → list_any f (xs ++ x ∷ []) ≡ false → (list_any f xs ≡ false) × (f x ≡ false)
any_parts f [] x e = (refl, (or_parts (f x) false e).0)
any_parts f (y ∷ ys) x e =
    let parts = or_parts (f y) (list_any f (ys ++ x ∷ [])) e in
    let rest = any_parts f ys x parts.1 in
    (ap₂ (λ a b. a || b) parts.0 rest.0, rest.1)

-- a line stands among others
abbrev Held : List Data → List (List Data) → Type 0
Held l before = (f : List Data → Bool) → list_any f before ≡ false → f l ≡ false

module _ (total : IsTotalOrder order) (columns : List Column) (h : Heading) where
  abbrev Key : List Data → Data
  Key l = key_of h.columns h.key l

  abbrev at_key : List Data → Data
  at_key l = value_at l (key_place h.key h.columns)

  key_at : (l : List Data) → IsLineOf columns h l → at_key l ≡ Key l
  key_at l is = value_is (FitsNumber columns h.key) l (position (λ n. n == h.key) h.columns) is.key

  others : (l : List Data) → at_key l ≡ Key l → (before ls : List (List Data)) → Held l before → AreLines columns h before ls → HasOtherKey h.columns h.key (Key l) ls
  others l e before [] held a = tt
  others l e before (m ∷ ms) held a =
      let apart : is_same_key (at_key l) (at_key m) ≡ false = held (has_key (key_place h.key h.columns) (at_key m)) (rule_parts (key_place h.key h.columns) before (at_key m) a.0.key_fine).1 in
      let these : is_same_key (Key l) (Key m) ≡ false = ap₂ (λ x y. is_same_key x y) (sym e) (sym (key_at m a.0.fits)) ∙ apart in (
        these,
        turned_same total (Key l) (Key m) these,
        others l e (before ++ m ∷ []) ms (λ f q. held f (any_parts f before m q).0) a.1,
      )

  keys_come : (before ls : List (List Data)) → AreLines columns h before ls → HaveKeys h.columns h.key ls
  keys_come before [] a = tt
  keys_come before (l ∷ ls) a =
      let e = key_at l a.0.fits in (
        some_is (FitsNumber columns h.key) (given_for h.columns l h.key) a.0.fits.key,
        subst (λ d. d ≢ blank) e (not_blank (at_key l) (rule_parts (key_place h.key h.columns) before (at_key l) a.0.key_fine).0),
        others l e (before ++ l ∷ []) ls (λ f q. (any_parts f before l q).1) a.1,
        keys_come (before ++ l ∷ []) ls a.1,
      )

-- ---- the batch

-- each passes the test where none is found that doesn't
position_all : {X : Type 0} (p : X → Bool) (xs : List X) → position p xs ≡ None → AllByRecursion (λ x. p x ≡ false) xs
position_all p [] e = tt
position_all p (x ∷ xs) e = by (λ q. position_all p xs q) (p x) refl
  where
    by : (position p xs ≡ None → AllByRecursion (λ y. p y ≡ false) xs) → (b : Bool) → p x ≡ b → (p x ≡ false) × AllByRecursion (λ y. p y ≡ false) xs
    by go true q = absurd (let z : Some 0 ≡ None = sym (position_here p x xs q) ∙ e in cc)
    by go false q = (q, go (none_mapped suc (position p xs) (sym (position_past p x xs q) ∙ e)))

as_many : (width : ℕ) (rs : List Fields) → AllByRecursion (λ (r : Fields). not (length r == width) ≡ false) rs → AllByRecursion (λ (r : Fields). length r ≡ width) rs
as_many width [] h = tt
as_many width (r ∷ rs) h = (by (length r == width) refl h.0, as_many width rs h.1)
  where
    by : (b : Bool) → (length r == width) ≡ b → not b ≡ false → length r ≡ width
    by true e q = equal (length r) width e
    by false e q = absurd cc

few_enough : (n : ℕ) → count_refusal n ≡ None → n ≤ 1000
few_enough n e = by (nat_lt 1000 n) refl e
  where
    by : (b : Bool) → nat_lt 1000 n ≡ b → cond b (Some (Refused 1001 [] rule.Long)) None ≡ None → n ≤ 1000
    by true q p = absurd cc
    by false q p = grind (arith, nat_tests, q)

numbers_many : (columns : List Column) (names : List (List ℕ)) → length (numbers_of columns names) ≡ length names
numbers_many columns [] = refl
numbers_many columns (n ∷ ns) = ap suc (numbers_many columns ns)

scalars_many : (names : List (List ℕ)) → length (map scalars_of names) ≡ length names
scalars_many [] = refl
scalars_many (n ∷ ns) = ap suc (scalars_many ns)

of_records : IsTotalOrder order → (columns : List Column) (table key : ℕ) (entries : List Fields) (b : Batch) → IsKey columns key → batch_of columns key entries ≡ Ok b → GoIn columns (heading_of table key b) b.lines
of_records total columns table key [] b k e = absurd cc
of_records total columns table key (names ∷ rs) b k e =
    let shown : List (List ℕ) = map scalars_of names in
    let even = ok_unless (length_refusal (length names) rs) (and_then (header_of columns key shown) (batch_in columns key rs)) b e in
    let header = ok_then (header_of columns key shown) (batch_in columns key rs) b even.1 in
    let named = ok_unless (refused_name (bad_name columns [] shown)) (unless (refused_name (lacking_key (column_at columns key) shown)) (Ok (numbers_of columns shown))) header.0 header.1 in
    let keyed = ok_unless (refused_name (lacking_key (column_at columns key) shown)) (Ok (numbers_of columns shown)) header.0 named.1 in
    let few = ok_unless (count_refusal (length rs)) (and_then (lines_of columns key header.0 [] rs) (batch_with header.0)) b header.2 in
    let lines = ok_then (lines_of columns key header.0 [] rs) (batch_with header.0) b few.1 in
    let whole : record { columns = header.0; lines = lines.0 } ≡ b = same_ok (batch_with header.0 lines.0) (record { columns = header.0; lines = lines.0 }) b refl lines.2 in
    let ns : numbers_of columns shown ≡ header.0 = same_ok (Ok (numbers_of columns shown)) (numbers_of columns shown) header.0 refl keyed.1 in
    let among : list_any (λ n. n == key) header.0 ≡ true = subst (λ xs. list_any (λ n. n == key) xs ≡ true) ns (key_among columns key shown k (none_mapped (λ n. Refused 0 n rule.Header) (lacking_key (column_at columns key) shown) keyed.0)) in
    let wide : length names ≡ length header.0 = sym (scalars_many names) ∙ sym (numbers_many columns shown) ∙ ap length ns in
    let h : Heading = record { table = table; key = key; columns = header.0 } in
    let odd : position (λ (r : Fields). not (length r == length names)) rs ≡ None = none_mapped (λ i. Refused (i + 1) [] rule.Csv) (position (λ (r : Fields). not (length r == length names)) rs) even.0 in
    let equal_all = subst (λ n. AllByRecursion (λ (r : Fields). length r ≡ n) rs) wide (as_many (length names) rs (position_all (λ (r : Fields). not (length r == length names)) rs odd)) in
    let come = lines_come columns h k among [] rs lines.0 lines.1 equal_all in
    let goes : GoIn columns h come.lines = record {
      unique = unique_at columns key k;
      fit = All-from_recursion (IsLineOf columns h) come.lines (lines_fit columns h [] come.lines come.are);
      keys = keys_come total columns h [] come.lines come.are;
      few = let n = few_enough (length rs) few.0 in let m = come.many in omega (arith, n, m);
    } in
    subst (λ (x : Batch). GoIn columns (heading_of table key x) x.lines) whole (subst (λ ls. GoIn columns h ls) (sym come.all_are) goes)

pub goes_in : IsTotalOrder order → BatchesGoIn
goes_in total columns name table key bytes b named (entries, are, e) = of_records total columns table key entries b (key_is name columns key named) e
