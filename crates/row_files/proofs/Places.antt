-- Columns by their names and numbers.
use Rattle.std.proofs.Common.{◌≡◌, ◌≢◌, ◌∙◌, ℕ, zero, suc, ◌+◌, ◌-◌, ◌<◌, ◌==◌, ◌&&◌, ◌||◌, Bool, true, false, not, cond, bytes_eq, List, [], ◌∷◌, ◌++◌, length, map, Some, None, is_some, refl, sym, ap, ap₂, subst, append_assoc, arith}
use Rattle.std.specs.Prelude.{option_map, slice_get, unwrap_or}
use Rattle.std.specs.List.{AllByRecursion, position}
use Rattle.std.proofs.lemmas.Bool.{eq-eqb, ne_eqb}
use Rattle.std.proofs.lemmas.Grind.{common_steps}
use Rattle.std.proofs.lemmas.List.{length-append, map-append}
use Rattle.std.proofs.lemmas.Option.{same_Some}
use Rattle.std.proofs.lemmas.Slice.Eq.{bytes_eq-Decides}
use Rattle.fx_core.specs.Lawful.{AreDistinct, DiffersFromAll}
use Rattle.fx_core.specs.declared.schema.Column.{Column}
use Rattle.row_files.specs.Batches.{bad_name, column_at, is_among, number_of, numbers_of}
use Rattle.row_files.specs.Laws.{numbers_from}

-- ---- the first that passes

pub position_here : {X : Type 0} (p : X → Bool) (x : X) (xs : List X) → p x ≡ true → position p (x ∷ xs) ≡ Some 0
position_here p x xs e = grind (arith, common_steps, e)

pub position_past : {X : Type 0} (p : X → Bool) (x : X) (xs : List X) → p x ≡ false → position p (x ∷ xs) ≡ option_map suc (position p xs)
position_past p x xs e = grind (arith, common_steps, e)

pub position_none : {X : Type 0} (p : X → Bool) (xs : List X) → AllByRecursion (λ x. p x ≡ false) xs → position p xs ≡ None
position_none p [] h = refl
position_none p (x ∷ xs) h = position_past p x xs h.0 ∙ ap (option_map suc) (position_none p xs h.1)

position_mid : {X : Type 0} (p : X → Bool) (front : List X) (x : X) (back : List X) → AllByRecursion (λ y. p y ≡ false) front → p x ≡ true → position p (front ++ x ∷ back) ≡ Some (length front)
position_mid p [] x back h e = position_here p x back e
position_mid p (y ∷ ys) x back h e = position_past p y (ys ++ x ∷ back) h.0 ∙ ap (option_map suc) (position_mid p ys x back h.1 e)

-- ---- names

abbrev pub name : Column → List ℕ
name c = c.name

other_bytes : (a b : List ℕ) → a ≢ b → bytes_eq a b ≡ false
other_bytes a b differ = by (bytes_eq a b) refl
  where
    by : (t : Bool) → bytes_eq a b ≡ t → t ≡ false
    by true e = absurd (differ ((bytes_eq-Decides a b).0 e))
    by false e = refl

differs_mid : (n : List ℕ) (front : List Column) (c : Column) (rest : List Column) → DiffersFromAll n (map name (front ++ c ∷ rest)) → n ≢ c.name
differs_mid n [] c rest h = h.0
differs_mid n (y ∷ ys) c rest h = differs_mid n ys c rest h.1

-- no column before one has its name
others_before : (front : List Column) (c : Column) (rest : List Column) → AreDistinct (map name (front ++ c ∷ rest)) → AllByRecursion (λ (y : Column). bytes_eq y.name c.name ≡ false) front
others_before [] c rest h = tt
others_before (y ∷ ys) c rest h = (other_bytes y.name c.name (differs_mid y.name ys c rest h.0), others_before ys c rest h.1)

number_mid : (columns front : List Column) (c : Column) (rest : List Column) → columns ≡ front ++ c ∷ rest → AreDistinct (map name columns) → number_of c.name columns ≡ Some (suc (length front))
number_mid columns front c rest e h =
    ap (number_of c.name) e
    ∙ ap (option_map suc) (position_mid (λ (d : Column). bytes_eq d.name c.name) front c rest (others_before front c rest (subst (λ cs. AreDistinct (map name cs)) e h)) ((bytes_eq-Decides c.name c.name).1 refl))

none_among : (n : List ℕ) (front : List Column) → AllByRecursion (λ (y : Column). bytes_eq y.name n ≡ false) front → is_among n (map name front) ≡ false
none_among n [] h = refl
none_among n (y ∷ ys) h = ap₂ (λ a b. a || b) h.0 (none_among n ys h.1)

pub one_more : (front : List Column) (c : Column) (rest : List Column) (columns : List Column) → columns ≡ front ++ c ∷ rest → columns ≡ (front ++ c ∷ []) ++ rest
one_more front c rest columns e = e ∙ sym (append_assoc front (c ∷ []) rest)

pub longer : (front : List Column) (c : Column) → length (front ++ c ∷ []) ≡ length front + 1
longer front c = length-append front (c ∷ [])

-- the names of all columns are no bad ones
pub no_bad : (columns front rest : List Column) → columns ≡ front ++ rest → AreDistinct (map name columns) → bad_name columns (map name front) (map name rest) ≡ None
no_bad columns front [] e h = refl
no_bad columns front (c ∷ rest) e h =
    ap₂ (λ o b. cond (is_some o && not b) (bad_name columns (map name front ++ c.name ∷ []) (map name rest)) (Some c.name))
    (number_mid columns front c rest e h) (none_among c.name front (others_before front c rest (subst (λ cs. AreDistinct (map name cs)) e h)))
    ∙ ap (λ ns. bad_name columns ns (map name rest)) (sym (map-append name front (c ∷ [])))
    ∙ no_bad columns (front ++ c ∷ []) rest (one_more front c rest columns e) h

-- and their numbers are those of all columns
pub all_numbers : (columns front rest : List Column) → columns ≡ front ++ rest → AreDistinct (map name columns) → numbers_of columns (map name rest) ≡ numbers_from (length front + 1) rest
all_numbers columns front [] e h = refl
all_numbers columns front (c ∷ rest) e h =
    let k : suc (length front) ≡ length front + 1 = omega arith in
    ap₂ (λ m ms. m ∷ ms) (ap (λ o. unwrap_or o 0) (number_mid columns front c rest e h) ∙ k)
    (all_numbers columns (front ++ c ∷ []) rest (one_more front c rest columns e) h ∙ ap (λ m. numbers_from (m + 1) rest) (longer front c))

-- ---- the key

among_at : (columns : List Column) (i : ℕ) (c : Column) → slice_get columns i ≡ Some c → is_among c.name (map name columns) ≡ true
among_at [] i c e = absurd cc
among_at (x ∷ xs) zero c e = ap₂ (λ a b. a || b) (ap (λ (y : Column). bytes_eq y.name c.name) (same_Some x c e) ∙ (bytes_eq-Decides c.name c.name).1 refl) refl
among_at (x ∷ xs) (suc i) c e = either (bytes_eq x.name c.name) (is_among c.name (map name xs)) (among_at xs i c e)
  where
    either : (a b : Bool) → b ≡ true → (a || b) ≡ true
    either true b h = refl
    either false b h = h

pub key_among : (columns : List Column) (key : ℕ) (c : Column) → column_at columns key ≡ Some c → is_among c.name (map name columns) ≡ true
key_among columns key c e = among_at columns (key - 1) c e

pub place_from : (columns : List Column) (k i : ℕ) → i < length columns → position (λ m. m == (k + i)) (numbers_from k columns) ≡ Some i
place_from [] k i h = absurd (omega (arith, h))
place_from (c ∷ cs) k zero h = position_here (λ m. m == (k + 0)) k (numbers_from (k + 1) cs) (eq-eqb k (k + 0) (omega arith))
place_from (c ∷ cs) k (suc i) h =
    let on : k + suc i ≡ k + 1 + i = omega arith in
    position_past (λ m. m == (k + suc i)) k (numbers_from (k + 1) cs) (ne_eqb k (k + suc i) (omega arith))
    ∙ ap (λ n. option_map suc (position (λ m. m == n) (numbers_from (k + 1) cs))) on
    ∙ ap (option_map suc) (place_from cs (k + 1) i (omega (arith, h)))

-- ---- columns by their numbers

slice_mid : (front : List Column) (c : Column) (rest : List Column) → slice_get (front ++ c ∷ rest) (length front) ≡ Some c
slice_mid [] c rest = refl
slice_mid (y ∷ ys) c rest = slice_mid ys c rest

pub column_mid : (columns front : List Column) (c : Column) (rest : List Column) → columns ≡ front ++ c ∷ rest → column_at columns (length front + 1) ≡ Some c
column_mid columns front c rest e =
    let k : length front + 1 - 1 ≡ length front = omega arith in
    ap₂ (λ cs i. slice_get cs i) e k ∙ slice_mid front c rest
