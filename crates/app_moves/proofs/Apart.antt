-- Where no move breaks a rule, no two new tables have one source, and no two new columns of one.
use Rattle.std.proofs.Common.{◌≡◌, ◌⊎◌, inl, inr, ℕ, zero, suc, ◌+◌, ◌<◌, ◌++◌, List, [], ◌∷◌, Bool, true, false, length, Option, Some, None, bytes_eq, refl, sym, ap, ◌∙◌, subst, arith, append_assoc, length-append}
use Rattle.std.specs.Prelude.{slice_get, ◌&&◌, not, is_none, is_some, option_and_then, if◌then◌else◌}
use Rattle.std.specs.List.{find, list_any}
use Rattle.std.proofs.lemmas.Bool.{cases_lt}
use Rattle.fx_core.specs.declared.schema.Column.{Column}
use Rattle.fx_core.specs.declared.schema.TableShape.{TableShape}
use Rattle.app_moves.specs.Broken.{broken_behind, broken_move, column_in, gives_table, is_fine, is_fine_by, is_fine_in, is_same_column, moves_same}
use Rattle.app_moves.specs.Moves.{column_moved_to, column_named, column_of, column_source, is_column_moved, is_moved, is_name, kept_column, kept_table, moved_to, moves_column, moves_table, or_else, source_of, table_named, target_of}
use Rattle.app_moves.specs.declared.moves.Move.{Move}
use Rattle.app_moves.proofs.Lists.{Found, as_both, both, found, in_front, is_not, is_nothing, is_same, none_passes, same}

-- each of these moves is of something else than the earlier ones
abbrev AreNew : List Move → List Move → Type 0
AreNew earlier [] = Unit {0}
AreNew earlier (m ∷ ms) = (list_any (moves_same m) earlier ≡ false) × AreNew (earlier ++ m ∷ []) ms

fine_new : (olds news : List TableShape) (moves earlier : List Move) (m : Move) (o : Option (List ℕ)) → is_fine_by olds news moves earlier m o ≡ true → list_any (moves_same m) earlier ≡ false
fine_new olds news moves earlier m None e =
    let c = list_any (moves_same m) earlier in
    let d = not (list_any (gives_table m) earlier) in
    let rest = both (is_some (table_named olds m.table)) (is_some (table_named news m.to) && (not c && d)) e in
    let last = both (is_some (table_named news m.to)) (not c && d) rest.1 in
    is_not c (both (not c) d last.1).0
fine_new olds news moves earlier m (Some name) e =
    let c = list_any (moves_same m) earlier in
    let d = is_fine_in olds news moves earlier m (target_of olds news moves m.table) in
    let rest = both (is_some (column_in olds m.table name)) (not c && d) e in
    is_not c (both (not c) d rest.1).0

behind_new : (olds news : List TableShape) (moves earlier ms : List Move) → broken_behind olds news moves earlier ms ≡ None → AreNew earlier ms
behind_new olds news moves earlier [] e = tt
behind_new olds news moves earlier (m ∷ ms) e = by (is_fine olds news moves earlier m) refl e (λ f. behind_new olds news moves (earlier ++ m ∷ []) ms f)
  where
    by : (b : Bool) → is_fine olds news moves earlier m ≡ b → (if b then broken_behind olds news moves (earlier ++ m ∷ []) ms else Some m) ≡ None
        → (broken_behind olds news moves (earlier ++ m ∷ []) ms ≡ None → AreNew (earlier ++ m ∷ []) ms) → AreNew earlier (m ∷ ms)
    by true q f rest = (fine_new olds news moves earlier m m.column q, rest f)
    by false q f rest = absurd cc

unlike : (earlier ms : List Move) → AreNew earlier ms → (i j : ℕ) (k m : Move) → slice_get (earlier ++ ms) i ≡ Some k → slice_get ms j ≡ Some m → i < length earlier + j → moves_same m k ≡ false
unlike earlier [] h i j k m a b lt = absurd cc
unlike earlier (x ∷ xs) h i zero k m a b lt =
    let is : x ≡ m = cc in
    let below : i < length earlier = omega (arith, lt) in
    none_passes (moves_same m) earlier i k (subst (λ (z : Move). list_any (moves_same z) earlier ≡ false) is h.0) (sym (in_front earlier (x ∷ xs) i below) ∙ a)
unlike earlier (x ∷ xs) h i (suc j) k m a b lt =
    unlike (earlier ++ x ∷ []) xs h.1 i j k m (subst (λ (l : List Move). slice_get l i ≡ Some k) (sym (append_assoc earlier (x ∷ []) xs)) a) b
    (let n = length-append earlier (x ∷ []) in omega (arith, lt, n))

contra : (b : Bool) → b ≡ true → b ≡ false → ⊥
contra b p q = let h : true ≡ false = sym p ∙ q in cc

-- two moves of one thing are one
one_place : (moves : List Move) → AreNew [] moves → (i j : ℕ) (k m : Move) → slice_get moves i ≡ Some k → slice_get moves j ≡ Some m → moves_same m k ≡ true → moves_same k m ≡ true → k ≡ m
one_place moves h i j k m a b s t = elim (cases_lt i j) [
  | inl lt ↦ absurd (contra (moves_same m k) s (unlike [] moves h i j k m a b (omega (arith, lt))))
  | inr le ↦ elim (cases_lt j i) [
    | inl lt ↦ absurd (contra (moves_same k m) t (unlike [] moves h j i m k b a (omega (arith, lt))))
    | inr ge ↦ let at : i ≡ j = omega (arith, le, ge) in let is : Some k ≡ Some m = sym a ∙ ap (slice_get moves) at ∙ b in cc
  ]
]

self : (o : Option (List ℕ)) → is_same_column o o ≡ true
self None = refl
self (Some n) = is_same n n refl

alike : (k m : Move) → k.table ≡ m.table → k.column ≡ m.column → moves_same m k ≡ true
alike k m t c = as_both (bytes_eq k.table m.table) (is_same_column k.column m.column) (is_same k.table m.table t)
    (subst (λ (o : Option (List ℕ)). is_same_column o m.column ≡ true) (sym c) (self m.column))

abbrev AreFine : List TableShape → List TableShape → List Move → Type 0
AreFine olds news moves = broken_move olds news moves ≡ None

one_move : (olds news : List TableShape) (moves : List Move) → AreFine olds news moves → (i j : ℕ) (k m : Move) → slice_get moves i ≡ Some k → slice_get moves j ≡ Some m → k.table ≡ m.table → k.column ≡ m.column → k ≡ m
one_move olds news moves e i j k m a b t c = one_place moves (behind_new olds news moves [] moves e) i j k m a b (alike k m t c) (alike m k (sym t) (sym c))

-- ---- tables

pub table_name : (tables : List TableShape) (n : List ℕ) (t : TableShape) → table_named tables n ≡ Some t → t.name ≡ n
table_name tables n t e = same t.name n (found (λ (u : TableShape). bytes_eq u.name n) tables t e).passes

-- a move gives a table of the old app this name
abbrev to_table : List TableShape → List ℕ → Move → Bool
to_table olds n m = bytes_eq m.to n && moves_table olds m

-- a table comes by a move
record IsMovedTo (olds : List TableShape) (moves : List Move) (n : List ℕ) (t : TableShape) : Type 0 where
  step : Move
  place : ℕ
  there : slice_get moves place ≡ Some step
  to : step.to ≡ n
  column : step.column ≡ None
  source : table_named olds step.table ≡ Some t

-- or it keeps its name
record IsKept (olds : List TableShape) (moves : List Move) (n : List ℕ) (t : TableShape) : Type 0 where
  still : is_moved moves n ≡ false
  source : table_named olds n ≡ Some t

source_by : (olds : List TableShape) (moves : List Move) (n : List ℕ) (t : TableShape) → source_of olds moves n ≡ Some t → IsMovedTo olds moves n t ⊎ IsKept olds moves n t
source_by olds moves n t e = by (find (to_table olds n) moves) refl e
  where
    kept : (b : Bool) → is_moved moves n ≡ b → (if b then None else table_named olds n) ≡ Some t → IsMovedTo olds moves n t ⊎ IsKept olds moves n t
    kept true q f = absurd cc
    kept false q f = inr (record { still = q; source = f })

    got : (m : Move) → Found (to_table olds n) moves m → (o : Option TableShape) → table_named olds m.table ≡ o → or_else o (kept_table olds moves n) ≡ Some t → IsMovedTo olds moves n t ⊎ IsKept olds moves n t
    got m r None q f = kept (is_moved moves n) refl f
    got m r (Some u) q f =
        let parts = both (bytes_eq m.to n) (moves_table olds m) r.passes in
        let of_table = both (is_none m.column) (is_some (table_named olds m.table)) parts.1 in
        inl (record { step = m; place = r.place; there = r.there; to = same m.to n parts.0; column = is_nothing m.column of_table.0; source = q ∙ f })

    by : (o : Option Move) → find (to_table olds n) moves ≡ o → or_else (option_and_then (λ (m : Move). table_named olds m.table) o) (kept_table olds moves n) ≡ Some t → IsMovedTo olds moves n t ⊎ IsKept olds moves n t
    by None q f = kept (is_moved moves n) refl f
    by (Some m) q f = got m (found (to_table olds n) moves m q) (table_named olds m.table) refl f

-- it is one of the old tables, which are found by their names
pub source_named : (olds : List TableShape) (moves : List Move) (n : List ℕ) (t : TableShape) → source_of olds moves n ≡ Some t → (m : List ℕ) × (table_named olds m ≡ Some t)
source_named olds moves n t e = elim (source_by olds moves n t e) [
  | inl a ↦ (a.step.table, a.source)
  | inr b ↦ (n, b.source)
]

not_kept : (olds : List TableShape) (moves : List Move) (x y : List ℕ) (t : TableShape) → IsMovedTo olds moves x t → IsKept olds moves y t → ⊥
not_kept olds moves x y t a b =
    let table : a.step.table ≡ y = sym (table_name olds a.step.table t a.source) ∙ table_name olds y t b.source in
    let moved : (is_none a.step.column && bytes_eq a.step.table y) ≡ true = as_both (is_none a.step.column) (bytes_eq a.step.table y) (ap (λ (o : Option (List ℕ)). is_none o) a.column) (is_same a.step.table y table) in
    contra (is_none a.step.column && bytes_eq a.step.table y) moved (none_passes (λ (m : Move). is_none m.column && bytes_eq m.table y) moves a.place a.step b.still a.there)

-- no two names have one source
pub tables_apart : (olds news : List TableShape) (moves : List Move) → AreFine olds news moves → (x y : List ℕ) (t : TableShape) → source_of olds moves x ≡ Some t → source_of olds moves y ≡ Some t → x ≡ y
tables_apart olds news moves fine x y t e f = elim (source_by olds moves x t e) [
  | inl a ↦ elim (source_by olds moves y t f) [
    | inl b ↦
        let table : a.step.table ≡ b.step.table = sym (table_name olds a.step.table t a.source) ∙ table_name olds b.step.table t b.source in
        let one : a.step ≡ b.step = one_move olds news moves fine a.place b.place a.step b.step a.there b.there table (a.column ∙ sym b.column) in
        sym a.to ∙ ap (λ (m : Move). m.to) one ∙ b.to
    | inr b ↦ absurd (not_kept olds moves x y t a b)
  ]
  | inr a ↦ elim (source_by olds moves y t f) [
    | inl b ↦ absurd (not_kept olds moves y x t b a)
    | inr b ↦ sym (table_name olds x t a.source) ∙ table_name olds y t b.source
  ]
]

-- ---- columns

column_name : (old : TableShape) (n : List ℕ) (c : Column) → column_named old n ≡ Some c → c.name ≡ n
column_name old n c e = same c.name n (found (λ (d : Column). bytes_eq d.name n) old.columns c e).passes

-- a move gives a column of an old table this name
abbrev to_column : TableShape → List ℕ → Move → Bool
to_column old n m = bytes_eq m.to n && moves_column old.name m

-- a column comes by a move
record IsColumnMovedTo (moves : List Move) (old : TableShape) (n : List ℕ) (c : Column) : Type 0 where
  step : Move
  place : ℕ
  there : slice_get moves place ≡ Some step
  to : step.to ≡ n
  table : step.table ≡ old.name
  column : step.column ≡ Some c.name
  source : column_named old c.name ≡ Some c

-- or it keeps its name
record IsColumnKept (moves : List Move) (old : TableShape) (n : List ℕ) (c : Column) : Type 0 where
  still : is_column_moved moves old n ≡ false
  source : column_named old n ≡ Some c

column_by : (moves : List Move) (old : TableShape) (n : List ℕ) (c : Column) → column_source moves old n ≡ Some c → IsColumnMovedTo moves old n c ⊎ IsColumnKept moves old n c
column_by moves old n c e = by (find (to_column old n) moves) refl e
  where
    kept : (b : Bool) → is_column_moved moves old n ≡ b → (if b then None else column_named old n) ≡ Some c → IsColumnMovedTo moves old n c ⊎ IsColumnKept moves old n c
    kept true q f = absurd cc
    kept false q f = inr (record { still = q; source = f })

    -- the move names the column that it finds
    names : (o : Option (List ℕ)) → column_of old o ≡ Some c → (o ≡ Some c.name) × (column_named old c.name ≡ Some c)
    names None f = absurd cc
    names (Some m) f =
        let is : m ≡ c.name = sym (column_name old m c f) in
        (ap (λ (k : List ℕ). Some k) is, subst (λ (k : List ℕ). column_named old k ≡ Some c) is f)

    got : (m : Move) → Found (to_column old n) moves m → (o : Option Column) → column_of old m.column ≡ o → or_else o (kept_column moves old n) ≡ Some c → IsColumnMovedTo moves old n c ⊎ IsColumnKept moves old n c
    got m r None q f = kept (is_column_moved moves old n) refl f
    got m r (Some d) q f =
        let parts = both (bytes_eq m.to n) (moves_column old.name m) r.passes in
        let of_column = both (is_some m.column) (bytes_eq m.table old.name) parts.1 in
        let named = names m.column (q ∙ f) in
        inl (record { step = m; place = r.place; there = r.there; to = same m.to n parts.0; table = same m.table old.name of_column.1; column = named.0; source = named.1 })

    by : (o : Option Move) → find (to_column old n) moves ≡ o → or_else (option_and_then (λ (m : Move). column_of old m.column) o) (kept_column moves old n) ≡ Some c → IsColumnMovedTo moves old n c ⊎ IsColumnKept moves old n c
    by None q f = kept (is_column_moved moves old n) refl f
    by (Some m) q f = got m (found (to_column old n) moves m q) (column_of old m.column) refl f

pub column_found : (moves : List Move) (old : TableShape) (n : List ℕ) (c : Column) → column_source moves old n ≡ Some c → (m : List ℕ) × (column_named old m ≡ Some c)
column_found moves old n c e = elim (column_by moves old n c e) [
  | inl a ↦ (c.name, a.source)
  | inr b ↦ (n, b.source)
]

column_not_kept : (moves : List Move) (old : TableShape) (x y : List ℕ) (c : Column) → IsColumnMovedTo moves old x c → IsColumnKept moves old y c → ⊥
column_not_kept moves old x y c a b =
    let column : a.step.column ≡ Some y = a.column ∙ ap (λ (k : List ℕ). Some k) (column_name old y c b.source) in
    let named : is_name y a.step.column ≡ true = subst (λ (o : Option (List ℕ)). is_name y o ≡ true) (sym column) (is_same y y refl) in
    let moved : (is_name y a.step.column && bytes_eq a.step.table old.name) ≡ true = as_both (is_name y a.step.column) (bytes_eq a.step.table old.name) named (is_same a.step.table old.name a.table) in
    contra (is_name y a.step.column && bytes_eq a.step.table old.name) moved
    (none_passes (λ (m : Move). is_name y m.column && bytes_eq m.table old.name) moves a.place a.step b.still a.there)

-- no two names have one source
pub columns_apart : (olds news : List TableShape) (moves : List Move) → AreFine olds news moves → (old : TableShape) (x y : List ℕ) (c : Column) → column_source moves old x ≡ Some c → column_source moves old y ≡ Some c → x ≡ y
columns_apart olds news moves fine old x y c e f = elim (column_by moves old x c e) [
  | inl a ↦ elim (column_by moves old y c f) [
    | inl b ↦
        let one : a.step ≡ b.step = one_move olds news moves fine a.place b.place a.step b.step a.there b.there (a.table ∙ sym b.table) (a.column ∙ sym b.column) in
        sym a.to ∙ ap (λ (m : Move). m.to) one ∙ b.to
    | inr b ↦ absurd (column_not_kept moves old x y c a b)
  ]
  | inr a ↦ elim (column_by moves old y c f) [
    | inl b ↦ absurd (column_not_kept moves old y x c b a)
    | inr b ↦ sym (column_name old x c a.source) ∙ column_name old y c b.source
  ]
]
