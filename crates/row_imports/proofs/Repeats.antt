-- An import that comes again.
use Rattle.std.proofs.Common.{◌≡◌, ◌≢◌, ◌∙◌, ℕ, zero, suc, ◌+◌, ◌<◌, ◌==◌, Bool, true, false, List, [], ◌∷◌, ◌++◌, length, map, Option, Some, None, refl, sym, ap, ap₂, subst, set, get_or-set_same, arith}
use Rattle.std.specs.Prelude.{slice_get, unwrap_or, Result, Ok, Err}
use Rattle.std.specs.Cmp.{IsTotalOrder}
use Rattle.std.proofs.lemmas.Bool.{ne_eqb}
use Rattle.std.proofs.lemmas.List.{length-set, set-get_or}
use Rattle.std.proofs.lemmas.Option.{unwrap_or-slice_get}
use Rattle.fx_types.specs.Values.{Data, blank}
use Rattle.fx_core.specs.declared.schema.Column.{Column}
use Rattle.fx_value.specs.Order.{order}
use Rattle.row_queries.specs.declared.rows.Row.{Row}
use Rattle.row_keeper.specs.RowRules.{is_same_key, rule_of}
use Rattle.row_keeper.specs.Tables.{TableState, Tables, all_rows, no_rows, state_at, with_cells, with_row, with_state}
use Rattle.row_keeper.specs.declared.rows.RowRefusal.{RowRefusal}
use Rattle.row_imports.specs.Imports.{act_line, counting, given_for, import, key_of, keyed, line_cells, none_yet, one_more, put_line, then_lines, unless_broken, with_given}
use Rattle.row_imports.specs.declared.imports.BrokenLine.{BrokenLine}
use Rattle.row_imports.specs.declared.imports.Counts.{Counts}
use Rattle.row_imports.specs.Laws.{HasOtherKey, HaveKeys, RepeatsImport}
use Rattle.row_imports.proofs.Rows.{AreApart, AreBelow, Has, apart_last, apart_more, apart_put, apart_rising, below_more, below_put, blank_alone, has_others, is_at, keyed_has, keyed_more_new, keyed_more_old, keyed_put_other, keyed_put_self, none_above, number_of, others_more, others_of, others_put, put_in, put_same, same_as, same_itself, same_others, turned, unlike_rows}
use Rattle.row_imports.proofs.Rules.{AreFine, fine_parts, fine_whole, still_apart}

-- ---- what a line gives

given_twice : (ns : List ℕ) (ds : List Data) (k : ℕ) (cs : List Data) → with_given ns ds k (with_given ns ds k cs) ≡ with_given ns ds k cs
given_twice ns ds k [] = refl
given_twice ns ds k (c ∷ cs) = ap₂ (λ x xs. x ∷ xs) (over (given_for ns ds k)) (given_twice ns ds (k + 1) cs)
  where
    over : (o : Option Data) → unwrap_or o (unwrap_or o c) ≡ unwrap_or o c
    over None = refl
    over (Some d) = refl

-- the value that is given stands in its place
gives : (ns : List ℕ) (ds : List Data) (k i : ℕ) (cs : List Data) (d : Data) → given_for ns ds (k + i) ≡ Some d → i < length cs → slice_get (with_given ns ds k cs) i ≡ Some d
gives ns ds k i [] d e h = absurd (omega (arith, h))
gives ns ds k zero (c ∷ cs) d e h =
    let z : k ≡ k + 0 = omega arith in
    ap (λ o. Some (unwrap_or o c)) (ap (given_for ns ds) z ∙ e)
gives ns ds k (suc i) (c ∷ cs) d e h =
    let z : k + 1 + i ≡ k + suc i = omega arith in
    gives ns ds (k + 1) i cs d (ap (given_for ns ds) z ∙ e) (omega (arith, h))

-- ---- tables

there : {X : Type 0} (xs : List X) (k : ℕ) (x d : X) → k < length xs → unwrap_or (slice_get (set xs k x) k) d ≡ x
there xs k x d h = unwrap_or-slice_get (set xs k x) k d ∙ get_or-set_same xs k x d h

as_it_is : {X : Type 0} (xs : List X) (k : ℕ) (d : X) → set xs k (unwrap_or (slice_get xs k) d) ≡ xs
as_it_is xs k d = ap (set xs k) (unwrap_or-slice_get xs k d) ∙ set-get_or xs k d

-- ---- lines that stand

pub record IsSound (s : TableState) : Type 0 where
  pub apart : AreApart s.rows
  pub below : AreBelow s.last s.rows

-- what is accepted is one thing
ok_value : {A E : Type 0} → A → Result A E → A
ok_value d (Ok a) = a
ok_value d (Err e) = d

pub same_ok : {A E : Type 0} (r : Result A E) (a b : A) → r ≡ Ok a → r ≡ Ok b → a ≡ b
unfolding ok_value
same_ok r a b e f = ap (ok_value a) (sym e ∙ f)

module _ (total : IsTotalOrder order) (columns : List Column) (place : ℕ) (numbers : List ℕ) (in_columns : place < length columns) where
  abbrev Key : List Data → Data
  Key l = key_of numbers (suc place) l

  -- the row of its key holds what a line gives, and breaks no rule beside the others
  record Stands (l : List Data) (s : TableState) : Type 0 where
    pub row : Row
    pub found : keyed (suc place) (Key l) s.rows ≡ Some row
    pub holds : with_given numbers l 1 row.cells ≡ row.cells
    pub fine : AreFine columns (others_of row.id s.rows) row.cells

  -- the cells of a line have its key
  keyed_cells : (l cs : List Data) → given_for numbers l (suc place) ≡ Some (Key l) → place < length cs → slice_get (with_given numbers l 1 cs) place ≡ Some (Key l)
  keyed_cells l cs g h =
      let z : 1 + place ≡ suc place = omega arith in
      gives numbers l 1 place cs (Key l) (ap (given_for numbers l) z ∙ g) h

  is_key : (cs : List Data) (d : Data) → slice_get cs place ≡ Some d → is_at place d cs ≡ true
  is_key cs d e = ap (λ o. is_same_key (unwrap_or o blank) d) e ∙ same_itself total d

  is_no_key : (cs : List Data) (d e : Data) → slice_get cs place ≡ Some d → is_same_key d e ≡ false → is_at place e cs ≡ false
  is_no_key cs d e at n = ap (λ o. is_same_key (unwrap_or o blank) e) at ∙ n

  -- a row with one key hasn't another
  not_keyed : (cs : List Data) (d e : Data) → is_at place d cs ≡ true → is_same_key d e ≡ false → is_at place e cs ≡ false
  not_keyed cs d e is n = same_as total (unwrap_or (slice_get cs place) blank) d e is ∙ n

  clash : true ≡ false → ⊥
  clash q = cc

  -- a row that has a key has a cell for it
  has_cell : (cs : List Data) (d : Data) → d ≢ blank → is_at place d cs ≡ true → place < length cs
  has_cell cs d n is = within cs place is
    where
      within : (xs : List Data) (i : ℕ) → is_same_key (unwrap_or (slice_get xs i) blank) d ≡ true → i < length xs
      within [] i q = absurd (clash (sym q ∙ blank_alone d n))
      within (x ∷ xs) zero q = omega arith
      within (x ∷ xs) (suc i) q = let h = within xs i q in omega (arith, h)

  changed_stands : (l : List Data) (s : TableState) (r : Row) → keyed (suc place) (Key l) s.rows ≡ Some r → given_for numbers l (suc place) ≡ Some (Key l) → Key l ≢ blank → IsSound s
      → AreFine columns (others_of r.id s.rows) (with_given numbers l 1 r.cells) → Stands l (with_cells r.id (with_given numbers l 1 r.cells) s)
  changed_stands l s r e g n sound fine =
      let new = with_given numbers l 1 r.cells in
      record {
        row = record { id = r.id; cells = new };
        found = keyed_put_self place (Key l) s.rows r new e sound.apart (is_key new (Key l) (keyed_cells l r.cells g (has_cell r.cells (Key l) n (keyed_has place (Key l) s.rows r e).1)));
        holds = given_twice numbers l 1 r.cells;
        fine = subst (λ rs. AreFine columns rs new) (sym (same_others r.id new s.rows)) fine;
      }

  blanks_length : (cs : List Column) → length (map (λ (c : Column). blank) cs) ≡ length cs
  blanks_length [] = refl
  blanks_length (c ∷ cs) = ap suc (blanks_length cs)

  added_stands : (l : List Data) (s : TableState) → keyed (suc place) (Key l) s.rows ≡ None → given_for numbers l (suc place) ≡ Some (Key l) → IsSound s
      → AreFine columns s.rows (line_cells columns numbers l None) → Stands l (with_row (line_cells columns numbers l None) s)
  added_stands l s e g sound fine =
      let new = line_cells columns numbers l None in
      let y : Row = record { id = s.last + 1; cells = new } in
      record {
        row = y;
        found = keyed_more_new place (Key l) s.rows y e (is_key new (Key l) (keyed_cells l (map (λ (c : Column). blank) columns) g (subst (λ m. place < m) (sym (blanks_length columns)) in_columns)));
        holds = given_twice numbers l 1 (map (λ (c : Column). blank) columns);
        fine = subst (λ rs. AreFine columns rs new) (sym (apart_last (s.last + 1) new s.rows (none_above s.last s.rows sound.below))) fine;
      }

  -- a line that stands goes on standing where another row was changed
  beside_changed : (l : List Data) (s : TableState) (x : Row) (new : List Data) → Stands l s → Has x s.rows → is_at place (Key l) x.cells ≡ false → is_at place (Key l) new ≡ false → AreApart s.rows
      → AreFine columns (others_of x.id s.rows) new → Stands l (with_cells x.id new s)
  beside_changed l s x new h has other unlike apart fine =
      let r = h.row in
      let in_rows = keyed_has place (Key l) s.rows r h.found in
      let differ : (r.id == x.id) ≡ false = ne_eqb r.id x.id (λ e. unlike_rows place (Key l) s.rows r x e in_rows.0 has apart in_rows.1 other) in
      record {
        row = r;
        found = keyed_put_other place (Key l) s.rows r x.id new h.found unlike differ;
        holds = h.holds;
        fine = record {
          required = h.fine.required;
          unique = still_apart total columns (others_of r.id s.rows) (others_of x.id s.rows) (others_of r.id (map (put_in x.id new) s.rows)) r new h.fine.unique fine.unique
              (has_others x.id s.rows r in_rows.0 differ) (λ P a b. others_put P r.id x.id new s.rows a b);
          small = h.fine.small;
        };
      }

  -- and where one was added
  beside_added : (l : List Data) (s : TableState) (new : List Data) → Stands l s → IsSound s → AreFine columns s.rows new → Stands l (with_row new s)
  beside_added l s new h sound fine =
      let r = h.row in
      let in_rows = keyed_has place (Key l) s.rows r h.found in
      let y : Row = record { id = s.last + 1; cells = new } in
      let differ : ((s.last + 1) == r.id) ≡ false = turned r.id (s.last + 1) (number_of (s.last + 1) s.rows r (none_above s.last s.rows sound.below) in_rows.0) in
      record {
        row = r;
        found = keyed_more_old place (Key l) s.rows r y h.found;
        holds = h.holds;
        fine = record {
          required = h.fine.required;
          unique = still_apart total columns (others_of r.id s.rows) s.rows (others_of r.id (s.rows ++ y ∷ [])) r new h.fine.unique fine.unique in_rows.0
              (λ P a b. others_more P r.id y s.rows differ a b);
          small = h.fine.small;
        };
      }

  -- ---- one line

  -- what an accepted line leaves: sound rows, the line stands, and each that stood before and has another key
  record Leaves (l : List Data) (s t : TableState) : Type 0 where
    pub sound : IsSound t
    pub stands : Stands l t
    pub others_stand : (m : List Data) → Stands m s → is_same_key (Key l) (Key m) ≡ false → Stands m t

  after_changed : (l : List Data) (s : TableState) (r : Row) → keyed (suc place) (Key l) s.rows ≡ Some r → given_for numbers l (suc place) ≡ Some (Key l) → Key l ≢ blank → IsSound s
      → AreFine columns (others_of r.id s.rows) (with_given numbers l 1 r.cells) → Leaves l s (with_cells r.id (with_given numbers l 1 r.cells) s)
  after_changed l s r e g n sound fine =
      let new = with_given numbers l 1 r.cells in
      let has = keyed_has place (Key l) s.rows r e in
      let cell = keyed_cells l r.cells g (has_cell r.cells (Key l) n has.1) in
      record {
        sound = record { apart = apart_put r.id new s.rows sound.apart; below = below_put s.last r.id new s.rows sound.below };
        stands = changed_stands l s r e g n sound fine;
        others_stand = λ m h d. beside_changed m s r new h has.0 (not_keyed r.cells (Key l) (Key m) has.1 d) (is_no_key new (Key l) (Key m) cell d) sound.apart fine;
      }

  after_added : (l : List Data) (s : TableState) → keyed (suc place) (Key l) s.rows ≡ None → given_for numbers l (suc place) ≡ Some (Key l) → IsSound s
      → AreFine columns s.rows (line_cells columns numbers l None) → Leaves l s (with_row (line_cells columns numbers l None) s)
  after_added l s e g sound fine =
      let new = line_cells columns numbers l None in
      let y : Row = record { id = s.last + 1; cells = new } in
      record {
        sound = record { apart = apart_more s.last s.rows y sound.apart sound.below refl; below = below_more s.last s.rows y sound.below refl };
        stands = added_stands l s e g sound fine;
        others_stand = λ m h d. beside_added m s new h sound fine;
      }

  -- ---- the table among tables

  module _ (table : ℕ) where
    abbrev S : Tables → TableState
    S t = state_at t.states table

    accepted : {A : Type 0} (o : Option RowRefusal) (p q : A) → unless_broken o p ≡ Ok q → (o ≡ None) × (p ≡ q)
    accepted None p q e = (refl, same_ok (unless_broken None p) p q refl e)
    accepted (Some r) p q e = absurd cc

    record Acts (l : List Data) (t u : Tables) : Type 0 where
      pub many : table < length u.states
      pub leaves : Leaves l (S t) (S u)

    placed : (l : List Data) (t : Tables) (s : TableState) → table < length t.states → Leaves l (S t) s → Acts l t (with_state t table s)
    placed l t s h k = record {
      many = subst (λ n. table < n) (sym (length-set t.states table s)) h;
      leaves = subst (λ x. Leaves l (S t) x) (sym (there t.states table s no_rows h)) k;
    }

    acted : (l : List Data) (t : Tables) (b : Bool) (u : Tables) → act_line columns table (suc place) numbers l t ≡ Ok (b, u) → given_for numbers l (suc place) ≡ Some (Key l) → Key l ≢ blank
        → table < length t.states → IsSound (S t) → Acts l t u
    acted l t b u e g n h sound = by (keyed (suc place) (Key l) (S t).rows) refl e
      where
        by : (o : Option Row) → keyed (suc place) (Key l) (S t).rows ≡ o → put_line columns table numbers l t o ≡ Ok (b, u) → Acts l t u
        by None is q =
            let new = line_cells columns numbers l None in
            let done = accepted (rule_of columns t.states table None new) (true, with_state t table (with_row new (S t))) (b, u) q in
            subst (λ (z : Tables). Acts l t z) (ap (λ (z : Bool × Tables). z.1) done.1)
            (placed l t (with_row new (S t)) h (after_added l (S t) is g sound (fine_parts columns (S t) (all_rows t.states) None new done.0)))
        by (Some r) is q =
            let new = with_given numbers l 1 r.cells in
            let done = accepted (rule_of columns t.states table (Some r.id) new) (false, with_state t table (with_cells r.id new (S t))) (b, u) q in
            subst (λ (z : Tables). Acts l t z) (ap (λ (z : Bool × Tables). z.1) done.1)
            (placed l t (with_cells r.id new (S t)) h (after_changed l (S t) r is g n sound (fine_parts columns (S t) (all_rows t.states) (Some r.id) new done.0)))

    -- a line that stands changes its row into itself
    still : (l : List Data) (t : Tables) → Stands l (S t) → IsSound (S t) → table < length t.states → act_line columns table (suc place) numbers l t ≡ Ok (false, t)
    still l t h sound many =
        let r = h.row in
        let has = keyed_has place (Key l) (S t).rows r h.found in
        let rows : with_cells r.id r.cells (S t) ≡ S t = ap (λ rs. record { rows = rs; last = (S t).last }) (put_same (S t).rows r has.0 sound.apart) in
        ap (put_line columns table numbers l t) h.found
        ∙ ap (λ cs. unless_broken (rule_of columns t.states table (Some r.id) cs) (false, with_state t table (with_cells r.id cs (S t)))) h.holds
        ∙ ap (λ o. unless_broken o (false, with_state t table (with_cells r.id r.cells (S t)))) (fine_whole columns (S t) (all_rows t.states) r.id r.cells h.fine)
        ∙ ap (λ s. Ok (false, with_state t table s)) rows
        ∙ ap (λ ss. Ok (false, record { kept = t.kept; states = ss })) (as_it_is t.states table no_rows)

    -- ---- all lines

    abbrev AllStand : List (List Data) → TableState → Type 0
    AllStand [] s = Unit {0}
    AllStand (l ∷ ls) s = Stands l s × AllStand ls s

    record Ends (ls : List (List Data)) (t u : Tables) : Type 0 where
      pub many : table < length u.states
      pub sound : IsSound (S u)
      pub all : AllStand ls (S u)
      pub before : (m : List Data) → Stands m (S t) → HasOtherKey numbers (suc place) (Key m) ls → Stands m (S u)

    ended : (at : ℕ) (ls : List (List Data)) (t u : Tables) (c : Counts) → import columns table (suc place) numbers at ls t ≡ Ok (c, u) → HaveKeys numbers (suc place) ls → table < length t.states → IsSound (S t) → Ends ls t u
    ended at [] t u c e keys many sound =
        let same : t ≡ u = ap (λ (z : Counts × Tables). z.1) (same_ok (import columns table (suc place) numbers at [] t) (none_yet, t) (c, u) refl e) in
        subst (λ (z : Tables). Ends [] t z) same (record { many = many; sound = sound; all = tt; before = λ m h o. h })
    ended at (l ∷ ls) t u c e keys many sound =
        by (λ z d q m r. ended (at + 1) ls z u d q keys.3 m r) (act_line columns table (suc place) numbers l t) refl e
      where
        by : ((z : Tables) (d : Counts) → import columns table (suc place) numbers (at + 1) ls z ≡ Ok (d, u) → table < length z.states → IsSound (S z) → Ends ls z u)
            → (o : Result (Bool × Tables) RowRefusal) → act_line columns table (suc place) numbers l t ≡ o → then_lines at (import columns table (suc place) numbers (at + 1) ls) o ≡ Ok (c, u) → Ends (l ∷ ls) t u
        by go (Err r) is q = absurd cc
        by go (Ok p) is q = behind (import columns table (suc place) numbers (at + 1) ls p.1) refl q
          where
            behind : (r : Result (Counts × Tables) BrokenLine) → import columns table (suc place) numbers (at + 1) ls p.1 ≡ r → counting p.0 r ≡ Ok (c, u) → Ends (l ∷ ls) t u
            behind (Err x) w q = absurd cc
            behind (Ok x) w q =
                let end : x.1 ≡ u = ap (λ (z : Counts × Tables). z.1) (same_ok (counting p.0 (Ok x)) (one_more p.0 x.0, x.1) (c, u) refl q) in
                let one = acted l t p.0 p.1 is keys.0 keys.1 many sound in
                let rest = go p.1 x.0 (w ∙ ap (λ (z : Tables). Ok (x.0, z)) end) one.many one.leaves.sound in
                record {
                  many = rest.many;
                  sound = rest.sound;
                  all = (rest.before l one.leaves.stands keys.2, rest.all);
                  before = λ m h o. rest.before m (one.leaves.others_stand m h o.1) o.2;
                }

    again : (at : ℕ) (ls : List (List Data)) (t : Tables) → AllStand ls (S t) → IsSound (S t) → table < length t.states
        → import columns table (suc place) numbers at ls t ≡ Ok (record { added = 0; changed = length ls }, t)
    again at [] t h sound many = refl
    again at (l ∷ ls) t h sound many =
        let more : length ls + 1 ≡ suc (length ls) = omega arith in
        ap (then_lines at (import columns table (suc place) numbers (at + 1) ls)) (still l t h.0 sound many) ∙ ap (counting false) (again (at + 1) ls t h.1 sound many)
        ∙ ap (λ n. Ok (record { added = 0; changed = n }, t)) more

pub repeats : IsTotalOrder order → RepeatsImport
repeats total columns table place numbers at lines t u c in_columns many sound keys e =
    let start : IsSound (state_at t.states table) = record { apart = apart_rising (state_at t.states table).rows sound.rising; below = sound.given } in
    let end = ended total columns place numbers in_columns table at lines t u c e keys many start in
    again total columns place numbers in_columns table at lines u end.all end.sound end.many
