-- The rules that rows keep, column by column.
use Rattle.std.proofs.Common.{◌≡◌, ◌≢◌, ◌∙◌, ℕ, zero, suc, ◌+◌, Bool, true, false, not, ◌&&◌, cond, nat_lt, List, [], ◌∷◌, Option, Some, None, refl, sym, ap, ap₂, arith}
use Rattle.std.specs.Prelude.{slice_get, unwrap_or}
use Rattle.std.specs.List.{list_any}
use Rattle.std.specs.Cmp.{IsTotalOrder}
use Rattle.std.proofs.lemmas.Option.{same_Some}
use Rattle.fx_types.specs.Values.{Data, blank, number, text, boolean, date, rec, tab, fault}
use Rattle.fx_core.specs.declared.schema.Column.{Column}
use Rattle.fx_value.specs.Order.{order}
use Rattle.row_queries.specs.declared.rows.Row.{Row}
use Rattle.row_keeper.specs.RowRules.{cells_weight, first_broken, first_of_two, has_value, in_column, is_blank, is_same_key, lacks, others, repeats, rule_in, where_broken}
use Rattle.row_keeper.specs.Tables.{TableState}
use Rattle.row_keeper.specs.declared.rows.RowRefusal.{RowRefusal}
use Rattle.row_keeper.specs.declared.rows.RowRule.{RowRule}
use Rattle.row_keeper.specs.declared.rows.RowRule.TheVariants.{Required, Unique, Size}
use Rattle.row_imports.proofs.Rows.{Has, is_at, blank_alone, none_any, turned_same}

-- ---- places

fine_here : (t : Bool) (k : ℕ) (o : Option ℕ) → cond t (Some k) o ≡ None → (t ≡ false) × (o ≡ None)
fine_here true k o e = absurd cc
fine_here false k o e = (refl, e)

fine_at : (breaks : Column → ℕ → Data → Bool) (k : ℕ) (cs : List Column) (ds : List Data) → first_broken breaks k cs ds ≡ None
    → (i : ℕ) (c : Column) (d : Data) → slice_get cs i ≡ Some c → slice_get ds i ≡ Some d → breaks c (k + i) d ≡ false
fine_at breaks k [] ds e i c d p q = absurd cc
fine_at breaks k (x ∷ xs) [] e i c d p q = absurd cc
fine_at breaks k (x ∷ xs) (y ∷ ys) e zero c d p q =
    let z : k + 0 ≡ k = omega arith in
    ap₂ (λ a b. breaks a (k + 0) b) (sym (same_Some x c p)) (sym (same_Some y d q)) ∙ ap (λ n. breaks x n y) z
    ∙ (fine_here (breaks x k y) k (first_broken breaks (k + 1) xs ys) e).0
fine_at breaks k (x ∷ xs) (y ∷ ys) e (suc i) c d p q =
    let z : k + suc i ≡ k + 1 + i = omega arith in
    ap (λ n. breaks c n d) z ∙ fine_at breaks (k + 1) xs ys (fine_here (breaks x k y) k (first_broken breaks (k + 1) xs ys) e).1 i c d p q

fine_from : (breaks : Column → ℕ → Data → Bool) (k : ℕ) (cs : List Column) (ds : List Data)
    → ((i : ℕ) (c : Column) (d : Data) → slice_get cs i ≡ Some c → slice_get ds i ≡ Some d → breaks c (k + i) d ≡ false) → first_broken breaks k cs ds ≡ None
fine_from breaks k [] ds h = refl
fine_from breaks k (x ∷ xs) [] h = refl
fine_from breaks k (x ∷ xs) (y ∷ ys) h =
    let z : k ≡ k + 0 = omega arith in
    ap₂ (λ t o. cond t (Some k) o) (ap (λ n. breaks x n y) z ∙ h 0 x y refl refl)
    (fine_from breaks (k + 1) xs ys (λ i c d p q. let s : k + 1 + i ≡ k + suc i = omega arith in ap (λ n. breaks c n d) s ∙ h (suc i) c d p q))

-- ---- the parts of a rule

no_column : (rule : RowRule) (o : Option ℕ) → in_column rule o ≡ None → o ≡ None
no_column rule None e = refl
no_column rule (Some k) e = absurd cc

not_broken : (rule : RowRule) (b : Bool) → where_broken rule b ≡ None → b ≡ false
not_broken rule true e = absurd cc
not_broken rule false e = refl

both_none : (a b : Option RowRefusal) → first_of_two a b ≡ None → (a ≡ None) × (b ≡ None)
both_none None b e = (refl, e)
both_none (Some r) b e = absurd cc

-- cells that break no rule of columns, and aren't too large, beside these rows
pub record AreFine (columns : List Column) (rows : List Row) (cells : List Data) : Type 0 where
  pub required : first_broken lacks 1 columns cells ≡ None
  pub unique : first_broken (repeats rows) 1 columns cells ≡ None
  pub small : nat_lt 2048 (cells_weight cells) ≡ false

pub fine_parts : (columns : List Column) (s : TableState) (all : ℕ) (id : Option ℕ) (cells : List Data) → rule_in columns s all id cells ≡ None → AreFine columns (others id s.rows) cells
fine_parts columns s all id cells e =
    let a = both_none (in_column Required (first_broken lacks 1 columns cells)) _ e in
    let b = both_none (in_column Unique (first_broken (repeats (others id s.rows)) 1 columns cells)) _ a.1 in
    let c = both_none (where_broken Size (nat_lt 2048 (cells_weight cells))) _ b.1 in
    record { required = no_column Required _ a.0; unique = no_column Unique _ b.0; small = not_broken Size _ c.0 }

-- a row that is there is never too many
pub fine_whole : (columns : List Column) (s : TableState) (all id : ℕ) (cells : List Data) → AreFine columns (others (Some id) s.rows) cells → rule_in columns s all (Some id) cells ≡ None
fine_whole columns s all id cells h =
    ap (λ o. first_of_two (in_column Required o) (first_of_two (in_column Unique (first_broken (repeats (others (Some id) s.rows)) 1 columns cells)) (first_of_two (where_broken Size (nat_lt 2048 (cells_weight cells))) None))) h.required
    ∙ ap (λ o. first_of_two (in_column Unique o) (first_of_two (where_broken Size (nat_lt 2048 (cells_weight cells))) None)) h.unique
    ∙ ap (λ b. first_of_two (where_broken Size b) None) h.small

-- ---- beside a row that changed

blank_is : (d : Data) → is_blank d ≡ true → d ≡ blank
blank_is blank e = refl
blank_is (number z) e = absurd cc
blank_is (text cs) e = absurd cc
blank_is (boolean b) e = absurd cc
blank_is (date z) e = absurd cc
blank_is (rec fs) e = absurd cc
blank_is (tab rs) e = absurd cc
blank_is (fault k cs) e = absurd cc

clash : true ≡ false → ⊥
clash q = cc

no_blank : (d : Data) → is_blank d ≡ false → d ≢ blank
no_blank d e = λ q. clash (sym (ap is_blank q) ∙ e)

module _ (total : IsTotalOrder order) where
  -- another row that repeats no value of these isn't repeated by them
  other_value : (theirs : List Row) (r : Row) (c : Column) (i : ℕ) (d : Data) (new : List Data) → Has r theirs → slice_get r.cells i ≡ Some d → is_blank d ≡ false → c.unique ≡ true
      → ((e : Data) → slice_get new i ≡ Some e → repeats theirs c (suc i) e ≡ false) → is_at i d new ≡ false
  other_value theirs r c i d new has at full unique h = by (slice_get new i) refl
    where
      apart : (e : Data) → (b : Bool) → is_blank e ≡ b → repeats theirs c (suc i) e ≡ false → is_same_key e d ≡ false
      apart e true k f = ap (λ x. is_same_key x d) (blank_is e k) ∙ blank_alone d (no_blank d full)
      apart e false k f =
          let none : list_any (has_value (suc i) e) theirs ≡ false = sym (ap₂ (λ a b. a && (not b && list_any (has_value (suc i) e) theirs)) unique k) ∙ f in
          turned_same total d e (ap (λ o. is_same_key (unwrap_or o blank) e) (sym at) ∙ none_any (has_value (suc i) e) theirs r none has)

      by : (o : Option Data) → slice_get new i ≡ o → is_same_key (unwrap_or (slice_get new i) blank) d ≡ false
      by None q = ap (λ o. is_same_key (unwrap_or o blank) d) q ∙ blank_alone d (no_blank d full)
      by (Some e) q = ap (λ o. is_same_key (unwrap_or o blank) d) q ∙ apart e (is_blank e) refl (h e q)

  -- what repeats no value of other rows repeats none of them still, where one has become another that breaks no rule beside it
  pub still_apart : (columns : List Column) (mine theirs now : List Row) (r : Row) (new : List Data) → first_broken (repeats mine) 1 columns r.cells ≡ None → first_broken (repeats theirs) 1 columns new ≡ None → Has r theirs
      → ((P : List Data → Bool) → list_any (λ (x : Row). P x.cells) mine ≡ false → P new ≡ false → list_any (λ (x : Row). P x.cells) now ≡ false)
      → first_broken (repeats now) 1 columns r.cells ≡ None
  still_apart columns mine theirs now r new a b has step = fine_from (repeats now) 1 columns r.cells point
    where
      point : (i : ℕ) (c : Column) (d : Data) → slice_get columns i ≡ Some c → slice_get r.cells i ≡ Some d → repeats now c (1 + i) d ≡ false
      point i c d p q = ap (λ k. repeats now c k d) on ∙ by c.unique (is_blank d) refl refl
        where
          on : 1 + i ≡ suc i
          on = omega arith

          by : (u z : Bool) → c.unique ≡ u → is_blank d ≡ z → repeats now c (suc i) d ≡ false
          by false z e f = ap (λ t. t && (not (is_blank d) && list_any (has_value (suc i) d) now)) e
          by true true e f = ap₂ (λ t s. t && (not s && list_any (has_value (suc i) d) now)) e f
          by true false e f =
              let was : list_any (has_value (suc i) d) mine ≡ false =
              sym (ap₂ (λ t s. t && (not s && list_any (has_value (suc i) d) mine)) e f) ∙ ap (λ k. repeats mine c k d) (sym on) ∙ fine_at (repeats mine) 1 columns r.cells a i c d p q in
              ap₂ (λ t s. t && (not s && list_any (has_value (suc i) d) now)) e f
              ∙ step (is_at i d) was (other_value theirs r c i d new has q f e (λ x s. ap (λ k. repeats theirs c k x) (sym on) ∙ fine_at (repeats theirs) 1 columns new b i c x p s))
