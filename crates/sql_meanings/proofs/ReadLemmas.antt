-- What a reading statement answers: of the entries that are kept, those in its range, in their order.
use Rattle.std.proofs.Common.{◌≡◌, ℕ, ℤ, pos, List, [], ◌∷◌, map, filter, Bool, true, false, ◌&&◌, Some, None, Less, refl, sym, ap, subst, ◌∙◌, IsPermutation}
use Rattle.std.specs.List.{list_all}
use Rattle.std.proofs.lemmas.List.Sorted.{IsPermutation-trans, IsPermutation-map}
use Rattle.sqlite_trees.specs.Tree.{Trees, IsAscending}
use Rattle.sqlite_value.specs.declared.value.Value.{Value}
use Rattle.sqlite_value.specs.declared.value.Value.TheVariants.{Null, Int, Real, Text, Blob}
use Rattle.sqlite_value.specs.Order.{Row, column, value_cmp}
use Rattle.sqlite_value.specs.declared.keys.Key.{Key}
use Rattle.sqlite_sql.specs.declared.ops.UnaryOp.TheVariants.{ToNumeric}
use Rattle.sqlite_sql.specs.declared.ops.BinaryOp.TheVariants.{Compare}
use Rattle.sqlite_sql.specs.declared.ops.CompareOp.{CompareOp}
use Rattle.sqlite_sql.specs.Ops.{unary, binary, is_null, is_true, from_truth, test}
use Rattle.sqlite_sql.specs.Term.{Term, holds}
use Rattle.sqlite_sql.specs.Query.{Query, IsAnswer, output, output_cmp, Output}
use Rattle.sqlite_sql.specs.Program.{overlay}
use Rattle.sqlite_sql.proofs.QueryLemmas.{output_cmp_total}
use Rattle.sqlite.specs.Collation.TheVariants.{Binary}
use Rattle.sqlite_keyed.proofs.ListLemmas.{IsPermutation-filter, filter-map, filter_same, map-map, map_same, ascending-map, ascending_weaker, ascending-filter}
use Rattle.sqlite_keyed.proofs.SortLemmas.{sorted_unique}
use Rattle.sql_meanings.specs.Queries.{ordered}
use Rattle.sql_meanings.specs.Tests.{compares}
use Rattle.sql_meanings.proofs.FormLemmas.{bare, outputs}

-- ---- tests

true_again : (b : Bool) → is_true (from_truth (Some b)) ≡ b
true_again true = refl
true_again false = refl

pub number_compares : (op : CompareOp) (v : Value) (n : ℤ) → is_true (binary (Compare op Binary) v (unary ToNumeric (Int n))) ≡ compares op v (Int n)
unfolding unary binary
number_compares op Null n = refl
number_compares op (Int m) n = true_again _
number_compares op (Real x) n = true_again _
number_compares op (Text t) n = true_again _
number_compares op (Blob b) n = true_again _

pub int_compares : (op : CompareOp) (v : Value) (n : ℤ) → is_true (binary (Compare op Binary) v (Int n)) ≡ compares op v (Int n)
unfolding binary
int_compares op Null n = refl
int_compares op (Int m) n = true_again _
int_compares op (Real x) n = true_again _
int_compares op (Text t) n = true_again _
int_compares op (Blob b) n = true_again _

pub bytes_compare : (op : CompareOp) (v : Value) (b : List ℕ) → is_true (binary (Compare op Binary) v (Blob b)) ≡ compares op v (Blob b)
unfolding binary
bytes_compare op Null b = refl
bytes_compare op (Int m) b = true_again _
bytes_compare op (Real x) b = true_again _
bytes_compare op (Text t) b = true_again _
bytes_compare op (Blob c) b = true_again _

-- ---- lists

firsts : (keys : Row → Row) (xs : List Row) → map (λ (o : Output). o.1) (map (λ s. (keys s, s)) xs) ≡ xs
firsts keys [] = refl
firsts keys (x ∷ xs) = ap (λ l. x ∷ l) (firsts keys xs)

pub both : (p q : Row → Bool) (rows : List Row) → filter p (filter q rows) ≡ filter (λ r. p r && q r) rows
both p q [] = refl
both p q (r ∷ rows) = go (p r) (q r) refl refl (both p q rows)
  where
    go : (b c : Bool) → p r ≡ b → q r ≡ c → filter p (filter q rows) ≡ filter (λ r. p r && q r) rows → filter p (filter q (r ∷ rows)) ≡ filter (λ r. p r && q r) (r ∷ rows)
    go true true e f more = rw (e, f) (rw e (ap (λ l. r ∷ l) more))
    go true false e f more = rw (e, f) more
    go false true e f more = rw (e, f) (rw e more)
    go false false e f more = rw (e, f) more

-- ---- SELECT .. FROM t WHERE .. ORDER BY ..

-- The rows of the tree that belong show the entries, in some order. The statement asks for those that are hit, by rising keys.
module _ {X : Type 0} (tree : ℕ) (tests project : List Term) (order : List (Term × Key)) (params : Row) (belongs hit : Row → Bool) (shown keys : Row → Row) (entry : X → Row) (lies : X → Bool) (Below : X → X → Type 0)
    (passes : (r : Row) → list_all (holds (params ∷ r ∷ [])) tests ≡ (hit (shown r) && belongs r))
    (shows : (r : Row) → output (ordered tree tests project order) (params ∷ r ∷ []) ≡ (keys (shown r), shown r))
    (in_range : (x : X) → hit (entry x) ≡ lies x)
    (rises : (a b : X) → Below a b → output_cmp (ordered tree tests project order) (keys (entry a), entry a) (keys (entry b), entry b) ≡ Less) where
  pub reads : (db : Trees) (xs : List X) (rows : List Row) → IsAscending Below xs → IsPermutation (map entry xs) (map shown (filter belongs (db tree)))
      → IsAnswer (ordered tree tests project order) (overlay db []) params rows → rows ≡ map entry (filter lies xs)
  reads db xs rows up held a =
      let q = ordered tree tests project order in
      let p : Row → Bool = λ r. hit (shown r) && belongs r in
      let as_output : Row → Output = λ s. (keys s, s) in
      let want = map entry (filter lies xs) in
      let kept : a.kept ≡ map (λ r. output q (params ∷ r ∷ [])) (filter p (db tree)) =
      a.distinct ∙ ap (map (output q)) a.grouped ∙ outputs q params p passes (overlay db [] tree) ∙ ap (λ rows. map (λ r. output q (params ∷ r ∷ [])) (filter p rows)) (bare db tree) in
      let alike : map (λ r. output q (params ∷ r ∷ [])) (filter p (db tree)) ≡ map as_output (map shown (filter p (db tree))) =
      map_same (λ r. output q (params ∷ r ∷ [])) (λ r. as_output (shown r)) shows (filter p (db tree)) ∙ sym (map-map as_output shown (filter p (db tree))) in
      let one : filter hit (map shown (filter belongs (db tree))) ≡ map shown (filter p (db tree)) = filter-map hit shown (filter belongs (db tree)) ∙ ap (map shown) (both (λ r. hit (shown r)) belongs (db tree)) in
      let mine : filter hit (map entry xs) ≡ want = filter-map hit entry xs ∙ ap (map entry) (filter_same (λ x. hit (entry x)) lies in_range xs) in
      let same : IsPermutation (map as_output want) a.kept =
      subst (IsPermutation (map as_output want)) (sym (kept ∙ alike))
      (IsPermutation-map as_output _ _ (subst (IsPermutation want) one (subst (λ l. IsPermutation l (filter hit (map shown (filter belongs (db tree))))) mine (IsPermutation-filter hit _ _ held)))) in
      let sorted : IsAscending (λ x y. output_cmp q x y ≡ Less) (map as_output want) =
      ascending-map _ as_output want (ascending-map _ entry (filter lies xs) (ascending_weaker _ _ rises (filter lies xs) (ascending-filter _ lies xs up))) in
      let ordered_is = sorted_unique (output_cmp q) (output_cmp_total q) (map as_output want) a.ordered sorted (IsPermutation-trans _ _ _ same a.same) a.sorted in
      a.shown ∙ ap (map (λ (o : Output). o.1)) ordered_is ∙ firsts keys want
