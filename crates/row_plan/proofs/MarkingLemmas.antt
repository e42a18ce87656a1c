-- The marks of lines, as one line changes.
use Rattle.std.proofs.Common.{◌≡◌, ◌≢◌, ◌∙◌, ℕ, ◌==◌, ◌&&◌, Bool, true, false, cond, not, List, [], ◌∷◌, map, filter, Some, IsPermutation, ap, ap₂, arith, refl, subst, sym}
use Rattle.std.specs.List.{AllByRecursion}
use Rattle.std.specs.Ordering.{is_eq}
use Rattle.std.proofs.lemmas.Bool.Decides.{nat_tests}
use Rattle.std.proofs.lemmas.Cmp.{int_cmp_total, nat_list_cmp_total, on_total, then_total, tied_itself}
use Rattle.std.proofs.lemmas.List.{map-append}
use Rattle.std.proofs.lemmas.List.Elements.{All-from_recursion, recursion_from_All}
use Rattle.std.proofs.lemmas.List.Sorted.{All-permutation, IsPermutation-cons, IsPermutation-map, IsPermutation-middle, IsPermutation-sym, IsPermutation-trans}
use Rattle.std.specs.Cmp.{IsTotalOrder}
use Rattle.std.specs.Prelude.{pos}
use Rattle.sqlite_keyed.proofs.ListLemmas.{IsPermutation-filter, filter-map}
use Rattle.sql_meanings.specs.Lines.{LinesOf, has_number, with_body, with_line, without_line}
use Rattle.sql_meanings.specs.Marks.{IsUnmarked, MarksOf, is_mark_of, key_cmp, mark_cmp, with_mark, without_mark}
use Rattle.sql_meanings.proofs.EntryLemmas.{IsPermutation-insert_sorted}
use Rattle.row_changes.specs.Overlay.{body_at}
use Rattle.row_changes.proofs.ChangeLemmas.{Rising, numberless, only, set_apart}

mark_total : IsTotalOrder mark_cmp
mark_total = then_total (on_total (λ (m : List ℕ × ℕ). m.0) nat_list_cmp_total) (on_total (λ (m : List ℕ × ℕ). pos m.1) int_cmp_total)

all_mapped : {A B : Type 0} (P : B → Type 0) (f : A → B) (xs : List A) → AllByRecursion (λ x. P (f x)) xs → AllByRecursion P (map f xs)
all_mapped P f [] h = tt
all_mapped P f (x ∷ xs) h = (h.0, all_mapped P f xs h.1)

and_no : (b : Bool) → (b && false) ≡ false
and_no true = refl
and_no false = refl

apart : (a b : ℕ) → a ≢ b → (a == b) ≡ false
apart a b n = grind (arith, nat_tests)

module _ (key : List ℕ → List ℕ) where
  abbrev mark : ℕ × List ℕ → List ℕ × ℕ
  mark x = (key x.1, x.0)

  abbrev pub Marked : LinesOf → MarksOf → Type 0
  Marked xs ms = IsPermutation (map mark xs) ms

  pub unmarked : (id : ℕ) (xs : LinesOf) (ms : MarksOf) → Marked xs ms → AllByRecursion (λ (x : ℕ × List ℕ). x.0 ≢ id) xs → IsUnmarked id ms
  unmarked id xs ms h others =
      recursion_from_All (λ (m : List ℕ × ℕ). m.1 ≢ id) ms
      (All-permutation (λ (m : List ℕ × ℕ). m.1 ≢ id) (map mark xs) ms h (All-from_recursion (λ (m : List ℕ × ℕ). m.1 ≢ id) (map mark xs) (all_mapped (λ (m : List ℕ × ℕ). m.1 ≢ id) mark xs others)))

  -- a line more
  pub put_marked : (id : ℕ) (body : List ℕ) (xs : LinesOf) (ms : MarksOf) → Marked xs ms → Marked (with_line id body xs) (with_mark (key body) id ms)
  put_marked id body xs ms h =
      subst (λ l. IsPermutation l (with_mark (key body) id ms)) (sym (map-append mark xs ((id, body) ∷ [])))
      (IsPermutation-trans _ _ _ (IsPermutation-middle (map mark xs) (key body, id) [])
      (IsPermutation-trans _ _ _ (IsPermutation-cons (key body, id) _ _ (subst (λ l. IsPermutation l ms) (sym (Rattle.std.proofs.Common.append-nil (map mark xs))) h))
      (IsPermutation-sym _ _ (IsPermutation-insert_sorted mark_cmp mark_total (key body, id) ms))))

  same_test : (id : ℕ) (old : List ℕ) (x : ℕ × List ℕ) → ((x.0 == id) ≡ true → x.1 ≡ old) → is_mark_of (key old) id (mark x) ≡ has_number id x
  same_test id old x is = by (x.0 == id) refl
    where
      by : (b : Bool) → (x.0 == id) ≡ b → (is_eq (key_cmp (key x.1) (key old)) && (x.0 == id)) ≡ (x.0 == id)
      by true e =
          ap (λ b. is_eq (key_cmp (key x.1) (key old)) && b) e ∙ ap (λ k. is_eq (key_cmp (key k) (key old)) && true) (is e)
          ∙ ap (λ o. is_eq o && true) (tied_itself nat_list_cmp_total (key old)) ∙ sym e
      by false e = ap (λ b. is_eq (key_cmp (key x.1) (key old)) && b) e ∙ and_no (is_eq (key_cmp (key x.1) (key old))) ∙ sym e

  left_alike : (id : ℕ) (old : List ℕ) (xs : LinesOf) → AllByRecursion (λ (x : ℕ × List ℕ). (x.0 == id) ≡ true → x.1 ≡ old) xs
      → filter (λ x. not (is_mark_of (key old) id (mark x))) xs ≡ without_line id xs
  left_alike id old [] h = refl
  left_alike id old (x ∷ xs) h =
      ap₂ (λ b l. cond (not b) (x ∷ l) l) (same_test id old x h.0) (left_alike id old xs h.1)

  -- a line less
  pub taken_marked : (id : ℕ) (old : List ℕ) (xs : LinesOf) (ms : MarksOf) → Rising xs → body_at id xs ≡ Some old → Marked xs ms → Marked (without_line id xs) (without_mark (key old) id ms)
  taken_marked id old xs ms up there h =
      subst (λ l. IsPermutation l (without_mark (key old) id ms))
      (filter-map (λ m. not (is_mark_of (key old) id m)) mark xs ∙ ap (λ l. map mark l) (left_alike id old xs (only id old xs up there)))
      (IsPermutation-filter (λ m. not (is_mark_of (key old) id m)) (map mark xs) ms h)

  pub taken_unmarked : (id : ℕ) (old : List ℕ) (xs : LinesOf) (ms : MarksOf) → Rising xs → body_at id xs ≡ Some old → Marked xs ms → IsUnmarked id (without_mark (key old) id ms)
  taken_unmarked id old xs ms up there h = unmarked id (without_line id xs) (without_mark (key old) id ms) (taken_marked id old xs ms up there h) (numberless id xs)

  -- a line with another body: its mark stays where its key does, or goes out and another one is put
  pub set_marked : (id : ℕ) (old body : List ℕ) (xs : LinesOf) (ms : MarksOf) → Rising xs → body_at id xs ≡ Some old → Marked xs ms
      → Marked (with_body id body xs) (with_mark (key body) id (without_mark (key old) id ms))
  set_marked id old body xs ms up there h =
      IsPermutation-trans _ _ _ (IsPermutation-sym _ _ (IsPermutation-map mark _ _ (set_apart id old body xs up there)))
      (IsPermutation-trans _ _ _ (IsPermutation-cons (key body, id) _ _ (taken_marked id old xs ms up there h))
      (IsPermutation-sym _ _ (IsPermutation-insert_sorted mark_cmp mark_total (key body, id) (without_mark (key old) id ms))))

  set_alike : (id : ℕ) (old body : List ℕ) (xs : LinesOf) → key old ≡ key body → AllByRecursion (λ (x : ℕ × List ℕ). (x.0 == id) ≡ true → x.1 ≡ old) xs → map mark (with_body id body xs) ≡ map mark xs
  set_alike id old body [] same h = refl
  set_alike id old body (x ∷ xs) same h = ap₂ ◌∷◌ (by (x.0 == id) refl) (set_alike id old body xs same h.1)
    where
      by : (b : Bool) → (x.0 == id) ≡ b → mark (cond (x.0 == id) (x.0, body) x) ≡ mark x
      by true e = ap (λ b. mark (cond b (x.0, body) x)) e ∙ ap (λ k. (k, x.0)) (sym same ∙ sym (ap key (h.0 e)))
      by false e = ap (λ b. mark (cond b (x.0, body) x)) e

  pub set_same : (id : ℕ) (old body : List ℕ) (xs : LinesOf) (ms : MarksOf) → Rising xs → body_at id xs ≡ Some old → key old ≡ key body → Marked xs ms → Marked (with_body id body xs) ms
  set_same id old body xs ms up there same h = subst (λ l. IsPermutation l ms) (sym (set_alike id old body xs same (only id old xs up there))) h
