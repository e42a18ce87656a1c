-- Things at the places of their names.
use Rattle.std.proofs.Common.{◌≡◌, ℕ, suc, ◌+◌, Bool, true, false, cond, List, [], ◌∷◌, ◌++◌, length, slice_get, Option, Some, None, refl, sym, ap, ◌∙◌, arith, bytes_eq, nat_lt, not}
use Rattle.std.specs.BTreeMap.{BTreeMap, is_at}
use Rattle.std.specs.Cmp.Lexicographic.{slice_cmp}
use Rattle.std.specs.List.{find, position, position_or_len}
use Rattle.std.specs.Ordering.{nat_cmp}
use Rattle.std.proofs.lemmas.Grind.{common_steps}
use Rattle.std.proofs.lemmas.Bool.Decides.{nat_tests}
use Rattle.std.proofs.lemmas.List.Folds.{find_at, position_or_len_push}
use Rattle.std.proofs.lemmas.List.Sums.{prefix_len-le-length}
use Rattle.std.proofs.lemmas.Map.Text.{is_eq-slice_cmp}
use Rattle.std.proofs.lemmas.Option.{slice_get_past}
use Rattle.std.proofs.lemmas.Slice.Eq.{bytes_eq-Decides}
use Rattle.fx_core.specs.Formulas.{IsIndexNoted, IsIndexOf, or_placed, formula_index, retyped}
use Rattle.fx_types.specs.declared.types.Ty.{Ty}
use Rattle.fx_core.specs.declared.names.FormulaName.{FormulaName}

pub find_none : {X : Type 0} (p : X → Bool) (xs : List X) → position p xs ≡ None → find p xs ≡ None
find_none {X} p xs h = find_at p xs ∙ grind (arith, nat_tests, slice_get_past xs (position_or_len p xs))

pub find_some : {X : Type 0} (p : X → Bool) (xs : List X) (k : ℕ) → position p xs ≡ Some k → find p xs ≡ slice_get xs k
find_some {X} p xs k h = find_at p xs ∙ grind (arith, nat_tests)

pub position_push : {X : Type 0} (p : X → Bool) (xs : List X) (y : X)
    → position p (xs ++ y ∷ []) ≡ or_placed (position p xs) (cond (p y) (Some (length xs)) None)
position_push {X} p xs y =
    grind (arith, nat_tests, common_steps, position_or_len_push p xs y, prefix_len-le-length (λ x. not (p x)) xs)

-- one formula more
pub placed_push : (old new : BTreeMap (List ℕ) ℕ) (fs : List FormulaName) (f : FormulaName)
    → IsIndexOf old fs → IsIndexNoted old new f.name (length fs) → IsIndexOf new (fs ++ f ∷ [])
placed_push old new fs f h n = λ x.
    n x ∙ ap (λ o. or_placed o (cond (bytes_eq f.name x) (Some (length fs)) None)) (h x)
    ∙ sym (position_push (λ (g : FormulaName). bytes_eq g.name x) fs f)

-- a name that had no place has one
either_place : (b : Bool) (o : Option ℕ) (k : ℕ) → (b ≡ true → o ≡ None) → cond b (Some k) o ≡ or_placed o (cond b (Some k) None)
either_place true o k h = sym (ap (λ p. or_placed p (Some k)) (h refl))
either_place false None k h = refl
either_place false (Some j) k h = refl

pub noted : (old new : BTreeMap (List ℕ) ℕ) (name : List ℕ) (k : ℕ) → formula_index old name ≡ None
    → ((q : List ℕ) → formula_index new q ≡ cond (is_at (slice_cmp nat_cmp name) q) (Some k) (formula_index old q)) → IsIndexNoted old new name k
noted old new name k none updates = λ q.
    updates q ∙ ap (λ b. cond b (Some k) (formula_index old q)) (is_eq-slice_cmp name q)
    ∙ either_place (bytes_eq name q) (formula_index old q) k (λ e. ap (formula_index old) (sym ((bytes_eq-Decides name q).0 e)) ∙ none)

-- a name that has a place keeps it
pub kept : (places : BTreeMap (List ℕ) ℕ) (name : List ℕ) (k : ℕ) → (formula_index places name ≡ None → ⊥) → IsIndexNoted places places name k
kept places name k some = λ q. kept_at (bytes_eq name q) (formula_index places q) (λ e. λ n. some (ap (formula_index places) ((bytes_eq-Decides name q).0 e) ∙ n))
  where
    kept_at : (b : Bool) (o : Option ℕ) → (b ≡ true → o ≡ None → ⊥) → o ≡ or_placed o (cond b (Some k) None)
    kept_at b (Some j) h = refl
    kept_at false None h = refl
    kept_at true None h = absurd (h refl refl)

-- other types leave the places
names_apart : (x : List ℕ) (fs : List FormulaName) (ts : List Ty) → length ts ≡ length fs
    → position_or_len (λ (f : FormulaName). bytes_eq f.name x) (retyped fs ts) ≡ position_or_len (λ (f : FormulaName). bytes_eq f.name x) fs
names_apart x [] [] e = refl
names_apart x [] (t ∷ ts) e = absurd (omega arith)
names_apart x (f ∷ fs) [] e = absurd (omega arith)
names_apart x (f ∷ fs) (t ∷ ts) e = ap (λ n. cond (not (bytes_eq f.name x)) (1 + n) 0) (names_apart x fs ts (omega arith))

length_retyped : (fs : List FormulaName) (ts : List Ty) → length ts ≡ length fs → length (retyped fs ts) ≡ length fs
length_retyped [] [] e = refl
length_retyped [] (t ∷ ts) e = absurd (omega arith)
length_retyped (f ∷ fs) [] e = absurd (omega arith)
length_retyped (f ∷ fs) (t ∷ ts) e = ap suc (length_retyped fs ts (omega arith))

pub placed_retyped : (places : BTreeMap (List ℕ) ℕ) (fs : List FormulaName) (ts : List Ty) → length ts ≡ length fs
    → IsIndexOf places fs → IsIndexOf places (retyped fs ts)
placed_retyped places fs ts e h = λ x. h x ∙ sym (ap (λ n. cond (nat_lt n (length (retyped fs ts))) (Some n) None) (names_apart x fs ts e)
    ∙ ap (λ m. cond (nat_lt (position_or_len (λ (f : FormulaName). bytes_eq f.name x) fs) m) (Some (position_or_len (λ (f : FormulaName). bytes_eq f.name x) fs)) None) (length_retyped fs ts e))
