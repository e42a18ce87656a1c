-- The types after so many rounds.
use Rattle.std.proofs.Common.{◌≡◌, ◌≢◌, ℕ, zero, suc, ◌+◌, ◌<◌, ◌≤◌, List, [], ◌∷◌, ◌++◌, drop, append_assoc, true, false, length, map, replicate, refl, ap, sym, subst, ◌∙◌, add-one, arith}
use Rattle.std.specs.Prelude.{◌&&◌, ◌==◌}
use Rattle.std.proofs.lemmas.List.{length-map, map-append}
use Rattle.std.proofs.lemmas.Slice.Eq.{bytes_eq-Decides}
use Rattle.std.proofs.lemmas.Bool.{and_parts}
use Rattle.fx_types.specs.TypeView.{shape}
use Rattle.fx_types.specs.Types.{Shape, blanks, numbers, texts, booleans, dates, records, tables, ColumnList, no_columns, column}
use Rattle.fx_types.specs.declared.types.Ty.{Ty}
use Rattle.fx_typing.specs.Rounds as rounds
use Rattle.fx_typing.specs.Rounds.{Cell, AfterRounds, AreFinalTypes, SameNames, first_types, next_types, types_in, items_type, items_types, formula_type, variable_join, collection_join, all_given}
use Rattle.fx_core.specs.declared.names.Collection.{Collection}
use Rattle.fx_core.specs.declared.names.ControlName.{ControlName}
use Rattle.fx_core.specs.declared.names.Names.{Names}
use Rattle.fx_core.specs.declared.names.Variable.{Variable}
use Rattle.fx_typing.proofs.Same.{shape_same}
use Rattle.fx_typing.specs.Ways.{same_shape, same_columns}
use Rattle.fx_infer.specs.SameTypes.{same_shapes, same_types}
use Rattle.fx_infer.specs.TypesView.{AreAsMany, types_view}
use Rattle.fx_infer.specs.declared.round_types.Types.{Types}
use Rattle.fx_infer.proofs.Same.{names_through}

mutual
  shape_one : (t : Shape) → same_shape t t ≡ true
  shape_one blanks = refl
  shape_one numbers = refl
  shape_one texts = refl
  shape_one booleans = refl
  shape_one dates = refl
  shape_one (records cs) = columns_one cs
  shape_one (tables cs) = columns_one cs

  columns_one : (cs : ColumnList) → same_columns cs cs ≡ true
  columns_one no_columns = refl
  columns_one (column n t cs) = ap (λ b. b && (same_shape t t && same_columns cs cs)) ((bytes_eq-Decides n n).1 refl)
      ∙ ap (λ b. b && same_columns cs cs) (shape_one t) ∙ columns_one cs

shapes_same : (ts us : List Shape) → same_shapes ts us ≡ true → ts ≡ us
shapes_same [] [] e = refl
shapes_same [] (u ∷ us) e = absurd cc
shapes_same (t ∷ ts) [] e = absurd cc
shapes_same (t ∷ ts) (u ∷ us) e =
    let p = and_parts (same_shape t u) (same_shapes ts us) e in
    ap (λ x. x ∷ ts) (shape_same t u p.0) ∙ ap (λ xs. u ∷ xs) (shapes_same ts us p.1)

shapes_one : (ts : List Shape) → same_shapes ts ts ≡ true
shapes_one [] = refl
shapes_one (t ∷ ts) = ap (λ b. b && same_shapes ts ts) (shape_one t) ∙ shapes_one ts

types_same : (a b : rounds.Types) → same_types a b ≡ true → a ≡ b
types_same a b e =
    let p = and_parts (same_shapes a.variables b.variables) _ e in
    let q = and_parts (same_shapes a.collections b.collections) _ p.1 in
    let r = and_parts (same_shapes a.formulas b.formulas) (same_shapes a.items b.items) q.1 in
    λ i. record {
      variables = shapes_same a.variables b.variables p.0 i;
      collections = shapes_same a.collections b.collections q.0 i;
      formulas = shapes_same a.formulas b.formulas r.0 i;
      items = shapes_same a.items b.items r.1 i;
    }

not_none : (k : ℕ) → (suc k == 0) ≡ false
not_none k = grind arith

-- where no thing is left, the types are the same if none is left
pub ended : {A : Type 0} (f : A → Shape) (ts : List Ty) (us : List A) → (length us == 0) ≡ true →
    (length ts == 0) ≡ same_shapes (map shape ts) (map f us)
ended f [] [] e = refl
ended f (t ∷ ts) [] e = not_none (length ts)
ended f ts (u ∷ us) e = let n : (length (u ∷ us) == 0) ≡ false = not_none (length us) in absurd cc

types_one : (a : rounds.Types) → same_types a a ≡ true
types_one a =
    ap (λ b. b && (same_shapes a.collections a.collections && (same_shapes a.formulas a.formulas && same_shapes a.items a.items))) (shapes_one a.variables)
    ∙ ap (λ b. b && (same_shapes a.formulas a.formulas && same_shapes a.items a.items)) (shapes_one a.collections)
    ∙ ap (λ b. b && same_shapes a.items a.items) (shapes_one a.formulas)
    ∙ shapes_one a.items

pub types_differ : (a b : rounds.Types) → same_types a b ≡ false → a ≢ b
types_differ a b e k = let t : same_types a b ≡ true = subst (λ x. same_types a x ≡ true) k (types_one a) in absurd cc

-- there is a type for each name
as_many : (ts : List Ty) (k : ℕ) → length (map shape ts) ≡ k → length ts ≡ k
as_many ts k e = sym (length-map ts shape) ∙ e

length_replicate : (k : ℕ) (t : Shape) → length (replicate k t) ≡ k
length_replicate zero t = refl
length_replicate (suc k) t = ap suc (length_replicate k t)

items_count : (n : Names) (cs : List Cell) (k : ℕ) (xs : List ControlName) → length (items_types n cs k xs) ≡ length xs
items_count n cs k [] = refl
items_count n cs k (x ∷ xs) = ap suc (items_count n cs (suc k) xs)

-- the next control
left_from : {A : Type 0} (xs : List A) (i : ℕ) → i < length xs → (x : A) × (drop i xs ≡ x ∷ drop (suc i) xs)
left_from [] i h = absurd (omega arith)
left_from (x ∷ xs) zero h = (x, refl)
left_from (x ∷ xs) (suc i) h = left_from xs i (omega arith)

pub items_more : (n : Names) (cs : List Cell) (i : ℕ) (xs : List ControlName) (old more : List Ty) (t : Ty) → i < length xs →
    more ≡ old ++ t ∷ [] → shape t ≡ items_type n cs i →
    map shape old ++ items_types n cs i (drop i xs) ≡ items_types n cs 0 xs →
    map shape more ++ items_types n cs (i + 1) (drop (i + 1) xs) ≡ items_types n cs 0 xs
items_more n cs i xs old more t h p e inv =
    let x = left_from xs i h in
    ap (λ ts. map shape ts ++ items_types n cs (i + 1) (drop (i + 1) xs)) p
    ∙ ap (λ k. map shape (old ++ t ∷ []) ++ items_types n cs k (drop k xs)) (add-one i)
    ∙ ap (λ ts. ts ++ items_types n cs (suc i) (drop (suc i) xs)) (map-append shape old (t ∷ []))
    ∙ append_assoc (map shape old) (shape t ∷ []) (items_types n cs (suc i) (drop (suc i) xs))
    ∙ ap (λ u. map shape old ++ u ∷ items_types n cs (suc i) (drop (suc i) xs)) e
    ∙ sym (ap (λ ys. map shape old ++ items_types n cs i ys) x.1)
    ∙ inv

pub first_fits : (ts : Types) (n : Names) → types_view ts ≡ first_types n → AreAsMany ts n
first_fits ts n e = record {
  variables = as_many ts.variables.items (length n.variables) (ap (λ (t : rounds.Types). length t.variables) e ∙ length_replicate (length n.variables) blanks);
  collections = as_many ts.collections.items (length n.collections) (ap (λ (t : rounds.Types). length t.collections) e ∙ length_replicate (length n.collections) blanks);
  formulas = as_many ts.formulas.items (length n.formulas) (ap (λ (t : rounds.Types). length t.formulas) e ∙ length_replicate (length n.formulas) blanks);
  items = as_many ts.items.items (length n.controls) (ap (λ (t : rounds.Types). length t.items) e ∙ length_replicate (length n.controls) blanks);
}

pub next_fits : (ts : Types) (cs : List Cell) (n : Names) → types_view ts ≡ next_types cs n → AreAsMany ts n
next_fits ts cs n e = record {
  variables = as_many ts.variables.items (length n.variables) (ap (λ (t : rounds.Types). length t.variables) e
      ∙ length-map n.variables (λ (v : Variable). variable_join v blanks (all_given n cs)));
  collections = as_many ts.collections.items (length n.collections) (ap (λ (t : rounds.Types). length t.collections) e
      ∙ length-map n.collections (λ (c : Collection). collection_join c blanks (all_given n cs)));
  formulas = as_many ts.formulas.items (length n.formulas) (ap (λ (t : rounds.Types). length t.formulas) e ∙ length-map n.formulas (formula_type n cs));
  items = as_many ts.items.items (length n.controls) (ap (λ (t : rounds.Types). length t.items) e ∙ items_count n cs 0 n.controls);
}

-- one round more
pub after_same : (cs : List Cell) (n m : Names) (k : ℕ) → AfterRounds cs n k m → SameNames n m
after_same cs n m zero a = a.0
after_same cs n m (suc k) a = a.0

pub after_next : (cs : List Cell) (n b m : Names) (k : ℕ) → AfterRounds cs n k b → SameNames b m → types_in m ≡ next_types cs b → AfterRounds cs n (k + 1) m
after_next cs n b m k a s t = subst (λ j. AfterRounds cs n j m) (sym (add-one k)) (names_through n b m (after_same cs n b k a) s, b, a, t)

-- what holds below, and here, holds up to here
pub up_to : (P : ℕ → Type 0) (n : ℕ) → ((k : ℕ) → k < n → P k) → P n → (k : ℕ) → k < n + 1 → P k
up_to P zero f p zero h = p
up_to P zero f p (suc k) h = absurd (omega arith)
up_to P (suc n) f p zero h = f zero (omega arith)
up_to P (suc n) f p (suc k) h = up_to (λ j. P (suc j)) n (λ j g. f (suc j) (omega arith)) p k (omega arith)

-- what is below all is below the last
pub below_last : (k r n : ℕ) → k < n → n ≤ r → k < r
below_last k r n h g = omega arith

-- a round that keeps all types is the last
pub is_final : (cs : List Cell) (n t : Names) (ts : Types) (k : ℕ) → k < 256 → AfterRounds cs n k t → types_view ts ≡ next_types cs t →
    same_types (types_view ts) (types_in t) ≡ true → AreFinalTypes cs n t
is_final cs n t ts k l a e s = (k, l, a, sym e ∙ types_same (types_view ts) (types_in t) s)
