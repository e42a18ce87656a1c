-- Formulas by the numbers of their places.
use Rattle.std.proofs.Common.{◌≡◌, ℕ, ◌+◌, ◌<◌, ◌&&◌, Bool, true, false, cond, List, [], ◌∷◌, ◌++◌, length, map, take, get_or, slice_get, Option, Some, None, option_map, refl, sym, ap, subst, ◌∙◌, arith, bytes_eq, nat_eq, nat_lt, not}
use Rattle.std.specs.BTreeMap.{BTreeMap, is_at}
use Rattle.std.specs.Cmp.Lexicographic.{slice_cmp}
use Rattle.std.specs.List.{find, position, position_or_len}
use Rattle.std.specs.Ordering.{is_eq, nat_cmp, ordering_then}
use Rattle.std.specs.declared.cmp.Ordering.{Ordering}
use Rattle.std.specs.declared.cmp.Ordering.TheVariants.{Less, Equal, Greater}
use Rattle.std.proofs.lemmas.Grind.{common_steps}
use Rattle.std.proofs.lemmas.Bool.Decides.{nat_tests}
use Rattle.std.proofs.lemmas.List.{length-take-le, take_more}
use Rattle.std.proofs.lemmas.List.Folds.{find_at, position_or_len_push}
use Rattle.std.proofs.lemmas.List.Sums.{prefix_len-le-length}
use Rattle.std.proofs.lemmas.Map.Text.{is_eq-slice_cmp}
use Rattle.std.proofs.lemmas.Option.{slice_get_past}
use Rattle.app_texts.specs.Places.{is_same_spot}
use Rattle.app_texts.proofs.Counts.{same_is}
use Rattle.app_texts.specs.Numbers.{AreNumbers, IsNumberNoted, in_order, is_written_at, spot_number, or_numbered, spot_order}
use Rattle.app_cells.specs.declared.app.CellInfo.{CellInfo}
use Rattle.app_cells.specs.declared.cell.Spot.{Spot}
use Rattle.app_cells.specs.declared.cell.Spot.TheVariants as spot
use Rattle.app_texts.specs.declared.numbers.Place.{Place}
use Rattle.app_texts.specs.declared.numbers.Place.TheVariants as place

-- ---- the order tells places apart
is_eq_number : (j k : ℕ) → is_eq (nat_cmp j k) ≡ nat_eq j k
is_eq_number j k = grind (arith, nat_tests, common_steps)

is_eq_then : (o q : Ordering) → is_eq (ordering_then o q) ≡ (is_eq o && is_eq q)
is_eq_then Less q = refl
is_eq_then Equal q = refl
is_eq_then Greater q = refl

pub tells : (r s : Spot) → is_eq (in_order (spot_order r) (spot_order s)) ≡ is_same_spot s r
tells (spot.Formula y) (spot.Formula x) = is_eq-slice_cmp y x
tells (spot.Formula y) spot.OnStart = refl
tells (spot.Formula y) (spot.OnVisible s) = refl
tells (spot.Formula y) (spot.Property k p) = refl
tells spot.OnStart (spot.Formula x) = refl
tells spot.OnStart spot.OnStart = refl
tells spot.OnStart (spot.OnVisible s) = refl
tells spot.OnStart (spot.Property k p) = refl
tells (spot.OnVisible r) (spot.Formula x) = refl
tells (spot.OnVisible r) spot.OnStart = refl
tells (spot.OnVisible r) (spot.OnVisible s) = is_eq_number r s
tells (spot.OnVisible r) (spot.Property k p) = refl
tells (spot.Property j q) (spot.Formula x) = refl
tells (spot.Property j q) spot.OnStart = refl
tells (spot.Property j q) (spot.OnVisible s) = refl
tells (spot.Property j q) (spot.Property k p) =
    is_eq_then (nat_cmp j k) (slice_cmp nat_cmp q p) ∙ ap (λ b. b && is_eq (slice_cmp nat_cmp q p)) (is_eq_number j k)
    ∙ ap (λ b. nat_eq j k && b) (is_eq-slice_cmp q p)

abbrev spot_of : Place → Spot
spot_of (place.Formula x) = spot.Formula x
spot_of place.OnStart = spot.OnStart
spot_of (place.OnVisible s) = spot.OnVisible s
spot_of (place.Property k p) = spot.Property k p

back : (p : Place) → spot_order (spot_of p) ≡ p
back (place.Formula x) = refl
back place.OnStart = refl
back (place.OnVisible s) = refl
back (place.Property k p) = refl

one_place : (p q : Place) → is_eq (in_order p q) ≡ true → p ≡ q
one_place p q e =
    let at : is_eq (in_order (spot_order (spot_of p)) (spot_order (spot_of q))) ≡ true =
    ap (λ x. is_eq (in_order x (spot_order (spot_of q)))) (back p) ∙ ap (λ y. is_eq (in_order p y)) (back q) ∙ e in
    sym (back p) ∙ ap spot_order (same_is (spot_of q) (spot_of p) (sym (tells (spot_of p) (spot_of q)) ∙ at)) ∙ back q

-- ---- a place gets a number
either_number : (b : Bool) (o : Option ℕ) (k : ℕ) → (b ≡ true → o ≡ None) → cond b (Some k) o ≡ or_numbered o (cond b (Some k) None)
either_number true o k h = sym (ap (λ p. or_numbered p (Some k)) (h refl))
either_number false None k h = refl
either_number false (Some j) k h = refl

pub noted : (old new : BTreeMap Place ℕ) (p : Place) (k : ℕ) → spot_number old p ≡ None
    → ((q : Place) → spot_number new q ≡ cond (is_at (in_order p) q) (Some k) (spot_number old q)) → IsNumberNoted old new p k
noted old new p k none updates = λ q.
    updates q ∙ either_number (is_eq (in_order p q)) (spot_number old q) k (λ e. ap (spot_number old) (sym (one_place p q e)) ∙ none)

pub kept : (numbers : BTreeMap Place ℕ) (p : Place) (k : ℕ) → (spot_number numbers p ≡ None → ⊥) → IsNumberNoted numbers numbers p k
kept numbers p k some = λ q. kept_at (is_eq (in_order p q)) (spot_number numbers q) (λ e. λ n. some (ap (spot_number numbers) (one_place p q e) ∙ n))
  where
    kept_at : (b : Bool) (o : Option ℕ) → (b ≡ true → o ≡ None → ⊥) → o ≡ or_numbered o (cond b (Some k) None)
    kept_at b (Some j) h = refl
    kept_at false None h = refl
    kept_at true None h = absurd (h refl refl)

-- ---- what is found
pub find_none : {X : Type 0} (p : X → Bool) (xs : List X) → position p xs ≡ None → find p xs ≡ None
find_none {X} p xs h = find_at p xs ∙ grind (arith, nat_tests, slice_get_past xs (position_or_len p xs))

pub find_some : {X : Type 0} (p : X → Bool) (xs : List X) (k : ℕ) → position p xs ≡ Some k → find p xs ≡ slice_get xs k
find_some {X} p xs k h = find_at p xs ∙ grind (arith, nat_tests)

find_mapped : {X Y : Type 0} (p : Y → Bool) (f : X → Y) (xs : List X) → find p (map f xs) ≡ option_map f (find (λ x. p (f x)) xs)
find_mapped p f [] = refl
find_mapped {X} {Y} p f (x ∷ xs) = by (p (f x)) (find_mapped p f xs)
  where
    by : (b : Bool) → find p (map f xs) ≡ option_map f (find (λ y. p (f y)) xs)
        → cond b (Some (f x)) (find p (map f xs)) ≡ option_map f (cond b (Some x) (find (λ y. p (f y)) xs))
    by true e = refl
    by false e = e

pub mapped_none : {X Y : Type 0} (p : Y → Bool) (f : X → Y) (xs : List X) → position (λ x. p (f x)) xs ≡ None → find p (map f xs) ≡ None
mapped_none p f xs h = find_mapped p f xs ∙ ap (option_map f) (find_none (λ x. p (f x)) xs h)

pub mapped_some : {X Y : Type 0} (p : Y → Bool) (f : X → Y) (xs : List X) (k : ℕ) → position (λ x. p (f x)) xs ≡ Some k
    → find p (map f xs) ≡ option_map f (slice_get xs k)
mapped_some p f xs k h = find_mapped p f xs ∙ ap (option_map f) (find_some (λ x. p (f x)) xs k h)

position_push : {X : Type 0} (p : X → Bool) (xs : List X) (y : X)
    → position p (xs ++ y ∷ []) ≡ or_numbered (position p xs) (cond (p y) (Some (length xs)) None)
position_push {X} p xs y =
    grind (arith, nat_tests, common_steps, position_or_len_push p xs y, prefix_len-le-length (λ x. not (p x)) xs)

-- ---- one formula more
numbered_push : (old new : BTreeMap Place ℕ) (is : List CellInfo) (i : CellInfo) → AreNumbers old is → IsNumberNoted old new (spot_order i.cell.spot) (length is)
    → AreNumbers new (is ++ i ∷ [])
numbered_push old new is i h n = λ s.
    n (spot_order s) ∙ ap (λ o. or_numbered o (cond (is_eq (in_order (spot_order i.cell.spot) (spot_order s))) (Some (length is)) None)) (h s)
    ∙ ap (λ b. or_numbered (position (is_written_at s) is) (cond b (Some (length is)) None)) (tells i.cell.spot s)
    ∙ sym (position_push (is_written_at s) is i)

pub numbered_more : (old new : BTreeMap Place ℕ) (is : List CellInfo) (k : ℕ) (i : CellInfo) (p : Place) → k < length is → i ≡ get_or is k i → p ≡ spot_order i.cell.spot
    → AreNumbers old (take k is) → IsNumberNoted old new p k → AreNumbers new (take (k + 1) is)
numbered_more old new is k i p l g e h n =
    let same : take (k + 1) is ≡ take k is ++ i ∷ [] = take_more is k i l ∙ ap (λ j. take k is ++ j ∷ []) (sym g) in
    let size : length (take k is) ≡ k = length-take-le k is (omega (arith, l)) in
    let noted_here : IsNumberNoted old new (spot_order i.cell.spot) (length (take k is)) =
    subst (IsNumberNoted old new (spot_order i.cell.spot)) (sym size) (subst (λ q. IsNumberNoted old new q k) e n) in
    subst (AreNumbers new) (sym same) (numbered_push old new (take k is) i h noted_here)
