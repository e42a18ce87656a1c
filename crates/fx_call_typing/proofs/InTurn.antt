-- New names of columns, one pair of parts after another.
use Rattle.std.proofs.Common.{◌≡◌, ℕ, ◌-◌, ◌≤◌, List, [], ◌∷◌, length, map, take, drop, get_or, Bool, true, false, Option, Some, None, refl, sym, ap, ◌∙◌, arith, if◌then◌else◌}
use Rattle.std.proofs.lemmas.List.{take_all}
use Rattle.fx_core.specs.ColumnLists.{is_one_of}
use Rattle.fx_typing.specs.Breaks.{part_name, name_taken_or, with_name, names_renamed, taken_added, taken_renamed}
use Rattle.fx_typing.specs.Parts.{JudgedPart}

-- what is left behind a pair
pub behind_pair : {A : Type 0} (x y : A) (xs : List A) → take (length (x ∷ y ∷ xs) - 2) (drop 2 (x ∷ y ∷ xs)) ≡ xs
behind_pair x y xs = let e : length (x ∷ y ∷ xs) - 2 ≡ length xs = omega arith in rw e (take_all (length xs) xs (omega arith))

-- a name that isn't taken
not_taken : (o : Option (List ℕ)) (ns : List (List ℕ)) (later : Option (List ℕ)) → name_taken_or o ns None ≡ None → name_taken_or o ns later ≡ later
not_taken (Some x) ns later e = by (is_one_of x ns) e
  where
    by : (b : Bool) → if◌then◌else◌ {A = Option (List ℕ)} b (Some x) None ≡ None → (if b then Some x else later) ≡ later
    by true i = absurd cc
    by false i = refl
not_taken None ns later e = refl

-- one column more
pub added_step : {A : Type 0} (f : A → JudgedPart) (xs : List A) (a : A) (o : Option (List ℕ)) (ns ms : List (List ℕ)) →
    2 ≤ length xs → a ≡ get_or xs 0 a → o ≡ part_name (f a) → name_taken_or o ns None ≡ None → ms ≡ with_name o ns →
    taken_added (map f (take (length xs - 2) (drop 2 xs))) ms ≡ taken_added (map f xs) ns
added_step f [] a o ns ms h p e n w = absurd (omega arith)
added_step f (x ∷ []) a o ns ms h p e n w = absurd (omega arith)
added_step f (x ∷ y ∷ xs) a o ns ms h p e n w =
    let k : o ≡ part_name (f x) = e ∙ ap (λ z. part_name (f z)) p in
    ap (λ zs. taken_added (map f zs) ms) (behind_pair x y xs)
    ∙ ap (taken_added (map f xs)) w
    ∙ sym (not_taken o ns (taken_added (map f xs) (with_name o ns)) n)
    ∙ ap (λ z. name_taken_or z ns (taken_added (map f xs) (with_name z ns))) k

-- one column under a new name
pub renamed_step : {A : Type 0} (f : A → JudgedPart) (xs : List A) (a b : A) (o m : Option (List ℕ)) (ns ms : List (List ℕ)) →
    2 ≤ length xs → a ≡ get_or xs 0 a → b ≡ get_or xs 1 b → o ≡ part_name (f a) → m ≡ part_name (f b) → name_taken_or m ns None ≡ None → ms ≡ names_renamed o m ns →
    taken_renamed (map f (take (length xs - 2) (drop 2 xs))) ms ≡ taken_renamed (map f xs) ns
renamed_step f [] a b o m ns ms h p q e i n w = absurd (omega arith)
renamed_step f (x ∷ []) a b o m ns ms h p q e i n w = absurd (omega arith)
renamed_step f (x ∷ y ∷ xs) a b o m ns ms h p q e i n w =
    let k : o ≡ part_name (f x) = e ∙ ap (λ z. part_name (f z)) p in
    let j : m ≡ part_name (f y) = i ∙ ap (λ z. part_name (f z)) q in
    ap (λ zs. taken_renamed (map f zs) ms) (behind_pair x y xs)
    ∙ ap (taken_renamed (map f xs)) w
    ∙ sym (not_taken m ns (taken_renamed (map f xs) (names_renamed o m ns)) n)
    ∙ ap (λ z. name_taken_or m ns (taken_renamed (map f xs) (names_renamed z m ns))) k
    ∙ ap (λ z. name_taken_or z ns (taken_renamed (map f xs) (names_renamed (part_name (f x)) z ns))) j
