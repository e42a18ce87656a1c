-- The names of a call that groups: keys, and behind them the name of the groups.
use Rattle.std.proofs.Common.{◌≡◌, ℕ, suc, ◌-◌, ◌<◌, List, [], ◌∷◌, length, map, take, get_or, Option, Some, None, Result, Ok, Err, true, false, refl, sym, ap, ◌∙◌, arith}
use Rattle.std.specs.Prelude.{is_some, option_map}
use Rattle.fx_types.specs.Types.{Shape, ColumnList}
use Rattle.fx_core.specs.Term.{Term}
use Rattle.fx_core.specs.ColumnLists.{and_then, before_last, field_in, if_free}
use Rattle.fx_typing.specs.Columns.{label_of, last_label, by_label, grouped, grouped_by}
use Rattle.fx_typing.specs.declared.typed.Typed.{Typed}
use Rattle.fx_typing.specs.TypedView.{typed}

pub last_named : (xs : List Typed) (d : Typed) → 0 < length xs → last_label (map typed xs) ≡ label_of (get_or xs (length xs - 1) d).core
last_named [] d h = absurd (omega arith)
last_named (x ∷ []) d h = refl
last_named (x ∷ y ∷ xs) d h =
    let e : suc (length (y ∷ xs) - 1) ≡ length (x ∷ y ∷ xs) - 1 = omega arith in
    last_named (y ∷ xs) d (omega arith) ∙ ap (λ i. label_of (get_or (x ∷ y ∷ xs) i d).core) e

pub keys_before : {A B : Type 0} (f : A → B) (xs : List A) → before_last (map f xs) ≡ map f (take (length xs - 1) xs)
keys_before f [] = refl
keys_before f (x ∷ []) = refl
keys_before f (x ∷ y ∷ xs) =
    let e : suc (length (y ∷ xs) - 1) ≡ length (x ∷ y ∷ xs) - 1 = omega arith in
    ap (λ zs. f x ∷ zs) (keys_before f (y ∷ xs)) ∙ ap (λ i. map f (take i (x ∷ y ∷ xs))) e

-- the columns of groups, by the last part and those before it
pub grouped_parts : (xs : List Typed) (g : Typed) (cs : ColumnList) → 0 < length xs → g ≡ get_or xs (length xs - 1) g →
    grouped (map typed xs) cs ≡ by_label (label_of g.core) (λ n. and_then (if_free (field_in n cs) cs) (λ ds. grouped_by n (map typed (take (length xs - 1) xs)) ds))
grouped_parts xs g cs h p =
    let P : Option (List ℕ) → List (Term × Shape) → Result ColumnList ℕ = λ o ks. by_label o (λ n. and_then (if_free (field_in n cs) cs) (λ ds. grouped_by n ks ds)) in
    ap (λ o. P o (before_last (map typed xs))) (last_named xs g h ∙ ap (λ (t : Typed). label_of t.core) (sym p)) ∙ ap (P (label_of g.core)) (keys_before typed xs)

-- what a name decides
unnamed : {B : Type 0} (o : Option (List ℕ)) (go : List ℕ → Result B ℕ) (k : ℕ) → by_label o (λ n. Ok n) ≡ Err k → by_label o go ≡ Err k
unnamed None go k e = let z : 6 ≡ k = cc in ap Err z
unnamed (Some m) go k e = absurd cc

named_as : {B : Type 0} (o : Option (List ℕ)) (go : List ℕ → Result B ℕ) (n : List ℕ) → by_label o (λ m. Ok m) ≡ Ok n → by_label o go ≡ go n
named_as None go n e = absurd cc
named_as (Some m) go n e = let z : m ≡ n = cc in ap go z

-- the columns of groups under a name, where the last part gives none, and where it gives one
abbrev pub groups_under : List ℕ → List Typed → ColumnList → Result ColumnList ℕ
groups_under n xs ds = grouped_by n (map typed (take (length xs - 1) xs)) ds

pub group_unnamed : (xs : List Typed) (g : Typed) (cs : ColumnList) (k : ℕ) → 0 < length xs → g ≡ get_or xs (length xs - 1) g →
    by_label (label_of g.core) (λ n. Ok n) ≡ Err k → grouped (map typed xs) cs ≡ Err k
group_unnamed xs g cs k h p e = grouped_parts xs g cs h p ∙ unnamed (label_of g.core) (λ n. and_then (if_free (field_in n cs) cs) (groups_under n xs)) k e

pub group_named : (xs : List Typed) (g : Typed) (cs : ColumnList) (n : List ℕ) → 0 < length xs → g ≡ get_or xs (length xs - 1) g →
    by_label (label_of g.core) (λ n. Ok n) ≡ Ok n → grouped (map typed xs) cs ≡ and_then (if_free (field_in n cs) cs) (groups_under n xs)
group_named xs g cs n h p e = grouped_parts xs g cs h p ∙ named_as (label_of g.core) (λ n. and_then (if_free (field_in n cs) cs) (groups_under n xs)) n e

-- where a column has the name, and where none has it
pub name_taken : {A : Type 0} (f : A → Shape) (r : Option A) (o : Option Shape) (cs : ColumnList) (go : ColumnList → Result ColumnList ℕ) →
    option_map f r ≡ o → is_some r ≡ true → and_then (if_free o cs) go ≡ Err 5
name_taken f None o cs go e h = absurd cc
name_taken f (Some a) o cs go e h = ap (λ p. and_then (if_free p cs) go) (sym e)

pub name_free : {A : Type 0} (f : A → Shape) (r : Option A) (o : Option Shape) (cs : ColumnList) (go : ColumnList → Result ColumnList ℕ) →
    option_map f r ≡ o → is_some r ≡ false → and_then (if_free o cs) go ≡ go cs
name_free f None o cs go e h = ap (λ p. and_then (if_free p cs) go) (sym e)
name_free f (Some a) o cs go e h = absurd cc
