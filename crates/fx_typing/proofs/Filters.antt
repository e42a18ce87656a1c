-- The rows that are filtered for a change.
use Rattle.std.proofs.Common.{◌≡◌, ℕ, suc, ◌%◌, ◌++◌, List, [], ◌∷◌, Bool, true, false, nat_eq, ne_eqb, length, Option, Some, None, Ok, Err, refl, ap, sym, subst, ◌∙◌, if◌then◌else◌, arith}
use Rattle.fx_types.specs.Types.{Shape, blanks, numbers, texts, booleans, dates, records, tables, ColumnList, no_columns}
use Rattle.fx_core.specs.declared.functions.Fun.TheVariants as fun
use Rattle.fx_core.specs.declared.rows.Row.{Row}
use Rattle.fx_core.specs.declared.rows.Scalar.TheVariants.{Boolean}
use Rattle.fx_core.specs.declared.rows.Takes.TheVariants as takes
use Rattle.fx_core.specs.Rows.{row_of, takes_at, takes_count}
use Rattle.fx_core.specs.Term.{Term, Terms, of, cons, all, over}
use Rattle.fx_typing.specs.Local.{Piece, value, label, coerced, stand_all, stand_rest, branches, common_of, firsts, answer_by, made_as, node_made}
use Rattle.fx_typing.specs.WellTyped.{Context, row_type, context_for, standing_of, IsTyped}
use Rattle.fx_typing.proofs.Rules.{Typed, PartsTyped, Agrees, Goes, function_typed, put_ok}
use Rattle.fx_typing.specs.Parts.{JudgedPart, piece_of, pieces}
use Rattle.fx_typing.proofs.Operators.{then_ok}
use Rattle.fx_typing.proofs.Places.{part_piece}
use Rattle.fx_typing.proofs.Steps.{EachTyped}
use Rattle.fx_typing.proofs.RelatedSteps.{ok_is}

-- inside a row of these columns
abbrev pub in_row : Context → ColumnList → Context
in_row c cs = record c { rows = c.rows ++ records cs ∷ [] }

-- what is filtered stands where the whole does, and its conditions inside its rows
abbrev type_of : Piece → Shape
type_of (value a k t) = t
type_of (label x) = blanks

abbrev places : Context → List Piece → Context
places c [] = c
places c (k ∷ ks) = record c { rows = c.rows ++ row_type (type_of k) ∷ [] }

abbrev Inv : List Piece → List Shape → Type 0
Inv [] [] = Unit {0}
Inv (k ∷ ks) (u ∷ us) = row_type (type_of k) ≡ row_type u
Inv _ _ = ⊥

abbrev pub Filtering : Row
Filtering = row_of fun.Filter

pub condition_by : (a b c : Bool) → a ≡ false → (if a then takes.Table else (if b then takes.Formula Boolean else (if c then takes.Formula Boolean else takes.Formula Boolean))) ≡ takes.Formula Boolean
condition_by false true c e = refl
condition_by false false true e = refl
condition_by false false false e = refl
condition_by true b c e = absurd cc

never_first : (i : ℕ) → nat_eq (suc i) 0 ≡ false
never_first i = ne_eqb (suc i) 0 (λ e. by_zero i e)
  where
    by_zero : (i : ℕ) → suc i ≡ 0 → ⊥
    by_zero i e = omega (arith, e)

pub condition_at : (n i : ℕ) → takes_at Filtering n (suc i) ≡ takes.Formula Boolean
condition_at n i = condition_by (nat_eq (suc i) 0) (nat_eq (suc i) 1) (nat_eq (suc i % 2) 0) (never_first i)

agrees : (c : Context) (n : ℕ) → Agrees Inv Filtering c n (places c)
agrees c n [] [] h = refl
agrees c n [] (u ∷ us) h = absurd h
agrees c n (k ∷ ks) [] h = absurd h
agrees c n (k ∷ ks) (u ∷ us) h =
    ap (λ t. record c { rows = c.rows ++ t ∷ [] }) h
    ∙ ap (λ w. context_for (standing_of w) c (u ∷ us)) (sym (condition_at n (length us)))

goes : (n : ℕ) (common : Shape) → Goes Inv Filtering n common
goes n common [] [] first (value a k (tables cs)) x h e = let y : (k, tables cs) ≡ x = cc in ap (λ (z : Term × Shape). row_type z.1) y
goes n common [] [] first (value a k blanks) x h e =
    let y : (coerced k (tables no_columns), tables no_columns) ≡ x = cc in ap (λ (z : Term × Shape). row_type z.1) y
goes n common [] [] first (value a k numbers) x h e = absurd cc
goes n common [] [] first (value a k texts) x h e = absurd cc
goes n common [] [] first (value a k booleans) x h e = absurd cc
goes n common [] [] first (value a k dates) x h e = absurd cc
goes n common [] [] first (value a k (records cs)) x h e = absurd cc
goes n common [] [] first (label l) x h e = absurd cc
goes n common [] (u ∷ us) first q x h e = absurd h
goes n common (k ∷ ks) [] first q x h e = absurd h
goes n common (k ∷ ks) (u ∷ us) first q x h e = h

conditions_typed : (c : Context) (a : Option (List ℕ)) (k : Term) (cs : ColumnList) (before : List Piece) (qs : List JudgedPart) → EachTyped (in_row c cs) qs →
    PartsTyped (places c) (value a k (tables cs) ∷ before) (pieces qs)
conditions_typed c a k cs before [] t = tt
conditions_typed c a k cs before (q ∷ qs) t = (part_piece (in_row c cs) q t.0, conditions_typed c a k cs (before ++ piece_of q ∷ []) qs t.1)

pub filter_typed : (c : Context) (a : Option (List ℕ)) (k : Term) (cs : ColumnList) (qs : List JudgedPart) (x : Term × Shape) → IsTyped c k (tables cs) → EachTyped (in_row c cs) qs →
    node_made fun.Filter (value a k (tables cs) ∷ pieces qs) ≡ Ok x → Typed c x
filter_typed c a k cs qs x h t e =
    function_typed Inv fun.Filter c (places c) (value a k (tables cs) ∷ pieces qs) x (agrees c (suc (length (pieces qs)))) (λ common. goes (suc (length (pieces qs))) common) tt (h, conditions_typed c a k cs [] qs t) e

-- what a filter is made of, and its type
pub filter_made : (a : Option (List ℕ)) (k : Term) (cs : ColumnList) (ps : List Piece) (x : Term × Shape) → node_made fun.Filter (value a k (tables cs) ∷ ps) ≡ Ok x →
    (conditions : Terms) × ((of (over fun.Filter) (cons k conditions), tables cs) ≡ x)
filter_made a k cs ps x e = by_count (takes_count Filtering (suc (length ps))) e
  where
    by_common : (o : Option Shape) → made_as Filtering (over fun.Filter) (value a k (tables cs) ∷ ps) o ≡ Ok x → (conditions : Terms) × ((of (over fun.Filter) (cons k conditions), tables cs) ≡ x)
    by_common None i = absurd cc
    by_common (Some common) i =
        let s = then_ok (stand_all Filtering common (value a k (tables cs) ∷ ps)) (answer_by Filtering (over fun.Filter) common) x i in
        let b = put_ok (k, tables cs) (stand_rest Filtering (suc (length ps)) 1 (tables cs) common ps) s.0 s.1 in
        let z : answer_by Filtering (over fun.Filter) common ((k, tables cs) ∷ b.0) ≡ Ok x = subst (λ ys. answer_by Filtering (over fun.Filter) common ys ≡ Ok x) b.2 s.2 in
        (all (firsts b.0), ok_is (of (over fun.Filter) (cons k (all (firsts b.0))), tables cs) x z)

    by_count : (b : Bool) → (if b then made_as Filtering (over fun.Filter) (value a k (tables cs) ∷ ps) (common_of (branches Filtering (suc (length ps)) 0 (value a k (tables cs) ∷ ps))) else Err 7) ≡ Ok x →
        (conditions : Terms) × ((of (over fun.Filter) (cons k conditions), tables cs) ≡ x)
    by_count true i = by_common (common_of (branches Filtering (suc (length ps)) 0 (value a k (tables cs) ∷ ps))) i
    by_count false i = absurd cc
