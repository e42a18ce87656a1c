-- The parts of a mixed filter: as many marks as conditions, and what holds of the filter holds of its query expression and of the other conditions.
use Rattle.std.proofs.Common.{◌≡◌, ℕ, suc, List, [], ◌∷◌, length, Bool, true, false, not, Some, inl, refl, sym, ap, subst, ◌∙◌, arith}
use Rattle.std.specs.Prelude.{◌&&◌, ◌||◌, nat_eq, nat_le}
use Rattle.std.specs.List.{list_any}
use Rattle.std.specs.Cmp.{first_so, second_so}
use Rattle.std.proofs.lemmas.Bool.Decides.{nat_tests}
use Rattle.std.proofs.Math.Bool.{and-true, or-false}
use Rattle.filter_parts.specs.Splits.{marked, split_with, unmarked}
use Rattle.fx_types.specs.Types.{Shape, booleans, numbers, blanks, tables, ColumnList}
use Rattle.fx_core.specs.declared.functions.Fun.TheVariants as fun
use Rattle.fx_core.specs.declared.schema.TableShape.{TableShape}
use Rattle.fx_core.specs.Rows.{row_of, takes_count}
use Rattle.fx_core.specs.SourceTypes.{columns_of}
use Rattle.fx_core.specs.Term.{Term, Terms, of, nil, cons, Top}
use Rattle.fx_core.specs.Term as top
use Rattle.fx_semantics.specs.Sound.{IsLawfulType}
use Rattle.fx_typing.specs.Acts.{acts, any_acts}
use Rattle.fx_typing.specs.WellTyped.{Context, parts_count}
use Rattle.fx_plan.specs.Constants.{HasType, in_row}
use Rattle.fx_plan.specs.Limited.{first_rows_of, limited, over_first, parts_limited}
use Rattle.fx_plan.specs.Mixed.{MixOf, are_both, delegable_ones, mix_of}
use Rattle.fx_plan.specs.QueryExpressions.{are_constant, is_constant}
use Rattle.fx_plan.specs.Sites.{terms_count}
use Rattle.fx_plan.proofs.MixedFilters.{IsMix, mixed_so}
use Rattle.fx_plan.proofs.Placing.{AllOf}
use Rattle.fx_plan.proofs.Retyping.{conditions_back, conditions_of, conditions_stand, copies, filter_parts}

-- ---- marks

-- as many marks as parts
abbrev pub AreFor : List Bool → Terms → Type 0
AreFor [] nil = Unit {0}
AreFor (b ∷ bs) (cons c cs) = AreFor bs cs
AreFor bs cs = ⊥

abbrev IsMany : Terms → Type 0
IsMany nil = ⊥
IsMany (cons c cs) = Unit {0}

some_marked : (bs : List Bool) (cs : Terms) → AreFor bs cs → list_any (λ b. b) bs ≡ true → IsMany (marked bs cs)
some_marked [] nil h e = absurd cc
some_marked (true ∷ bs) (cons c cs) h e = tt
some_marked (false ∷ bs) (cons c cs) h e = some_marked bs cs h e
some_marked [] (cons c cs) h e = absurd h
some_marked (b ∷ bs) nil h e = absurd h

some_unmarked : (bs : List Bool) (cs : Terms) → AreFor bs cs → list_any not bs ≡ true → IsMany (unmarked bs cs)
some_unmarked [] nil h e = absurd cc
some_unmarked (true ∷ bs) (cons c cs) h e = some_unmarked bs cs h e
some_unmarked (false ∷ bs) (cons c cs) h e = tt
some_unmarked [] (cons c cs) h e = absurd h
some_unmarked (b ∷ bs) nil h e = absurd h

ones_for : (t : TableShape) (j : ℕ) (ts : List TableShape) (n k : ℕ) (h : Top) (m : ℕ) (w : Bool) (i : ℕ) (cs : Terms) → AreFor (delegable_ones t j cs) (parts_limited ts n k h m w i cs)
ones_for t j ts n k h m w i nil = tt
ones_for t j ts n k h m w i (cons c cs) = ones_for t j ts n k h m w (suc i) cs

-- a tree that is a mixed filter, and its parts where they are limited
pub record IsMixedTree (ts : List TableShape) (n k : ℕ) (first : Bool) (h : Top) (cs : Terms) (m : MixOf) : Type 0 where
  pub rows : Term
  pub conditions : Terms
  pub is_filter : of h cs ≡ of (top.over fun.Filter) (cons rows conditions)
  pub mix : IsMix ts k rows conditions m
  pub table : Term
  pub others : Terms
  pub limits : of h (parts_limited ts n k h (terms_count cs) first 0 cs) ≡ of (top.over fun.Filter) (cons table others)
  pub each : AreFor m.marks others

pub mixed_tree : (ts : List TableShape) (n k : ℕ) (first : Bool) (h : Top) (cs : Terms) (m : MixOf) → mix_of ts k (of h cs) ≡ Some m → IsMixedTree ts n k first h cs m
mixed_tree ts n k first (top.over fun.Filter) (cons q cs) m e =
    let w = mixed_so ts k q cs m e in
    record {
      rows = q;
      conditions = cs;
      is_filter = refl;
      mix = w;
      table = limited ts n k (first && true) q;
      others = parts_limited ts n k (top.over fun.Filter) (terms_count (cons q cs)) first 1 cs;
      limits = refl;
      each = subst (λ (bs : List Bool). AreFor bs (parts_limited ts n k (top.over fun.Filter) (terms_count (cons q cs)) first 1 cs)) w.marks
          (ones_for w.shape k ts n k (top.over fun.Filter) (terms_count (cons q cs)) first 1 cs);
    }
mixed_tree ts n k first h cs m e = absurd cc

-- ---- constants

and_apart : (a b c : Bool) → ((a && b) && c) ≡ (a && (b && c))
and_apart true b c = refl
and_apart false b c = refl

and_between : (a b c : Bool) → (a && (b && c)) ≡ (b && (a && c))
and_between true b c = refl
and_between false true c = refl
and_between false false c = refl

parts_constant : (j : ℕ) (bs : List Bool) (cs : Terms) → AreFor bs cs → (are_constant j (marked bs cs) && are_constant j (unmarked bs cs)) ≡ are_constant j cs
parts_constant j [] nil h = refl
parts_constant j (true ∷ bs) (cons c cs) h = and_apart (is_constant j c) (are_constant j (marked bs cs)) (are_constant j (unmarked bs cs)) ∙ ap (λ b. is_constant j c && b) (parts_constant j bs cs h)
parts_constant j (false ∷ bs) (cons c cs) h = and_between (are_constant j (marked bs cs)) (is_constant j c) (are_constant j (unmarked bs cs)) ∙ ap (λ b. is_constant j c && b) (parts_constant j bs cs h)
parts_constant j [] (cons c cs) h = absurd h
parts_constant j (b ∷ bs) nil h = absurd h

pub split_constant : (j n : ℕ) (bs : List Bool) (q : Term) (cs : Terms) → AreFor bs cs →
    is_constant j (over_first n (split_with bs (of (top.over fun.Filter) (cons q cs)))) ≡ is_constant j (of (top.over fun.Filter) (cons q cs))
split_constant j n bs q cs h =
    ap (λ b. b && are_constant j (unmarked bs cs)) (and-true (is_constant j q && are_constant j (marked bs cs)))
    ∙ and_apart (is_constant j q) (are_constant j (marked bs cs)) (are_constant j (unmarked bs cs)) ∙ ap (λ b. is_constant j q && b) (parts_constant j bs cs h)

-- ---- acting parts

or_apart : (a b c : Bool) → ((a || b) || c) ≡ (a || (b || c))
or_apart true b c = refl
or_apart false b c = refl

or_between : (a b c : Bool) → (a || (b || c)) ≡ (b || (a || c))
or_between false b c = refl
or_between true true c = refl
or_between true false c = refl

parts_act : (bs : List Bool) (cs : Terms) → AreFor bs cs → (any_acts (marked bs cs) || any_acts (unmarked bs cs)) ≡ any_acts cs
parts_act [] nil h = refl
parts_act (true ∷ bs) (cons c cs) h = or_apart (acts c) (any_acts (marked bs cs)) (any_acts (unmarked bs cs)) ∙ ap (λ b. acts c || b) (parts_act bs cs h)
parts_act (false ∷ bs) (cons c cs) h = or_between (any_acts (marked bs cs)) (acts c) (any_acts (unmarked bs cs)) ∙ ap (λ b. acts c || b) (parts_act bs cs h)
parts_act [] (cons c cs) h = absurd h
parts_act (b ∷ bs) nil h = absurd h

pub split_acts : (n : ℕ) (bs : List Bool) (q : Term) (cs : Terms) → AreFor bs cs →
    acts (over_first n (split_with bs (of (top.over fun.Filter) (cons q cs)))) ≡ acts (of (top.over fun.Filter) (cons q cs))
split_acts n bs q cs h =
    ap (λ b. b || any_acts (unmarked bs cs)) (or-false (acts q || any_acts (marked bs cs)))
    ∙ or_apart (acts q) (any_acts (marked bs cs)) (any_acts (unmarked bs cs)) ∙ ap (λ b. acts q || b) (parts_act bs cs h)

-- ---- types

pub rows_typed : (n : ℕ) (c : Context) (x : Term) (ks : ColumnList) → HasType c x (tables ks) → IsLawfulType (tables ks) → HasType c (first_rows_of n x) (tables ks)
rows_typed n c x ks h l = (
  (tables ks ∷ numbers ∷ [], (tables ks, numbers ∷ [], refl, h.0, (numbers, [], refl, ([], refl, (refl, inl tt)), refl)), (refl, (refl, blanks, ((ks, refl), (refl, tt)), refl))),
  (l, (h.1, ((tt, tt), tt))),
)

marked_of : (c : Context) (u : Shape) (bs : List Bool) (cs : Terms) → AllOf c u cs → AllOf c u (marked bs cs)
marked_of c u [] cs a = tt
marked_of c u (true ∷ bs) nil a = tt
marked_of c u (false ∷ bs) nil a = tt
marked_of c u (true ∷ bs) (cons x cs) a = (a.0, marked_of c u bs cs a.1)
marked_of c u (false ∷ bs) (cons x cs) a = marked_of c u bs cs a.1

unmarked_of : (c : Context) (u : Shape) (bs : List Bool) (cs : Terms) → AllOf c u cs → AllOf c u (unmarked bs cs)
unmarked_of c u [] cs a = tt
unmarked_of c u (true ∷ bs) nil a = tt
unmarked_of c u (false ∷ bs) nil a = tt
unmarked_of c u (true ∷ bs) (cons x cs) a = unmarked_of c u bs cs a.1
unmarked_of c u (false ∷ bs) (cons x cs) a = (a.0, unmarked_of c u bs cs a.1)

enough : (n : ℕ) → takes_count (row_of fun.Filter) (suc (suc n)) ≡ true
enough n =
    let le : nat_le 2 (suc (suc n)) ≡ true = grind (arith, nat_tests) in
    ap (λ (b : Bool). (b && (nat_eq 255 255 || nat_le (suc (suc n)) 255)) && true) le

-- a filter of a table whose conditions are typed
filter_made : (c : Context) (t : TableShape) (p : Term) (xs : Terms) (u : Shape) → u ≡ tables (columns_of t) → IsLawfulType u → HasType c p u → IsMany xs → AllOf (in_row c t) booleans xs →
    HasType c (of (top.over fun.Filter) (cons p xs)) u
filter_made c t p nil u e l h m a = absurd m
filter_made c t p (cons x xs) u e l h m a =
    let vs = copies booleans (cons x xs) in
    let rest = conditions_back c t (suc (parts_count (cons x xs))) u (cons x xs) [] e a in (
      (u ∷ vs, (u, vs, refl, h.0, rest.0), (refl, (enough (length (copies booleans xs)), u, ((columns_of t, e), conditions_stand (length (u ∷ vs)) 0 u u (cons x xs)), refl))),
      (l, (h.1, rest.1)),
    )

-- what is taken of a mixed filter has its type
pub split_typed : (n : ℕ) (c : Context) (t : TableShape) (bs : List Bool) (q : Term) (cs : Terms) (u : Shape) → u ≡ tables (columns_of t) → AreFor bs cs → are_both bs ≡ true →
    HasType c (of (top.over fun.Filter) (cons q cs)) u → HasType c (over_first n (split_with bs (of (top.over fun.Filter) (cons q cs)))) u
split_typed n c t bs q cs u e each both h =
    let f = filter_parts c q cs u h in
    let own = conditions_of c t (suc (parts_count cs)) (length (u ∷ f.types)) 0 u f.common cs [] f.types e f.parts.0 f.parts.1 f.stand in
    let inner = filter_made c t q (marked bs cs) u e h.1.0 f.first (some_marked bs cs each (first_so (list_any (λ b. b) bs) (list_any not bs) both)) (marked_of (in_row c t) booleans bs cs own) in
    let lawful : IsLawfulType (tables (columns_of t)) = subst IsLawfulType e h.1.0 in
    let cut : HasType c (first_rows_of n (of (top.over fun.Filter) (cons q (marked bs cs)))) u =
    subst (HasType c (first_rows_of n (of (top.over fun.Filter) (cons q (marked bs cs))))) (sym e)
    (rows_typed n c (of (top.over fun.Filter) (cons q (marked bs cs))) (columns_of t) (subst (HasType c (of (top.over fun.Filter) (cons q (marked bs cs)))) e inner) lawful) in
    filter_made c t (first_rows_of n (of (top.over fun.Filter) (cons q (marked bs cs)))) (unmarked bs cs) u e h.1.0 cut
    (some_unmarked bs cs each (second_so (list_any (λ b. b) bs) (list_any not bs) both)) (unmarked_of (in_row c t) booleans bs cs own)
