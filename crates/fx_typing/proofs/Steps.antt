-- Steps that the law takes for many heads.
use Rattle.std.proofs.Common.{◌≡◌, ℕ, ◌++◌, List, [], ◌∷◌, ◌||◌, length, map, option_map, Option, Some, None, Result, Ok, Err, refl, ap, sym, subst, ◌∙◌}
use Rattle.std.proofs.Math.Bool.{or-false}
use Rattle.fx_types.specs.Types.{Shape}
use Rattle.fx_core.specs.Tree.{Head}
use Rattle.fx_core.specs.Term.{Term, of, all, Top}
use Rattle.fx_typing.specs.Local.{value, label, coerced, by_way, firsts}
use Rattle.fx_typing.specs.Meaning.{Place, Scope}
use Rattle.fx_typing.specs.Ways.{Way, same, changed, refused, way}
use Rattle.fx_typing.specs.WellTyped.{Context, PartScope, plain, standing_at, context_for, IsRuled, IsTyped, AreTyped, parts_count}
use Rattle.fx_typing.proofs.Rules.{Typed, coercion_ruled}
use Rattle.fx_typing.proofs.Same.{way_same}
use Rattle.fx_typing.specs.Builds.{types_of}
use Rattle.fx_typing.specs.Parts.{JudgedPart, piece, meant, target, assigned, Setting, put_value, values, lowest}
use Rattle.fx_typing.specs.Plans.{ArgumentRule, scopes_for, is_catching, setting_by, plan_at}
use Rattle.fx_typing.specs.Typing.{context_of}
use Rattle.fx_typing.proofs.Frame.{AllTyped, PartTyped, PartsTypedAt}
use Rattle.fx_typing.proofs.RelatedSteps.{ok_is}

pub lowest_ok : {A B C : Type 0} (f : A → B → C) (p : Result A ℕ) (q : Result B ℕ) (z : C) → lowest f p q ≡ Ok z → (a : A) × (p ≡ Ok a) × (b : B) × (q ≡ Ok b) × (f a b ≡ z)
lowest_ok f (Ok a) (Ok b) z e = (a, refl, b, refl, ok_is (f a b) z e)
lowest_ok f (Ok a) (Err k) z e = absurd cc
lowest_ok f (Err k) (Ok b) z e = absurd cc
lowest_ok f (Err k) (Err j) z e = absurd cc

put_value_ok : (x : Term × Shape) (r : Result (List (Term × Shape)) ℕ) (xs : List (Term × Shape)) → put_value x r ≡ Ok xs → (ys : List (Term × Shape)) × (r ≡ Ok ys) × (xs ≡ x ∷ ys)
put_value_ok x (Ok ys) xs e = (ys, refl, sym cc)
put_value_ok x (Err n) xs e = absurd cc

pub option_map_some : {A B : Type 0} (f : A → B) (o : Option A) (b : B) → option_map f o ≡ Some b → (a : A) × (o ≡ Some a) × (f a ≡ b)
option_map_some f (Some a) b e = (a, refl, cc)
option_map_some f None b e = absurd cc

pub coerced_typed : (c : Context) (k : Term) (u to : Shape) → way u to ≡ changed → IsTyped c k u → IsTyped c (coerced k to) to
coerced_typed c k u to e h = (u ∷ [], (u, [], refl, h, refl), coercion_ruled c k u to e)

pub came : (c : Context) (k : Term) (u to : Shape) (x : Term × Shape) → by_way (way u to) k to ≡ Ok x → IsTyped c k u → Typed c x × (x.1 ≡ to)
came c k u to x e h = by_cases (way u to) refl e
  where
    by_cases : (w : Way) → way u to ≡ w → by_way w k to ≡ Ok x → Typed c x × (x.1 ≡ to)
    by_cases same i j =
        let y : (k, to) ≡ x = cc in
        subst (λ (z : Term × Shape). Typed c z × (z.1 ≡ to)) y (subst (IsTyped c k) (way_same u to i) h, refl)
    by_cases changed i j =
        let y : (coerced k to, to) ≡ x = cc in
        subst (λ (z : Term × Shape). Typed c z × (z.1 ≡ to)) y (coerced_typed c k u to i h, refl)
    by_cases refused i j = absurd cc

-- parts that all stand in one place
abbrev pub EachTyped : Context → List JudgedPart → Type 0
EachTyped c [] = Unit {0}
EachTyped c (q ∷ qs) = PartTyped c q × EachTyped c qs

abbrev pub place_at : Place → Setting → PartScope → List JudgedPart → Context
place_at p s st done = record (context_of p s) { rows = map (λ (r : Scope). r.row_type) (scopes_for p.names st s.scopes done); caught = s.catches || is_catching st }

-- a part that stands plainly stands where the whole does
pub plain_place : (p : Place) (s : Setting) (pl : ArgumentRule) (done : List JudgedPart) → pl.standing ≡ plain → context_of p (setting_by p.names s pl done) ≡ context_of p s
plain_place p s pl done e =
    let first : place_at p s pl.standing done ≡ place_at p s plain done = ap (λ st. place_at p s st done) e in
    let second : place_at p s plain done ≡ context_of p s = ap (λ b. record (context_of p s) { caught = b }) (or-false s.catches) in
    first ∙ second

pub each_plain : (p : Place) (s : Setting) (h : Head) (n : ℕ) (done qs : List JudgedPart) → ((d : List JudgedPart) → (plan_at p.names s.grant h n d).standing ≡ plain) →
    PartsTypedAt p s h n done qs → EachTyped (context_of p s) qs
each_plain p s h n done [] f t = tt
each_plain p s h n done (q ∷ qs) f t =
    (subst (λ c. PartTyped c q) (plain_place p s (plan_at p.names s.grant h n done) done (f done)) t.0, each_plain p s h n (done ++ q ∷ []) qs f t.1)

pub values_typed : (c : Context) (qs : List JudgedPart) (xs : List (Term × Shape)) → values qs ≡ Ok xs → EachTyped c qs → AllTyped c xs
values_typed c [] xs e h = let k : [] ≡ xs = cc in subst (AllTyped c) k tt
values_typed c (piece (value a m t) ∷ qs) xs e h =
    let b = put_value_ok (m, t) (values qs) xs e in
    subst (AllTyped c) (sym b.2) (h.0, values_typed c qs b.0 b.1 h.1)
values_typed c (piece (label x) ∷ qs) xs e h = absurd cc
values_typed c (meant m ∷ qs) xs e h = absurd cc
values_typed c (target a x ∷ qs) xs e h = absurd cc
values_typed c (assigned ns ys ∷ qs) xs e h = absurd cc

-- trees as the parts of a head under which all stand plainly
pub all_parts : (c : Context) (h : Top) (n : ℕ) (done : List Shape) (xs : List (Term × Shape)) → ((i : ℕ) → standing_at h n i ≡ plain) →
    AllTyped c xs → AreTyped c h n done (all (firsts xs)) (types_of xs)
all_parts c h n done [] f t = refl
all_parts c h n done (x ∷ xs) f t = (
  x.1,
  types_of xs,
  refl,
  subst (λ st. IsTyped (context_for st c done) x.0 x.1) (sym (f (length done))) t.0,
  all_parts c h n (done ++ x.1 ∷ []) xs f t.1,
)

pub typed_by : (c : Context) (h : Top) (xs : List (Term × Shape)) (t : Shape) → ((n i : ℕ) → standing_at h n i ≡ plain) → AllTyped c xs →
    IsRuled c h (all (firsts xs)) (types_of xs) t → IsTyped c (of h (all (firsts xs))) t
typed_by c h xs t f typed ruled = (types_of xs, all_parts c h (parts_count (all (firsts xs))) [] xs (f (parts_count (all (firsts xs)))) typed, ruled)
