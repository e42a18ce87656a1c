-- A settled query expression is no larger, and doesn't act.
use Rattle.std.proofs.Common.{◌≡◌, ℕ, suc, ◌≤◌, List, Bool, true, false, refl, arith}
use Rattle.std.specs.Prelude.{◌||◌, if◌then◌else◌}
use Rattle.std.proofs.lemmas.Bool.{or_from}
use Rattle.fx_types.specs.Values.{Data}
use Rattle.fx_plan.specs.Outlines.{constant_at}
use Rattle.fx_plan.specs.QueryExpressions.{is_constant}
use Rattle.fx_core.specs.declared.functions.Form.TheVariants as form
use Rattle.fx_core.specs.Term.{Term, Terms, of, nil, cons, Top, term_size, terms_size}
use Rattle.fx_core.specs.Term as top
use Rattle.fx_typing.specs.Acts.{acts, any_acts, is_acting}
use Rattle.fx_plan.specs.Settled.{IsNoMore, SettledAreNoMore, as_value, by_head, call_settled, condition_settled, conditions_settled, query_settled, search_settled}

first_calm : (a b : Bool) → (a || b) ≡ false → a ≡ false
first_calm true b e = e
first_calm false b e = refl

second_calm : (a b : Bool) → (a || b) ≡ false → b ≡ false
second_calm true b e = absurd cc
second_calm false b e = e

abbrev AreNoMore : Terms → Terms → Type 0
AreNoMore cs xs = (terms_size xs ≤ terms_size cs) × (any_acts cs ≡ false → any_acts xs ≡ false)

-- under a head
under_head : (h : Top) (cs xs : Terms) → AreNoMore cs xs → IsNoMore (of h cs) (of h xs)
under_head h cs xs p =
    (let l = p.0 in omega (arith, l), λ e. or_from (is_acting h) (any_acts xs) (first_calm (is_acting h) (any_acts cs) e) (p.1 (second_calm (is_acting h) (any_acts cs) e)))

put_in_front : (c x : Term) (cs xs : Terms) → IsNoMore c x → AreNoMore cs xs → AreNoMore (cons c cs) (cons x xs)
put_in_front c x cs xs p q = (
  let l = p.0 in let m = q.0 in omega (arith, l, m),
  λ e. or_from (acts x) (any_acts xs) (p.1 (first_calm (acts c) (any_acts cs) e)) (q.1 (second_calm (acts c) (any_acts cs) e)),
)

same : (t : Term) → IsNoMore t t
same t = (omega arith, λ e. e)

all_same : (cs : Terms) → AreNoMore cs cs
all_same cs = (omega arith, λ e. e)

by_head_small : (h : Top) (cs : Terms) (n : ℕ) (p : Terms × ℕ) → AreNoMore cs (p.0) → IsNoMore (of h cs) ((by_head h cs n p).0)
by_head_small (top.form form.All) cs n p l = under_head (top.form form.All) cs (p.0) l
by_head_small (top.form form.Any) cs n p l = under_head (top.form form.Any) cs (p.0) l
by_head_small (top.call f) cs n p l = under_head (top.call f) cs (p.0) l
by_head_small h cs n p l = same (of h cs)

as_value_small : (h : Top) (cs : Terms) (d : Data) → IsNoMore (of h cs) (as_value d)
as_value_small h cs d = (omega arith, λ e. refl)

mutual
  condition_small : (k : ℕ) (ds : List Data) (x : Term) (n : ℕ) → IsNoMore x ((condition_settled k ds x n).0)
  condition_small k ds (of h cs) n = by (is_constant k (of h cs)) (conditions_small k ds cs n)
    where
      by : (b : Bool) → AreNoMore cs ((conditions_settled k ds cs n).0) →
          IsNoMore (of h cs) ((if b then (as_value (constant_at ds n), suc n) else by_head h cs n (conditions_settled k ds cs n)).0)
      by true l = as_value_small h cs (constant_at ds n)
      by false l = by_head_small h cs n (conditions_settled k ds cs n) l

  conditions_small : (k : ℕ) (ds : List Data) (xs : Terms) (n : ℕ) → AreNoMore xs ((conditions_settled k ds xs n).0)
  conditions_small k ds nil n = all_same nil
  conditions_small k ds (cons x xs) n =
      put_in_front x ((condition_settled k ds x n).0) xs ((conditions_settled k ds xs ((condition_settled k ds x n).1)).0)
      (condition_small k ds x n) (conditions_small k ds xs ((condition_settled k ds x n).1))

query_small : (k : ℕ) (ds : List Data) (t : Term) → IsNoMore t ((query_settled k ds t).0)
query_small k ds (of (top.over f) (cons q cs)) =
    let n = (query_settled k ds q).1 in
    under_head (top.over f) (cons q cs) (cons ((query_settled k ds q).0) ((conditions_settled k ds cs n).0))
    (put_in_front q ((query_settled k ds q).0) cs ((conditions_settled k ds cs n).0) (query_small k ds q) (conditions_small k ds cs n))
query_small k ds t = same t

call_small : (k : ℕ) (ds : List Data) (t : Term) → IsNoMore t (call_settled k ds t)
call_small k ds (of (top.over f) (cons q cs)) =
    under_head (top.over f) (cons q cs) (cons ((query_settled k ds q).0) cs) (put_in_front q ((query_settled k ds q).0) cs cs (query_small k ds q) (all_same cs))
call_small k ds t = same t

search_small : (k : ℕ) (ds : List Data) (t : Term) → IsNoMore t (search_settled k ds t)
search_small k ds (of (top.over f) (cons q (cons c cs))) =
    let n = (query_settled k ds q).1 in
    let x = (condition_settled k ds c n).0 in
    under_head (top.over f) (cons q (cons c cs)) (cons ((query_settled k ds q).0) (cons x cs))
    (put_in_front q ((query_settled k ds q).0) (cons c cs) (cons x cs) (query_small k ds q) (put_in_front c x cs cs (condition_small k ds c n) (all_same cs)))
search_small k ds t = call_small k ds t

pub settled_small : SettledAreNoMore
settled_small k ds t = (query_small k ds t, call_small k ds t, search_small k ds t)
