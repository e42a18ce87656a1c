-- The weight where one value of a list is changed.
use Rattle.std.proofs.Common.{◌≡◌, ℕ, ◌+◌, ◌-◌, ◌*◌, ◌^◌, ◌<◌, ◌≤◌, List, length, take, get_or, set, map, arith, sym, ◌∙◌, ap}
use Rattle.std.proofs.lemmas.List.{length-map, get_or-map, map-set}
use Rattle.std.proofs.lemmas.List.Sums.{sum_by-le, sum_by-set, sum_by-take-le, sum_by_more, get_or-le-sum_by}
use Rattle.std.specs.List.{sum_by}
use Rattle.fx_types.specs.Values.{Data, blank}
use Rattle.fx_types.specs.ValueView.{view}
use Rattle.fx_types.specs.declared.values.Value.{Value}
use Rattle.std.specs.Prelude.{Bool, true, false, if◌then◌else◌}
use Rattle.session_state.specs.Sessions.{SessionState, weighed}

-- the value that is read
view_at : (vs : List Value) (k : ℕ) (v : Value) → k < length vs → v ≡ get_or vs k v → get_or (map view vs) k blank ≡ view v
view_at vs k v lt e = get_or-map view vs k v blank lt ∙ ap view (sym e)

pub part_of : (vs : List Value) (k : ℕ) (v : Value) → k < length vs → v ≡ get_or vs k v → weighed (view v) ≤ sum_by weighed (map view vs)
part_of vs k v lt e =
    let there : k < length (map view vs) = omega (arith, length-map vs view) in
    let le : weighed (get_or (map view vs) k blank) ≤ sum_by weighed (map view vs) = get_or-le-sum_by weighed (map view vs) k blank there in
    let is : weighed (get_or (map view vs) k blank) ≡ weighed (view v) = ap weighed (view_at vs k v lt e) in
    omega arith

pub changed : (vs : List Value) (k : ℕ) (v : Value) (d : Data) → k < length vs → v ≡ get_or vs k v → sum_by weighed (set (map view vs) k d) + weighed (view v) ≡ sum_by weighed (map view vs) + weighed d
changed vs k v d lt e =
    let there : k < length (map view vs) = omega (arith, length-map vs view) in
    let total : sum_by weighed (set (map view vs) k d) + weighed (get_or (map view vs) k blank) ≡ sum_by weighed (map view vs) + weighed d = sum_by-set weighed (map view vs) k d blank there in
    let is : weighed (get_or (map view vs) k blank) ≡ weighed (view v) = ap weighed (view_at vs k v lt e) in
    omega arith

-- the weight that is left and what comes to it
pub after : (w : ℕ) (vs : List Value) (k : ℕ) (v : Value) (d : Data) (old new : ℕ) → k < length vs → v ≡ get_or vs k v → sum_by weighed (map view vs) ≤ w → old ≡ weighed (view v) → new ≡ weighed d → w - old + new ≡ w - sum_by weighed (map view vs) + sum_by weighed (set (map view vs) k d)
after w vs k v d old new lt e part is now =
    let total = changed vs k v d lt e in
    let small = part_of vs k v lt e in
    omega arith

-- the weight stays that of the values
pub kept_weight : (vs ws : List Value) (w w' rest k : ℕ) (v : Value) (r : Bool) → ws ≡ (if r then set vs k v else vs) → w' ≡ (if r then w - sum_by weighed (map view vs) + sum_by weighed (set (map view vs) k (view v)) else w) → w ≡ sum_by weighed (map view vs) + rest → w' ≡ sum_by weighed (map view ws) + rest
kept_weight vs ws w w' rest k v true values weight was =
    let is : sum_by weighed (map view ws) ≡ sum_by weighed (set (map view vs) k (view v)) = ap (λ (xs : List Value). sum_by weighed (map view xs)) values ∙ ap (sum_by weighed) (map-set view vs k v) in
    omega arith
kept_weight vs ws w w' rest k v false values weight was =
    let is : sum_by weighed (map view ws) ≡ sum_by weighed (map view vs) = ap (λ (xs : List Value). sum_by weighed (map view xs)) values in
    omega arith

-- and the values are those of the session that is made
pub with_variable : (s : SessionState) (vs ws : List Value) (k : ℕ) (v : Value) (r : Bool) → s.variables ≡ map view vs → ws ≡ (if r then set vs k v else vs) → record s { variables = map view ws } ≡ (if r then record s { variables = set s.variables k (view v) } else s)
with_variable s vs ws k v true are values =
    ap (λ (xs : List Data). record s { variables = xs }) (ap (map view) values ∙ map-set view vs k v ∙ ap (λ (xs : List Data). set xs k (view v)) (sym are))
with_variable s vs ws k v false are values =
    ap (λ (xs : List Data). record s { variables = xs }) (ap (map view) values ∙ sym are)

pub with_collection : (s : SessionState) (vs ws : List Value) (k : ℕ) (v : Value) (r : Bool) → s.collections ≡ map view vs → ws ≡ (if r then set vs k v else vs) → record s { collections = map view ws } ≡ (if r then record s { collections = set s.collections k (view v) } else s)
with_collection s vs ws k v true are values =
    ap (λ (xs : List Data). record s { collections = xs }) (ap (map view) values ∙ map-set view vs k v ∙ ap (λ (xs : List Data). set xs k (view v)) (sym are))
with_collection s vs ws k v false are values =
    ap (λ (xs : List Data). record s { collections = xs }) (ap (map view) values ∙ sym are)

-- ---- all of them

few_weigh_little : (ds : List Data) → length ds < 2 ^ 63 → sum_by weighed ds < 2 ^ 127
few_weigh_little ds few =
    let le : sum_by weighed ds ≤ length ds * 18446744073709551615 = sum_by-le weighed 18446744073709551615 ds (λ k d lt. omega arith) in
    omega arith

pub sum_is_little : (vs : List Value) → length vs < 2 ^ 63 → sum_by weighed (map view vs) < 2 ^ 127
sum_is_little vs few = few_weigh_little (map view vs) (omega (arith, length-map vs view))

-- one more
pub one_more : (vs : List Value) (k : ℕ) (v : Value) → k < length vs → v ≡ get_or vs k v → sum_by weighed (take (k + 1) (map view vs)) ≡ sum_by weighed (take k (map view vs)) + weighed (view v)
one_more vs k v lt e = sum_by_more weighed (map view vs) k blank (omega (arith, length-map vs view)) ∙ ap (λ (d : Data). sum_by weighed (take k (map view vs)) + weighed d) (view_at vs k v lt e)

pub one_more_le : (vs : List Value) (k : ℕ) (v : Value) → k < length vs → v ≡ get_or vs k v → sum_by weighed (take k (map view vs)) + weighed (view v) ≤ sum_by weighed (map view vs)
one_more_le vs k v lt e =
    let more = one_more vs k v lt e in
    let le = sum_by-take-le weighed (map view vs) (k + 1) in
    omega arith
