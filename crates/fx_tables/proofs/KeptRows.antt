-- The rows whose condition holds, from the first on.
use Rattle.std.proofs.Common.{◌≡◌, ℕ, ◌+◌, ◌<◌, List, [], ◌∷◌, ◌++◌, length, get_or, take, map, Bool, true, false, not, refl, sym, ap, ◌∙◌, cond, append_assoc, length-append, if◌then◌else◌}
use Rattle.std.specs.Prelude.{◌&&◌}
use Rattle.std.specs.List.{filter, list_all, zip}
use Rattle.std.proofs.lemmas.List.{map-append, take_more}
use Rattle.std.proofs.lemmas.List.Elements.{filter-append}
use Rattle.fx_types.specs.Values.{Data}
use Rattle.fx_types.specs.ValueView.{view}
use Rattle.fx_types.specs.declared.values.Value.{Value}
use Rattle.fx_value.specs.Columns.{Row}
use Rattle.fx_tables.specs.RowCalls.{holds, is_blank, kept_rows}

kept_first : (r : Row) (rs : List Row) (d : Data) (ds : List Data) → kept_rows (r ∷ rs) (d ∷ ds) ≡ (if holds d then r ∷ [] else []) ++ kept_rows rs ds
kept_first r rs d ds = by (holds d)
  where
    by : (b : Bool) → map (λ (p : Row × Data). p.0) (cond b ((r, d) ∷ filter (λ (p : Row × Data). holds p.1) (zip rs ds)) (filter (λ (p : Row × Data). holds p.1) (zip rs ds))) ≡ (if b then r ∷ [] else []) ++ kept_rows rs ds
    by true = refl
    by false = refl

-- one more row, kept or not
pub step_kept : (done wider : List Row) (r : Row) (rest left : List Row) (v : Value) (vs ws : List Value) (all : List Row) → left ≡ r ∷ rest → ws ≡ v ∷ vs → wider ≡ done ++ (if holds (view v) then r ∷ [] else []) → done ++ kept_rows left (map view ws) ≡ all → wider ++ kept_rows rest (map view vs) ≡ all
step_kept done wider r rest left v vs ws all e g q h =
    let back : done ++ kept_rows (r ∷ rest) (view v ∷ map view vs) ≡ done ++ kept_rows left (map view ws) = λ i. done ++ kept_rows (sym e i) (map view (sym g i)) in
    ap (λ z. z ++ kept_rows rest (map view vs)) q
    ∙ append_assoc done (if holds (view v) then r ∷ [] else []) (kept_rows rest (map view vs))
    ∙ ap (λ z. done ++ z) (sym (kept_first r rest (view v) (map view vs))) ∙ back ∙ h

-- one more value, which holds or not
pub values_more : (vs : List Value) (i : ℕ) (v : Value) → i < length vs → v ≡ get_or vs i v → map view (take (i + 1) vs) ≡ map view (take i vs) ++ view v ∷ []
values_more vs i v h e = ap (map view) (take_more vs i v h ∙ ap (λ y. take i vs ++ y ∷ []) (sym e)) ∙ map-append view (take i vs) (v ∷ [])

one_counted : (d : Data) → length (filter holds (d ∷ [])) ≡ (if holds d then 1 else 0)
one_counted d = by (holds d)
  where
    by : (b : Bool) → length (cond b (d ∷ []) []) ≡ (if b then 1 else 0)
    by true = refl
    by false = refl

pub counted_more : (vs : List Value) (i : ℕ) (v : Value) → i < length vs → v ≡ get_or vs i v → length (filter holds (map view (take (i + 1) vs))) ≡ length (filter holds (map view (take i vs))) + (if holds (view v) then 1 else 0)
counted_more vs i v h e =
    ap (λ ds. length (filter holds ds)) (values_more vs i v h e)
    ∙ ap length (filter-append holds (map view (take i vs)) (view v ∷ []))
    ∙ length-append (filter holds (map view (take i vs))) (filter holds (view v ∷ []))
    ∙ ap (λ n. length (filter holds (map view (take i vs))) + n) (one_counted (view v))

-- the conditions of one row
pub all_seen : (vs : List Value) → list_all (λ v. holds (view v)) vs ≡ list_all holds (map view vs)
all_seen [] = refl
all_seen (v ∷ vs) = ap (λ b. holds (view v) && b) (all_seen vs)

-- the values that aren't blank
pub blanks_seen : (vs : List Value) → map view (filter (λ v. not (is_blank (view v))) vs) ≡ filter (λ d. not (is_blank d)) (map view vs)
blanks_seen [] = refl
blanks_seen (v ∷ vs) = by (is_blank (view v)) (blanks_seen vs)
  where
    by : (b : Bool) → map view (filter (λ w. not (is_blank (view w))) vs) ≡ filter (λ d. not (is_blank d)) (map view vs) → map view (cond (not b) (v ∷ filter (λ w. not (is_blank (view w))) vs) (filter (λ w. not (is_blank (view w))) vs)) ≡ cond (not b) (view v ∷ filter (λ d. not (is_blank d)) (map view vs)) (filter (λ d. not (is_blank d)) (map view vs))
    by true e = e
    by false e = ap (λ ds. view v ∷ ds) e
