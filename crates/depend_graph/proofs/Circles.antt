-- A circle that is turned to its least number is a closed path.
use Rattle.std.proofs.Common.{◌≡◌, ℕ, ◌+◌, ◌-◌, ◌<◌, ◌≤◌, ◌++◌, ◌∷◌, [], List, length, get_or, take, drop, refl, sym, ◌∙◌, ap, subst, inl, inr, arith, length-append, length-drop}
use Rattle.std.proofs.lemmas.List.{length-take, get_or-take, get_or-drop, get_or_append_left, get_or-append_right, get_or_push}
use Rattle.std.proofs.lemmas.Bool.{cases_lt}
use Rattle.std.proofs.lemmas.List.Elements.{All-from_get_or}
use Rattle.depend_graph.specs.Order.{IsCircle}
use Rattle.depend_graph.specs.Turning.{turned_at, TurnsToLeast}

-- each number relates to the next, and the last to the first
pub record GoesRound (R : ℕ → ℕ → Type 0) (circle : List ℕ) : Type 0 where
  pub any : 0 < length circle
  pub steps : (k : ℕ) → k + 1 < length circle → R (get_or circle k 0) (get_or circle (k + 1) 0)
  pub round : R (get_or circle (length circle - 1) 0) (get_or circle 0 0)

length_turned : (m : ℕ) (xs : List ℕ) → m < length xs → length (turned_at m xs) ≡ length xs + 1
length_turned m xs lt = omega (arith, length-append (drop m xs ++ take m xs) (get_or xs m 0 ∷ []), length-append (drop m xs) (take m xs), length-drop m xs, length-take m xs)

front : (m : ℕ) (xs : List ℕ) (j : ℕ) → m < length xs → m + j < length xs → get_or (turned_at m xs) j 0 ≡ get_or xs (m + j) 0
front m xs j lt within =
    let short : j < length (drop m xs) = omega (arith, length-drop m xs) in
    let longer : j < length (drop m xs ++ take m xs) = omega (arith, length-append (drop m xs) (take m xs)) in
    get_or_append_left (drop m xs ++ take m xs) (get_or xs m 0 ∷ []) 0 j longer ∙ get_or_append_left (drop m xs) (take m xs) 0 j short ∙ get_or-drop m xs j 0

back : (m : ℕ) (xs : List ℕ) (j : ℕ) → m < length xs → length xs ≤ m + j → j ≤ length xs → get_or (turned_at m xs) j 0 ≡ get_or xs (m + j - length xs) 0
back m xs j lt past within =
    elim (cases_lt j (length xs)) [
      | inl less ↦
          let longer : j < length (drop m xs ++ take m xs) = omega (arith, length-append (drop m xs) (take m xs), length-drop m xs, length-take m xs) in
          let behind : length (drop m xs) ≤ j = omega (arith, length-drop m xs) in
          let there : j - length (drop m xs) ≡ m + j - length xs = omega (arith, length-drop m xs) in
          get_or_append_left (drop m xs ++ take m xs) (get_or xs m 0 ∷ []) 0 j longer ∙ get_or-append_right (drop m xs) (take m xs) (length (drop m xs)) j 0 refl behind
          ∙ ap (λ k. get_or (take m xs) k 0) there ∙ get_or-take m xs (m + j - length xs) 0 (omega arith)
      | inr last ↦
          let end : length (drop m xs ++ take m xs) ≡ j = omega (arith, length-append (drop m xs) (take m xs), length-drop m xs, length-take m xs) in
          let there : m ≡ m + j - length xs = omega arith in
          get_or_push (drop m xs ++ take m xs) (get_or xs m 0) 0 j end ∙ ap (λ k. get_or xs k 0) there
    ]

along : (R : ℕ → ℕ → Type 0) (a b c d : ℕ) → a ≡ c → b ≡ d → R c d → R a b
along R a b c d e f h =
    let P : ℕ → Type 0 = λ x. R x d in
    let Q : ℕ → Type 0 = λ y. R a y in
    subst Q (sym f) (subst P (sym e) h)

at_place : (xs : List ℕ) (i j : ℕ) → i ≡ j → get_or xs i 0 ≡ get_or xs j 0
at_place xs i j e = ap (λ k. get_or xs k 0) e

pub closed : (R : ℕ → ℕ → Type 0) (circle path : List ℕ) → GoesRound R circle → TurnsToLeast circle path → IsCircle R path
closed R circle path g t =
    let m : ℕ = t.place in
    let n : ℕ = length circle in
    let P : List ℕ → Type 0 = λ xs. IsCircle R xs in
    let long : length (turned_at m circle) ≡ n + 1 = length_turned m circle t.within in
    let first : get_or (turned_at m circle) 0 0 ≡ get_or circle m 0 = front m circle 0 t.within (omega (arith, t.within)) ∙ at_place circle (m + 0) m (omega arith) in
    let least_at : (k : ℕ) → k < n → get_or (turned_at m circle) 0 0 ≤ get_or circle k 0 = λ k lt. let h = t.least k lt in omega arith in
    subst P (sym t.turned) (record {
      long = let any = g.any in omega arith;
      steps = λ k lt.
          elim (cases_lt (m + k + 1) n) [
            | inl before ↦ along R _ _ _ _ (front m circle k t.within (omega arith)) (front m circle (k + 1) t.within (omega arith) ∙ at_place circle (m + (k + 1)) (m + k + 1) (omega arith)) (g.steps (m + k) before)
            | inr past ↦ elim (cases_lt (m + k) n) [
              | inl last ↦ along R _ _ _ _ (front m circle k t.within last ∙ at_place circle (m + k) (n - 1) (omega arith)) (back m circle (k + 1) t.within (omega arith) (omega arith) ∙ at_place circle (m + (k + 1) - n) 0 (omega arith)) g.round
              | inr behind ↦ let within = t.within in along R _ _ _ _ (back m circle k t.within behind (omega arith)) (back m circle (k + 1) t.within (omega arith) (omega arith) ∙ at_place circle (m + (k + 1) - n) (m + k - n + 1) (omega arith)) (g.steps (m + k - n) (omega arith))
            ]
          ];
      closed = at_place (turned_at m circle) (length (turned_at m circle) - 1) n (omega arith) ∙ back m circle n t.within (let within = t.within in omega arith) (omega arith) ∙ at_place circle (m + n - n) m (omega arith) ∙ sym first;
      least = All-from_get_or (λ x. get_or (turned_at m circle) 0 0 ≤ x) (turned_at m circle) 0 (λ k lt.
          let within = t.within in
          elim (cases_lt (m + k) n) [
            | inl before ↦ let e = front m circle k t.within before in let h = least_at (m + k) before in omega arith
            | inr past ↦ let e = back m circle k t.within past (omega arith) in let h = least_at (m + k - n) (omega arith) in omega arith
          ]);
    })
