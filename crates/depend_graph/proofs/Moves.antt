-- Each step of the search keeps what holds of it.
use Rattle.std.proofs.Common.{◌≡◌, ◌≢◌, ℕ, suc, ◌+◌, ◌-◌, ◌<◌, ◌++◌, ◌∷◌, [], List, length, get_or, set, drop, refl, sym, ◌∙◌, ap, subst, inl, inr, arith, length-drop, get_or-set_same, get_or-set_other}
use Rattle.std.proofs.lemmas.List.{get_or_append_left, get_or_push, length_push, take-append-le, take_at, get_or-drop, get_or_default}
use Rattle.std.proofs.lemmas.List.Elements.{Contains-push, Contains-append_left}
use Rattle.std.proofs.lemmas.List.Quantifiers.{all_pairs_push}
use Rattle.std.proofs.lemmas.Bool.{cases_lt, cases_eq}
use Rattle.std.specs.List.{Contains}
use Rattle.depend_graph.specs.declared.state.State.{State}
use Rattle.depend_graph.specs.declared.state.State.TheVariants.{New, Open, Done}
use Rattle.depend_graph.specs.Lists.{nth_list}
use Rattle.depend_graph.specs.Search.{visit_state, IsOnPath, IsSearchState}
use Rattle.depend_graph.proofs.Circles.{GoesRound}

other : (states : List State) (n x : ℕ) (s : State) → (x ≡ n → ⊥) → visit_state (set states n s) x ≡ visit_state states x
other states n x s ne = get_or-set_other states n x s New ne

same : (states : List State) (n : ℕ) (s : State) → n < length states → visit_state (set states n s) n ≡ s
same states n s lt = get_or-set_same states n s New lt

-- numbers of different states differ
apart : (states : List State) (n x : ℕ) (s t : State) → visit_state states n ≡ s → visit_state states x ≡ t → (s ≡ t → ⊥) → x ≡ n → ⊥
apart states n x s t here there ne e = ne (sym here ∙ sym (ap (visit_state states) e) ∙ there)

-- what is done stays done, where the number that changes wasn't
stays_done : (states : List State) (n x : ℕ) (s : State) → (visit_state states n ≡ Done → ⊥) → visit_state states x ≡ Done → visit_state (set states n s) x ≡ Done
stays_done states n x s ne e = other states n x s (λ same. ne (sym (ap (visit_state states) same) ∙ e)) ∙ e

-- and where it gets done
gets_done : (states : List State) (n x : ℕ) → n < length states → visit_state states x ≡ Done → visit_state (set states n Done) x ≡ Done
gets_done states n x lt e = elim (cases_eq x n) [
  | inl here ↦ ap (visit_state (set states n Done)) here ∙ same states n Done lt
  | inr ne ↦ other states n x Done ne ∙ e
]

place_of : (p q l m : ℕ) → Open p l ≡ Open q m → p ≡ q
place_of p q l m e = cc

left_of : (p q l m : ℕ) → Open p l ≡ Open q m → l ≡ m
left_of p q l m e = cc

not_done : (p l : ℕ) → Open p l ≡ Done → ⊥
not_done p l e = cc

pub opened : (reads : List (List ℕ)) (states : List State) (path order : List ℕ) (n : ℕ) → IsSearchState reads states path order → n < length states → visit_state states n ≡ New → ((k : ℕ) → k + 1 ≡ length path → Contains (nth_list reads (get_or path k 0)) n) → IsSearchState reads (set states n (Open (length path) (length (nth_list reads n)))) (path ++ n ∷ []) order
opened reads states path order n s lt new feeds =
    let now : State = Open (length path) (length (nth_list reads n)) in
    let states' : List State = set states n now in
    let new_not_done : visit_state states n ≡ Done → ⊥ = λ e. cc in
    let longer : length (path ++ n ∷ []) ≡ length path + 1 = length_push path n in
    record {
      is_open = λ x place left e. elim (cases_eq x n) [
        | inl here ↦
            let is : Open (length path) (length (nth_list reads n)) ≡ Open place left = sym (same states n now lt) ∙ sym (ap (visit_state states') here) ∙ e in
            let p : length path ≡ place = place_of _ _ _ _ is in
            let l : length (nth_list reads n) ≡ left = left_of _ _ _ _ is in
            let l' : length (nth_list reads x) ≡ left = ap (λ (m : ℕ). length (nth_list reads m)) here ∙ l in
            record {
              within = omega arith;
              stands = get_or_push path n 0 place p ∙ sym here;
              fits = omega arith;
              passed = λ k short. absurd (omega arith);
            }
        | inr ne ↦
            let o : IsOnPath reads states path x place left = s.is_open x place left (sym (other states n x now ne) ∙ e) in
            let within = o.within in
            record {
              within = omega arith;
              stands = get_or_append_left path (n ∷ []) 0 place o.within ∙ o.stands;
              fits = o.fits;
              passed = λ k short. stays_done states n _ now new_not_done (o.passed k short);
            }
      ];
      on_path = λ k within. elim (cases_lt k (length path)) [
        | inl before ↦
            let o : (left : ℕ) × (visit_state states (get_or path k 0) ≡ Open k left) = s.on_path k before in
            let there : get_or (path ++ n ∷ []) k 0 ≡ get_or path k 0 = get_or_append_left path (n ∷ []) 0 k before in
            let e : visit_state states (get_or path k 0) ≡ Open k o.0 = o.1 in
            (o.0, ap (visit_state states') there ∙ other states n (get_or path k 0) now (apart states n _ New (Open k o.0) new e (λ c. cc)) ∙ e)
        | inr last ↦
            let end : length path ≡ k = omega arith in
            (length (nth_list reads n), ap (visit_state states') (get_or_push path n 0 k end) ∙ same states n now lt ∙ ap (λ (m : ℕ). Open m (length (nth_list reads n))) end)
      ];
      steps = λ k within. elim (cases_lt (k + 1) (length path)) [
        | inl before ↦
            let P : ℕ → Type 0 = λ a. Contains (nth_list reads a) (get_or (path ++ n ∷ []) (k + 1) 0) in
            let Q : ℕ → Type 0 = λ b. Contains (nth_list reads (get_or path k 0)) b in
            subst P (sym (get_or_append_left path (n ∷ []) 0 k (omega arith))) (subst Q (sym (get_or_append_left path (n ∷ []) 0 (k + 1) before)) (s.steps k before))
        | inr last ↦
            let P : ℕ → Type 0 = λ a. Contains (nth_list reads a) (get_or (path ++ n ∷ []) (k + 1) 0) in
            let Q : ℕ → Type 0 = λ b. Contains (nth_list reads (get_or path k 0)) b in
            subst P (sym (get_or_append_left path (n ∷ []) 0 k (omega arith))) (subst Q (sym (get_or_push path n 0 (k + 1) (omega arith))) (feeds k (omega arith)))
      ];
      ordered = λ k within. stays_done states n _ now new_not_done (s.ordered k within);
      done = λ x e. elim (cases_eq x n) [
        | inl here ↦ absurd (not_done _ _ (sym (same states n now lt) ∙ sym (ap (visit_state states') here) ∙ e))
        | inr ne ↦ s.done x (sym (other states n x now ne) ∙ e)
      ];
      once = s.once;
      behind = s.behind;
    }

pub passed : (reads : List (List ℕ)) (states : List State) (path order : List ℕ) (n place left : ℕ) → IsSearchState reads states path order → n < length states → visit_state states n ≡ Open place (suc left) → visit_state states (get_or (nth_list reads n) (length (nth_list reads n) - suc left) 0) ≡ Done → IsSearchState reads (set states n (Open place left)) path order
passed reads states path order n place left s lt here read =
    let now : State = Open place left in
    let states' : List State = set states n now in
    let open_not_done : visit_state states n ≡ Done → ⊥ = λ e. not_done place (suc left) (sym here ∙ e) in
    record {
      is_open = λ x p l e. elim (cases_eq x n) [
        | inl at_n ↦
            let is : Open place left ≡ Open p l = sym (same states n now lt) ∙ sym (ap (visit_state states') at_n) ∙ e in
            let pe : place ≡ p = place_of _ _ _ _ is in
            let le : left ≡ l = left_of _ _ _ _ is in
            let o : IsOnPath reads states path n place (suc left) = s.is_open n place (suc left) here in
            let same_list : length (nth_list reads x) ≡ length (nth_list reads n) = ap (λ (m : ℕ). length (nth_list reads m)) at_n in
            let within = o.within in
            let fits = o.fits in
            record {
              within = omega arith;
              stands = ap (λ (m : ℕ). get_or path m 0) (sym pe) ∙ o.stands ∙ sym at_n;
              fits = omega arith;
              passed = λ k short.
                  let in_list : get_or (nth_list reads x) k 0 ≡ get_or (nth_list reads n) k 0 = ap (λ (m : ℕ). get_or (nth_list reads m) k 0) at_n in
                  ap (visit_state states') in_list ∙ stays_done states n _ now open_not_done (elim (cases_lt (k + suc left) (length (nth_list reads n))) [
                    | inl before ↦ o.passed k before
                    | inr last ↦
                        let end : k ≡ length (nth_list reads n) - suc left = omega arith in
                        ap (λ (m : ℕ). visit_state states (get_or (nth_list reads n) m 0)) end ∙ read
                  ]);
            }
        | inr ne ↦
            let o : IsOnPath reads states path x p l = s.is_open x p l (sym (other states n x now ne) ∙ e) in
            record { within = o.within; stands = o.stands; fits = o.fits; passed = λ k short. stays_done states n _ now open_not_done (o.passed k short) }
      ];
      on_path = λ k within.
          let o : (l : ℕ) × (visit_state states (get_or path k 0) ≡ Open k l) = s.on_path k within in
          elim (cases_eq (get_or path k 0) n) [
            | inl at_n ↦
                let is : Open place (suc left) ≡ Open k o.0 = sym here ∙ sym (ap (visit_state states) at_n) ∙ o.1 in
                let pe : place ≡ k = place_of _ _ _ _ is in
                (left, ap (visit_state states') at_n ∙ same states n now lt ∙ ap (λ (m : ℕ). Open m left) pe)
            | inr ne ↦ (o.0, other states n (get_or path k 0) now ne ∙ o.1)
          ];
      steps = s.steps;
      ordered = λ k within. stays_done states n _ now open_not_done (s.ordered k within);
      done = λ x e. elim (cases_eq x n) [
        | inl at_n ↦ absurd (not_done _ _ (sym (same states n now lt) ∙ sym (ap (visit_state states') at_n) ∙ e))
        | inr ne ↦ s.done x (sym (other states n x now ne) ∙ e)
      ];
      once = s.once;
      behind = s.behind;
    }

pub closed : (reads : List (List ℕ)) (states : List State) (path order rest : List ℕ) (n place : ℕ) → IsSearchState reads states path order → n < length states → visit_state states n ≡ Open place 0 → path ≡ rest ++ n ∷ [] → IsSearchState reads (set states n Done) rest (order ++ n ∷ [])
closed reads states path order rest n place s lt here ends =
    let states' : List State = set states n Done in
    let open_not_done : visit_state states n ≡ Done → ⊥ = λ e. not_done place 0 (sym here ∙ e) in
    let longer : length path ≡ length rest + 1 = ap length ends ∙ length_push rest n in
    let last : get_or path (length rest) 0 ≡ n = ap (λ (xs : List ℕ). get_or xs (length rest) 0) ends ∙ get_or_push rest n 0 (length rest) refl in
    let front : (k : ℕ) → k < length rest → get_or rest k 0 ≡ get_or path k 0 = λ k before. sym (ap (λ (xs : List ℕ). get_or xs k 0) ends ∙ get_or_append_left rest (n ∷ []) 0 k before) in
    let at_end : (k l : ℕ) → visit_state states n ≡ Open k l → k ≡ length rest = λ k l e.
    let o : (m : ℕ) × (visit_state states (get_or path (length rest) 0) ≡ Open (length rest) m) = s.on_path (length rest) (omega arith) in
    place_of _ _ _ _ (sym e ∙ sym (ap (visit_state states) last) ∙ o.1) in
    let more : length (order ++ n ∷ []) ≡ length order + 1 = length_push order n in
    record {
      is_open = λ x p l e. elim (cases_eq x n) [
        | inl at_n ↦ absurd (not_done p l (sym e ∙ ap (visit_state states') at_n ∙ same states n Done lt))
        | inr ne ↦
            let o : IsOnPath reads states path x p l = s.is_open x p l (sym (other states n x Done ne) ∙ e) in
            let within = o.within in
            let before : p < length rest = elim (cases_lt p (length rest)) [
              | inl less ↦ less
              | inr end ↦ let is : p ≡ length rest = omega arith in absurd (ne (sym o.stands ∙ ap (λ (m : ℕ). get_or path m 0) is ∙ last))
            ] in
            record {
              within = before;
              stands = front p before ∙ o.stands;
              fits = o.fits;
              passed = λ k short. gets_done states n _ lt (o.passed k short);
            }
      ];
      on_path = λ k within.
          let o : (l : ℕ) × (visit_state states (get_or path k 0) ≡ Open k l) = s.on_path k (omega arith) in
          let apart_from : get_or path k 0 ≡ n → ⊥ = λ at_n. let e : k ≡ length rest = at_end k o.0 (sym (ap (visit_state states) at_n) ∙ o.1) in omega arith in
          (o.0, ap (visit_state states') (front k within) ∙ other states n (get_or path k 0) Done apart_from ∙ o.1);
      steps = λ k within.
          let P : ℕ → Type 0 = λ a. Contains (nth_list reads a) (get_or rest (k + 1) 0) in
          let Q : ℕ → Type 0 = λ b. Contains (nth_list reads (get_or path k 0)) b in
          subst P (sym (front k (omega arith))) (subst Q (sym (front (k + 1) within)) (s.steps k (omega arith)));
      ordered = λ k within. elim (cases_lt k (length order)) [
        | inl before ↦ ap (visit_state states') (get_or_append_left order (n ∷ []) 0 k before) ∙ gets_done states n _ lt (s.ordered k before)
        | inr end ↦ ap (visit_state states') (get_or_push order n 0 k (omega arith)) ∙ same states n Done lt
      ];
      done = λ x e. elim (cases_eq x n) [
        | inl at_n ↦ let P : ℕ → Type 0 = λ m. Contains (order ++ n ∷ []) m in subst P (sym at_n) (Contains-push order n)
        | inr ne ↦ Contains-append_left order (n ∷ []) x (s.done x (sym (other states n x Done ne) ∙ e))
      ];
      once = all_pairs_push (λ a b. a ≢ b) order n s.once (λ k d within e.
          let there : get_or order k 0 ≡ n = get_or_default order k 0 d within ∙ e in
          open_not_done (sym (ap (visit_state states) there) ∙ s.ordered k within));
      behind = λ k b within reading. elim (cases_lt k (length order)) [
        | inl before ↦
            let P : ℕ → Type 0 = λ a. Contains (nth_list reads a) b in
            let Q : List ℕ → Type 0 = λ xs. Contains xs b in
            subst Q (sym (take-append-le k order (n ∷ []) (omega arith))) (s.behind k b before (subst P (get_or_append_left order (n ∷ []) 0 k before) reading))
        | inr end ↦
            let P : ℕ → Type 0 = λ a. Contains (nth_list reads a) b in
            let Q : List ℕ → Type 0 = λ xs. Contains xs b in
            let r : Contains (nth_list reads n) b = subst P (get_or_push order n 0 k (omega arith)) reading in
            let o : IsOnPath reads states path n place 0 = s.is_open n place 0 here in
            let j : ℕ = r.0 in
            let short : j < length (nth_list reads n) = r.1 in
            let is : get_or (nth_list reads n) j 0 ≡ b = get_or_default (nth_list reads n) j 0 b short ∙ r.2 in
            subst Q (sym (take_at order (n ∷ []) k (omega arith))) (s.done b (sym (ap (visit_state states) is) ∙ o.passed j (omega arith)))
      ];
    }

-- where the last number of the path reads an open one, the path goes round from there
pub found : (reads : List (List ℕ)) (states : List State) (path order : List ℕ) (last read place left : ℕ) → IsSearchState reads states path order → get_or path (length path - 1) 0 ≡ last → Contains (nth_list reads last) read → visit_state states read ≡ Open place left → GoesRound (λ a b. Contains (nth_list reads a) b) (drop place path)
found reads states path order last read place left s ends reading there =
    let o : IsOnPath reads states path read place left = s.is_open read place left there in
    let within : place < length path = o.within in
    let long : length (drop place path) ≡ length path - place = length-drop place path in
    record {
      any = omega arith;
      steps = λ k lt.
          let P : ℕ → Type 0 = λ a. Contains (nth_list reads a) (get_or (drop place path) (k + 1) 0) in
          let Q : ℕ → Type 0 = λ b. Contains (nth_list reads (get_or path (place + k) 0)) b in
          let next : get_or (drop place path) (k + 1) 0 ≡ get_or path (place + k + 1) 0 = get_or-drop place path (k + 1) 0 ∙ ap (λ (m : ℕ). get_or path m 0) (let e : place + (k + 1) ≡ place + k + 1 = omega arith in e) in
          subst P (sym (get_or-drop place path k 0)) (subst Q (sym next) (s.steps (place + k) (omega arith)));
      round =
          let P : ℕ → Type 0 = λ a. Contains (nth_list reads a) (get_or (drop place path) 0 0) in
          let Q : ℕ → Type 0 = λ b. Contains (nth_list reads last) b in
          let e : place + (length (drop place path) - 1) ≡ length path - 1 = omega arith in
          let z : place + 0 ≡ place = omega arith in
          let at_last : get_or (drop place path) (length (drop place path) - 1) 0 ≡ last = get_or-drop place path (length (drop place path) - 1) 0 ∙ ap (λ (m : ℕ). get_or path m 0) e ∙ ends in
          let at_first : get_or (drop place path) 0 0 ≡ read = get_or-drop place path 0 0 ∙ ap (λ (m : ℕ). get_or path m 0) z ∙ o.stands in
          subst P (sym at_last) (subst Q (sym at_first) reading);
    }
