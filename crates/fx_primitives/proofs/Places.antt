-- Where parts stand.
use Rattle.std.proofs.Common.{◌≡◌, ◌≢◌, ℕ, ◌+◌, ◌-◌, ◌<◌, ◌≤◌, Bool, true, false, List, length, take, drop, ap, sym, refl, ◌∙◌, ◌↔◌, arith, length-drop}
use Rattle.std.proofs.lemmas.List.{take_all}
use Rattle.std.specs.Prelude.{MatchBool, IsTrue}
use Rattle.fx_primitives.specs.Search.{StandsAt}
use Rattle.fx_primitives.specs.Folding.{EndsWith}

pub told_stands : (part text rest : List ℕ) (place : ℕ) (r : Bool) → place ≤ length text → rest ≡ drop place text
    → MatchBool r (part ≡ take (length part) rest) (part ≢ take (length part) rest)
    → IsTrue r ↔ StandsAt part text place
told_stands part text rest place true h f e = (λ _. record { within = h; same = ap (take (length part)) (sym f) ∙ sym e }, λ _. refl)
told_stands part text rest place false h f e = (λ t. cc, λ s. absurd (e (sym s.same ∙ ap (take (length part)) (sym f))))

pub told_ends : (text part : List ℕ) (r : Bool) → (IsTrue r → length part ≤ length text)
    → MatchBool r (part ≡ drop (length text - length part) text) (part ≢ drop (length text - length part) text)
    → IsTrue r ↔ EndsWith text part
told_ends text part true h e =
    let b = h refl in
    (λ _. (length text - length part, record { within = omega arith; same = ap (take (length part)) (sym e) ∙ take_all (length part) part (omega arith) }, omega arith), λ _. refl)
told_ends text part false h e = (
  λ t. cc,
  λ w.
      let k : length text - length part ≡ w.0 = omega arith in
      let n : length (drop w.0 text) ≤ length part = omega (arith, length-drop w.0 text) in
      absurd (e (sym w.1.same ∙ take_all (length part) (drop w.0 text) n ∙ ap (λ i. drop i text) (sym k))),
)
