-- Two answers as one, and a walk over parts that keeps the lowest rule.
use Rattle.std.proofs.Common.{◌≡◌, ℕ, List, [], ◌∷◌, ◌++◌, Bool, true, false, Result, Ok, Err, refl, sym, ap, subst, ◌∙◌, arith, ltb-true, ltb-false, if◌then◌else◌}
use Rattle.std.specs.Prelude.{min, nat_lt}
use Rattle.std.proofs.lemmas.List.{append-nil}
use Rattle.fx_typing.specs.Parts.{lowest, all_or_lowest}
use Rattle.fx_typing.proofs.Stops.{stops}
use Rattle.fx_typing.specs.Answers.{IsAnswerOf, Wrong}
use Rattle.fx_base.specs.declared.or_memory.OrMemory.TheVariants.{Refused as Breaks, Memory}
use Rattle.fx_core.specs.Rules.{rule_number}
use Rattle.fx_core.specs.declared.rule.Rule.{Rule}
use Rattle.fx_node_typing.specs.Lowest.{lower, both}

lesser : (a b : ℕ) → (if nat_lt b a then b else a) ≡ min a b
lesser a b = by (nat_lt b a) refl
  where
    by : (t : Bool) → nat_lt b a ≡ t → (if t then b else a) ≡ min a b
    by true e = let h = ltb-true b a e in omega (arith, h)
    by false e = let h = ltb-false b a e in omega (arith, h)

lower_breaks : {C D : Type 0} (h : C → D) (a b : Rule) → IsAnswerOf h (Err (min (rule_number a) (rule_number b))) (Err (lower (Breaks a) (Breaks b)))
lower_breaks h a b = by (nat_lt (rule_number b) (rule_number a)) (lesser (rule_number a) (rule_number b))
  where
    by : (t : Bool) → (if t then rule_number b else rule_number a) ≡ min (rule_number a) (rule_number b) →
        IsAnswerOf h (Err (min (rule_number a) (rule_number b))) (Err (if t then Breaks b else Breaks a))
    by true e = ap Err (sym e)
    by false e = ap Err (sym e)

-- what is made of two things, or what is wrong with one of them
broken_left : {X Y Z : Type 0} (go : X → Y → Z) (p : Result X ℕ) (n : ℕ) (y : Y) → p ≡ Err n → lowest go p (Ok y) ≡ Err n
broken_left go p n y e = ap (λ r. lowest go r (Ok y)) e

pub both_err : {A B C X Y Z : Type 0} (f : A → X) (g : B → Y) (h : C → Z) (go : X → Y → Z) (p : Result X ℕ) (q : Result Y ℕ) (one : Result A Wrong) (other : Result B Wrong) (e : Wrong) →
    IsAnswerOf f p one → IsAnswerOf g q other → Err e ≡ both one other → IsAnswerOf h (lowest go p q) (Err e)
both_err f g h go p q (Ok a) (Ok b) e i j k = absurd cc
both_err f g h go p q (Ok a) (Err d) e i j k =
    let w : d ≡ e = cc in
    subst (λ u. IsAnswerOf h (lowest go p q) (Err u)) w (stops g h q (lowest go p q) d (λ n m. ap (λ r. lowest go r q) i ∙ ap (lowest go (Ok (f a))) m) j)
both_err f g h go p q (Err d) (Ok b) e i j k =
    let w : d ≡ e = cc in
    subst (λ u. IsAnswerOf h (lowest go p q) (Err u)) w (stops f h p (lowest go p q) d (λ n m. ap (lowest go p) j ∙ broken_left go p n (g b) m) i)
both_err f g h go p q (Err (Breaks r)) (Err (Breaks s)) e i j k =
    let w : lower (Breaks r) (Breaks s) ≡ e = cc in
    subst (λ u. IsAnswerOf h (lowest go p q) (Err u)) w (
    subst (λ x. IsAnswerOf h x (Err (lower (Breaks r) (Breaks s)))) (sym (ap (λ x. lowest go x q) i ∙ ap (lowest go (Err (rule_number r))) j)) (lower_breaks h r s)
    )
both_err f g h go p q (Err (Breaks r)) (Err Memory) e i j k =
    let w : Memory ≡ e = cc in subst (λ u. IsAnswerOf h (lowest go p q) (Err u)) w tt
both_err f g h go p q (Err Memory) (Err d) e i j k =
    let w : Memory ≡ e = cc in subst (λ u. IsAnswerOf h (lowest go p q) (Err u)) w tt

-- things that stand in turn, and the ones behind them
abbrev pub onto : {Y : Type 0} → Result (List Y) ℕ → Result (List Y) ℕ → Result (List Y) ℕ
onto p q = lowest (λ xs ys. xs ++ ys) p q

abbrev pub with_last : {Y : Type 0} → Result (List Y) ℕ → Result Y ℕ → Result (List Y) ℕ
with_last p q = lowest (λ xs x. xs ++ x ∷ []) p q

pub last_then : {Y : Type 0} (done : List Y) (y : Y) (ys : List Y) → (done ++ y ∷ []) ++ ys ≡ done ++ y ∷ ys
last_then [] y ys = refl
last_then (d ∷ done) y ys = ap (λ zs. d ∷ zs) (last_then done y ys)

min_turn : (a b c : ℕ) → min (min a b) c ≡ min a (min b c)
min_turn a b c = omega arith

pub turned : {Y : Type 0} (p : Result (List Y) ℕ) (q : Result Y ℕ) (r : Result (List Y) ℕ) → onto (with_last p q) r ≡ onto p (lowest (λ y ys. y ∷ ys) q r)
turned (Ok xs) (Ok y) (Ok ys) = ap Ok (last_then xs y ys)
turned (Ok xs) (Ok y) (Err c) = refl
turned (Ok xs) (Err b) (Ok ys) = refl
turned (Ok xs) (Err b) (Err c) = refl
turned (Err a) (Ok y) (Ok ys) = refl
turned (Err a) (Ok y) (Err c) = refl
turned (Err a) (Err b) (Ok ys) = refl
turned (Err a) (Err b) (Err c) = ap Err (min_turn a b c)

pub at_end : {Y : Type 0} (p : Result (List Y) ℕ) → onto p (Ok []) ≡ p
at_end (Ok xs) = ap Ok (append-nil xs)
at_end (Err n) = refl

-- what is kept of a walk over parts: with what is behind it, it is the whole
abbrev pub Keeps : {X Y A : Type 0} → (X → Result Y ℕ) → (A → List Y) → Result A Wrong → List X → Result (List Y) ℕ → Type 0
Keeps {Y = Y} f view kept rest whole = (p : Result (List Y) ℕ) × IsAnswerOf view p kept × (onto p (all_or_lowest f rest) ≡ whole)

pub keeps_on : {X Y A : Type 0} (f : X → Result Y ℕ) (view : A → List Y) (kept new : Result A Wrong) (x : X) (now rest : List X) (whole : Result (List Y) ℕ) →
    now ≡ x ∷ rest → ((p : Result (List Y) ℕ) → IsAnswerOf view p kept → IsAnswerOf view (with_last p (f x)) new) → Keeps f view kept now whole → Keeps f view new rest whole
keeps_on f view kept new x now rest whole left step h =
    (with_last h.0 (f x), step h.0 h.1, turned h.0 (f x) (all_or_lowest f rest) ∙ ap (λ l. onto h.0 (all_or_lowest f l)) (sym left) ∙ h.2)

pub kept_all : {X Y A : Type 0} (f : X → Result Y ℕ) (view : A → List Y) (kept : Result A Wrong) (rest : List X) (whole : Result (List Y) ℕ) →
    rest ≡ [] → Keeps f view kept rest whole → IsAnswerOf view whole kept
kept_all f view kept rest whole none h =
    let e : h.0 ≡ whole = sym (at_end h.0) ∙ ap (λ l. onto h.0 (all_or_lowest f l)) (sym none) ∙ h.2 in
    subst (λ p. IsAnswerOf view p kept) e h.1
