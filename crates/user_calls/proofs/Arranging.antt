-- Things by rising names, and what they are worth.
use Rattle.std.proofs.Common.{◌≡◌, ℕ, List, [], ◌∷◌, length, refl, sym, ap, ◌∙◌, arith}
use Rattle.std.specs.Ordering.{match_ordering, nat_cmp}
use Rattle.std.specs.Cmp.Lexicographic.{slice_cmp}
use Rattle.std.specs.declared.cmp.Ordering.{Ordering}
use Rattle.std.specs.declared.cmp.Ordering.TheVariants.{Less, Equal, Greater}
use Rattle.fx_types.specs.Values.{Data}
use Rattle.fx_udf.specs.Expanding.{among, arranged, put_each}

-- things are worth these values, one by one
abbrev pub AreWorth : {A : Type 0} → (A → Data → Type 0) → List A → List Data → Type 0
AreWorth V [] [] = Unit {0}
AreWorth V (x ∷ xs) (d ∷ ds) = V x d × AreWorth V xs ds
AreWorth V xs ds = ⊥

-- the same under the same names
abbrev pub ArePaired : {A : Type 0} → (A → Data → Type 0) → List (List ℕ × A) → List (List ℕ × Data) → Type 0
ArePaired V [] [] = Unit {0}
ArePaired V (p ∷ ps) (q ∷ qs) = (p.0 ≡ q.0) × V p.1 q.1 × ArePaired V ps qs
ArePaired V ps qs = ⊥

among_paired : {A : Type 0} (V : A → Data → Type 0) (n : List ℕ) (x : A) (d : Data) → V x d → (ps : List (List ℕ × A)) (qs : List (List ℕ × Data)) → ArePaired V ps qs → ArePaired V (among n x ps) (among n d qs)
among_paired V n x d w [] [] h = (refl, w, tt)
among_paired V n x d w [] (q ∷ qs) h = absurd h
among_paired V n x d w (p ∷ ps) [] h = absurd h
among_paired {A} V n x d w (p ∷ ps) (q ∷ qs) h = go (among_paired V n x d w ps qs h.2) (slice_cmp nat_cmp n p.0) (slice_cmp nat_cmp n q.0) (ap (slice_cmp nat_cmp n) h.0)
  where
    go : ArePaired V (among n x ps) (among n d qs) → (a b : Ordering) → a ≡ b
        → ArePaired V (match_ordering a ((n, x) ∷ p ∷ ps) ((n, x) ∷ p ∷ ps) (p ∷ among n x ps)) (match_ordering b ((n, d) ∷ q ∷ qs) ((n, d) ∷ q ∷ qs) (q ∷ among n d qs))
    go rest Less Less e = (refl, w, h)
    go rest Equal Equal e = (refl, w, h)
    go rest Greater Greater e = (h.0, h.1, rest)
    go rest Less Equal e = absurd cc
    go rest Less Greater e = absurd cc
    go rest Equal Less e = absurd cc
    go rest Equal Greater e = absurd cc
    go rest Greater Less e = absurd cc
    go rest Greater Equal e = absurd cc

-- what things are worth, they are by rising names, under the same names
put_paired : {A : Type 0} (V : A → Data → Type 0) (ns : List (List ℕ)) (xs : List A) (ds : List Data) → AreWorth V xs ds → (ps : List (List ℕ × A)) (qs : List (List ℕ × Data)) → ArePaired V ps qs → ArePaired V (put_each ns xs ps) (put_each ns ds qs)
put_paired V [] xs ds w ps qs h = h
put_paired V (n ∷ ns) [] [] w ps qs h = h
put_paired V (n ∷ ns) [] (d ∷ ds) w ps qs h = absurd w
put_paired V (n ∷ ns) (x ∷ xs) [] w ps qs h = absurd w
put_paired V (n ∷ ns) (x ∷ xs) (d ∷ ds) w ps qs h = put_paired V ns xs ds w.1 (among n x ps) (among n d qs) (among_paired V n x d w.0 ps qs h)

pub worth_arranged : {A : Type 0} (V : A → Data → Type 0) (ns : List (List ℕ)) (xs : List A) (ds : List Data) → AreWorth V xs ds → ArePaired V (arranged ns xs) (arranged ns ds)
worth_arranged V ns xs ds w = put_paired V ns xs ds w [] [] tt

-- ---- and back: one thing taken out again

record Out {A : Type 0} (V : A → Data → Type 0) (n : List ℕ) (x : A) (ps : List (List ℕ × A)) (qs : List (List ℕ × Data)) : Type 0 where
  one : Data
  worth : V x one
  rest : List (List ℕ × Data)
  paired : ArePaired V ps rest
  is : among n one rest ≡ qs

before_first : {A : Type 0} (V : A → Data → Type 0) (n : List ℕ) (x : A) (p : List ℕ × A) (ps : List (List ℕ × A)) (q r : List ℕ × Data) (rs : List (List ℕ × Data)) → ArePaired V ((n, x) ∷ p ∷ ps) (q ∷ r ∷ rs)
    → match_ordering (slice_cmp nat_cmp n r.0) ((n, q.1) ∷ r ∷ rs) ((n, q.1) ∷ r ∷ rs) (r ∷ among n q.1 rs) ≡ (n, q.1) ∷ r ∷ rs → Out V n x (p ∷ ps) (q ∷ r ∷ rs)
before_first V n x p ps q r rs k e = record { one = q.1; worth = k.1; rest = r ∷ rs; paired = k.2; is = e ∙ ap (λ m. (m, q.1) ∷ r ∷ rs) k.0 }

out : {A : Type 0} (V : A → Data → Type 0) (n : List ℕ) (x : A) (ps : List (List ℕ × A)) (qs : List (List ℕ × Data)) → ArePaired V (among n x ps) qs → Out V n x ps qs
out V n x [] [] h = absurd h
out V n x [] (q ∷ []) h = record { one = q.1; worth = h.1; rest = []; paired = tt; is = ap (λ m. (m, q.1) ∷ []) h.0 }
out V n x [] (q ∷ r ∷ qs) h = absurd h.2
out {A} V n x (p ∷ ps) qs h = go (out V n x ps) (slice_cmp nat_cmp n p.0) refl qs h
  where
    go : ((rs : List (List ℕ × Data)) → ArePaired V (among n x ps) rs → Out V n x ps rs) → (o : Ordering) → slice_cmp nat_cmp n p.0 ≡ o → (qs : List (List ℕ × Data))
        → ArePaired V (match_ordering o ((n, x) ∷ p ∷ ps) ((n, x) ∷ p ∷ ps) (p ∷ among n x ps)) qs → Out V n x (p ∷ ps) qs
    go rec Less e [] k = absurd k
    go rec Less e (q ∷ []) k = absurd k.2
    go rec Less e (q ∷ r ∷ rs) k = before_first V n x p ps q r rs k (ap (λ o. match_ordering o ((n, q.1) ∷ r ∷ rs) ((n, q.1) ∷ r ∷ rs) (r ∷ among n q.1 rs)) (ap (slice_cmp nat_cmp n) (sym k.2.0) ∙ e))
    go rec Equal e [] k = absurd k
    go rec Equal e (q ∷ []) k = absurd k.2
    go rec Equal e (q ∷ r ∷ rs) k = before_first V n x p ps q r rs k (ap (λ o. match_ordering o ((n, q.1) ∷ r ∷ rs) ((n, q.1) ∷ r ∷ rs) (r ∷ among n q.1 rs)) (ap (slice_cmp nat_cmp n) (sym k.2.0) ∙ e))
    go rec Greater e [] k = absurd k
    go rec Greater e (q ∷ qs) k = let o = rec qs k.2 in record {
      one = o.one;
      worth = o.worth;
      rest = q ∷ o.rest;
      paired = (k.0, k.1, o.paired);
      is = ap (λ z. match_ordering z ((n, o.one) ∷ q ∷ o.rest) ((n, o.one) ∷ q ∷ o.rest) (q ∷ among n o.one o.rest)) (ap (slice_cmp nat_cmp n) (sym k.0) ∙ e) ∙ ap (λ rs. q ∷ rs) o.is;
    }

-- what things by rising names are worth, they are in their own order
record Back {A : Type 0} (V : A → Data → Type 0) (ns : List (List ℕ)) (xs : List A) (ps : List (List ℕ × A)) (qs : List (List ℕ × Data)) : Type 0 where
  values : List Data
  worth : AreWorth V xs values
  rest : List (List ℕ × Data)
  paired : ArePaired V ps rest
  is : put_each ns values rest ≡ qs

put_back : {A : Type 0} (V : A → Data → Type 0) (ns : List (List ℕ)) (xs : List A) → length xs ≡ length ns → (ps : List (List ℕ × A)) (qs : List (List ℕ × Data)) → ArePaired V (put_each ns xs ps) qs → Back V ns xs ps qs
put_back V [] [] l ps qs h = record { values = []; worth = tt; rest = qs; paired = h; is = refl }
put_back V [] (x ∷ xs) l ps qs h = absurd (omega (arith, l))
put_back V (n ∷ ns) [] l ps qs h = absurd (omega (arith, l))
put_back V (n ∷ ns) (x ∷ xs) l ps qs h =
    let b = put_back V ns xs (omega (arith, l)) (among n x ps) qs h in
    let o = out V n x ps b.rest b.paired in record {
      values = o.one ∷ b.values;
      worth = (o.worth, b.worth);
      rest = o.rest;
      paired = o.paired;
      is = ap (put_each ns b.values) o.is ∙ b.is;
    }

none_paired : {A : Type 0} (V : A → Data → Type 0) (qs : List (List ℕ × Data)) → ArePaired V [] qs → qs ≡ []
none_paired V [] h = refl
none_paired V (q ∷ qs) h = absurd h

pub worth_back : {A : Type 0} (V : A → Data → Type 0) (ns : List (List ℕ)) (xs : List A) → length xs ≡ length ns → (qs : List (List ℕ × Data)) → ArePaired V (arranged ns xs) qs
    → (ds : List Data) × AreWorth V xs ds × (arranged ns ds ≡ qs)
worth_back V ns xs l qs h =
    let b = put_back V ns xs l [] qs h in
    (b.values, b.worth, ap (put_each ns b.values) (sym (none_paired V b.rest b.paired)) ∙ b.is)
