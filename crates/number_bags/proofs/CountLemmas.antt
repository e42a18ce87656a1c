-- Entries and their counts.
use Rattle.std.proofs.Common.{◌≡◌, ℕ, zero, suc, ◌+◌, ◌-◌, ◌<◌, ◌==◌, ◌++◌, List, [], ◌∷◌, refl, sym, ap, ◌∙◌, arith, Bool, true, false, cond, ◌||◌, Option, None, Some, subst, ℤ}
use Rattle.std.specs.Bool.{Decides}
use Rattle.std.proofs.lemmas.Bool.Decides.{Decides-eqb}
use Rattle.std.specs.Map.{lookup}
use Rattle.std.specs.Option.{option_map, is_some}
use Rattle.std.specs.BTreeMap.{is_at}
use Rattle.std.specs.Ordering.{int_cmp, int_eq, is_eq}
use Rattle.std.specs.declared.cmp.Ordering.{Ordering}
use Rattle.std.specs.declared.cmp.Ordering.TheVariants.{Less, Equal, Greater}
use Rattle.std.proofs.lemmas.Cmp.{int_cmp_total, tied_itself}
use Rattle.std.proofs.lemmas.Map.Lookups.{exact_signed}
use Rattle.number_bags.specs.declared.counts.Count.{Count}
use Rattle.number_bags.specs.Entries.{Entries, OthersStand, at_end, ended, is_gone, is_one_of, is_now, count_at, was_then, now_at, then_at, while_counted}
use Rattle.number_bags.proofs.EndLemmas.{any_one_more, or_last}

-- two numbers are at one place exactly where they are the same
pub is_number_is : (z q : ℤ) → is_at (int_cmp z) q ≡ int_eq z q
is_number_is z q = refl

equal_from : (o : Ordering) → is_eq o ≡ true → o ≡ Equal
equal_from Less h = absurd cc
equal_from Equal h = refl
equal_from Greater h = absurd cc

pub same_number : (a b : ℤ) → is_at (int_cmp a) b ≡ true → a ≡ b
same_number a b h = exact_signed a b (equal_from (int_cmp a b) h)

pub one_number : (z q : ℤ) → int_eq z q ≡ true → z ≡ q
one_number z q h = same_number z q (is_number_is z q ∙ h)

pub number_itself : (z : ℤ) → int_eq z z ≡ true
number_itself z = sym (is_number_is z z) ∙ ap is_eq (tied_itself int_cmp_total z)

-- a count for no row, where there was none
pub room_made : (f : Option Count → ℕ) (w : Count) → f None ≡ 0 → f (Some w) ≡ 0 → (es fs : Entries) (key : ℤ) → lookup (is_at (int_cmp key)) es ≡ None
    → (q : ℤ) → lookup (is_at (int_cmp q)) fs ≡ cond (is_at (int_cmp key) q) (Some w) (lookup (is_at (int_cmp q)) es)
    → f (lookup (is_at (int_cmp q)) fs) ≡ f (lookup (is_at (int_cmp q)) es)
room_made f w none some es fs key absent q e = ap f e ∙ go (is_at (int_cmp key) q) refl
  where
    go : (t : Bool) → is_at (int_cmp key) q ≡ t → f (cond t (Some w) (lookup (is_at (int_cmp q)) es)) ≡ f (lookup (is_at (int_cmp q)) es)
    go false h = refl
    go true h = some ∙ sym (ap f (subst (λ p. lookup (is_at (int_cmp p)) es ≡ None) (same_number key q h) absent) ∙ none)

-- a count is written
pub written_now : (es fs : Entries) (key : ℤ) (old : Count) (is : ℕ) (q : ℤ)
    → lookup (is_at (int_cmp q)) fs ≡ cond (is_at (int_cmp key) q) (Some (record { was = old.was; is = is })) (lookup (is_at (int_cmp q)) es)
    → now_at fs q ≡ cond (int_eq key q) is (now_at es q)
written_now es fs key old is q e = ap is_now e ∙ go (is_at (int_cmp key) q) ∙ ap (λ t. cond t is (now_at es q)) (is_number_is key q)
  where
    go : (t : Bool) → is_now (cond t (Some (record { was = old.was; is = is })) (lookup (is_at (int_cmp q)) es)) ≡ cond t is (now_at es q)
    go true = refl
    go false = refl

pub written_then : (es fs : Entries) (key : ℤ) (old : Count) (is : ℕ) → lookup (is_at (int_cmp key)) es ≡ Some old → (q : ℤ)
    → lookup (is_at (int_cmp q)) fs ≡ cond (is_at (int_cmp key) q) (Some (record { was = old.was; is = is })) (lookup (is_at (int_cmp q)) es)
    → then_at fs q ≡ then_at es q
written_then es fs key old is there q e = ap was_then e ∙ go (is_at (int_cmp key) q) refl
  where
    go : (t : Bool) → is_at (int_cmp key) q ≡ t → was_then (cond t (Some (record { was = old.was; is = is })) (lookup (is_at (int_cmp q)) es)) ≡ was_then (lookup (is_at (int_cmp q)) es)
    go false h = refl
    go true h = sym (ap was_then (subst (λ p. lookup (is_at (int_cmp p)) es ≡ Some old) (same_number key q h) there))

pub some_stays : {X : Type 0} (t : Bool) (w : X) (o p : Option X) → p ≡ cond t (Some w) o → is_some o ≡ true → is_some p ≡ true
some_stays true w o p e h = ap is_some e
some_stays false w o p e h = ap is_some e ∙ h

pub none_there : {X : Type 0} (o : Option X) → false ≡ is_some o → o ≡ None
none_there None h = refl
none_there (Some x) h = absurd cc

-- ---- the end of a transaction
pub void_out : (o : Option Count) → is_gone o ≡ true → None ≡ while_counted o
void_out None h = refl
void_out (Some c) h = go (c.was == 0) h
  where
    go : (w : Bool) → w ≡ true → None ≡ cond w None (Some c)
    go true k = refl
    go false k = absurd cc

pub count_stays : (o : Option Count) → is_gone o ≡ false → o ≡ while_counted o
count_stays None h = refl
count_stays (Some c) h = go (c.was == 0) h
  where
    go : (w : Bool) → w ≡ false → Some c ≡ cond w None (Some c)
    go true k = absurd cc
    go false k = refl

pub two_steps : (b : Bool) (o : Option Count) → while_counted (option_map (at_end b) o) ≡ ended b o
two_steps b None = refl
two_steps b (Some c) = refl

-- a second end changes nothing
suc_not_zero : (n : ℕ) → (suc n == 0) ≡ false
suc_not_zero n = go (suc n == 0) (Decides-eqb (suc n) 0)
  where
    go : (b : Bool) → Decides b (suc n ≡ 0) → b ≡ false
    go false d = refl
    go true d = absurd (let e : suc n ≡ 0 = d.0 refl in omega (arith, e))

twice : (b : Bool) (n : ℕ) → ended b (while_counted (Some (record { was = n; is = n }))) ≡ while_counted (Some (record { was = n; is = n }))
twice true zero = refl
twice false zero = refl
twice true (suc n) = let e = suc_not_zero n in ap (λ b. ended true (cond b None (Some (record { was = suc n; is = suc n })))) e ∙ refl
twice false (suc n) = let e = suc_not_zero n in ap (λ b. ended false (cond b None (Some (record { was = suc n; is = suc n })))) e ∙ refl

pub end_twice : (b : Bool) (o : Option Count) → ended b (ended b o) ≡ ended b o
end_twice b None = refl
end_twice true (Some c) = twice true c.is
end_twice false (Some c) = twice false c.was

still : (n : ℕ) → (is_now (while_counted (Some (record { was = n; is = n }))) ≡ n) × (was_then (while_counted (Some (record { was = n; is = n }))) ≡ n)
still zero = (refl, refl)
still (suc n) = let e = suc_not_zero n in (ap (λ b. is_now (cond b None (Some (record { was = suc n; is = suc n })))) e, ap (λ b. was_then (cond b None (Some (record { was = suc n; is = suc n })))) e)

settled_is : (o : Option Count) → (is_now (ended true o) ≡ is_now o) × (was_then (ended true o) ≡ is_now o)
settled_is None = (refl, refl)
settled_is (Some c) = still c.is

restored_is : (o : Option Count) → (is_now (ended false o) ≡ was_then o) × (was_then (ended false o) ≡ was_then o)
restored_is None = (refl, refl)
restored_is (Some c) = still c.was

abbrev Ends : Bool → List ℤ → Entries → Entries → Type 0
Ends b touched es es' = (q : ℤ) → count_at es' q ≡ cond (is_one_of touched q) (ended b (count_at es q)) (count_at es q)

-- the end with the changes: what is, was
pub done : (touched : List ℤ) (es es' : Entries) → OthersStand touched es → Ends true touched es es' → (q : ℤ) → (now_at es' q ≡ now_at es q) × (then_at es' q ≡ now_at es q)
done touched es es' others e q = by (is_one_of touched q) refl (e q)
  where
    by : (b : Bool) → is_one_of touched q ≡ b → count_at es' q ≡ cond b (ended true (count_at es q)) (count_at es q) → (now_at es' q ≡ now_at es q) × (then_at es' q ≡ now_at es q)
    by true h f = let s = settled_is (count_at es q) in (ap is_now f ∙ s.0, ap was_then f ∙ s.1)
    by false h f = (ap is_now f, ap was_then f ∙ sym (others q h))

-- the end without them: what was, is
pub back : (touched : List ℤ) (es es' : Entries) → OthersStand touched es → Ends false touched es es' → (q : ℤ) → (now_at es' q ≡ then_at es q) × (then_at es' q ≡ then_at es q)
back touched es es' others e q = by (is_one_of touched q) refl (e q)
  where
    by : (b : Bool) → is_one_of touched q ≡ b → count_at es' q ≡ cond b (ended false (count_at es q)) (count_at es q) → (now_at es' q ≡ then_at es q) × (then_at es' q ≡ then_at es q)
    by true h f = let s = restored_is (count_at es q) in (ap is_now f ∙ s.0, ap was_then f ∙ s.1)
    by false h f = (ap is_now f ∙ others q h, ap was_then f)

pub noted_last : (touched : List ℤ) (z : ℤ) → is_one_of (touched ++ z ∷ []) z ≡ true
noted_last touched z = any_one_more (λ x. int_eq x z) touched z ∙ or_last (is_one_of touched z) (int_eq z z) (number_itself z)

-- one more is noted
pub noted_more : (touched : List ℤ) (z q : ℤ) → is_one_of touched q ≡ true → is_one_of (touched ++ z ∷ []) q ≡ true
noted_more touched z q h = any_one_more (λ x. int_eq x q) touched z ∙ go (is_one_of touched q) h
  where
    go : (b : Bool) → b ≡ true → (b || (int_eq z q || false)) ≡ true
    go true k = refl
    go false k = absurd cc

abbrev IsFalse : Bool → Type 0
IsFalse false = Unit {0}
IsFalse true = ⊥

-- what isn't noted was not noted before
pub not_before : (touched : List ℤ) (z q : ℤ) → is_one_of (touched ++ z ∷ []) q ≡ false → is_one_of touched q ≡ false
not_before touched z q h = go (is_one_of touched q) refl
  where
    go : (b : Bool) → is_one_of touched q ≡ b → b ≡ false
    go false k = refl
    go true k = absurd (subst (λ x. IsFalse x) (noted_more touched z q k) (subst (λ x. IsFalse x) (sym h) tt))

-- a count is written under a number that is noted
pub stand_written : (touched : List ℤ) (es fs : Entries) (key : ℤ) (is : ℕ) → is_one_of touched key ≡ true → OthersStand touched es
    → ((q : ℤ) → now_at fs q ≡ cond (int_eq key q) is (now_at es q)) → ((q : ℤ) → then_at fs q ≡ then_at es q) → OthersStand touched fs
stand_written touched es fs key is noted others now then q h = now q ∙ go (int_eq key q) refl ∙ sym (then q)
  where
    go : (b : Bool) → int_eq key q ≡ b → cond b is (now_at es q) ≡ then_at es q
    go false k = others q h
    go true k = absurd (subst (λ x. IsFalse x) (subst (λ z. is_one_of touched z ≡ true) (one_number key q k) noted) (subst (λ x. IsFalse x) (sym h) tt))

pub lowered : (b : Bool) (n m o : ℕ) → 0 < n → o ≡ cond b (n - 1) m → (b ≡ true → m ≡ n) → cond b 1 0 + o ≡ m
lowered true n m o h e f = let g = f refl in omega (arith, h, e, g)
lowered false n m o h e f = omega (arith, e)

pub raised : (b : Bool) (n m o : ℕ) → o ≡ cond b (n + 1) m → (b ≡ true → m ≡ n) → o ≡ cond b 1 0 + m
raised true n m o e f = let g = f refl in omega (arith, e, g)
raised false n m o e f = omega (arith, e)

pub at_number : (es : Entries) (z q : ℤ) → int_eq z q ≡ true → now_at es q ≡ now_at es z
at_number es z q h = ap (now_at es) (sym (one_number z q h))
