-- Entries and their marks.
use Rattle.std.proofs.Common.{◌≡◌, ℕ, zero, suc, ◌+◌, ◌<◌, length, take, get_or, ◌++◌, List, [], ◌∷◌, refl, sym, ap, ap₂, ◌∙◌, arith, Bool, true, false, not, cond, ◌&&◌, ◌||◌, Option, None, Some, subst}
use Rattle.std.specs.Cmp.{IsTotalOrder, unsigned_ties}
use Rattle.std.specs.Cmp.Lexicographic.{slice_cmp, nat_list_cmp_total}
use Rattle.std.specs.Map.{lookup}
use Rattle.std.specs.Option.{option_map, is_some}
use Rattle.std.specs.BTreeMap.{is_at}
use Rattle.std.specs.Ordering.{nat_cmp, ordering_then, is_eq}
use Rattle.std.specs.declared.cmp.Ordering.{Ordering}
use Rattle.std.specs.declared.cmp.Ordering.TheVariants.{Less, Equal, Greater}
use Rattle.std.proofs.lemmas.Cmp.{on_total, then_total, nat_cmp_total, tied_itself}
use Rattle.std.proofs.lemmas.Map.Lookups.{CmpEqualImpliesEq, exact_pairs, exact_bytes, exact_unsigned}
use Rattle.std.proofs.lemmas.Map.Text.{is_eq-slice_cmp}
use Rattle.row_keeper.specs.declared.index.Mark.{Mark}
use Rattle.row_keeper.specs.Entries.{IndexEntry, Entries, OtherEntriesStand, mark_at_end, entry_ended, entry_cmp, is_entry, is_no_entry, is_entry_among, is_now, mark_at, was_then, now_in, then_in, while_entry}
use Rattle.row_keeper.proofs.EndLemmas.{any_more, any_one_more, or_last}

abbrev pub key_cmp : ℕ × List ℕ → ℕ × List ℕ → Ordering
key_cmp a b = ordering_then (nat_cmp a.0 b.0) (slice_cmp nat_cmp a.1 b.1)

pub key_total : IsTotalOrder key_cmp
key_total = then_total (on_total (λ (p : ℕ × List ℕ). p.0) nat_cmp_total) (on_total (λ (p : ℕ × List ℕ). p.1) nat_list_cmp_total)

pub entry_total : IsTotalOrder entry_cmp
entry_total = then_total (on_total (λ (p : IndexEntry). p.0) key_total) (on_total (λ (p : IndexEntry). p.1) nat_cmp_total)

pub entry_exact : CmpEqualImpliesEq entry_cmp
entry_exact = exact_pairs key_cmp nat_cmp (exact_pairs nat_cmp (slice_cmp nat_cmp) exact_unsigned exact_bytes) exact_unsigned

both_equal : (o p : Ordering) → is_eq (ordering_then o p) ≡ (is_eq o && is_eq p)
both_equal Less p = refl
both_equal Equal p = refl
both_equal Greater p = refl

-- two entries are at one place exactly where they are the same
pub is_entry_is : (e q : IndexEntry) → is_at (entry_cmp e) q ≡ is_entry e q
is_entry_is e q = both_equal (key_cmp e.0 q.0) (nat_cmp e.1 q.1)
    ∙ ap₂ (λ x y. x && y) (both_equal (nat_cmp e.0.0 q.0.0) (slice_cmp nat_cmp e.0.1 q.0.1) ∙ ap₂ (λ x y. x && y) (sym (unsigned_ties e.0.0 q.0.0)) (is_eq-slice_cmp e.0.1 q.0.1)) (sym (unsigned_ties e.1 q.1))

equal_from : (o : Ordering) → is_eq o ≡ true → o ≡ Equal
equal_from Less h = absurd cc
equal_from Equal h = refl
equal_from Greater h = absurd cc

pub same_entry : (a b : IndexEntry) → is_at (entry_cmp a) b ≡ true → a ≡ b
same_entry a b h = entry_exact a b (equal_from (entry_cmp a b) h)

-- an entry for no row, where there was none
pub room_made : (f : Option Mark → Bool) (w : Mark) → f None ≡ false → f (Some w) ≡ false → (es fs : Entries) (key : IndexEntry) → lookup (is_at (entry_cmp key)) es ≡ None
    → (q : IndexEntry) → lookup (is_at (entry_cmp q)) fs ≡ cond (is_at (entry_cmp key) q) (Some w) (lookup (is_at (entry_cmp q)) es)
    → f (lookup (is_at (entry_cmp q)) fs) ≡ f (lookup (is_at (entry_cmp q)) es)
room_made f w none some es fs key absent q e = ap f e ∙ go (is_at (entry_cmp key) q) refl
  where
    go : (t : Bool) → is_at (entry_cmp key) q ≡ t → f (cond t (Some w) (lookup (is_at (entry_cmp q)) es)) ≡ f (lookup (is_at (entry_cmp q)) es)
    go false h = refl
    go true h = some ∙ sym (ap f (subst (λ p. lookup (is_at (entry_cmp p)) es ≡ None) (same_entry key q h) absent) ∙ none)

-- a mark is written
pub marked_now : (es fs : Entries) (key : IndexEntry) (old : Mark) (is : Bool) (q : IndexEntry)
    → lookup (is_at (entry_cmp q)) fs ≡ cond (is_at (entry_cmp key) q) (Some (record { was = old.was; is = is })) (lookup (is_at (entry_cmp q)) es)
    → now_in fs q ≡ cond (is_entry key q) is (now_in es q)
marked_now es fs key old is q e = ap is_now e ∙ go (is_at (entry_cmp key) q) ∙ ap (λ t. cond t is (now_in es q)) (is_entry_is key q)
  where
    go : (t : Bool) → is_now (cond t (Some (record { was = old.was; is = is })) (lookup (is_at (entry_cmp q)) es)) ≡ cond t is (now_in es q)
    go true = refl
    go false = refl

pub marked_then : (es fs : Entries) (key : IndexEntry) (old : Mark) (is : Bool) → lookup (is_at (entry_cmp key)) es ≡ Some old → (q : IndexEntry)
    → lookup (is_at (entry_cmp q)) fs ≡ cond (is_at (entry_cmp key) q) (Some (record { was = old.was; is = is })) (lookup (is_at (entry_cmp q)) es)
    → then_in fs q ≡ then_in es q
marked_then es fs key old is there q e = ap was_then e ∙ go (is_at (entry_cmp key) q) refl
  where
    go : (t : Bool) → is_at (entry_cmp key) q ≡ t → was_then (cond t (Some (record { was = old.was; is = is })) (lookup (is_at (entry_cmp q)) es)) ≡ was_then (lookup (is_at (entry_cmp q)) es)
    go false h = refl
    go true h = sym (ap was_then (subst (λ p. lookup (is_at (entry_cmp p)) es ≡ Some old) (same_entry key q h) there))

-- an entry is the same as itself
pub entry_itself : (e : IndexEntry) → is_entry e e ≡ true
entry_itself e = sym (is_entry_is e e) ∙ ap is_eq (equal_itself e)
  where
    equal_itself : (e : IndexEntry) → entry_cmp e e ≡ Equal
    equal_itself e = tied_itself entry_total e

-- ---- the end of a transaction
pub void_out : (o : Option Mark) → is_no_entry o ≡ true → None ≡ while_entry o
void_out None h = refl
void_out (Some m) h = go m.was h
  where
    go : (w : Bool) → not w ≡ true → None ≡ cond w (Some m) None
    go false k = refl
    go true k = absurd cc

pub mark_stays : (o : Option Mark) → is_no_entry o ≡ false → o ≡ while_entry o
mark_stays None h = refl
mark_stays (Some m) h = go m.was h
  where
    go : (w : Bool) → not w ≡ false → Some m ≡ cond w (Some m) None
    go false k = absurd cc
    go true k = refl

pub two_steps : (b : Bool) (o : Option Mark) → while_entry (option_map (mark_at_end b) o) ≡ entry_ended b o
two_steps b None = refl
two_steps b (Some m) = refl

-- a second end changes nothing
twice : (b t : Bool) → entry_ended b (while_entry (Some (record { was = t; is = t }))) ≡ while_entry (Some (record { was = t; is = t }))
twice true true = refl
twice false true = refl
twice true false = refl
twice false false = refl

pub end_twice : (b : Bool) (o : Option Mark) → entry_ended b (entry_ended b o) ≡ entry_ended b o
end_twice b None = refl
end_twice true (Some m) = twice true m.is
end_twice false (Some m) = twice false m.was

still : (t : Bool) → (is_now (while_entry (Some (record { was = t; is = t }))) ≡ t) × (was_then (while_entry (Some (record { was = t; is = t }))) ≡ t)
still true = (refl, refl)
still false = (refl, refl)

settled_is : (o : Option Mark) → (is_now (entry_ended true o) ≡ is_now o) × (was_then (entry_ended true o) ≡ is_now o)
settled_is None = (refl, refl)
settled_is (Some m) = still m.is

restored_is : (o : Option Mark) → (is_now (entry_ended false o) ≡ was_then o) × (was_then (entry_ended false o) ≡ was_then o)
restored_is None = (refl, refl)
restored_is (Some m) = still m.was

abbrev Ends : Bool → List IndexEntry → Entries → Entries → Type 0
Ends b touched es es' = (q : IndexEntry) → mark_at es' q ≡ cond (is_entry_among touched q) (entry_ended b (mark_at es q)) (mark_at es q)

-- the end with the changes: what is, was
pub done : (touched : List IndexEntry) (es es' : Entries) → OtherEntriesStand touched es → Ends true touched es es' → (q : IndexEntry) → (now_in es' q ≡ now_in es q) × (then_in es' q ≡ now_in es q)
done touched es es' others e q = by (is_entry_among touched q) refl (e q)
  where
    by : (b : Bool) → is_entry_among touched q ≡ b → mark_at es' q ≡ cond b (entry_ended true (mark_at es q)) (mark_at es q) → (now_in es' q ≡ now_in es q) × (then_in es' q ≡ now_in es q)
    by true h f = let s = settled_is (mark_at es q) in (ap is_now f ∙ s.0, ap was_then f ∙ s.1)
    by false h f = (ap is_now f, ap was_then f ∙ sym (others q h))

-- the end without them: what was, is
pub back : (touched : List IndexEntry) (es es' : Entries) → OtherEntriesStand touched es → Ends false touched es es' → (q : IndexEntry) → (now_in es' q ≡ then_in es q) × (then_in es' q ≡ then_in es q)
back touched es es' others e q = by (is_entry_among touched q) refl (e q)
  where
    by : (b : Bool) → is_entry_among touched q ≡ b → mark_at es' q ≡ cond b (entry_ended false (mark_at es q)) (mark_at es q) → (now_in es' q ≡ then_in es q) × (then_in es' q ≡ then_in es q)
    by true h f = let s = restored_is (mark_at es q) in (ap is_now f ∙ s.0, ap was_then f ∙ s.1)
    by false h f = (ap is_now f ∙ others q h, ap was_then f)

pub noted_last : (touched : List IndexEntry) (e : IndexEntry) → is_entry_among (touched ++ e ∷ []) e ≡ true
noted_last touched e = any_one_more (λ x. is_entry x e) touched e ∙ or_last (is_entry_among touched e) (is_entry e e) (entry_itself e)

pub one_entry : (e q : IndexEntry) → is_entry e q ≡ true → e ≡ q
one_entry e q h = same_entry e q (is_entry_is e q ∙ h)

-- one is marked that is noted
pub stand_marked : (touched : List IndexEntry) (es es' : Entries) (key : IndexEntry) (is : Bool) → is_entry_among touched key ≡ true → OtherEntriesStand touched es
    → ((q : IndexEntry) → now_in es' q ≡ cond (is_entry key q) is (now_in es q)) → ((q : IndexEntry) → then_in es' q ≡ then_in es q) → OtherEntriesStand touched es'
stand_marked touched es es' key is noted others now then q h = now q ∙ go (is_entry key q) refl ∙ sym (then q)
  where
    go : (b : Bool) → is_entry key q ≡ b → cond b is (now_in es q) ≡ then_in es q
    go false f = others q h
    go true f = absurd (let g : is_entry_among touched q ≡ true = subst (λ p. is_entry_among touched p ≡ true) (same_entry key q (is_entry_is key q ∙ f)) noted in cc)

pub some_stays : {X : Type 0} (b : Bool) (w : X) (o p : Option X) → p ≡ cond b (Some w) o → is_some o ≡ true → is_some p ≡ true
some_stays true w o p e h = ap is_some e
some_stays false w o p e h = ap is_some e ∙ h

pub none_there : {X : Type 0} (o : Option X) → false ≡ is_some o → o ≡ None
none_there None h = refl
none_there (Some x) h = absurd cc

pub in_front : (e : IndexEntry) (es : List IndexEntry) → is_entry_among (e ∷ es) e ≡ true
in_front e es = ap (λ b. b || is_entry_among es e) (entry_itself e)

pub further : (e q : IndexEntry) (es : List IndexEntry) → is_entry_among es q ≡ true → is_entry_among (e ∷ es) q ≡ true
further e q es h = rest (is_entry e q) (is_entry_among es q) h
  where
    rest : (b c : Bool) → c ≡ true → (b || c) ≡ true
    rest true c f = refl
    rest false c f = f

-- an element of a list is one of it
pub at_place : (es : List IndexEntry) (i : ℕ) (e : IndexEntry) → i < length es → e ≡ get_or es i e → is_entry_among es e ≡ true
at_place [] i e l h = absurd (omega (arith, l))
at_place (x ∷ es) zero e l h = ap (λ y. is_entry y e || is_entry_among es e) (sym h) ∙ in_front e es
at_place (x ∷ es) (suc i) e l h = further x e es (at_place es i e (omega (arith, l)) h)

-- what holds of the first elements, and of the next one, holds of one element more
pub one_more : (es : List IndexEntry) (i : ℕ) (e : IndexEntry) (P : IndexEntry → Type 0) → i < length es → e ≡ get_or es i e → ((q : IndexEntry) → is_entry_among (take i es) q ≡ true → P q) → P e
    → (q : IndexEntry) → is_entry_among (take (i + 1) es) q ≡ true → P q
one_more es i e P l is before here q h = by (is_entry_among (take i es) q) refl (is_entry e q) refl (sym (any_more (λ x. is_entry x q) es i e e l is) ∙ h)
  where
    by : (a : Bool) → is_entry_among (take i es) q ≡ a → (b : Bool) → is_entry e q ≡ b → (a || (b || false)) ≡ true → P q
    by true x b y z = before q x
    by false x true y z = subst P (same_entry e q (is_entry_is e q ∙ y)) here
    by false x false y z = absurd cc
