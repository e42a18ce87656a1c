-- Whether ranges hold every key, as they are gone through in order.
use Rattle.std.proofs.Common.{◌≡◌, ℕ, ◌+◌, ◌<◌, add-one, ap₂, drop, drop-cons, get_or, length, List, [], ◌∷◌, Bool, true, false, not, ◌&&◌, ◌||◌, cond, Option, Some, None, refl, sym, ap, subst, ◌∙◌}
use Rattle.std.specs.Prelude.{option_map}
use Rattle.std.specs.Ordering.{is_le}
use Rattle.std.proofs.lemmas.Cmp.{nat_list_cmp_total}
use Rattle.fx_value.proofs.ByteOrder.{R, le_trans, lt_is, not_le}
use Rattle.row_queries.specs.Ranges.{AreRangesRising, EndsBefore, EndsBeforeAll, in_range, in_ranges, is_before_end}
use Rattle.row_queries.specs.declared.ranges.KeyRange.{KeyRange}
use Rattle.row_counts.specs.Whole.{HoldAllKeys, later_key, next_held}

abbrev le : List ℕ → List ℕ → Bool
le a b = is_le (R a b)

trans : (a b c : List ℕ) → le a b ≡ true → le b c ≡ true → le a c ≡ true
trans = le_trans R nat_list_cmp_total

itself : (a : List ℕ) → le a a ≡ true
itself a = go (le a a) refl
  where
    go : (b : Bool) → le a a ≡ b → le a a ≡ true
    go true e = e
    go false e = not_le R nat_list_cmp_total a a e

first : (key : List ℕ) → le [] key ≡ true
first [] = refl
first (k ∷ ks) = refl

-- a key is before an end exactly where the end isn't at most the key
before : (u key : List ℕ) (b : Bool) → le u key ≡ b → is_before_end (Some u) key ≡ not b
before u key b e = lt_is R nat_list_cmp_total key u ∙ ap not e

-- the later of two
abbrev later : List ℕ → List ℕ → List ℕ
later = later_key

later_both : (a b key : List ℕ) → le (later a b) key ≡ true → (le a key ≡ true) × (le b key ≡ true)
later_both a b key h = go (le a b) refl h
  where
    go : (t : Bool) → le a b ≡ t → le (cond t b a) key ≡ true → (le a key ≡ true) × (le b key ≡ true)
    go true e k = (trans a b key e k, k)
    go false e k = (k, trans b a key (not_le R nat_list_cmp_total a b e) k)

both_later : (a b key : List ℕ) → le a key ≡ true → le b key ≡ true → le (later a b) key ≡ true
both_later a b key h k = go (le a b)
  where
    go : (t : Bool) → le (cond t b a) key ≡ true
    go true = k
    go false = h

-- every key from one on lies in one of the ranges
abbrev pub HoldFrom : List ℕ → List KeyRange → Type 0
HoldFrom held rs = (key : List ℕ) → le held key ≡ true → in_ranges rs key ≡ true

pub from_first : (rs : List KeyRange) → HoldAllKeys rs → HoldFrom [] rs
from_first rs h key l = h key

pub to_first : (rs : List KeyRange) → HoldFrom [] rs → HoldAllKeys rs
to_first rs h key = h key (first key)

pub none_left : (held : List ℕ) → HoldFrom held [] → ⊥
none_left held h = let e = h held (itself held) in cc

or_right : (a b : Bool) → b ≡ true → (a || b) ≡ true
or_right true b e = refl
or_right false b e = e

or_left : (a b : Bool) → a ≡ true → (a || b) ≡ true
or_left true b e = refl
or_left false b e = absurd cc

right_of : (a b : Bool) → a ≡ false → (a || b) ≡ true → b ≡ true
right_of true b e h = absurd cc
right_of false b e h = h

and_false : (a b : Bool) → b ≡ false → (a && b) ≡ false
and_false true b e = e
and_false false b e = refl

both : (a b : Bool) → a ≡ true → b ≡ true → (a && b) ≡ true
both true b e h = h
both false b e h = absurd cc

first_of : (a b : Bool) → (a && b) ≡ true → a ≡ true
first_of true b h = refl
first_of false b h = absurd cc

-- a range without an end holds all the rest
pub held_endless : (held : List ℕ) (r : KeyRange) (rs : List KeyRange) → le r.from held ≡ true → r.upto ≡ None → HoldFrom held (r ∷ rs)
held_endless held r rs l e key h = or_left (in_range key r) (in_ranges rs key) (both (le r.from key) (is_before_end r.upto key) (trans r.from held key l h) (ap (λ o. is_before_end o key) e))

-- a range that begins among the keys that are held holds them up to its end
pub held_more : (held u : List ℕ) (r : KeyRange) (rs : List KeyRange) → r.upto ≡ Some u → HoldFrom held (r ∷ rs) → HoldFrom (later held u) rs
held_more held u r rs e h key l =
    let k = later_both held u key l in
    right_of (in_range key r) (in_ranges rs key) (and_false (le r.from key) (is_before_end r.upto key) (ap (λ o. is_before_end o key) e ∙ before u key true k.1)) (h key k.0)

pub held_back : (held u : List ℕ) (r : KeyRange) (rs : List KeyRange) → le r.from held ≡ true → r.upto ≡ Some u → HoldFrom (later held u) rs → HoldFrom held (r ∷ rs)
held_back held u r rs l e h key k = go (le u key) refl
  where
    go : (b : Bool) → le u key ≡ b → in_ranges (r ∷ rs) key ≡ true
    go true f = or_right (in_range key r) (in_ranges rs key) (h key (both_later held u key k f))
    go false f = or_left (in_range key r) (in_ranges rs key) (both (le r.from key) (is_before_end r.upto key) (trans r.from held key l k) (ap (λ o. is_before_end o key) e ∙ before u key false f))

-- a range that begins behind them is passed over: where a later one goes on, it holds no key
pub passed_back : (held : List ℕ) (r : KeyRange) (rs : List KeyRange) → HoldFrom held rs → HoldFrom held (r ∷ rs)
passed_back held r rs h key k = or_right (in_range key r) (in_ranges rs key) (h key k)

ends_by : (upto : Option (List ℕ)) (held : List ℕ) (rs : List KeyRange) → EndsBeforeAll upto rs → in_ranges rs held ≡ true → (u : List ℕ) × (upto ≡ Some u) × (le u held ≡ true)
ends_by upto held [] h e = absurd cc
ends_by upto held (r ∷ rs) h e = go (in_range held r) refl e (λ k. ends_by upto held rs h.1 k)
  where
    here : (o : Option (List ℕ)) → EndsBefore o r → le r.from held ≡ true → (u : List ℕ) × (o ≡ Some u) × (le u held ≡ true)
    here None b l = absurd b
    here (Some u) b l = (u, refl, trans u r.from held b l)

    go : (b : Bool) → in_range held r ≡ b → (b || in_ranges rs held) ≡ true → (in_ranges rs held ≡ true → (u : List ℕ) × (upto ≡ Some u) × (le u held ≡ true)) → (u : List ℕ) × (upto ≡ Some u) × (le u held ≡ true)
    go true f k before = here upto h.0 (first_of (le r.from held) (is_before_end r.upto held) f)
    go false f k before = before k

pub passed : (held : List ℕ) (r : KeyRange) (rs : List KeyRange) → le r.from held ≡ false → AreRangesRising (r ∷ rs) → HoldFrom held (r ∷ rs) → HoldFrom held rs
passed held r rs l rising h key k = right_of (in_range key r) (in_ranges rs key) (holds_none (le r.from key) refl) (h key k)
  where
    left_false : (a b : Bool) → a ≡ false → (a && b) ≡ false
    left_false true b e = absurd cc
    left_false false b e = refl

    ends : (u : List ℕ) × (r.upto ≡ Some u) × (le u held ≡ true)
    ends = ends_by r.upto held rs rising.0 (right_of (in_range held r) (in_ranges rs held) (left_false (le r.from held) (is_before_end r.upto held) l) (h held (itself held)))

    holds_none : (b : Bool) → le r.from key ≡ b → in_range key r ≡ false
    holds_none false e = left_false (le r.from key) (is_before_end r.upto key) e
    holds_none true e =
        let at : le ends.0 key ≡ true = trans ends.0 held key ends.2 (trans held r.from key (not_le R nat_list_cmp_total r.from held l) e) in
        and_false (le r.from key) (is_before_end r.upto key) (ap (λ o. is_before_end o key) ends.1 ∙ before ends.0 key true at)

-- ---- the next of the ranges
pub next_range : (rs : List KeyRange) (i : ℕ) (r : KeyRange) → i < length rs → r ≡ get_or rs i r → drop i rs ≡ r ∷ drop (i + 1) rs
next_range rs i r l is = drop-cons rs i r l ∙ ap₂ (λ x (xs : List KeyRange). x ∷ xs) (sym is) (ap (λ n. drop n rs) (sym (add-one i)))

pub none_next : (held : List ℕ) (r : KeyRange) (rs : List KeyRange) → next_held held r ≡ None → HoldFrom held (r ∷ rs)
none_next held r rs e = go (le r.from held) refl e
  where
    endless : (o : Option (List ℕ)) → r.upto ≡ o → option_map (later held) o ≡ None → r.upto ≡ None
    endless None f g = f
    endless (Some u) f g = absurd cc

    go : (b : Bool) → le r.from held ≡ b → cond b (option_map (later held) r.upto) (Some held) ≡ None → HoldFrom held (r ∷ rs)
    go true l g = held_endless held r rs l (endless r.upto refl g)
    go false l g = absurd cc

module _ (held h : List ℕ) (r : KeyRange) (rs : List KeyRange) (e : next_held held r ≡ Some h) where
  ends : le r.from held ≡ true → (u : List ℕ) × (r.upto ≡ Some u) × (later held u ≡ h)
  ends l = end r.upto refl (sym (ap (λ b. cond b (option_map (later held) r.upto) (Some held)) l) ∙ e)
    where
      end : (o : Option (List ℕ)) → r.upto ≡ o → option_map (later held) o ≡ Some h → (u : List ℕ) × (r.upto ≡ Some u) × (later held u ≡ h)
      end None f g = absurd cc
      end (Some u) f g = (u, f, one (later held u) h g)
        where
          one : (a b : List ℕ) → Some a ≡ Some b → a ≡ b
          one a b g = cc

  stays : le r.from held ≡ false → held ≡ h
  stays l = one held h (sym (ap (λ b. cond b (option_map (later held) r.upto) (Some held)) l) ∙ e)
    where
      one : (a b : List ℕ) → Some a ≡ Some b → a ≡ b
      one a b g = cc

  pub next_there : AreRangesRising (r ∷ rs) → HoldFrom held (r ∷ rs) → HoldFrom h rs
  next_there rising k = go (le r.from held) refl
    where
      go : (b : Bool) → le r.from held ≡ b → HoldFrom h rs
      go true l = let u = ends l in subst (λ x. HoldFrom x rs) u.2 (held_more held u.0 r rs u.1 k)
      go false l = subst (λ x. HoldFrom x rs) (stays l) (passed held r rs l rising k)

  pub next_back : HoldFrom h rs → HoldFrom held (r ∷ rs)
  next_back k = go (le r.from held) refl
    where
      go : (b : Bool) → le r.from held ≡ b → HoldFrom held (r ∷ rs)
      go true l = let u = ends l in held_back held u.0 r rs l u.1 (subst (λ x. HoldFrom x rs) (sym u.2) k)
      go false l = passed_back held r rs (subst (λ x. HoldFrom x rs) (sym (stays l)) k)
