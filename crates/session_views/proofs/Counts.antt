-- How often formulas of templates are evaluated.
use Rattle.std.proofs.Common.{◌≡◌, ℕ, zero, suc, ◌+◌, ◌*◌, ◌<◌, ◌≤◌, List, [], ◌∷◌, ◌++◌, length, Bool, true, false, Option, Some, None, refl, sym, subst, ap, ◌∙◌, arith}
use Rattle.std.proofs.Math.Nat.{add-mul, mul-le-mul_left}
use Rattle.std.proofs.lemmas.List.Sums.{sum_by-cons}
use Rattle.std.proofs.lemmas.Slice.Eq.{bytes_eq-Decides}
use Rattle.std.specs.List.{count_by, find, slice_get}
use Rattle.std.specs.Prelude.{◌&&◌, ◌||◌, bytes_eq, codes, cond, encode_utf8_all, nat_eq, nat_le, option_map, unwrap_or}
use Rattle.std.proofs.lemmas.List.{length_push}
use Rattle.recalc.proofs.of_app_semantics.CellTypes.{equal}
use Rattle.recalc.specs.Templates.{steps_of}
use Rattle.recalc.specs.app_cells.Leaning.{cell_of_property, is_property}
use Rattle.session_views.specs.Bounds.{control_steps, items_shown, formulas_for, is_called, is_for_items, is_in_gallery, items_steps, shown_steps}
use Rattle.session_views.specs.Looking.{is_it, is_one}
use Rattle.session_views.specs.Views.{is_in, put_if_some}
use Rattle.fx_core.specs.declared.names.ControlName.{ControlName}
use Rattle.fx_core.specs.declared.names.Names.{Names}
use Rattle.fx_core.specs.declared.names.Property.{Property}
use Rattle.view_text.specs.declared.views.Items.{Items}
use Rattle.view_text.specs.declared.views.Shown.{Shown}

-- ---- counts
-- what has more has no smaller count
pub count_less : {X : Type 0} (p q : X → Bool) (xs : List X) → ((x : X) → p x ≡ true → q x ≡ true) → count_by p xs ≤ count_by q xs
count_less p q [] h = omega arith
count_less p q (x ∷ xs) h =
    let one = fewer (p x) (q x) (h x) in
    let rest = count_less p q xs h in
    let fewest : count_by p (x ∷ xs) ≡ cond (p x) 1 0 + count_by p xs = sum_by-cons (λ y. cond (p y) 1 0) x xs in
    let most : count_by q (x ∷ xs) ≡ cond (q x) 1 0 + count_by q xs = sum_by-cons (λ y. cond (q y) 1 0) x xs in
    omega (arith, one, rest, fewest, most)
  where
    fewer : (a b : Bool) → (a ≡ true → b ≡ true) → cond a 1 0 ≤ cond b 1 0
    fewer true true e = omega arith
    fewer true false e = let no : false ≡ true = e refl in absurd cc
    fewer false b e = omega arith

-- three that are apart, within a fourth
count_three : {X : Type 0} (p a b q : X → Bool) (xs : List X) → ((x : X) → cond (p x) 1 0 + (cond (a x) 1 0 + cond (b x) 1 0) ≤ cond (q x) 1 0) → count_by p xs + (count_by a xs + count_by b xs) ≤ count_by q xs
count_three p a b q [] h = omega arith
count_three p a b q (x ∷ xs) h =
    let one = h x in
    let rest = count_three p a b q xs h in
    let first : count_by p (x ∷ xs) ≡ cond (p x) 1 0 + count_by p xs = sum_by-cons (λ y. cond (p y) 1 0) x xs in
    let second : count_by a (x ∷ xs) ≡ cond (a x) 1 0 + count_by a xs = sum_by-cons (λ y. cond (a y) 1 0) x xs in
    let third : count_by b (x ∷ xs) ≡ cond (b x) 1 0 + count_by b xs = sum_by-cons (λ y. cond (b y) 1 0) x xs in
    let most : count_by q (x ∷ xs) ≡ cond (q x) 1 0 + count_by q xs = sum_by-cons (λ y. cond (q y) 1 0) x xs in
    omega (arith, one, rest, first, second, third, most)

-- what is found counts once at least
found_counts : (a : Property → Bool) (ps : List Property) → steps_of (option_map (λ (p : Property). p.cell) (find a ps)) ≤ count_by a ps
found_counts a [] = omega arith
found_counts a (p ∷ ps) =
    let all : count_by a (p ∷ ps) ≡ cond (a p) 1 0 + count_by a ps = sum_by-cons (λ y. cond (a y) 1 0) p ps in
    subst (λ n. steps_of (option_map (λ (q : Property). q.cell) (cond (a p) (Some p) (find a ps))) ≤ n) (sym all) (by (a p) (found_counts a ps))
  where
    by : (b : Bool) → steps_of (option_map (λ (q : Property). q.cell) (find a ps)) ≤ count_by a ps → steps_of (option_map (λ (q : Property). q.cell) (cond b (Some p) (find a ps))) ≤ cond b 1 0 + count_by a ps
    by true rest = omega arith
    by false rest = omega (arith, rest)

-- ---- formulas for an item
-- those of controls before a place
abbrev pub formulas_before : Names → ℕ → ℕ → ℕ
formulas_before n g i = count_by (λ (p : Property). nat_le (suc p.control) i && (is_in_gallery n (is_it g) p && is_for_items p)) n.properties

at_it : (v t : Bool) → (v ≡ true → t ≡ false) → cond v 1 0 + cond t 1 0 ≤ cond (v || t) 1 0
at_it true true h = let no : true ≡ false = h refl in absurd cc
at_it true false h = omega arith
at_it false t h = omega arith

point : (l l' e v t m : Bool) → (e ≡ true → m ≡ true) → (e ≡ true → l ≡ false) → (e ≡ true → l' ≡ true) → (l ≡ true → l' ≡ true) → (v ≡ true → t ≡ false) →
    cond (l && (m && (v || t))) 1 0 + (cond (e && v) 1 0 + cond (e && t) 1 0) ≤ cond (l' && (m && (v || t))) 1 0
point false true true v t true a b c d f = let one = at_it v t f in omega (arith, one)
point false true true v t false a b c d f = let no : false ≡ true = a refl in absurd cc
point false false true v t m a b c d f = let no : false ≡ true = c refl in absurd cc
point true l' true v t m a b c d f = let no : true ≡ false = b refl in absurd cc
point true true false v t m a b c d f = omega arith
point true false false v t m a b c d f = let no : false ≡ true = d refl in absurd cc
point false l' false v t m a b c d f = omega arith

text_apart : (name : List ℕ) → bytes_eq name (codes "Visible") ≡ true → bytes_eq name (codes "Text") ≡ false
text_apart name e = let same : name ≡ codes "Visible" = (bytes_eq-Decides name (codes "Visible")).0 e in subst (λ x. bytes_eq x (codes "Text") ≡ false) (sym same) refl

one_of : (g : ℕ) (o : Option ℕ) → is_one (is_it g) o ≡ is_in g o
one_of g (Some h) = refl
one_of g None = refl

-- a control that stands in the gallery has its formulas among those
more : (n : Names) (g i : ℕ) (c : ControlName) → slice_get n.controls i ≡ Some c → (within : Bool) → is_in g c.gallery ≡ within → formulas_before n g i + control_steps n i within ≤ formulas_before n g (i + 1)
more n g i c there false e =
    let less = count_less (λ (p : Property). nat_le (suc p.control) i && (is_in_gallery n (is_it g) p && is_for_items p)) (λ (p : Property). nat_le (suc p.control) (i + 1) && (is_in_gallery n (is_it g) p && is_for_items p)) n.properties
    (λ p h. wider (nat_le (suc p.control) i) (nat_le (suc p.control) (i + 1)) (is_in_gallery n (is_it g) p && is_for_items p) (λ l. grind (arith, l)) h) in
    omega (arith, less)
  where
    wider : (a b x : Bool) → (a ≡ true → b ≡ true) → (a && x) ≡ true → (b && x) ≡ true
    wider true b x h e = subst (λ y. (y && x) ≡ true) (sym (h refl)) e
    wider false b x h e = absurd cc
more n g i c there true e =
    let visible = found_counts (is_property i (codes "Visible")) n.properties in
    let words = found_counts (is_property i (codes "Text")) n.properties in
    let all = count_three (λ (p : Property). nat_le (suc p.control) i && (is_in_gallery n (is_it g) p && is_for_items p)) (is_property i (codes "Visible")) (is_property i (codes "Text"))
    (λ (p : Property). nat_le (suc p.control) (i + 1) && (is_in_gallery n (is_it g) p && is_for_items p)) n.properties
    (λ p. point (nat_le (suc p.control) i) (nat_le (suc p.control) (i + 1)) (nat_eq p.control i) (bytes_eq (encode_utf8_all p.name) (codes "Visible")) (bytes_eq (encode_utf8_all p.name) (codes "Text")) (is_in_gallery n (is_it g) p)
    (λ q. stands p (equal p.control i q)) (λ q. grind (arith, q)) (λ q. grind (arith, q)) (λ q. grind (arith, q)) (text_apart (encode_utf8_all p.name))) in
    omega (arith, visible, words, all)
  where
    stands : (p : Property) → p.control ≡ i → is_in_gallery n (is_it g) p ≡ true
    stands p q =
        ap (λ (k : ℕ). unwrap_or (option_map (λ (d : ControlName). is_one (is_it g) d.gallery) (slice_get n.controls k)) false) q
        ∙ ap (λ (o : Option ControlName). unwrap_or (option_map (λ (d : ControlName). is_one (is_it g) d.gallery) o) false) there ∙ one_of g c.gallery ∙ e

pub more_formulas : (n : Names) (g i : ℕ) (c : ControlName) → slice_get n.controls i ≡ Some c → formulas_before n g i + control_steps n i (is_in g c.gallery) ≤ formulas_before n g (i + 1)
more_formulas n g i c there = more n g i c there (is_in g c.gallery) refl

pub all_formulas : (n : Names) (g i : ℕ) → formulas_before n g i ≤ formulas_for n (is_it g)
all_formulas n g i =
    count_less (λ (p : Property). nat_le (suc p.control) i && (is_in_gallery n (is_it g) p && is_for_items p)) (λ (p : Property). is_in_gallery n (is_it g) p && is_for_items p) n.properties
    (λ p h. last (nat_le (suc p.control) i) (is_in_gallery n (is_it g) p && is_for_items p) h)
  where
    last : (a x : Bool) → (a && x) ≡ true → x ≡ true
    last true x e = e
    last false x e = absurd cc

-- ---- a gallery by its name
it_of : (g h : ℕ) → is_it g h ≡ true → h ≡ g
it_of g h e = grind (arith, e)

called : (n : Names) (g : ℕ) (c : ControlName) → slice_get n.controls g ≡ Some c → is_called n c.name g ≡ true
called n g c there = ap (λ (o : Option ControlName). unwrap_or (option_map (λ (d : ControlName). bytes_eq d.name c.name) o) false) there ∙ (bytes_eq-Decides c.name c.name).1 refl

-- its formulas are among those of the galleries of its name
pub by_name : (n : Names) (g : ℕ) (c : ControlName) → slice_get n.controls g ≡ Some c → formulas_for n (is_it g) ≤ formulas_for n (is_called n c.name)
by_name n g c there =
    count_less (λ (p : Property). is_in_gallery n (is_it g) p && is_for_items p) (λ (p : Property). is_in_gallery n (is_called n c.name) p && is_for_items p) n.properties
    (λ p h. first (is_in_gallery n (is_it g) p) (is_in_gallery n (is_called n c.name) p) (is_for_items p) (λ e. among (slice_get n.controls p.control) e) h)
  where
    first : (a b x : Bool) → (a ≡ true → b ≡ true) → (a && x) ≡ true → (b && x) ≡ true
    first true b x h e = subst (λ y. (y && x) ≡ true) (sym (h refl)) e
    first false b x h e = absurd cc

    one : (o : Option ℕ) → is_one (is_it g) o ≡ true → is_one (is_called n c.name) o ≡ true
    one (Some h) e = subst (λ k. is_called n c.name k ≡ true) (sym (it_of g h e)) (called n g c there)
    one None e = absurd cc

    among : (o : Option ControlName) → unwrap_or (option_map (λ (d : ControlName). is_one (is_it g) d.gallery) o) false ≡ true → unwrap_or (option_map (λ (d : ControlName). is_one (is_called n c.name) d.gallery) o) false ≡ true
    among (Some d) e = one d.gallery e
    among None e = absurd cc

-- ---- items and what is shown
pub times_less : (m a b : ℕ) → a ≤ b → m * a ≤ m * b
times_less m a b h = mul-le-mul_left m h

-- one item more
pub one_item : (n f before after : ℕ) (first : ℕ) → after ≤ before + f → before ≤ first + n * f → after ≤ first + (n + 1) * f
one_item n f before after first one all = let more : (n + 1) * f ≡ n * f + 1 * f = add-mul n 1 f in omega (arith, one, all, more)

pub at_least : (a b : ℕ) → a ≤ a + b
at_least a b = omega arith

-- and in the list
pub items_more : {A : Type 0} (xs more : List A) (x : A) (f first before after : ℕ) → more ≡ xs ++ x ∷ [] → after ≤ before + f → before ≤ first + length xs * f → after ≤ first + length more * f
items_more {A} xs more x f first before after grown one all =
    let many : length more ≡ length xs + 1 = ap (λ (ys : List A). length ys) grown ∙ length_push xs x in
    subst (λ n. after ≤ first + n * f) (sym many) (one_item (length xs) f before after first one all)

pub shown_both : (n : Names) (xs ys : List Shown) → shown_steps n (xs ++ ys) ≡ shown_steps n xs + shown_steps n ys
shown_both n [] ys = let none : shown_steps n [] ≡ 0 = refl in omega (arith, none)
shown_both n (x ∷ xs) ys =
    let rest = shown_both n xs ys in
    let all : shown_steps n ((x ∷ xs) ++ ys) ≡ items_shown x.items * formulas_for n (is_called n x.name) + shown_steps n (xs ++ ys) = refl in
    let first : shown_steps n (x ∷ xs) ≡ items_shown x.items * formulas_for n (is_called n x.name) + shown_steps n xs = refl in
    omega (arith, rest, all, first)

-- what one control shows more
pub shown_more : (n : Names) (xs more : List Shown) (o : Option Shown) (first before after : ℕ) → more ≡ xs ++ put_if_some o [] → after ≤ before + shown_steps n (put_if_some o []) → before ≤ first + shown_steps n xs → after ≤ first + shown_steps n more
shown_more n xs more o first before after grown one all =
    let both : shown_steps n more ≡ shown_steps n xs + shown_steps n (put_if_some o []) = ap (shown_steps n) grown ∙ shown_both n xs (put_if_some o []) in
    omega (arith, both, one, all)

-- a gallery that is shown, by its name
pub shown_one : (n : Names) (g : ℕ) (c : ControlName) (s : Shown) (o : Option Items) → slice_get n.controls g ≡ Some c → s.name ≡ c.name → s.items ≡ o → items_steps n g o ≤ shown_steps n (s ∷ [])
shown_one n g c s o there name items =
    let less = times_less (items_shown o) (formulas_for n (is_it g)) (formulas_for n (is_called n c.name)) (by_name n g c there) in
    let same : shown_steps n (s ∷ []) ≡ items_shown o * formulas_for n (is_called n c.name) + 0 = ap (λ (m : List ℕ). items_shown s.items * formulas_for n (is_called n m) + 0) name ∙ ap (λ (q : Option Items). items_shown q * formulas_for n (is_called n c.name) + 0) items in
    omega (arith, less, same)
