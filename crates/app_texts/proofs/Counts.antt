-- A gallery has one place for the formula of its items.
use Rattle.std.proofs.Common.{◌≡◌, ℕ, zero, suc, ◌+◌, ◌<◌, ◌≤◌, Bool, true, false, ◌&&◌, List, [], ◌∷◌, ◌++◌, Option, Some, None, IfSome, bytes_eq, codes, cond, map, nat_eq, refl, ap, sym, ◌∙◌, subst, arith, rules}
use Rattle.std.specs.Prelude.{filter_map, flat_map, slice_get}
use Rattle.std.specs.List.{cons_option}
use Rattle.std.specs.Str.{IsAscii}
use Rattle.std.proofs.lemmas.Bool.{and_parts, eq-eqb, eqb-true}
use Rattle.std.proofs.lemmas.Slice.Eq.{bytes_eq-Decides}
use Rattle.std.proofs.lemmas.Str.{chars-IsAscii}
use Rattle.fx_types.specs.Words.{scalars_of}
use Rattle.fx_types.specs.declared.controls.Control.{Control}
use Rattle.fx_types.specs.declared.controls.Control.TheVariants as control
use Rattle.fx_core.specs.declared.names.ControlName.{ControlName}
use Rattle.app_file.specs.FormOfApp.{property_names}
use Rattle.app_cells.specs.declared.app.App.{App}
use Rattle.app_cells.specs.declared.app.CellInfo.{CellInfo}
use Rattle.app_cells.specs.declared.cell.Cell.{Cell}
use Rattle.app_cells.specs.declared.cell.Spot.{Spot}
use Rattle.app_cells.specs.declared.cell.Spot.TheVariants as spot
use Rattle.app_cells.specs.declared.frame.Frame.{Frame}
use Rattle.app_texts.specs.Edits.{edited_cell, with_cell, written_at}
use Rattle.app_texts.specs.Frames.{app_frame, written_texts}
use Rattle.app_texts.specs.Places.{control_spots, is_same_spot, named_spot, property_spots, screen_spots, spots, spots_in}
use Rattle.app_texts.proofs.FramePlaces.{as_property}

-- ---- how many things pass a test
abbrev one : Bool → ℕ
one true = 1
one false = 0

abbrev count : {A : Type 0} → (A → Bool) → List A → ℕ
count p [] = 0
count p (x ∷ xs) = one (p x) + count p xs

count-append : {A : Type 0} (p : A → Bool) (xs ys : List A) → count p (xs ++ ys) ≡ count p xs + count p ys
count-append p [] ys = omega arith
count-append p (x ∷ xs) ys = let e = count-append p xs ys in omega (arith, e)

some_there : {A : Type 0} (q : A → Bool) (xs : List A) (j : ℕ) (y : A) → slice_get xs j ≡ Some y → q y ≡ true → 1 ≤ count q xs
some_there q [] j y e t = absurd cc
some_there q (x ∷ xs) zero y e t = let same : x ≡ y = cc in let here : one (q x) ≡ 1 = ap (λ z. one (q z)) same ∙ ap one t in omega (arith, here)
some_there q (x ∷ xs) (suc j) y e t = let rest = some_there q xs j y e t in omega (arith, rest)

-- where one passes at most, two that pass stand at one place
pub one_place : {A : Type 0} (q : A → Bool) (xs : List A) (i j : ℕ) (x y : A) → count q xs ≤ 1 → slice_get xs i ≡ Some x → slice_get xs j ≡ Some y → q x ≡ true → q y ≡ true → i ≡ j
one_place q [] i j x y l e f t u = absurd cc
one_place q (z ∷ xs) zero zero x y l e f t u = refl
one_place q (z ∷ xs) zero (suc j) x y l e f t u =
    let same : z ≡ x = cc in
    let here : one (q z) ≡ 1 = ap (λ w. one (q w)) same ∙ ap one t in
    let there = some_there q xs j y f u in
    absurd (omega (arith, here, there, l))
one_place q (z ∷ xs) (suc i) zero x y l e f t u =
    let same : z ≡ y = cc in
    let here : one (q z) ≡ 1 = ap (λ w. one (q w)) same ∙ ap one u in
    let there = some_there q xs i x e t in
    absurd (omega (arith, here, there, l))
one_place q (z ∷ xs) (suc i) (suc j) x y l e f t u = ap suc (one_place q xs i j x y (omega (arith, l)) e f t u)

-- ---- the place of a gallery's items
abbrev items_name : List ℕ
items_name = codes "Items"

abbrev pub is_items_of : ℕ → Spot → Bool
is_items_of k (spot.Property j p) = nat_eq j k && bytes_eq p items_name
is_items_of k s = false

abbrev is_items : List ℕ → Bool
is_items p = bytes_eq p items_name

abbrev AreAscii : List (List ℕ) → Type 0
AreAscii [] = Unit {0}
AreAscii (x ∷ xs) = IsAscii x × AreAscii xs

ascii_names : (c : Control) → AreAscii (property_names c)
ascii_names control.Label = (search rules, (search rules, (search rules, tt)))
ascii_names control.Button = (search rules, (search rules, (search rules, tt)))
ascii_names control.TextInput = (search rules, (search rules, (search rules, tt)))
ascii_names control.Slider = (search rules, (search rules, (search rules, (search rules, (search rules, tt)))))
ascii_names control.Checkbox = (search rules, (search rules, (search rules, (search rules, (search rules, tt)))))
ascii_names control.DatePicker = (search rules, (search rules, (search rules, tt)))
ascii_names control.Gallery = (search rules, (search rules, (search rules, tt)))

one_name : (c : Control) → count is_items (property_names c) ≤ 1
one_name control.Label = let e : count is_items (property_names control.Label) ≡ 0 = refl in omega (arith, e)
one_name control.Button = let e : count is_items (property_names control.Button) ≡ 0 = refl in omega (arith, e)
one_name control.TextInput = let e : count is_items (property_names control.TextInput) ≡ 0 = refl in omega (arith, e)
one_name control.Slider = let e : count is_items (property_names control.Slider) ≡ 0 = refl in omega (arith, e)
one_name control.Checkbox = let e : count is_items (property_names control.Checkbox) ≡ 0 = refl in omega (arith, e)
one_name control.DatePicker = let e : count is_items (property_names control.DatePicker) ≡ 0 = refl in omega (arith, e)
one_name control.Gallery = let e : count is_items (property_names control.Gallery) ≡ 1 = refl in omega (arith, e)

-- the properties of another control, and of this one
of_other : (k number : ℕ) (xs : List (List ℕ)) → nat_eq number k ≡ false → count (is_items_of k) (map (as_property number) xs) ≡ 0
of_other k number [] e = refl
of_other k number (x ∷ xs) e =
    let here : one (nat_eq number k && is_items (scalars_of x)) ≡ 0 = ap (λ b. one (b && is_items (scalars_of x))) e in
    let rest = of_other k number xs e in
    omega (arith, here, rest)

of_this : (k number : ℕ) (xs : List (List ℕ)) → nat_eq number k ≡ true → AreAscii xs → count (is_items_of k) (map (as_property number) xs) ≡ count is_items xs
of_this k number [] e h = refl
of_this k number (x ∷ xs) e h =
    let here : one (nat_eq number k && is_items (scalars_of x)) ≡ one (is_items x) = ap (λ b. one (b && is_items (scalars_of x))) e ∙ ap (λ y. one (is_items y)) (chars-IsAscii x h.0) in
    let rest = of_this k number xs e h.1 in
    omega (arith, here, rest)

of_control : (k number : ℕ) (c : Control) → count (is_items_of k) (property_spots number c) ≤ one (nat_eq number k)
of_control k number c = by (nat_eq number k) refl
  where
    by : (b : Bool) → nat_eq number k ≡ b → count (is_items_of k) (property_spots number c) ≤ one b
    by true e = let all = of_this k number (property_names c) e (ascii_names c) in let few = one_name c in omega (arith, all, few)
    by false e = let all = of_other k number (property_names c) e in omega (arith, all)

-- ---- over all screens
abbrev placed_on : ℕ → ℕ → ControlName → List Spot
placed_on screen number c = cond (nat_eq c.screen screen) (property_spots number c.kind) []

abbrev of_one : ℕ → ℕ → ℕ → ControlName → List (List ℕ) → ℕ
of_one k screen number c [] = 0
of_one k screen number c (x ∷ xs) = count (is_items_of k) (placed_on screen number c) + of_one k (suc screen) number c xs

abbrev of_all : ℕ → ℕ → ℕ → List ControlName → List (List ℕ) → ℕ
of_all k screen number cs [] = 0
of_all k screen number cs (x ∷ xs) = count (is_items_of k) (control_spots screen number cs) + of_all k (suc screen) number cs xs

not_equal : (a b : ℕ) → a < b → nat_eq a b ≡ false
not_equal a b l = by (nat_eq a b) refl
  where
    by : (t : Bool) → nat_eq a b ≡ t → t ≡ false
    by true e = let same = eqb-true a b e in absurd (omega (arith, same, l))
    by false e = refl

not_on : (k screen number : ℕ) (c : ControlName) → nat_eq c.screen screen ≡ false → count (is_items_of k) (placed_on screen number c) ≡ 0
not_on k screen number c e = ap (λ b. count (is_items_of k) (cond b (property_spots number c.kind) [])) e

is_on : (k screen number : ℕ) (c : ControlName) → nat_eq c.screen screen ≡ true → count (is_items_of k) (placed_on screen number c) ≡ count (is_items_of k) (property_spots number c.kind)
is_on k screen number c e = ap (λ b. count (is_items_of k) (cond b (property_spots number c.kind) [])) e

past_screen : (k screen number : ℕ) (c : ControlName) (xs : List (List ℕ)) → c.screen < screen → of_one k screen number c xs ≡ 0
past_screen k screen number c [] l = refl
past_screen k screen number c (x ∷ xs) l =
    let here = not_on k screen number c (not_equal c.screen screen l) in
    let rest = past_screen k (suc screen) number c xs (omega (arith, l)) in
    omega (arith, here, rest)

one_screen : (k screen number : ℕ) (c : ControlName) (xs : List (List ℕ)) → of_one k screen number c xs ≤ one (nat_eq number k)
one_screen k screen number c [] = omega arith
one_screen k screen number c (x ∷ xs) = by (nat_eq c.screen screen) refl (one_screen k (suc screen) number c xs)
  where
    by : (b : Bool) → nat_eq c.screen screen ≡ b → of_one k (suc screen) number c xs ≤ one (nat_eq number k) → of_one k screen number c (x ∷ xs) ≤ one (nat_eq number k)
    by true e later =
        let same = eqb-true c.screen screen e in
        let here = is_on k screen number c e in
        let few = of_control k number c.kind in
        let rest = past_screen k (suc screen) number c xs (omega (arith, same)) in
        omega (arith, here, few, rest)
    by false e later =
        let here = not_on k screen number c e in
        omega (arith, here, later)

no_controls : (k screen number : ℕ) (xs : List (List ℕ)) → of_all k screen number [] xs ≡ 0
no_controls k screen number [] = refl
no_controls k screen number (x ∷ xs) = let rest = no_controls k (suc screen) number xs in omega (arith, rest)

by_control : (k screen number : ℕ) (c : ControlName) (cs : List ControlName) (xs : List (List ℕ)) → of_all k screen number (c ∷ cs) xs ≡ of_one k screen number c xs + of_all k screen (suc number) cs xs
by_control k screen number c cs [] = refl
by_control k screen number c cs (x ∷ xs) =
    let here = count-append (is_items_of k) (placed_on screen number c) (control_spots screen (suc number) cs) in
    let rest = by_control k (suc screen) number c cs xs in
    omega (arith, here, rest)

past_number : (k screen number : ℕ) (cs : List ControlName) (xs : List (List ℕ)) → k < number → of_all k screen number cs xs ≡ 0
past_number k screen number [] xs l = no_controls k screen number xs
past_number k screen number (c ∷ cs) xs l =
    let parts = by_control k screen number c cs xs in
    let apart : nat_eq number k ≡ false = differ (nat_eq number k) refl in
    let none : one (nat_eq number k) ≡ 0 = ap one apart in
    let here = one_screen k screen number c xs in
    let rest = past_number k screen (suc number) cs xs (omega (arith, l)) in
    omega (arith, parts, none, here, rest)
  where
    differ : (t : Bool) → nat_eq number k ≡ t → t ≡ false
    differ true e = let same = eqb-true number k e in absurd (omega (arith, same, l))
    differ false e = refl

once : (k screen number : ℕ) (cs : List ControlName) (xs : List (List ℕ)) → of_all k screen number cs xs ≤ 1
once k screen number [] xs = let none = no_controls k screen number xs in omega (arith, none)
once k screen number (c ∷ cs) xs = by (nat_eq number k) refl (once k screen (suc number) cs xs)
  where
    by : (b : Bool) → nat_eq number k ≡ b → of_all k screen (suc number) cs xs ≤ 1 → of_all k screen number (c ∷ cs) xs ≤ 1
    by true e later =
        let same = eqb-true number k e in
        let parts = by_control k screen number c cs xs in
        let some : one (nat_eq number k) ≡ 1 = ap one e in
        let here = one_screen k screen number c xs in
        let rest = past_number k screen (suc number) cs xs (omega (arith, same)) in
        omega (arith, parts, some, here, rest)
    by false e later =
        let parts = by_control k screen number c cs xs in
        let none : one (nat_eq number k) ≡ 0 = ap one e in
        let here = one_screen k screen number c xs in
        omega (arith, parts, none, here, later)

on_screens : (k screen : ℕ) (cs : List ControlName) (xs : List (List ℕ)) → count (is_items_of k) (screen_spots cs screen xs) ≡ of_all k screen 0 cs xs
on_screens k screen cs [] = refl
on_screens k screen cs (x ∷ xs) =
    let here = count-append (is_items_of k) (control_spots screen 0 cs) (screen_spots cs (suc screen) xs) in
    let rest = on_screens k (suc screen) cs xs in
    omega (arith, here, rest)

of_named : (k : ℕ) (s : Spot) → count (is_items_of k) (named_spot s) ≡ 0
of_named k (spot.Formula x) = refl
of_named k spot.OnStart = refl
of_named k (spot.OnVisible s) = refl
of_named k (spot.Property j p) = refl

abbrev own : CellInfo → List Spot
own i = named_spot i.cell.spot

all_named : (k : ℕ) (is : List CellInfo) → count (is_items_of k) (flat_map own is) ≡ 0
all_named k [] = refl
all_named k (i ∷ is) =
    let parts = count-append (is_items_of k) (own i) (flat_map own is) in
    let here = of_named k i.cell.spot in
    let rest = all_named k is in
    omega (arith, parts, here, rest)

among_places : (k : ℕ) (f : Frame) (is : List CellInfo) → count (is_items_of k) (spots_in f is) ≤ 1
among_places k f is =
    let parts = count-append (is_items_of k) (flat_map own is) (spot.OnStart ∷ screen_spots f.controls 0 f.screens) in
    let first = all_named k is in
    let screens = on_screens k 0 f.controls f.screens in
    let few = once k 0 0 f.controls f.screens in
    omega (arith, parts, first, screens, few)

-- ---- what stands at the places
abbrev StandsAt : Spot → Cell → Type 0
StandsAt s c = c.spot ≡ s

-- the same place is one
pub same_is : (s r : Spot) → is_same_spot s r ≡ true → r ≡ s
same_is (spot.Formula x) (spot.Formula y) e = ap spot.Formula ((bytes_eq-Decides y x).0 e)
same_is spot.OnStart spot.OnStart e = refl
same_is (spot.OnVisible s) (spot.OnVisible r) e = ap spot.OnVisible (eqb-true r s e)
same_is (spot.Property k p) (spot.Property j q) e =
    let t = and_parts (nat_eq j k) (bytes_eq q p) e in
    (λ i. spot.Property (eqb-true j k t.0 i) ((bytes_eq-Decides q p).0 t.1 i))
same_is (spot.Formula x) spot.OnStart e = absurd cc
same_is (spot.Formula x) (spot.OnVisible s) e = absurd cc
same_is (spot.Formula x) (spot.Property k p) e = absurd cc
same_is spot.OnStart (spot.Formula x) e = absurd cc
same_is spot.OnStart (spot.OnVisible s) e = absurd cc
same_is spot.OnStart (spot.Property k p) e = absurd cc
same_is (spot.OnVisible s) (spot.Formula x) e = absurd cc
same_is (spot.OnVisible s) spot.OnStart e = absurd cc
same_is (spot.OnVisible s) (spot.Property k p) e = absurd cc
same_is (spot.Property k p) (spot.Formula x) e = absurd cc
same_is (spot.Property k p) spot.OnStart e = absurd cc
same_is (spot.Property k p) (spot.OnVisible s) e = absurd cc

written_there : (cells : List Cell) (s : Spot) → IfSome (written_at cells s) (StandsAt s)
written_there [] s = tt
written_there (c ∷ cells) s = by (is_same_spot s c.spot) refl (written_there cells s)
  where
    by : (b : Bool) → is_same_spot s c.spot ≡ b → IfSome (written_at cells s) (StandsAt s) → IfSome (cond b (Some c) (written_at cells s)) (StandsAt s)
    by true e rest = same_is s c.spot e
    by false e rest = rest

moved : (s here : Spot) (o : Option Cell) → s ≡ here → IfSome o (StandsAt s) → IfSome o (StandsAt here)
moved s here None e h = tt
moved s here (Some c) e h = h ∙ e

stands_there : (cells : List Cell) (s here : Spot) (given : Option Cell) → IfSome given (StandsAt s) → IfSome (edited_cell cells s given here) (StandsAt here)
stands_there cells s here given h = by (is_same_spot here s) refl
  where
    by : (b : Bool) → is_same_spot here s ≡ b → IfSome (cond b given (written_at cells here)) (StandsAt here)
    by true e = moved s here given (same_is here s e) h
    by false e = written_there cells here

abbrev is_cell_of : ℕ → Cell → Bool
is_cell_of k c = is_items_of k c.spot

one_fewer : (k : ℕ) (here : Spot) (o : Option Cell) (cs : List Cell) → IfSome o (StandsAt here) → count (is_cell_of k) (cons_option o cs) ≤ one (is_items_of k here) + count (is_cell_of k) cs
one_fewer k here None cs h = omega arith
one_fewer k here (Some c) cs h = let e : one (is_items_of k c.spot) ≡ one (is_items_of k here) = ap (λ s. one (is_items_of k s)) h in omega (arith, e)

fewer : (k : ℕ) (cells : List Cell) (s : Spot) (given : Option Cell) (ss : List Spot) → IfSome given (StandsAt s) → count (is_cell_of k) (filter_map (edited_cell cells s given) ss) ≤ count (is_items_of k) ss
fewer k cells s given [] h = omega arith
fewer k cells s given (here ∷ ss) h =
    let more = one_fewer k here (edited_cell cells s given here) (filter_map (edited_cell cells s given) ss) (stands_there cells s here given h) in
    let rest = fewer k cells s given ss h in
    omega (arith, more, rest)

items_are : (k : ℕ) (s : Spot) → s ≡ spot.Property k items_name → is_items_of k s ≡ true
items_are k s e = ap (is_items_of k) e ∙ ap (λ b. b && bytes_eq items_name items_name) (eq-eqb k k refl)

-- Of the formulas that an edit leaves, each gallery has one of its items at most.
pub single : (a : App) (s : Spot) (given : Option Cell) → IfSome given (λ (c : Cell). c.spot ≡ s) → (i j : ℕ) (c d : Cell) (k : ℕ)
    → slice_get (with_cell a s given) i ≡ Some c → slice_get (with_cell a s given) j ≡ Some d → c.spot ≡ spot.Property k (codes "Items") → d.spot ≡ spot.Property k (codes "Items") → i ≡ j
single a s given h i j c d k e f p q =
    let all = fewer k (written_texts a) s given (spots a) h in
    let few = among_places k (app_frame a) a.cells in
    one_place (is_cell_of k) (with_cell a s given) i j c d (omega (arith, all, few)) e f (items_are k c.spot p) (items_are k d.spot q)
