-- All places of a frame are some.
use Rattle.std.proofs.Common.{◌≡◌, ℕ, suc, ◌+◌, ◌≤◌, Bool, true, false, List, [], ◌∷◌, ◌++◌, Option, Some, None, IfSome, codes, cond, length, map, refl, ap, sym, ◌∙◌, subst, arith, All, append_assoc, length-append}
use Rattle.std.specs.Prelude.{encode_utf8_all, find, flat_map, nat_eq, slice_get}
use Rattle.std.proofs.lemmas.List.Elements.{All-nil, All-cons, All-head, All-tail, All-append}
use Rattle.fx_types.proofs.Texts.{encodes_chars}
use Rattle.fx_types.specs.Words.{scalars_of}
use Rattle.fx_core.specs.Controls.{has_property}
use Rattle.fx_core.specs.Lawful.{Has}
use Rattle.fx_core.specs.declared.names.ControlName.{ControlName}
use Rattle.app_file.specs.FormOfApp.{property_names}
use Rattle.app_cells.specs.declared.app.App.{App}
use Rattle.app_cells.specs.declared.app.CellInfo.{CellInfo}
use Rattle.app_cells.specs.declared.cell.Spot.{Spot}
use Rattle.app_cells.specs.declared.cell.Spot.TheVariants as spot
use Rattle.app_cells.specs.declared.frame.Frame.{Frame}
use Rattle.app_cells.specs.Spots.{IsSpot}
use Rattle.app_texts.proofs.Formed.{AreProperties, own_properties}
use Rattle.app_texts.proofs.Galleries.{slice_behind}
use Rattle.app_texts.specs.Frames.{app_frame}
use Rattle.app_texts.specs.Places.{control_spots, has_address, named_spot, property_spots, screen_spots, spot_of, spots, spots_in}

-- the place of a property
abbrev pub as_property : ℕ → List ℕ → Spot
as_property number p = spot.Property number (scalars_of p)

these_properties : (f : Frame) (number : ℕ) (c : ControlName) (xs : List (List ℕ)) → slice_get f.controls number ≡ Some c → AreProperties c.kind xs → All (IsSpot f) (map (as_property number) xs)
these_properties f number c [] e h = All-nil (IsSpot f)
these_properties f number c (x ∷ xs) e h =
    let same : encode_utf8_all (scalars_of x) ≡ x = sym (encodes_chars x h.0) in
    All-cons (IsSpot f) (as_property number x) (map (as_property number) xs)
    (subst (Has (scalars_of x)) (sym e) (ap (has_property c.kind) same ∙ h.1)) (these_properties f number c xs e h.2)

some_properties : (f : Frame) (number : ℕ) (c : ControlName) (b : Bool) → slice_get f.controls number ≡ Some c → All (IsSpot f) (cond b (property_spots number c.kind) [])
some_properties f number c true e = these_properties f number c (property_names c.kind) e (own_properties c.kind)
some_properties f number c false e = All-nil (IsSpot f)

on_screen : (f : Frame) (screen number : ℕ) (before cs : List ControlName) → number ≡ length before → f.controls ≡ before ++ cs → All (IsSpot f) (control_spots screen number cs)
on_screen f screen number before [] e is = All-nil (IsSpot f)
on_screen f screen number before (c ∷ cs) e is =
    let here : slice_get f.controls number ≡ Some c = ap (λ xs. slice_get xs number) is ∙ slice_behind before (c ∷ cs) 0 number (omega (arith, e)) in
    let long : length (before ++ c ∷ []) ≡ length before + 1 = length-append before (c ∷ []) in
    All-append (IsSpot f) (cond (nat_eq c.screen screen) (property_spots number c.kind) []) (control_spots screen (suc number) cs)
    (some_properties f number c (nat_eq c.screen screen) here)
    (on_screen f screen (suc number) (before ++ c ∷ []) cs (omega (arith, e, long)) (is ∙ sym (append_assoc before (c ∷ []) cs)))

on_screens : (f : Frame) (screen : ℕ) (xs : List (List ℕ)) → screen + length xs ≤ length f.screens → All (IsSpot f) (screen_spots f.controls screen xs)
on_screens f screen [] l = All-nil (IsSpot f)
on_screens f screen (x ∷ xs) l =
    All-cons (IsSpot f) (spot.OnVisible screen) (control_spots screen 0 f.controls ++ screen_spots f.controls (suc screen) xs) (omega (arith, l))
    (All-append (IsSpot f) (control_spots screen 0 f.controls) (screen_spots f.controls (suc screen) xs) (on_screen f screen 0 [] f.controls refl refl) (on_screens f (suc screen) xs (omega (arith, l))))

named : (f : Frame) (s : Spot) → All (IsSpot f) (named_spot s)
named f (spot.Formula x) = All-cons (IsSpot f) (spot.Formula x) [] tt (All-nil (IsSpot f))
named f spot.OnStart = All-nil (IsSpot f)
named f (spot.OnVisible s) = All-nil (IsSpot f)
named f (spot.Property k p) = All-nil (IsSpot f)

abbrev own : CellInfo → List Spot
own i = named_spot i.cell.spot

all_named : (f : Frame) (is : List CellInfo) → All (IsSpot f) (flat_map own is)
all_named f [] = All-nil (IsSpot f)
all_named f (i ∷ is) = All-append (IsSpot f) (own i) (flat_map own is) (named f i.cell.spot) (all_named f is)

all_spots : (f : Frame) (is : List CellInfo) → All (IsSpot f) (spots_in f is)
all_spots f is =
    All-append (IsSpot f) (flat_map own is) (spot.OnStart ∷ screen_spots f.controls 0 f.screens) (all_named f is)
    (All-cons (IsSpot f) spot.OnStart (screen_spots f.controls 0 f.screens) tt (on_screens f 0 f.screens (omega arith)))

-- what is found is one of them
pub found : {A : Type 0} (P : A → Type 0) (p : A → Bool) (xs : List A) → All P xs → IfSome (find p xs) P
found P p [] h = tt
found P p (x ∷ xs) h = by (p x) (found P p xs (All-tail P x xs h))
  where
    by : (b : Bool) → IfSome (find p xs) P → IfSome (cond b (Some x) (find p xs)) P
    by true more = All-head P x xs h
    by false more = more

if_is : {A : Type 0} (P : A → Type 0) (o : Option A) (x : A) → IfSome o P → o ≡ Some x → P x
if_is P None x h e = absurd cc
if_is P (Some y) x h e = let same : y ≡ x = cc in subst P same h

pub spot_is : (f : Frame) (is : List CellInfo) (ss : List Spot) (x : List ℕ) (s : Spot) → ss ≡ spots_in f is → Some s ≡ find (has_address f x) ss → IsSpot f s
spot_is f is ss x s e h =
    if_is (IsSpot f) (find (has_address f x) ss) s (found (IsSpot f) (has_address f x) ss (subst (All (IsSpot f)) (sym e) (all_spots f is))) (sym h)
