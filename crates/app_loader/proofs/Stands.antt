-- A formula that stands where it says beside a frame does so in the app that the formulas of the frame make.
use Rattle.std.proofs.Common.{◌≡◌, ℕ, zero, suc, ◌<◌, ◌++◌, List, [], ◌∷◌, true, length, unwrap_or, codes, encode_utf8_all, Option, Some, None, option_map, refl, ap, subst, ◌∙◌, slice_get}
use Rattle.fx_types.specs.Types.{Shape}
use Rattle.fx_core.specs.BrokenText.{address_of}
use Rattle.fx_core.specs.Controls.{has_property, is_behaviour}
use Rattle.fx_core.specs.Lawful.{Has}
use Rattle.fx_core.specs.declared.names.ControlName.{ControlName}
use Rattle.fx_typing.specs.Rounds.{AllSame, SameControl}
use Rattle.app_cells.specs.declared.cell.Cell.{Cell}
use Rattle.app_cells.specs.declared.cell.Spot.{Spot}
use Rattle.app_cells.specs.declared.cell.Spot.TheVariants as spot
use Rattle.app_cells.specs.declared.frame.Frame.{Frame}
use Rattle.app_cells.specs.Spots.{IsPlaced, IsSpot, can_act, acts_for_gallery, acts_in, address, item_in, gallery_seen, item_or, name_of_control, screen_of, wanted_shape, wanted_by, wanted_in}

-- controls at one number that are the same but for the types of their items, or none
abbrev AreAlike : Option ControlName → Option ControlName → Type 0
AreAlike (Some c) (Some d) = SameControl c d
AreAlike None None = Unit {0}
AreAlike None (Some d) = ⊥
AreAlike (Some c) None = ⊥

alike_at : (cs ds : List ControlName) (k : ℕ) → AllSame SameControl cs ds → AreAlike (slice_get cs k) (slice_get ds k)
alike_at [] [] k s = tt
alike_at [] (d ∷ ds) k s = absurd s
alike_at (c ∷ cs) [] k s = absurd s
alike_at (c ∷ cs) (d ∷ ds) zero s = s.0
alike_at (c ∷ cs) (d ∷ ds) (suc k) s = alike_at cs ds k s.1

has_alike : (p : List ℕ) (o q : Option ControlName) → AreAlike o q → Has p o → Has p q
has_alike p (Some c) (Some d) s h = subst (λ k. has_property k (encode_utf8_all p) ≡ true) s.1 h
has_alike p None None s h = h
has_alike p None (Some d) s h = absurd s
has_alike p (Some c) None s h = absurd s

name_alike : (o q : Option ControlName) → AreAlike o q → name_of_control o ≡ name_of_control q
name_alike (Some c) (Some d) s = s.0
name_alike None None s = refl
name_alike None (Some d) s = absurd s
name_alike (Some c) None s = absurd s

screen_alike : (o q : Option ControlName) → AreAlike o q → option_map (λ (c : ControlName). c.screen) o ≡ option_map (λ (c : ControlName). c.screen) q
screen_alike (Some c) (Some d) s = ap Some s.2
screen_alike None None s = refl
screen_alike None (Some d) s = absurd s
screen_alike (Some c) None s = absurd s

item_alike : (k : ℕ) (p : List ℕ) (o q : Option ControlName) → AreAlike o q → item_in k p o ≡ item_in k p q
item_alike k p (Some c) (Some d) s = λ i. item_or (s.3 i) (acts_for_gallery (s.1 i) (encode_utf8_all p)) k
item_alike k p None None s = refl
item_alike k p None (Some d) s = absurd s
item_alike k p (Some c) None s = absurd s

acts_alike : (p : List ℕ) (o q : Option ControlName) → AreAlike o q → acts_in p o ≡ acts_in p q
acts_alike p (Some c) (Some d) s = ap (λ k. is_behaviour k (encode_utf8_all p)) s.1
acts_alike p None None s = refl
acts_alike p None (Some d) s = absurd s
acts_alike p (Some c) None s = absurd s

wanted_alike : (p : List ℕ) (o q : Option ControlName) → AreAlike o q → wanted_in p o ≡ wanted_in p q
wanted_alike p (Some c) (Some d) s = ap (λ k. wanted_by k (encode_utf8_all p)) s.1
wanted_alike p None None s = refl
wanted_alike p None (Some d) s = absurd s
wanted_alike p (Some c) None s = absurd s

module _ (f g : Frame) (screens : f.screens ≡ g.screens) (controls : AllSame SameControl f.controls g.controls) where
  at : (k : ℕ) → AreAlike (slice_get f.controls k) (slice_get g.controls k)
  at k = alike_at f.controls g.controls k controls

  there : (s : Spot) → IsSpot f s → IsSpot g s
  there (spot.Formula x) h = tt
  there spot.OnStart h = tt
  there (spot.OnVisible s) h = subst (λ (xs : List (List ℕ)). s < length xs) screens h
  there (spot.Property k p) h = has_alike p (slice_get f.controls k) (slice_get g.controls k) (at k) h

  address_same : (s : Spot) → address f s ≡ address g s
  address_same (spot.Formula x) = refl
  address_same spot.OnStart = refl
  address_same (spot.OnVisible s) = ap (λ (xs : List (List ℕ)). address_of (unwrap_or (slice_get xs s) []) ++ (codes "." ++ codes "OnVisible")) screens
  address_same (spot.Property k p) = ap (λ x. address_of x ++ (codes "." ++ p)) (name_alike (slice_get f.controls k) (slice_get g.controls k) (at k))

  screen_same : (s : Spot) → screen_of f s ≡ screen_of g s
  screen_same (spot.Formula x) = refl
  screen_same spot.OnStart = refl
  screen_same (spot.OnVisible s) = refl
  screen_same (spot.Property k p) = screen_alike (slice_get f.controls k) (slice_get g.controls k) (at k)

  item_same : (s : Spot) → gallery_seen f s ≡ gallery_seen g s
  item_same (spot.Formula x) = refl
  item_same spot.OnStart = refl
  item_same (spot.OnVisible s) = refl
  item_same (spot.Property k p) = item_alike k p (slice_get f.controls k) (slice_get g.controls k) (at k)

  acts_same : (s : Spot) → can_act f s ≡ can_act g s
  acts_same (spot.Formula x) = refl
  acts_same spot.OnStart = refl
  acts_same (spot.OnVisible s) = refl
  acts_same (spot.Property k p) = acts_alike p (slice_get f.controls k) (slice_get g.controls k) (at k)

  wanted_same : (s : Spot) → wanted_shape f s ≡ wanted_shape g s
  wanted_same (spot.Formula x) = refl
  wanted_same spot.OnStart = refl
  wanted_same (spot.OnVisible s) = refl
  wanted_same (spot.Property k p) = wanted_alike p (slice_get f.controls k) (slice_get g.controls k) (at k)

  pub stands_too : (c : Cell) → IsPlaced f c → IsPlaced g c
  stands_too c h = record {
    spot = there c.spot h.spot;
    name = h.name ∙ address_same c.spot;
    screen = h.screen ∙ screen_same c.spot;
    item = h.item ∙ item_same c.spot;
    acts = h.acts ∙ acts_same c.spot;
    wanted = h.wanted ∙ wanted_same c.spot;
  }
