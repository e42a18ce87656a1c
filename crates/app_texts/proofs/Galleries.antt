-- The numbers of galleries over the whole app.
use Rattle.std.proofs.Common.{◌≡◌, ℕ, zero, suc, ◌+◌, ◌<◌, ◌≤◌, List, [], ◌∷◌, ◌++◌, Option, Some, None, length, map, refl, ap, sym, ◌∙◌, subst, arith, All, append_assoc, length-append}
use Rattle.std.specs.Prelude.{option_map, slice_get}
use Rattle.std.proofs.lemmas.List.{append-nil, length-map}
use Rattle.std.proofs.lemmas.List.Elements.{All-nil, All-cons, All-head, All-tail, All-append}
use Rattle.fx_types.specs.declared.controls.Control.TheVariants as control
use Rattle.fx_core.specs.Lawful.{IsGallery, IsLawfulGallery}
use Rattle.fx_core.specs.declared.names.ControlName.{ControlName}
use Rattle.app_file.specs.declared.file.ControlShape.{ControlShape}
use Rattle.app_file.specs.declared.file.ScreenShape.{ScreenShape}
use Rattle.app_texts.specs.Files.{HasGalleries, IsGalleryShapeAt, IsGalleryShape, control_of, controls_from}

pub slice_behind : {A : Type 0} (xs ys : List A) (k m : ℕ) → m ≡ length xs + k → slice_get (xs ++ ys) m ≡ slice_get ys k
slice_behind [] ys k m e = ap (slice_get ys) (omega (arith, e))
slice_behind (x ∷ xs) ys k zero e = absurd (omega (arith, e))
slice_behind (x ∷ xs) ys k (suc m) e = slice_behind xs ys k m (omega (arith, e))

gallery_here : (screen first g : ℕ) (cs : List ControlShape) (more : List ControlName) → IsGalleryShape (slice_get cs g) → IsGallery (slice_get (map (control_of screen first) cs ++ more) g)
gallery_here screen first g [] more h = absurd h
gallery_here screen first zero (c ∷ cs) more h = h
gallery_here screen first (suc g) (c ∷ cs) more h = gallery_here screen first g cs more h

abbrev Stands : ℕ → List ControlName → ControlName → Type 0
Stands n every c = (c.screen < n) × IsLawfulGallery every c.gallery

gallery_of : (screen first : ℕ) (o : Option ℕ) (before : List ControlName) (shapes : List ControlShape) (more : List ControlName) → first ≡ length before → IsGalleryShapeAt shapes o
    → IsLawfulGallery (before ++ (map (control_of screen first) shapes ++ more)) (option_map (λ g. first + g) o)
gallery_of screen first None before shapes more e h = tt
gallery_of screen first (Some g) before shapes more e h =
    subst (λ n. IsGallery (slice_get (before ++ (map (control_of screen first) shapes ++ more)) (n + g))) (sym e)
    (subst IsGallery (sym (slice_behind before (map (control_of screen first) shapes ++ more) g (length before + g) refl)) (gallery_here screen first g shapes more h))

these_stand : (n screen first : ℕ) (every before : List ControlName) (shapes these : List ControlShape) (more : List ControlName) → screen < n → first ≡ length before
    → every ≡ before ++ (map (control_of screen first) shapes ++ more) → All (λ (c : ControlShape). IsGalleryShapeAt shapes c.gallery) these → All (Stands n every) (map (control_of screen first) these)
these_stand n screen first every before shapes [] more l e is h = All-nil (Stands n every)
these_stand n screen first every before shapes (c ∷ cs) more l e is h =
    All-cons (Stands n every) (control_of screen first c) (map (control_of screen first) cs)
    (l, subst (λ xs. IsLawfulGallery xs (option_map (λ g. first + g) c.gallery)) (sym is) (gallery_of screen first c.gallery before shapes more e (All-head (λ (d : ControlShape). IsGalleryShapeAt shapes d.gallery) c cs h)))
    (these_stand n screen first every before shapes cs more l e is (All-tail (λ (d : ControlShape). IsGalleryShapeAt shapes d.gallery) c cs h))

-- all controls stand on screens, and in galleries where they stand in something
pub all_stand : (n screen first : ℕ) (every before : List ControlName) (ss : List ScreenShape) → screen + length ss ≤ n → first ≡ length before → every ≡ before ++ controls_from screen first ss → All HasGalleries ss
    → All (Stands n every) (controls_from screen first ss)
all_stand n screen first every before [] l e is h = All-nil (Stands n every)
all_stand n screen first every before (s ∷ ss) l e is h =
    let here = map (control_of screen first) s.controls in
    let more = controls_from (suc screen) (first + length s.controls) ss in
    All-append (Stands n every) here more
    (these_stand n screen first every before s.controls s.controls more (omega (arith, l)) e is (All-head HasGalleries s ss h))
    (all_stand n (suc screen) (first + length s.controls) every (before ++ here) ss (omega (arith, l))
    (ap (λ k. k + length s.controls) e ∙ ap (λ k. length before + k) (sym (length-map s.controls (control_of screen first))) ∙ sym (length-append before here))
    (is ∙ sym (append_assoc before here more)) (All-tail HasGalleries s ss h))
