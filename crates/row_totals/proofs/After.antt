-- A call of a keeper, and others behind it that only look.
use Rattle.std.proofs.Common.{◌≡◌, inl, inr, List, [], ◌∷◌, Option, Some, None, refl, sym, ap, subst, ◌∙◌}
use Rattle.std.specs.Prelude.{Result}
use Rattle.std.specs.List.{AllByRecursion}
use Rattle.fx_base.specs.Silence.{IsLater, MayFallSilent, SilenceCause}
use Rattle.fx_base.specs.Telling.{Stays}
use Rattle.fx_base.proofs.Silences.{goes_two, later_then, rose_before}
use Rattle.row_keeper.specs.Causes.{HasCause}
use Rattle.row_keeper.specs.Crashes.{AreAmong, IsOneOf, LeavesThese}
use Rattle.row_keeper.specs.Tables.{Tables}
use Rattle.row_keeper.specs.declared.keeper.Keeper.{Ghosts}
use Rattle.row_keeper.specs.declared.keeper.KeeperEnd.{KeeperEnd}
use Rattle.row_counts.specs.Looking.{OnlyLooks}
use Rattle.row_counts.proofs.Looks.{stays_two}

-- what a crash may leave is what is told, and goes on to be
one_of_these : (told : Option Tables) (xs : List Tables) (t : Tables) → AllByRecursion (λ s. told ≡ Some s) xs → IsOneOf xs t → told ≡ Some t
one_of_these told [] t h k = absurd k
one_of_these told (x ∷ xs) t h (inl e) = h.0 ∙ ap (λ s. Some s) e
one_of_these told (x ∷ xs) t h (inr k) = one_of_these told xs t h.1 k

fewer_of_these : (told : Option Tables) (xs ys : List Tables) → AllByRecursion (λ s. told ≡ Some s) xs → AreAmong xs ys → AllByRecursion (λ s. told ≡ Some s) ys
fewer_of_these told xs [] h k = tt
fewer_of_these told xs (y ∷ ys) h k = (one_of_these told xs y h k.0, fewer_of_these told xs ys h k.1)

lasting : (lost : Type 0) (a b : Option Tables) (xs ys : Option (List Tables)) → (b ≡ None → ys ≡ None) → MayFallSilent lost Stays a b → MayFallSilent lost AreAmong xs ys → LeavesThese a xs → LeavesThese b ys
lasting lost a None xs ys quiet told leaves h = subst (LeavesThese None) (sym (quiet refl)) tt
lasting lost None (Some y) xs ys quiet told leaves h = absurd cc
lasting lost (Some x) (Some y) None ys quiet told leaves h = subst (LeavesThese (Some y)) (sym leaves) tt
lasting lost (Some x) (Some y) (Some us) None quiet told leaves h = tt
lasting lost (Some x) (Some y) (Some us) (Some vs) quiet told leaves h = subst (λ (t : Tables). AllByRecursion (λ s. Some t ≡ Some s) vs) (sym told) (fewer_of_these (Some x) us vs h leaves)

module _ {K : Type 0} (g : Ghosts K) where
  pub then_told : (P : Tables → Tables → Type 0) (a b c : K) → IsLater (g.marks a) (g.marks b) → MayFallSilent (SilenceCause (g.marks a) (g.marks b)) P (g.told a) (g.told b) → OnlyLooks g b c
      → MayFallSilent (SilenceCause (g.marks a) (g.marks c)) P (g.told a) (g.told c)
  then_told P a b c later k h = goes_two P Stays P (λ x y z p q. subst (P x) (sym q) p) (g.marks a) (g.marks b) (g.marks c) later h.later (g.told a) (g.told b) (g.told c) k h.told

  pub then_attached : (a b c : K) → IsLater (g.marks a) (g.marks b) → MayFallSilent (SilenceCause (g.marks a) (g.marks b)) Stays (g.attached a) (g.attached b) → OnlyLooks g b c
      → MayFallSilent (SilenceCause (g.marks a) (g.marks c)) Stays (g.attached a) (g.attached c)
  then_attached a b c later k h = stays_two (g.marks a) (g.marks b) (g.marks c) later h.later (g.attached a) (g.attached b) (g.attached c) k h.passes.attached

  pub then_cause : {T : Type 0} (a b c : K) (r : Result T KeeperEnd) → IsLater (g.marks a) (g.marks b) → HasCause (g.marks b) (g.marks c) r → HasCause (g.marks a) (g.marks c) r
  then_cause a b c r later k = record {
    later = later_then (g.marks a) (g.marks b) (g.marks c) later k.later;
    failed = λ f. rose_before (g.marks a).faults (g.marks b).faults (g.marks c).faults later.faults (k.failed f);
  }

  pub then_lasting : (b c : K) → (g.told c ≡ None → g.leaves c ≡ None) → OnlyLooks g b c → LeavesThese (g.told b) (g.leaves b) → LeavesThese (g.told c) (g.leaves c)
  then_lasting b c quiet h = lasting (SilenceCause (g.marks b) (g.marks c)) (g.told b) (g.told c) (g.leaves b) (g.leaves c) quiet h.told h.passes.crash
