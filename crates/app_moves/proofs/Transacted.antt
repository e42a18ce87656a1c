-- Tables that move in one transaction.
use Rattle.std.proofs.Common.{◌≡◌, ◌∙◌, Option, Some, None, refl, subst, sym}
use Rattle.fx_base.specs.Silence.{IsLater, Marks, MayFallSilent, SilenceCause}
use Rattle.fx_base.specs.Telling.{Stays}
use Rattle.fx_base.proofs.Silences.{goes_two, later_then, lost_before, lost_more}
use Rattle.row_keeper.specs.Tables.{Tables}

-- begun, with this done, and ended with it
pub kept : (P : Tables → Tables → Type 0) (k l m n : Marks) → IsLater k l → IsLater l m → IsLater m n → (x told told' end : Option Tables)
    → MayFallSilent (SilenceCause k l) Stays x told → MayFallSilent (SilenceCause l m) P told told' → MayFallSilent (SilenceCause m n) Stays told' end
    → MayFallSilent (SilenceCause k n) P x end
kept P k l m n a b c x told told' end h i j =
    goes_two P Stays P (λ t u v does same. subst (P t) (sym same) does) k m n (later_then k l m a b) c x told' end
    (goes_two Stays P P (λ t u v same does. subst (λ w. P w v) same does) k l m a b x told told' h i) j

-- begun and ended without what was done: the tables are as they were
pub left : (k l m n : Marks) → IsLater k l → IsLater l m → IsLater m n → (x told began began' end : Option Tables)
    → MayFallSilent (SilenceCause k l) Stays x told → began ≡ told → MayFallSilent (SilenceCause l m) Stays began began' → MayFallSilent (SilenceCause m n) Stays began' end
    → MayFallSilent (SilenceCause k n) Stays x end
left k l m n a b c x told began began' end h e i j =
    kept Stays k l m n a b c x told began' end h (subst (λ (o : Option Tables). MayFallSilent (SilenceCause l m) Stays o began') e i) j

-- a rule broke, which changed nothing
pub undone : (P : Tables → Type 0) (k l m n : Marks) → IsLater k l → IsLater l m → IsLater m n → (x told began told' began' end : Option Tables)
    → MayFallSilent (SilenceCause k l) Stays x told → began ≡ told → MayFallSilent (SilenceCause l m) (λ a b. P a × (b ≡ a)) told told'
    → MayFallSilent (SilenceCause l m) Stays began began' → (told' ≡ None → began' ≡ None) → MayFallSilent (SilenceCause m n) Stays began' end
    → MayFallSilent (SilenceCause k n) (λ a b. P a × (b ≡ a)) x end
undone P k l m n a b c x told began told' began' end h e i j quiet u = by x told told' began' end h i (subst (λ (o : Option Tables). MayFallSilent (SilenceCause l m) Stays o began') e j) quiet u
  where
    by : (x told told' began' end : Option Tables) → MayFallSilent (SilenceCause k l) Stays x told → MayFallSilent (SilenceCause l m) (λ a b. P a × (b ≡ a)) told told' → MayFallSilent (SilenceCause l m) Stays told began'
        → (told' ≡ None → began' ≡ None) → MayFallSilent (SilenceCause m n) Stays began' end → MayFallSilent (SilenceCause k n) (λ a b. P a × (b ≡ a)) x end
    by None None t' None end h i j quiet u = u
    by None None t' (Some d) end h i j quiet u = absurd cc
    by None (Some y) t' d end h i j quiet u = absurd cc
    by (Some w) None t' None None h i j quiet u = lost_more k m n c (lost_more k l m b h)
    by (Some w) None t' None (Some z) h i j quiet u = absurd cc
    by (Some w) None t' (Some d) end h i j quiet u = absurd cc
    by (Some w) (Some y) None None None h i j quiet u = lost_more k m n c (lost_before k l m a i)
    by (Some w) (Some y) None None (Some z) h i j quiet u = absurd cc
    by (Some w) (Some y) None (Some d) end h i j quiet u = let none : Some d ≡ None = quiet refl in absurd cc
    by (Some w) (Some y) (Some v) None None h i j quiet u = lost_more k m n c (lost_before k l m a j)
    by (Some w) (Some y) (Some v) None (Some z) h i j quiet u = absurd cc
    by (Some w) (Some y) (Some v) (Some d) None h i j quiet u = lost_before k m n (later_then k l m a b) u
    by (Some w) (Some y) (Some v) (Some d) (Some z) h i j quiet u = (subst P h i.0, u ∙ j ∙ h)
