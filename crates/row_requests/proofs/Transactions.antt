-- Whole transactions.
use Rattle.std.proofs.Common.{◌≡◌, Bool, true, false, List, Option, Some, None, refl, sym, ◌∙◌, subst, Ok, Err}
use Rattle.std.specs.Result.{is_ok}
use Rattle.fx_base.specs.Silence.{MayFallSilent, IsLater, SilenceCause, Marks}
use Rattle.fx_base.specs.Telling.{Stays}
use Rattle.fx_base.proofs.Silences.{goes_two, later_then, lost_before, lost_more}
use Rattle.fx_core.specs.declared.schema.TableShape.{TableShape}
use Rattle.row_keeper.specs.Tables.{Tables}
use Rattle.row_requests.specs.Changes.{perform}
use Rattle.row_requests.specs.DeskRows.{DeskTransaction, ChangesOutcome}
use Rattle.row_requests.specs.Steps.{AppliesChanges}
use Rattle.row_requests.specs.declared.bodies.Change.{Change}

-- What was begun, done and undone: P of the tables as it began, which is no matter of those that were reached, and the
-- tables as it began.
pub undone : (A : Type 0) (lost lost' all : Type 0) (P : A → A → Type 0) → (lost → all) → (lost' → all) → (x began told told' : Option A)
    → MayFallSilent lost (λ a b. (c : A) → P a c) x told → (told ≡ None → began ≡ None) → MayFallSilent lost Stays x began → MayFallSilent lost' Stays began told'
    → MayFallSilent all (λ a b. P a b × (b ≡ a)) x told'
undone A lost lost' all P first second None began told told' h quiet b t = by began told' b t
  where
    by : (x y : Option A) → x ≡ None → MayFallSilent lost' Stays x y → y ≡ None
    by None y e k = k
    by (Some c) y e k = absurd cc
undone A lost lost' all P first second (Some a) None told None h quiet b t = first b
undone A lost lost' all P first second (Some a) None told (Some c) h quiet b t = absurd (cc)
undone A lost lost' all P first second (Some a) (Some b) None told' h quiet e t = absurd (by (quiet refl))
  where
    by : Some b ≡ None → ⊥
    by e = cc
undone A lost lost' all P first second (Some a) (Some b) (Some d) None h quiet e t = second t
undone A lost lost' all P first second (Some a) (Some b) (Some d) (Some c) h quiet e t = (h c, t ∙ e)

-- the same where the changes were refused
pub refusing : (shapes : List TableShape) (changes : List Change) (o : ChangesOutcome) → is_ok o ≡ false → (k l m n : Marks) → IsLater k l → IsLater l m → IsLater m n
    → (x told began told' began' told'' : Option Tables)
    → MayFallSilent (SilenceCause k l) Stays x told → began ≡ told → MayFallSilent (SilenceCause l m) (AppliesChanges shapes changes o) told told' → MayFallSilent (SilenceCause l m) Stays began began'
    → (told' ≡ None → began' ≡ None) → MayFallSilent (SilenceCause m n) Stays began' told'' → MayFallSilent (SilenceCause k n) (DeskTransaction shapes changes o) x told''
refusing shapes changes (Ok ids) denied k l m n a b c x told began told' began' told'' h e i j quiet t = absurd (cc)
refusing shapes changes (Err r) denied k l m n a b c x told began told' began' told'' h e i j quiet t =
    undone Tables (SilenceCause k m) (SilenceCause m n) (SilenceCause k n) (λ t _. perform shapes 0 changes t ≡ Err r) (lost_more k m n c) (lost_before k m n (later_then k l m a b)) x began' told' told''
    (goes_two Stays (AppliesChanges shapes changes (Err r)) (λ t _. (u : Tables) → perform shapes 0 changes t ≡ Err r)
    (λ t u v same done w. subst (λ (w : Tables). perform shapes 0 changes w ≡ Err r) same done) k l m a b x told told' h i)
    quiet
    (goes_two Stays Stays Stays (λ t u v p q. q ∙ p) k l m a b x told began' h (subst (λ o. MayFallSilent (SilenceCause l m) Stays o began') e j))
    t

-- and where they were accepted
pub accepting : (shapes : List TableShape) (changes : List Change) (o : ChangesOutcome) → is_ok o ≡ true → (k l m n : Marks) → IsLater k l → IsLater l m → IsLater m n
    → (x told told' told'' : Option Tables)
    → MayFallSilent (SilenceCause k l) Stays x told → MayFallSilent (SilenceCause l m) (AppliesChanges shapes changes o) told told'
    → MayFallSilent (SilenceCause m n) Stays told' told'' → MayFallSilent (SilenceCause k n) (DeskTransaction shapes changes o) x told''
accepting shapes changes (Err r) accepts k l m n a b c x told told' told'' h i t = absurd (cc)
accepting shapes changes (Ok ids) accepts k l m n a b c x told told' told'' h i t =
    goes_two (AppliesChanges shapes changes (Ok ids)) Stays (DeskTransaction shapes changes (Ok ids)) (λ t u v done same. subst (λ (w : Tables). DeskTransaction shapes changes (Ok ids) t w) (sym same) done)
    k m n (later_then k l m a b) c x told' told''
    (goes_two Stays (AppliesChanges shapes changes (Ok ids)) (AppliesChanges shapes changes (Ok ids)) (λ t u v same done. subst (λ (w : Tables). AppliesChanges shapes changes (Ok ids) w v) same done) k l m a b x told told' h i)
    t

-- the whole transaction, which is ended by whether they were accepted
pub settled : (shapes : List TableShape) (changes : List Change) (o : ChangesOutcome) (k l m n : Marks) → IsLater k l → IsLater l m → IsLater m n
    → (x told began told' began' told'' : Option Tables)
    → MayFallSilent (SilenceCause k l) Stays x told → began ≡ told → MayFallSilent (SilenceCause l m) (AppliesChanges shapes changes o) told told' → MayFallSilent (SilenceCause l m) Stays began began' → (told' ≡ None → began' ≡ None)
    → (accepted : Bool) → accepted ≡ is_ok o → (accepted ≡ true → MayFallSilent (SilenceCause m n) Stays told' told'') → (accepted ≡ false → MayFallSilent (SilenceCause m n) Stays began' told'')
    → MayFallSilent (SilenceCause k n) (DeskTransaction shapes changes o) x told''
settled shapes changes o k l m n a b c x told began told' began' told'' h e i j quiet true is keeps leaves =
    accepting shapes changes o (sym is) k l m n a b c x told told' told'' h i (keeps refl)
settled shapes changes o k l m n a b c x told began told' began' told'' h e i j quiet false is keeps leaves =
    refusing shapes changes o (sym is) k l m n a b c x told began told' began' told'' h e i j quiet (leaves refl)
