-- Cells that are gathered from things, one after another.
use Rattle.std.proofs.Common.{◌≡◌, ◌⊎◌, ℕ, zero, suc, ◌+◌, ◌<◌, ◌≤◌, List, [], ◌∷◌, length, get_or, Bool, true, false, Option, Some, None, refl, sym, subst, ap, ◌∙◌, arith, inl, inr}
use Rattle.std.proofs.lemmas.Bool.{cases_lt}
use Rattle.std.proofs.lemmas.Option.{slice_get-get_or, slice_get_within}
use Rattle.std.specs.List.{Contains, slice_get}
use Rattle.std.specs.Prelude.{◌↔◌}
use Rattle.recalc.specs.app_cells.Leaning.{LeansOn, cell_behind}
use Rattle.recalc.specs.app_cells.declared.app.CellInfo.{CellInfo}
use Rattle.fx_core.specs.Reads.{IsAmong}
use Rattle.fx_core.specs.declared.names.Names.{Names}
use Rattle.fx_core.specs.declared.sources.Source.{Source}
use Rattle.session_views.specs.Looking.{IsThrough}

-- exactly the numbers are added for which both hold
abbrev pub Adds : (ℕ → Type 0) → (ℕ → Type 0) → List ℕ → List ℕ → Type 0
Adds P Q old new = (k : ℕ) → Contains new k ↔ (Contains old k ⊎ (P k × Q k))

-- it is so through one of the things before a place
abbrev pub UpTo : {A : Type 0} → (A → ℕ → Type 0) → List A → ℕ → ℕ → Type 0
UpTo {A} P xs i k = (j : ℕ) × (x : A) × (j < i) × (slice_get xs j ≡ Some x) × P x k

-- ---- many
same_got : {A : Type 0} (x y : A) (o : Option A) → o ≡ Some x → o ≡ Some y → x ≡ y
same_got x y o e f = cc

-- one more thing adds what it adds
pub one_more : {A : Type 0} (P : A → ℕ → Type 0) (Q : ℕ → Type 0) (xs : List A) (i : ℕ) (x : A) (old mid new : List ℕ) → slice_get xs i ≡ Some x → Adds (UpTo P xs i) Q old mid → Adds (P x) Q mid new → Adds (UpTo P xs (i + 1)) Q old new
one_more {A} P Q xs i x old mid new there before now k = (λ h. forth ((now k).0 h), λ h. (now k).1 (back h))
  where
    early : Contains old k ⊎ (UpTo P xs i k × Q k) → Contains old k ⊎ (UpTo P xs (i + 1) k × Q k)
    early (inl h) = inl h
    early (inr h) = let l = (h.0).2 in inr (((h.0).0, (h.0).1, omega (arith, l), (h.0).3, (h.0).4), h.1)

    forth : Contains mid k ⊎ (P x k × Q k) → Contains old k ⊎ (UpTo P xs (i + 1) k × Q k)
    forth (inl h) = early ((before k).0 h)
    forth (inr h) = inr ((i, x, omega arith, there, h.0), h.1)

    last : (j : ℕ) (y : A) → j < i + 1 → slice_get xs j ≡ Some y → P y k → Q k → (j < i) ⊎ (i ≤ j) → Contains mid k ⊎ (P x k × Q k)
    last j y l at p q (inl low) = inl ((before k).1 (inr ((j, y, low, at, p), q)))
    last j y l at p q (inr high) =
        let here : j ≡ i = omega (arith, l, high) in
        inr (subst (λ z. P z k) (same_got y x (slice_get xs i) (subst (λ n. slice_get xs n ≡ Some y) here at) there) p, q)

    back : Contains old k ⊎ (UpTo P xs (i + 1) k × Q k) → Contains mid k ⊎ (P x k × Q k)
    back (inl h) = inl ((before k).1 (inl h))
    back (inr h) = last (h.0).0 (h.0).1 (h.0).2 (h.0).3 (h.0).4 h.1 (cases_lt (h.0).0 i)

-- the same of what is read at a place
pub one_read : {A : Type 0} (P : A → ℕ → Type 0) (Q : ℕ → Type 0) (list xs : List A) (i : ℕ) (d : A) (old mid new : List ℕ) → list ≡ xs → i < length list → Adds (UpTo P xs i) Q old mid → Adds (P (get_or list i d)) Q mid new →
    Adds (UpTo P xs (i + 1)) Q old new
one_read {A} P Q list xs i d old mid new same within before now =
    one_more P Q xs i (get_or list i d) old mid new (subst (λ (ys : List A). slice_get ys i ≡ Some (get_or list i d)) same (slice_get-get_or list i d within)) before now

-- all add what they add
pub all_added : {A : Type 0} (P : A → ℕ → Type 0) (Q : ℕ → Type 0) (xs : List A) (i : ℕ) (old new : List ℕ) → length xs ≤ i → Adds (UpTo P xs i) Q old new → Adds (IsThrough P xs) Q old new
all_added {A} P Q xs i old new past h k = (λ x. forth ((h k).0 x), λ x. (h k).1 (back x))
  where
    forth : Contains old k ⊎ (UpTo P xs i k × Q k) → Contains old k ⊎ (IsThrough P xs k × Q k)
    forth (inl x) = inl x
    forth (inr x) = inr (((x.0).0, (x.0).1, (x.0).3, (x.0).4), x.1)

    back : Contains old k ⊎ (IsThrough P xs k × Q k) → Contains old k ⊎ (UpTo P xs i k × Q k)
    back (inl x) = inl x
    back (inr x) = let l = slice_get_within xs (x.0).0 (x.0).1 (x.0).2 in inr (((x.0).0, (x.0).1, omega (arith, l, past), (x.0).2, (x.0).3), x.1)

-- what is added by another word for it
pub added_as : (P R Q : ℕ → Type 0) (old new : List ℕ) → ((k : ℕ) → P k → R k) → ((k : ℕ) → R k → P k) → Adds P Q old new → Adds R Q old new
added_as P R Q old new to from h k = (λ x. forth ((h k).0 x), λ x. (h k).1 (back x))
  where
    forth : Contains old k ⊎ (P k × Q k) → Contains old k ⊎ (R k × Q k)
    forth (inl x) = inl x
    forth (inr x) = inr (to k x.0, x.1)

    back : Contains old k ⊎ (R k × Q k) → Contains old k ⊎ (P k × Q k)
    back (inl x) = inl x
    back (inr x) = inr (from k x.0, x.1)

-- what two add in turn to nothing
pub both_added : (P R Q : ℕ → Type 0) (none one two : List ℕ) → none ≡ [] → Adds P Q none one → Adds R Q one two → (k : ℕ) → Contains two k ↔ ((P k ⊎ R k) × Q k)
both_added P R Q none one two empty first second k = (λ h. forth ((second k).0 h), λ h. (second k).1 (back h.0 h.1))
  where
    nothing : Contains none k → ⊥
    nothing h = let here : Contains [] k = subst (λ xs. Contains xs k) empty h in let l = here.1 in omega (arith, l)

    early : Contains none k ⊎ (P k × Q k) → (P k ⊎ R k) × Q k
    early (inl h) = absurd (nothing h)
    early (inr h) = (inl h.0, h.1)

    forth : Contains one k ⊎ (R k × Q k) → (P k ⊎ R k) × Q k
    forth (inl h) = early ((first k).0 h)
    forth (inr h) = (inr h.0, h.1)

    back : P k ⊎ R k → Q k → Contains one k ⊎ (R k × Q k)
    back (inl p) q = inl ((first k).1 (inr (p, q)))
    back (inr r) q = inr (r, q)

-- ---- sources
pub some_same : (x y : ℕ) → Some x ≡ Some y → x ≡ y
some_same x y e = cc

-- one that is among others stands at a place
placed : (s : Source) (xs : List Source) → IsAmong s xs → (j : ℕ) × (slice_get xs j ≡ Some s)
placed s [] h = absurd h
placed s (x ∷ xs) (inl e) = (0, ap Some e)
placed s (x ∷ xs) (inr h) = let r = placed s xs h in (suc r.0, r.1)

-- and what stands at a place is among them
among : (s : Source) (xs : List Source) (j : ℕ) → slice_get xs j ≡ Some s → IsAmong s xs
among s [] j h = absurd cc
among s (x ∷ xs) zero h = let same : x ≡ s = cc in inl same
among s (x ∷ xs) (suc j) h = inr (among s xs j h)

-- a formula leans on what stands behind the sources that it reads
pub is_source : (n : Names) (c : CellInfo) (k : ℕ) → IsThrough (λ s d. cell_behind n s ≡ Some d) c.reads k → LeansOn n c k
is_source n c k h = (h.1, among h.1 c.reads h.0 h.2, h.3)

pub at_source : (n : Names) (c : CellInfo) (k : ℕ) → LeansOn n c k → IsThrough (λ s d. cell_behind n s ≡ Some d) c.reads k
at_source n c k h = let at = placed h.0 c.reads h.1 in (at.0, h.0, at.1, h.2)
