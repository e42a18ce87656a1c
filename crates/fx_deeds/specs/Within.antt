-- What a performing, whole or cut off, leaves as it was: all that it didn't write.
use Rattle.std.specs.Prelude.{◌≡◌, ◌⊎◌, ℕ, ◌++◌, List, [], ◌∷◌, slice_get}
use Rattle.fx_core.specs.declared.sources.Source.{Source}
use Rattle.fx_core.specs.declared.sources.Source.TheVariants as source
use Rattle.fx_deeds.specs.State.{WorldState}

-- the source is one of these
abbrev pub IsAmong : Source → List Source → Type 0
IsAmong x [] = ⊥
IsAmong x (y ∷ ys) = (y ≡ x) ⊎ IsAmong x ys

-- the two agree but in these sources, in the screen and in the notices. A variable has one number,
-- whether it is global or a screen's.
pub record SameBut {A : Type 0} (ws : List Source) (s t : WorldState A) : Type 0 where
  pub app : t.app ≡ s.app
  pub kept : t.tables.kept ≡ s.tables.kept
  pub tables : (k : ℕ) → (IsAmong (source.Table k) ws → ⊥)
      → slice_get t.tables.states k ≡ slice_get s.tables.states k
  pub variables : (k : ℕ) → (IsAmong (source.Global k) ws → ⊥) → (IsAmong (source.Context k) ws → ⊥)
      →
      slice_get t.session.variables k ≡ slice_get s.session.variables k
  pub collections : (k : ℕ) → (IsAmong (source.Gathered k) ws → ⊥)
      → slice_get t.session.collections k ≡ slice_get s.session.collections k
  pub inputs : (k : ℕ) → (IsAmong (source.Input k) ws → ⊥)
      → slice_get t.session.inputs k ≡ slice_get s.session.inputs k
  pub chosen : (k : ℕ) → (IsAmong (source.Chosen k) ws → ⊥)
      → slice_get t.session.chosen k ≡ slice_get s.session.chosen k
  pub accepted : t.session.kept ≡ s.session.kept
  pub room : t.session.room ≡ s.session.room

-- these sources were written, one after another
abbrev pub Written : {A : Type 0} → WorldState A → WorldState A → List Source → Type 0
Written s t ws = t.wrote ≡ s.wrote ++ ws

-- so much more was written, and nothing else has changed
pub record Within {A : Type 0} (s t : WorldState A) : Type 0 where
  pub more : List Source
  pub wrote : Written s t more
  pub same : SameBut more s t
