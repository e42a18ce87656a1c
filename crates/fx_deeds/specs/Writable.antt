-- What a performing may have written, whole or cut off.
use Rattle.std.specs.Prelude.{List, [], ◌∷◌}
use Rattle.fx_core.specs.declared.deeds.Deed.{Deed}
use Rattle.fx_core.specs.declared.deeds.Deed.TheVariants as deed
use Rattle.fx_core.specs.declared.sources.Source.{Source}
use Rattle.fx_core.specs.declared.sources.Source.TheVariants as source
use Rattle.fx_typing.specs.WellTyped.{target_source}
use Rattle.fx_deeds.specs.State.{WorldState}
use Rattle.fx_deeds.specs.Within.{IsAmong, Written}

-- the sources that a deed names to be written; a screen and a notice are none
abbrev pub writable : Deed → List Source
writable (deed.Set k) = source.Global k ∷ []
writable (deed.UpdateContext ks) = ks
writable (deed.Collect k) = source.Gathered k ∷ []
writable (deed.Clear k) = source.Gathered k ∷ []
writable (deed.ClearCollect k) = source.Gathered k ∷ []
writable (deed.Patch p) = target_source p ∷ []
writable (deed.Remove p) = target_source p ∷ []
writable (deed.RemoveIf p) = target_source p ∷ []
writable (deed.UpdateIf p) = target_source p ∷ []
writable (deed.Navigate k) = []
writable deed.Notify = []
writable (deed.Reset k) = source.Input k ∷ []

-- a source is one of these
abbrev pub IsOneOf : List Source → Source → Type 0
IsOneOf ws x = IsAmong x ws

-- a deed may write this source
abbrev pub DeedMayWrite : Deed → Source → Type 0
DeedMayWrite d = IsOneOf (writable d)

-- what was written on the way, source after source, is of these alone
pub record WritesOnly {A : Type 0} (P : Source → Type 0) (s t : WorldState A) : Type 0 where
  pub more : List Source
  pub wrote : Written s t more
  pub allowed : (x : Source) → IsAmong x more → P x
