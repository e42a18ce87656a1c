-- What reading a part of a file tells.
use Rattle.std.specs.Prelude.{◌≡◌, ℕ, List, [], ◌∷◌, Bool, true, false, Option, Some, None, is_some}
use Rattle.std.specs.Prelude.{slice_get, take}
use Rattle.serde_json.specs.Data.{Data, Members, no_members, member}
use Rattle.serde_json.specs.Find.{as_object, get}
use Rattle.fx_base.specs.declared.or_memory.OrMemory.{OrMemory}
use Rattle.fx_base.specs.declared.or_memory.OrMemory.TheVariants as end
use Rattle.fx_types.specs.Words.{scalars_of}
use Rattle.app_file.specs.declared.steps.Step.{Step}
use Rattle.app_file.specs.declared.steps.Step.TheVariants.{Element, Member}
use Rattle.app_file.specs.Forms.{Form, HasKey, BreaksForm, IsFine}
use Rattle.app_file.specs.Keys.{is_known_key}

-- an end tells of the way to a part of which this holds; of want of memory nothing is said
abbrev pub TellsPath : (List Step → Type 0) → OrMemory (List Step) → Type 0
TellsPath P (end.Refused path) = P path
TellsPath P end.Memory = Unit {0}

-- the end of a part below a step, told from above it
abbrev pub IsUnderStep : Step → OrMemory (List Step) → OrMemory (List Step) → Type 0
IsUnderStep s e end.Memory = Unit {0}
IsUnderStep s (end.Refused path) (end.Refused down) = down ≡ s ∷ path
IsUnderStep s end.Memory (end.Refused down) = ⊥

-- a member of an object is as it has to be: it has its form, or is missing and may be
abbrev pub IsFineMember : Bool → Form → Option Data → Type 0
IsFineMember needed f None = needed ≡ false
IsFineMember needed f (Some x) = IsFine f x

-- a part of an object breaks the form of this member
pub data IsBadMember : Bool → List ℕ → Form → Data → List Step → Type 0 where
  missing : (key : List ℕ) (f : Form) (d : Data) → is_some (as_object d) ≡ true → get key d ≡ None
      → IsBadMember true key f d (Member (scalars_of key) ∷ [])
  below : (needed : Bool) (key : List ℕ) (f : Form) (d x : Data) (path : List Step)
      → get key d ≡ Some x → BreaksForm f x path
      → IsBadMember needed key f d (Member (scalars_of key) ∷ path)

-- data is an object with no other keys than such a one's
abbrev pub HaveOnlyKeys : List (List ℕ) → Members → Type 0
HaveOnlyKeys keys no_members = Unit {0}
HaveOnlyKeys keys (member k d ms) = (is_known_key keys k ≡ true) × HaveOnlyKeys keys ms

abbrev pub HasOnlyKeys : List (List ℕ) → Option Members → Type 0
HasOnlyKeys keys None = ⊥
HasOnlyKeys keys (Some ms) = HaveOnlyKeys keys ms

-- data is no object, or has another key
pub data IsBadObject : List (List ℕ) → Data → List Step → Type 0 where
  none : (keys : List (List ℕ)) (d : Data) → as_object d ≡ None → IsBadObject keys d []
  other : (keys : List (List ℕ)) (d : Data) (key : List ℕ) → HasKey key (as_object d)
      → is_known_key keys key ≡ false → IsBadObject keys d (Member (scalars_of key) ∷ [])

-- each of these elements has the form that those before it ask for
abbrev pub AreWellFormed : (List Data → Form) → List Data → Type 0
AreWellFormed f ds = (k : ℕ) (x : Data) → slice_get ds k ≡ Some x → IsFine (f (take k ds)) x

-- a part of one of these elements breaks that form
pub data IsBadAmong : (List Data → Form) → List Data → List Step → Type 0 where
  at : (f : List Data → Form) (ds : List Data) (k : ℕ) (x : Data) (path : List Step)
      → slice_get ds k ≡ Some x → BreaksForm (f (take k ds)) x path
      → IsBadAmong f ds (Element k ∷ path)
