-- Forms of JSON, and the parts of data that aren't as a form wants them. Keys are given by their
-- bytes.
use Rattle.std.specs.Prelude.{◌≡◌, ◌⊎◌, ℕ, List, [], ◌∷◌, Bool, true, false, ◌||◌, Option, Some}
use Rattle.std.specs.Prelude.{None, option_map, is_some, bytes_eq, slice_get, take}
use Rattle.serde_json.specs.Data.{Data, Items, no_items, item, Members, no_members, member}
use Rattle.serde_json.specs.Find.{as_array, as_object, get}
use Rattle.fx_types.specs.Words.{scalars_of}
use Rattle.app_file.specs.declared.steps.Step.{Step}
use Rattle.app_file.specs.declared.steps.Step.TheVariants.{Element, Member}

mutual
  -- What data has to be: such that this holds; a list, each element of which has the form that
  -- those before it ask for; an object with these members and no others; or what the data itself
  -- asks for.
  pub data Form : Type 0 where
    such : (Data → Bool) → Form
    in_turn : (List Data → Form) → Form
    members : Fields → Form
    by_itself : (Data → Form) → Form

  -- the members of an object: whether one must stand, its key and its form
  pub data Fields : Type 0 where
    no_more : Fields
    field : Bool → List ℕ → Form → Fields → Fields

-- this is one of the members
pub data IsField : Bool → List ℕ → Form → Fields → Type 0 where
  first : {needed : Bool} {key : List ℕ} {f : Form} {fs : Fields}
      → IsField needed key f (field needed key f fs)
  later : {needed : Bool} {key : List ℕ} {f : Form} {fs : Fields} {other : Bool} {k : List ℕ}
      {g : Form} → IsField needed key f fs
      → IsField needed key f (field other k g fs)

-- one of the members has this key
abbrev pub is_key : List ℕ → Fields → Bool
is_key k no_more = false
is_key k (field needed key f fs) = bytes_eq k key || is_key k fs

-- the elements of a list
abbrev pub elements_of : Items → List Data
elements_of no_items = []
elements_of (item d ds) = d ∷ elements_of ds

abbrev pub elements : Data → Option (List Data)
elements d = option_map elements_of (as_array d)

-- an object has this key
abbrev pub HasKeyIn : List ℕ → Members → Type 0
HasKeyIn key no_members = ⊥
HasKeyIn key (member k d ms) = (k ≡ key) ⊎ HasKeyIn key ms

abbrev pub HasKey : List ℕ → Option Members → Type 0
HasKey key None = ⊥
HasKey key (Some ms) = HasKeyIn key ms

-- THE PARTS THAT BREAK A FORM: in data that is to have this form, the part that lies down these
-- steps does.
pub data BreaksForm : Form → Data → List Step → Type 0 where
  not_such : (p : Data → Bool) (d : Data) → p d ≡ false → BreaksForm (such p) d []
  no_list : (f : List Data → Form) (d : Data) → as_array d ≡ None → BreaksForm (in_turn f) d []
  bad_element : (f : List Data → Form) (d x : Data) (ds : List Data) (k : ℕ) (path : List Step)
      → elements d ≡ Some ds → slice_get ds k ≡ Some x
      → BreaksForm (f (take k ds)) x path → BreaksForm (in_turn f) d (Element k ∷ path)
  no_object : (fs : Fields) (d : Data) → as_object d ≡ None → BreaksForm (members fs) d []
  other_member : (fs : Fields) (d : Data) (key : List ℕ) → HasKey key (as_object d)
      → is_key key fs ≡ false → BreaksForm (members fs) d (Member (scalars_of key) ∷ [])
  no_member : (fs : Fields) (d : Data) (key : List ℕ) (f : Form) → is_some (as_object d) ≡ true
      → IsField true key f fs → get key d ≡ None
      → BreaksForm (members fs) d (Member (scalars_of key) ∷ [])
  bad_member : (fs : Fields) (d x : Data) (needed : Bool) (key : List ℕ) (f : Form)
      (path : List Step) → IsField needed key f fs → get key d ≡ Some x
      → BreaksForm f x path → BreaksForm (members fs) d (Member (scalars_of key) ∷ path)
  bad_by_itself : (f : Data → Form) (d : Data) (path : List Step) → BreaksForm (f d) d path
      → BreaksForm (by_itself f) d path

-- data has the form: no part breaks it
abbrev pub IsFine : Form → Data → Type 0
IsFine f d = (path : List Step) → BreaksForm f d path → ⊥
