-- Which parts are fine and which are bad, form by form.
use Rattle.std.proofs.Common.{◌≡◌, inl, inr, ℕ, Bool, true, false, List, [], ◌∷◌, Option, Some, None, ap, sym, ◌∙◌, subst}
use Rattle.std.specs.Prelude.{is_some, option_map, unwrap_or}
use Rattle.serde_json.specs.Data.{Data, Members, no_members, member}
use Rattle.serde_json.specs.Find.{as_object, get}
use Rattle.fx_base.specs.declared.or_memory.OrMemory.{OrMemory}
use Rattle.fx_base.specs.declared.or_memory.OrMemory.TheVariants.{Refused, Memory}
use Rattle.fx_types.specs.Words.{scalars_of}
use Rattle.app_file.specs.declared.steps.Step.{Step}
use Rattle.app_file.specs.declared.steps.Step.TheVariants.{Member}
use Rattle.app_file.specs.Contents.{member_at}
use Rattle.app_file.specs.FormOfApp.{leaf}
use Rattle.app_file.specs.Forms.{Form, members, by_itself, Fields, no_more, field, IsField, first, later, is_key, HasKey, HasKeyIn, BreaksForm, IsFine, not_such, no_object, other_member, no_member, bad_member, bad_by_itself}
use Rattle.app_file.specs.Keys.{is_known_key}
use Rattle.app_file.specs.Readings.{HasOnlyKeys, HaveOnlyKeys, IsBadMember, missing, below, IsBadObject, none, other, IsUnderStep, IsFineMember, TellsPath}

-- what holds of a way holds of what is told
pub tells_weaker : (P Q : List Step → Type 0) → ((path : List Step) → P path → Q path) → (e : OrMemory (List Step)) → TellsPath P e → TellsPath Q e
tells_weaker P Q f (Refused path) h = f path h
tells_weaker P Q f Memory h = tt

pub bad_leaf : {A : Type 0} (f : Data → Option A) (d : Data) → None ≡ f d → BreaksForm (leaf f) d []
bad_leaf f d e = not_such (λ x. is_some (f x)) d (ap is_some (sym e))

pub told_leaf : {A : Type 0} (f : Data → Option A) (d : Data) → None ≡ f d → (e : OrMemory (List Step)) → e ≡ Refused [] → TellsPath (BreaksForm (leaf f) d) e
told_leaf f d n e is = subst (TellsPath (BreaksForm (leaf f) d)) (sym is) (bad_leaf f d n)

pub at_held : {A : Type 0} (h : Data → A) (key : List ℕ) (d : Data) (a default : A) → Some a ≡ option_map h (get key d) → a ≡ member_at h key default d
at_held h key d a default e = ap (λ o. unwrap_or o default) e

-- what is told of a member that is bad
pub bad_below : (needed : Bool) (key : List ℕ) (f : Form) (d x : Data) → Some x ≡ get key d → (e r : OrMemory (List Step)) → TellsPath (BreaksForm f x) e
    → IsUnderStep (Member (scalars_of key)) e r → TellsPath (IsBadMember needed key f d) r
bad_below needed key f d x is e Memory h b = tt
bad_below needed key f d x is (Refused path) (Refused down) h b = subst (IsBadMember needed key f d) (sym b) (below needed key f d x path (sym is) h)
bad_below needed key f d x is Memory (Refused down) h b = absurd b

pub bad_here : (needed : Bool) (key : List ℕ) (f : Form) (d x : Data) → Some x ≡ get key d → BreaksForm f x [] → (r : OrMemory (List Step))
    → TellsPath (λ path. path ≡ Member (scalars_of key) ∷ []) r → TellsPath (IsBadMember needed key f d) r
bad_here needed key f d x is bad (Refused path) h = subst (IsBadMember needed key f d) (sym h) (below needed key f d x [] (sym is) bad)
bad_here needed key f d x is bad Memory h = tt

pub bad_missing : (key : List ℕ) (f : Form) (d : Data) → is_some (as_object d) ≡ true → None ≡ get key d → (r : OrMemory (List Step))
    → TellsPath (λ path. path ≡ Member (scalars_of key) ∷ []) r → TellsPath (IsBadMember true key f d) r
bad_missing key f d object is (Refused path) h = subst (IsBadMember true key f d) (sym h) (missing key f d object (sym is))
bad_missing key f d object is Memory h = tt

-- each member is as it has to be
abbrev pub AreFields : Fields → Data → Type 0
AreFields no_more d = Unit {0}
AreFields (field needed key f fs) d = IsFineMember needed f (get key d) × AreFields fs d

fine_field : (fs : Fields) (d : Data) (needed : Bool) (key : List ℕ) (f : Form) → AreFields fs d → IsField needed key f fs → IsFineMember needed f (get key d)
fine_field no_more d needed key f h i = elim i [ ]
fine_field (field _ _ _ fs) d needed key f h first = h.0
fine_field (field _ _ _ fs) d needed key f h (later i) = fine_field fs d needed key f h.1 i

only_key : (keys : List (List ℕ)) (ms : Members) (k : List ℕ) → HaveOnlyKeys keys ms → HasKeyIn k ms → is_known_key keys k ≡ true
only_key keys no_members k h i = elim i [ ]
only_key keys (member l d ms) k h (inl e) = subst (λ x. is_known_key keys x ≡ true) e h.0
only_key keys (member l d ms) k h (inr i) = only_key keys ms k h.1 i

only_here : (keys : List (List ℕ)) (o : Option Members) (k : List ℕ) → HasOnlyKeys keys o → HasKey k o → is_known_key keys k ≡ true
only_here keys (Some ms) k h i = only_key keys ms k h i
only_here keys None k h i = absurd h

-- an object that has its keys alone, and each member as it has to be, is fine
pub fine_members : (keys : List (List ℕ)) (fs : Fields) (d : Data) → ((k : List ℕ) → is_key k fs ≡ is_known_key keys k) → HasOnlyKeys keys (as_object d) → AreFields fs d
    → IsFine (members fs) d
fine_members keys fs d same only h path (no_object _ _ e) = subst (HasOnlyKeys keys) e only
fine_members keys fs d same only h path (other_member _ _ k has e) =
    let f : true ≡ false = sym (only_here keys (as_object d) k only has) ∙ sym (same k) ∙ e in cc
fine_members keys fs d same only h path (no_member _ _ k f object i e) =
    let g : true ≡ false = subst (IsFineMember true f) e (fine_field fs d true k f h i) in cc
fine_members keys fs d same only h path (bad_member _ _ x needed k f down i e bad) =
    subst (IsFineMember needed f) e (fine_field fs d needed k f h i) down bad

-- what is told of an object with another key, or of no object
pub bad_object : (keys : List (List ℕ)) (fs : Fields) (d : Data) → ((k : List ℕ) → is_key k fs ≡ is_known_key keys k) → (path : List Step) → IsBadObject keys d path
    → BreaksForm (members fs) d path
bad_object keys fs d same path (none _ _ e) = no_object fs d e
bad_object keys fs d same path (other _ _ k has e) = other_member fs d k has (same k ∙ e)

-- what is told of a member of an object
pub bad_field : (fs : Fields) (d : Data) (needed : Bool) (key : List ℕ) (f : Form) → IsField needed key f fs → (path : List Step) → IsBadMember needed key f d path
    → BreaksForm (members fs) d path
bad_field fs d needed key f i path (missing _ _ _ object e) = no_member fs d key f object i e
bad_field fs d needed key f i path (below _ _ _ _ x down e bad) = bad_member fs d x needed key f down i e bad

-- what asks for a form by itself
pub fine_by_itself : (f : Data → Form) (d : Data) → IsFine (f d) d → IsFine (by_itself f) d
fine_by_itself f d h path (bad_by_itself _ _ _ bad) = h path bad

pub told_object : (keys : List (List ℕ)) (fs : Fields) (d : Data) → ((k : List ℕ) → is_key k fs ≡ is_known_key keys k) → (e : OrMemory (List Step))
    → TellsPath (IsBadObject keys d) e → TellsPath (BreaksForm (members fs) d) e
told_object keys fs d same = tells_weaker (IsBadObject keys d) (BreaksForm (members fs) d) (bad_object keys fs d same)

pub told_field : (fs : Fields) (d : Data) (needed : Bool) (key : List ℕ) (f : Form) → IsField needed key f fs → (e : OrMemory (List Step))
    → TellsPath (IsBadMember needed key f d) e → TellsPath (BreaksForm (members fs) d) e
told_field fs d needed key f i = tells_weaker (IsBadMember needed key f d) (BreaksForm (members fs) d) (bad_field fs d needed key f i)

pub told_by_itself : (f : Data → Form) (d : Data) (e : OrMemory (List Step)) → TellsPath (BreaksForm (f d) d) e → TellsPath (BreaksForm (by_itself f) d) e
told_by_itself f d = tells_weaker (BreaksForm (f d) d) (BreaksForm (by_itself f) d) (bad_by_itself f d)
