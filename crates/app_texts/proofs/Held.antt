-- What holds of what a part of a file holds, where the part is of its form.
use Rattle.std.proofs.Common.{◌≡◌, ℕ, zero, suc, ◌+◌, ◌<◌, ◌≤◌, Bool, true, false, List, [], ◌∷◌, ◌++◌, Option, Some, None, IfSome, take, refl, ap, sym, ◌∙◌, subst, arith, All, append_assoc}
use Rattle.std.specs.Prelude.{is_some, option_map, option_and_then, slice_get, unwrap_or}
use Rattle.std.proofs.lemmas.List.{append-nil}
use Rattle.std.proofs.lemmas.List.Elements.{All-nil, All-cons}
use Rattle.serde_json.specs.Data.{Data}
use Rattle.serde_json.specs.Find.{as_object, get}
use Rattle.app_file.specs.declared.steps.Step.{Step}
use Rattle.app_file.specs.declared.steps.Step.TheVariants.{Element, Member}
use Rattle.fx_types.specs.Words.{scalars_of}
use Rattle.app_file.specs.Contents.{all_elements, all_behind, member_at}
use Rattle.app_file.specs.FormOfApp.{leaf}
use Rattle.app_file.specs.Forms.{Form, such, in_turn, members, by_itself, Fields, IsField, BreaksForm, IsFine, elements, bad_by_itself, bad_element, bad_member, no_member, no_object, not_such}

-- a member that stands has its form
pub member_fine : (fs : Fields) (d x : Data) (needed : Bool) (key : List ℕ) (f : Form) → IsFine (members fs) d → IsField needed key f fs → get key d ≡ Some x → IsFine f x
member_fine fs d x needed key f fine i e path bad = fine (Member (scalars_of key) ∷ path) (bad_member fs d x needed key f path i e bad)

pub itself_fine : (f : Data → Form) (d : Data) → IsFine (by_itself f) d → IsFine (f d) d
itself_fine f d fine path bad = fine path (bad_by_itself f d path bad)

-- what a list holds, where this holds of what each element holds
abbrev pub HoldOf : {A : Type 0} → (List Data → Data → A) → (A → Type 0) → List Data → List Data → Type 0
HoldOf h P before ds = (k : ℕ) (x : Data) → slice_get ds k ≡ Some x → P (h (before ++ take k ds) x)

pub all_hold : {A : Type 0} (h : List Data → Data → A) (P : A → Type 0) (before ds : List Data) → HoldOf h P before ds → All P (all_behind h before ds)
all_hold h P before [] f = All-nil P
all_hold h P before (d ∷ ds) f =
    All-cons P (h before d) (all_behind h (before ++ d ∷ []) ds) (subst (λ b. P (h b d)) (append-nil before) (f 0 d refl))
    (all_hold h P (before ++ d ∷ []) ds (λ k x e. subst (λ b. P (h b x)) (sym (append_assoc before (d ∷ []) (take k ds))) (f (suc k) x e)))

pub element_fine : (f : List Data → Form) (d x : Data) (ds : List Data) (k : ℕ) → IsFine (in_turn f) d → elements d ≡ Some ds → slice_get ds k ≡ Some x → IsFine (f (take k ds)) x
element_fine f d x ds k fine is e path bad = fine (Element k ∷ path) (bad_element f d x ds k path is e bad)

pub list_holds : {A : Type 0} (f : List Data → Form) (h : List Data → Data → A) (P : A → Type 0) (d : Data) → IsFine (in_turn f) d
    → ((before : List Data) (x : Data) → IsFine (f before) x → P (h before x)) → All P (all_elements h d)
list_holds f h P d fine each = go (elements d) refl
  where
    go : (o : Option (List Data)) → elements d ≡ o → All P (all_behind h [] (unwrap_or o []))
    go None e = All-nil P
    go (Some ds) e = all_hold h P [] ds (λ k x is. each (take k ds) x (element_fine f d x ds k fine e is))

-- what a member holds that is a list
pub at_holds : {A : Type 0} (fs : Fields) (d : Data) (needed : Bool) (key : List ℕ) (f : Form) (h : Data → List A) (P : List A → Type 0) → P [] → IsFine (members fs) d → IsField needed key f fs
    → ((x : Data) → IsFine f x → P (h x)) → P (member_at h key [] d)
at_holds fs d needed key f h P none fine i each = go (get key d) refl
  where
    go : (o : Option Data) → get key d ≡ o → P (unwrap_or (option_map h o) [])
    go None e = none
    go (Some x) e = each x (member_fine fs d x needed key f fine i e)

-- a member that must stand
some_object : (fs : Fields) (d : Data) → IsFine (members fs) d → is_some (as_object d) ≡ true
some_object fs d fine = go (as_object d) refl
  where
    go : (o : Option _) → as_object d ≡ o → is_some o ≡ true
    go None e = absurd (fine [] (no_object fs d e))
    go (Some ms) e = refl

pub must_hold : {A : Type 0} (fs : Fields) (d : Data) (key : List ℕ) (f : Form) (h : Data → A) (default : A) (P : A → Type 0) → IsFine (members fs) d → IsField true key f fs
    → ((x : Data) → IsFine f x → P (h x)) → P (member_at h key default d)
must_hold fs d key f h default P fine i each = go (get key d) refl
  where
    go : (o : Option Data) → get key d ≡ o → P (unwrap_or (option_map h o) default)
    go None e = absurd (fine (Member (scalars_of key) ∷ []) (no_member fs d key f (some_object fs d fine) i e))
    go (Some x) e = each x (member_fine fs d x true key f fine i e)

-- what is told of fine data
pub leaf_told : {A : Type 0} (f : Data → Option A) (d : Data) (P : A → Type 0) (default : A) → IsFine (leaf f) d → IfSome (f d) P → P (unwrap_or (f d) default)
leaf_told f d P default fine h = go (f d) refl h
  where
    go : (o : Option _) → f d ≡ o → IfSome o P → P (unwrap_or o default)
    go None e k = absurd (fine [] (not_such (λ x. is_some (f x)) d (ap is_some e)))
    go (Some a) e k = k
