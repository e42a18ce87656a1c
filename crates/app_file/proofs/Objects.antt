-- The objects of an app file: their keys, and their members one by one.
use Rattle.std.proofs.Common.{◌≡◌, ◌⊎◌, inl, inr, ℕ, Bool, true, false, List, [], ◌∷◌, Option, Some, None, refl, ap, sym, ◌∙◌, subst, map, bytes_eq, if◌then◌else◌}
use Rattle.std.specs.Prelude.{◌||◌, not, find, option_map, unwrap_or, string_bytes, String}
use Rattle.std.specs.Str.{chars}
use Rattle.std.specs.declared.alloc.Global.{Global}
use Rattle.serde_json.specs.Data.{Data}
use Rattle.serde_json.specs.Find.{as_object}
use Rattle.serde_json.specs.View.{members_view}
use Rattle.serde_json.specs.declared.value.Value.{Value}
use Rattle.fx_base.specs.declared.or_memory.OrMemory.{OrMemory}
use Rattle.fx_base.specs.declared.or_memory.OrMemory.TheVariants.{Refused, Memory}
use Rattle.fx_types.specs.Words.{scalars_of}
use Rattle.fx_types.specs.declared.controls.Control.{Control}
use Rattle.app_file.specs.declared.keys.Object.TheVariants as object
use Rattle.app_file.specs.declared.leaves.Name.{Name}
use Rattle.app_file.specs.declared.steps.Step.{Step}
use Rattle.app_file.specs.declared.steps.Step.TheVariants.{Member}
use Rattle.app_file.specs.Contents.{words}
use Rattle.app_file.specs.FormOfApp.{app_fields, column_fields, control_fields, property_names, screen_fields, table_fields, texts_at}
use Rattle.app_file.specs.Forms.{HasKey, HasKeyIn, is_key}
use Rattle.app_file.specs.Keys.{is_known_key, keys_of}
use Rattle.app_file.specs.Readings.{HasOnlyKeys, HaveOnlyKeys, IsBadObject, IsUnderStep, TellsPath, none, other}

-- ---- the keys of each
pub keys_of_app : (k : List ℕ) → is_key k app_fields ≡ is_known_key (keys_of object.App) k
keys_of_app k = refl

pub keys_of_table : (k : List ℕ) → is_key k table_fields ≡ is_known_key (keys_of object.Table) k
keys_of_table k = refl

pub keys_of_column : (k : List ℕ) → is_key k column_fields ≡ is_known_key (keys_of object.Column) k
keys_of_column k = refl

pub keys_of_screen : (k : List ℕ) → is_key k screen_fields ≡ is_known_key (keys_of object.Screen) k
keys_of_screen k = refl

pub keys_of_control : (before : List Data) (kind : Option Control) (k : List ℕ) → is_key k (control_fields before kind) ≡ is_known_key (keys_of object.Control) k
keys_of_control before (Some kind) k = refl
keys_of_control before None k = refl

keys_of_texts : (names : List (List ℕ)) (k : List ℕ) → is_key k (texts_at names) ≡ is_known_key names k
keys_of_texts [] k = refl
keys_of_texts (n ∷ ns) k = ap (λ b. bytes_eq k n || b) (keys_of_texts ns k)

pub keys_of_properties : (kind : Control) (k : List ℕ) → is_key k (texts_at (property_names kind)) ≡ is_known_key (keys_of (object.Properties kind)) k
keys_of_properties kind = keys_of_texts (property_names kind)

-- ---- which keys are none of these
abbrev other_in : List (List ℕ) → List ℕ → Bool
other_in keys k = not (is_known_key keys k)

abbrev keys_view : List (String Global × Value) → List (List ℕ)
keys_view ms = map string_bytes (map (λ m. m.0) ms)

-- the first other key, by whether the first one is none of these
abbrev picked : Bool → List ℕ → Option (List ℕ) → Option (List ℕ)
picked b k more = if not b then Some k else more

first_kept : (b : Bool) (k : List ℕ) (more : Option (List ℕ)) → None ≡ picked b k more → (b ≡ true) × (None ≡ more)
first_kept true k more e = (refl, e)
first_kept false k more e = absurd cc

first_found : (b : Bool) (x k : List ℕ) (more : Option (List ℕ)) → Some k ≡ picked b x more → ((x ≡ k) × (b ≡ false)) ⊎ (Some k ≡ more)
first_found true x k more e = inr e
first_found false x k more e = let one : Some k ≡ Some x = e in inl (cc, refl)

pub none_other : (keys : List (List ℕ)) (ms : List (String Global × Value)) → None ≡ find (other_in keys) (keys_view ms) → HaveOnlyKeys keys (members_view ms)
none_other keys [] e = tt
none_other keys (m ∷ ms) e =
    let h = first_kept (is_known_key keys (string_bytes m.0)) (string_bytes m.0) (find (other_in keys) (keys_view ms)) e in
    (h.0, none_other keys ms h.1)

pub some_other : (keys : List (List ℕ)) (ms : List (String Global × Value)) (k : List ℕ) → Some k ≡ find (other_in keys) (keys_view ms)
    → HasKeyIn k (members_view ms) × (is_known_key keys k ≡ false)
some_other keys [] k e = absurd cc
some_other keys (m ∷ ms) k e =
    elim (first_found (is_known_key keys (string_bytes m.0)) (string_bytes m.0) k (find (other_in keys) (keys_view ms)) e) [
      | inl h ↦ (inl h.0, subst (λ x. is_known_key keys x ≡ false) h.0 h.1)
      | inr h ↦ (let more = some_other keys ms k h in (inr more.0, more.1))
    ]

pub told_none : (keys : List (List ℕ)) (d : Data) → None ≡ as_object d → (e : OrMemory (List Step)) → e ≡ Refused [] → TellsPath (IsBadObject keys d) e
told_none keys d n e is = subst (TellsPath (IsBadObject keys d)) (sym is) (none keys d (sym n))

pub told_other : (keys these : List (List ℕ)) (d : Data) (ms : List (String Global × Value)) (k : List ℕ) → these ≡ keys → Some (members_view ms) ≡ as_object d
    → Some k ≡ find (other_in these) (keys_view ms) → (e r : OrMemory (List Step)) → e ≡ Refused [] → IsUnderStep (Member (scalars_of k)) e r → TellsPath (IsBadObject keys d) r
told_other keys these d ms k same is e _ Memory here b = tt
told_other keys these d ms k same is e end (Refused path) here b =
    let found = some_other keys ms k (subst (λ ks. Some k ≡ find (other_in ks) (keys_view ms)) same e) in
    let down : path ≡ Member (scalars_of k) ∷ [] = subst (λ x. IsUnderStep (Member (scalars_of k)) x (Refused path)) here b in
    subst (IsBadObject keys d) (sym down) (other keys d k (subst (HasKey k) is found.0) found.1)

pub only_these : (keys these : List (List ℕ)) (d : Data) (ms : List (String Global × Value)) → these ≡ keys → Some (members_view ms) ≡ as_object d
    → None ≡ find (other_in these) (keys_view ms) → HasOnlyKeys keys (as_object d)
only_these keys these d ms same is e = subst (HasOnlyKeys keys) is (none_other keys ms (subst (λ ks. None ≡ find (other_in ks) (keys_view ms)) same e))

-- ---- names
pub name_held : (o : Option Data) (a : Name) → Some a ≡ option_map (λ d. record { 0 = words d }) o → a.0 ≡ unwrap_or (option_map words o) []
name_held None a e = absurd cc
name_held (Some x) a e = let one : a ≡ record { 0 = words x } = cc in ap (λ (n : Name). n.0) one

pub no_words : scalars_of [] ≡ []
unfolding chars
no_words = refl

-- ---- records of what is held
pub ap2 : {A B Z : Type 0} (f : A → B → Z) {a x : A} {b y : B} → a ≡ x → b ≡ y → f a b ≡ f x y
ap2 f {x = x} {b = b} p q = ap (λ u. f u b) p ∙ ap (f x) q

pub ap3 : {A B C Z : Type 0} (f : A → B → C → Z) {a x : A} {b y : B} {c z : C} → a ≡ x → b ≡ y → c ≡ z → f a b c ≡ f x y z
ap3 f {x = x} {b = b} {c = c} p q r = ap (λ u. f u b c) p ∙ ap2 (f x) q r

pub ap4 : {A B C D Z : Type 0} (f : A → B → C → D → Z) {a x : A} {b y : B} {c z : C} {d w : D} → a ≡ x → b ≡ y → c ≡ z → d ≡ w → f a b c d ≡ f x y z w
ap4 f {x = x} {b = b} {c = c} {d = d} p q r s = ap (λ u. f u b c d) p ∙ ap3 (f x) q r s

pub ap5 : {A B C D E Z : Type 0} (f : A → B → C → D → E → Z) {a x : A} {b y : B} {c z : C} {d w : D} {e v : E} → a ≡ x → b ≡ y → c ≡ z → d ≡ w → e ≡ v → f a b c d e ≡ f x y z w v
ap5 f {x = x} {b = b} {c = c} {d = d} {e = e} p q r s t = ap (λ u. f u b c d e) p ∙ ap4 (f x) q r s t
