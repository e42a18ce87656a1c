-- The properties of a control, one by one.
use Rattle.std.proofs.Common.{◌≡◌, ℕ, zero, suc, ◌<◌, ◌≤◌, List, [], ◌∷◌, ◌++◌, false, get_or, length, map, drop, ap, sym, ◌∙◌, subst, arith}
use Rattle.std.proofs.lemmas.List.{append-nil, drop_all, get_or-map, length-map}
use Rattle.std.specs.List.{filter_map}
use Rattle.serde_json.specs.Data.{Data}
use Rattle.serde_json.specs.Find.{get}
use Rattle.app_file.specs.declared.file.PropertyText.{PropertyText}
use Rattle.app_file.specs.Contents.{property}
use Rattle.app_file.specs.FormOfApp.{text, texts_at}
use Rattle.app_file.specs.Forms.{IsField, first, later}
use Rattle.app_file.specs.Readings.{IsFineMember}
use Rattle.app_file.proofs.Fine.{AreFields}

-- the members of these keys are texts, where they stand
abbrev pub AreTexts : Data → List (List ℕ) → Type 0
AreTexts d [] = Unit {0}
AreTexts d (k ∷ ks) = IsFineMember false text (get k d) × AreTexts d ks

pub are_fields : (d : Data) (keys : List (List ℕ)) → AreTexts d keys → AreFields (texts_at keys) d
are_fields d [] h = tt
are_fields d (k ∷ ks) h = (h.0, are_fields d ks h.1)

text_field : (keys : List (List ℕ)) (i : ℕ) (k : List ℕ) → i < length keys → k ≡ get_or keys i k → IsField false k text (texts_at keys)
text_field [] i k l e = absurd (omega (arith, l))
text_field (x ∷ xs) zero k l e = subst (λ y. IsField false k text (texts_at (y ∷ xs))) e first
text_field (x ∷ xs) (suc i) k l e = later (text_field xs i k (omega (arith, l)) e)

-- the key at a place is that of a text
pub field_at : {X : Type 0} (now : X → List ℕ) (xs : List X) (i : ℕ) (x : X) → i < length xs → (keys : List (List ℕ)) → map now xs ≡ keys → IsField false (now (get_or xs i x)) text (texts_at keys)
field_at now xs i x l keys e =
    subst (λ ks. IsField false (now (get_or xs i x)) text (texts_at ks)) e
    (text_field (map now xs) i (now (get_or xs i x)) (let m = length-map xs now in omega (arith, m, l)) (sym (get_or-map now xs i x (now (get_or xs i x)) l)))

-- behind the last key nothing is left
pub all_texts : {X : Type 0} (now : X → List ℕ) (d : Data) (xs : List X) (i : ℕ) (keys : List (List ℕ)) → length xs ≤ i → map now xs ≡ keys
    → (AreTexts d (map now (drop i xs)) → AreTexts d (map now xs)) → AreFields (texts_at keys) d
all_texts now d xs i keys l e kept = are_fields d keys (subst (AreTexts d) e (kept (subst (λ ys. AreTexts d (map now ys)) (sym (drop_all i xs l)) tt)))

pub all_properties : {X : Type 0} (now : X → List ℕ) (d : Data) (xs : List X) (i : ℕ) (keys : List (List ℕ)) (ps : List PropertyText) → length xs ≤ i → map now xs ≡ keys
    → ps ++ filter_map (property d) (map now (drop i xs)) ≡ filter_map (property d) (map now xs) → ps ≡ filter_map (property d) keys
all_properties now d xs i keys ps l e kept =
    sym (append-nil ps) ∙ ap (λ ys. ps ++ filter_map (property d) (map now ys)) (sym (drop_all i xs l)) ∙ kept ∙ ap (filter_map (property d)) e
