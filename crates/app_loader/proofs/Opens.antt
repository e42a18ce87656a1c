-- An app file has a screen.
use Rattle.std.proofs.Common.{◌≡◌, ℕ, ◌<◌, List, [], ◌∷◌, true, false, codes, length, Option, Some, None, Result, Ok, refl, subst, arith}
use Rattle.std.specs.Prelude.{option_map, unwrap_or}
use Rattle.serde_json.specs.Data.{Data, Items}
use Rattle.serde_json.specs.Find.{as_array}
use Rattle.app_file.specs.declared.breaks.FileBreak.{FileBreak}
use Rattle.app_file.specs.declared.file.AppFile.{AppFile}
use Rattle.app_file.specs.declared.file.ScreenShape.{ScreenShape}
use Rattle.app_file.specs.Contents.{all_elements, all_behind, app_of, member_at, screen}
use Rattle.app_file.specs.Files.{IsRead, IsReadOf, app, bad_part, json, no_json, passed, too_long}
use Rattle.app_file.specs.FormOfApp.{app_fields, app_form, is_empty_list, screens_form, screens_form_of}
use Rattle.app_file.specs.Forms.{IsFine, elements, first, later, elements_of, no_list, not_such}
use Rattle.app_texts.proofs.Held.{itself_fine, must_hold}

abbrev HasSome : List ScreenShape → Type 0
HasSome ss = 0 < length ss

-- data that is no list has no elements
no_array : (o : Option Items) → option_map elements_of o ≡ None → o ≡ None
no_array None e = refl
no_array (Some ds) e = absurd cc

-- screens that are of their form are some
some_screens : (d : Data) → IsFine screens_form d → HasSome (all_elements screen d)
some_screens d fine = by (elements d) refl
  where
    here : IsFine (screens_form_of (is_empty_list (elements d))) d
    here = itself_fine (λ x. screens_form_of (is_empty_list (elements x))) d fine

    by : (o : Option (List Data)) → elements d ≡ o → HasSome (all_behind screen [] (unwrap_or o []))
    by None e =
        let list : IsFine (screens_form_of false) d = subst (λ (o : Option (List Data)). IsFine (screens_form_of (is_empty_list o)) d) e here in
        absurd (list [] (no_list _ d (no_array (as_array d) e)))
    by (Some []) e =
        let never : IsFine (screens_form_of true) d = subst (λ (o : Option (List Data)). IsFine (screens_form_of (is_empty_list o)) d) e here in
        absurd (never [] (not_such (λ x. false) d refl))
    by (Some (x ∷ xs)) e = omega arith

file_screens : (d : Data) → IsFine app_form d → HasSome (member_at (all_elements screen) (codes "screens") [] d)
file_screens d fine = must_hold app_fields d (codes "screens") screens_form (all_elements screen) [] HasSome fine (later (later (later (later (later first))))) some_screens

root_opens : (root : Data) (v : Result AppFile FileBreak) (a : AppFile) → v ≡ Ok a → IsReadOf root v → HasSome a.screens
root_opens root _ a e (bad_part _ path bad) = absurd cc
root_opens root _ a e (passed _ l n fine f) = absurd cc
root_opens root _ a e (app _ fine f) = let same : app_of root ≡ a = cc in subst (λ (z : AppFile). HasSome z.screens) same (file_screens root fine)

file_opens : (file : List ℕ) (v : Result AppFile FileBreak) (a : AppFile) → v ≡ Ok a → IsRead file v → HasSome a.screens
file_opens file _ a e (too_long _ l) = absurd cc
file_opens file _ a e (no_json _ l h) = absurd cc
file_opens file v a e (json _ root _ h r) = root_opens root v a e r

pub read_opens : (file : List ℕ) (a : AppFile) → IsRead file (Ok a) → 0 < length a.screens
read_opens file a r = file_opens file (Ok a) a refl r

pub value_opens : (root : Data) (a : AppFile) → IsReadOf root (Ok a) → 0 < length a.screens
value_opens root a r = root_opens root (Ok a) a refl r
