-- A file is read in one way.
use Rattle.std.proofs.Common.{◌≡◌, inl, inr, ℕ, ◌⊎◌, List, Some, None, Result, Ok, Err, refl, ap, sym, ◌∙◌, subst, arith}
use Rattle.serde_json.specs.Data.{Data}
use Rattle.app_file.specs.declared.breaks.FileBreak.{FileBreak}
use Rattle.app_file.specs.declared.breaks.FileBreak.TheVariants as broken
use Rattle.app_file.specs.declared.file.AppFile.{AppFile}
use Rattle.app_file.specs.declared.limits.Limit.{Limit}
use Rattle.app_file.specs.Files.{HasJson, IsBadPart, IsOneBreak, IsOneReading, IsRead, IsReadOf, too_long, no_json, json, bad_part, passed, app}

-- a file is one JSON
one_root : (file : List ℕ) (root other : Data) → HasJson file root → HasJson file other → root ≡ other
one_root file root other h k = let e : Some root ≡ Some other = sym h.json ∙ k.json in cc

no_some : {A : Type 0} (a : A) → Some a ≡ None → ⊥
no_some a e = cc

-- what is read of one JSON
abbrev AreOne : Result AppFile FileBreak → Result AppFile FileBreak → Type 0
AreOne (Ok a) (Ok b) = b ≡ a
AreOne (Ok a) (Err c) = ⊥
AreOne (Err b) (Ok a) = ⊥
AreOne (Err b) (Err c) = (b ≡ c) ⊎ (IsBadPart b × IsBadPart c)

one_root_read : (root : Data) (v w : Result AppFile FileBreak) → IsReadOf root v → IsReadOf root w → AreOne v w
one_root_read root _ _ (bad_part _ path bad) (bad_part _ down other) = inr (tt, tt)
one_root_read root _ _ (bad_part _ path bad) (passed _ l n fine e) = absurd (fine path bad)
one_root_read root _ _ (bad_part _ path bad) (app _ fine e) = absurd (fine path bad)
one_root_read root _ _ (passed _ l n fine e) (bad_part _ path bad) = absurd (fine path bad)
one_root_read root _ _ (passed _ l n fine e) (passed _ k m other f) =
    let one : Some (l, n) ≡ Some (k, m) = sym e ∙ f in
    let same : (l, n) ≡ (k, m) = cc in
    inl (ap (λ (p : Limit × ℕ). broken.Passed p.0 p.1) same)
one_root_read root _ _ (passed _ l n fine e) (app _ other f) = absurd (no_some (l, n) (sym e ∙ f))
one_root_read root _ _ (app _ fine e) (bad_part _ path bad) = absurd (fine path bad)
one_root_read root _ _ (app _ fine e) (passed _ k m other f) = absurd (no_some (k, m) (sym f ∙ e))
one_root_read root _ _ (app _ fine e) (app _ other f) = refl

one_read : (file : List ℕ) (v w : Result AppFile FileBreak) → IsRead file v → IsRead file w → AreOne v w
one_read file _ _ (too_long _ l) (too_long _ m) = inl refl
one_read file _ _ (too_long _ l) (no_json _ m h) = absurd (omega (arith, l, m))
one_read file _ w (too_long _ l) (json _ root _ h r) = let m = h.short in absurd (omega (arith, l, m))
one_read file _ _ (no_json _ m h) (too_long _ l) = absurd (omega (arith, l, m))
one_read file _ _ (no_json _ m h) (no_json _ l k) = inl refl
one_read file _ w (no_json _ m h) (json _ root _ k r) = absurd (h root k)
one_read file v _ (json _ root _ h r) (too_long _ l) = let m = h.short in absurd (omega (arith, l, m))
one_read file v _ (json _ root _ h r) (no_json _ m k) = absurd (k root h)
one_read file v w (json _ root _ h r) (json _ other _ k s) = one_root_read other v w (subst (λ d. IsReadOf d v) (one_root file root other h k) r) s

as_app : (a : AppFile) (v : Result AppFile FileBreak) → AreOne (Ok a) v → v ≡ Ok a
as_app a (Ok b) h = ap Ok h
as_app a (Err c) h = absurd h

pub one_reading : IsOneReading
one_reading file a v p q = as_app a v (one_read file (Ok a) v p q)

pub one_break : IsOneBreak
one_break file b c p q = one_read file (Err b) (Err c) p q

-- JSON is read in one way
pub one_value : (root : Data) (a : AppFile) (v : Result AppFile FileBreak) → IsReadOf root (Ok a) → IsReadOf root v → v ≡ Ok a
one_value root a v p q = as_app a v (one_root_read root (Ok a) v p q)

pub one_value_break : (root : Data) (b c : FileBreak) → IsReadOf root (Err b) → IsReadOf root (Err c) → (b ≡ c) ⊎ (IsBadPart b × IsBadPart c)
one_value_break root b c p q = one_root_read root (Err b) (Err c) p q
