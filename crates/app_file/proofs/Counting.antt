-- Lists that grow part by part.
use Rattle.std.proofs.Common.{◌≡◌, ℕ, ◌+◌, ◌≤◌, List, [], ◌∷◌, ◌++◌, length, map, drop, refl, ap, sym, ◌∙◌}
use Rattle.std.proofs.lemmas.List.{append-nil, drop_all, map-append, length-append, length-map}
use Rattle.std.specs.List.{flat_map, join_by}
use Rattle.app_file.specs.declared.file.AppFile.{AppFile}
use Rattle.app_file.specs.declared.file.ControlShape.{ControlShape}
use Rattle.app_file.specs.declared.file.ScreenShape.{ScreenShape}
use Rattle.app_file.specs.Limits.{names_of_controls, controls_in}

-- as many names as controls
many_names : (ss : List ScreenShape) → length (map length (flat_map names_of_controls ss)) ≡ length (flat_map (λ (s : ScreenShape). s.controls) ss)
many_names [] = refl
many_names (s ∷ ss) =
    ap length (map-append length (names_of_controls s) (flat_map names_of_controls ss)) ∙ length-append (map length (names_of_controls s)) (map length (flat_map names_of_controls ss))
    ∙ ap (λ n. n + length (map length (flat_map names_of_controls ss))) (length-map (names_of_controls s) length ∙ length-map s.controls (λ (c : ControlShape). c.name))
    ∙ ap (λ n. length s.controls + n) (many_names ss) ∙ sym (length-append s.controls (flat_map (λ (x : ScreenShape). x.controls) ss))

pub as_many_controls : (a : AppFile) (names : List ℕ) → names ≡ map length (flat_map names_of_controls a.screens) → length names ≡ length (controls_in a)
as_many_controls a names e = ap length e ∙ many_names a.screens

pub all_counted : (a : AppFile) (ss : List ScreenShape) (i : ℕ) (names : List ℕ) → ss ≡ a.screens → length ss ≤ i
    → names ++ map length (flat_map names_of_controls (drop i ss)) ≡ map length (flat_map names_of_controls ss) → length names ≡ length (controls_in a)
all_counted a ss i names is l e =
    as_many_controls a names (sym (append-nil names) ∙ ap (λ ys. names ++ map length (flat_map names_of_controls ys)) (sym (drop_all i ss l)) ∙ e ∙ ap (λ ys. map length (flat_map names_of_controls ys)) is)

-- pieces that are joined
joined_pieces : {X : Type 0} (f : X → List ℕ) (sep : List ℕ) (xs : List X) → flat_map (λ y. sep ++ f y) xs ≡ flat_map (λ y. sep ++ y) (map f xs)
joined_pieces f sep [] = refl
joined_pieces f sep (x ∷ xs) = ap (λ ys. (sep ++ f x) ++ ys) (joined_pieces f sep xs)

joined_map : {X : Type 0} (f : X → List ℕ) (sep : List ℕ) (xs : List X) → join_by f sep xs ≡ join_by (λ y. y) sep (map f xs)
joined_map f sep [] = refl
joined_map f sep (x ∷ xs) = ap (λ ys. f x ++ ys) (joined_pieces f sep xs)

pub joined_same : {X Y : Type 0} (f : X → List ℕ) (g : Y → List ℕ) (sep : List ℕ) (xs : List X) (ys : List Y) → map f xs ≡ map g ys → join_by f sep xs ≡ join_by g sep ys
joined_same f g sep xs ys e = joined_map f sep xs ∙ ap (join_by (λ y. y) sep) e ∙ sym (joined_map g sep ys)
