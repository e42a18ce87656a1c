-- Fields of a record that is made, and where a name stands among them.
use Rattle.std.specs.Prelude.{ℕ, suc, List, [], ◌∷◌, Result, Ok, Err}
use Rattle.std.specs.Ordering.{nat_cmp, match_ordering}
use Rattle.std.specs.Cmp.Lexicographic.{slice_cmp}
use Rattle.fx_types.specs.Types.{Shape}
use Rattle.fx_core.specs.Term.{Term}
use Rattle.fx_typing.specs.Builds.{put_field}
use Rattle.fx_typing.specs.declared.typed.Typed.{Typed}
use Rattle.fx_typing.specs.TypedView.{typed}

-- what a field is seen as
abbrev pub field_view : List ℕ × Typed → List ℕ × (Term × Shape)
field_view f = (f.0, typed f.1)

-- the place of a name among rising ones: where it is, or where it would stand
abbrev pub later : Result ℕ ℕ → Result ℕ ℕ
later (Ok i) = Ok (suc i)
later (Err i) = Err (suc i)

abbrev pub field_index : {A : Type 0} → List ℕ → List (List ℕ × A) → Result ℕ ℕ
field_index n [] = Err 0
field_index n (f ∷ fs) = match_ordering (slice_cmp nat_cmp n f.0) (Err 0) (Ok 0)
    (later (field_index n fs))

-- fields put among others
abbrev pub put_onto : List (List ℕ) → List (Term × Shape) → List (List ℕ × (Term × Shape))
    → List (List ℕ × (Term × Shape))
put_onto (n ∷ ns) (x ∷ xs) fs = put_field n x (put_onto ns xs fs)
put_onto _ _ fs = fs
