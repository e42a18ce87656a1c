-- How parts come to stand, one behind another.
use Rattle.std.proofs.Common.{◌≡◌, ℕ, suc, ◌+◌, List, [], ◌∷◌, ◌++◌, length, map, Result, Ok, Err, refl, sym, ap, subst, ◌∙◌, arith, append_assoc}
use Rattle.fx_types.specs.TypeView.{shape}
use Rattle.fx_types.specs.Types.{Shape, blanks}
use Rattle.fx_core.specs.declared.rows.Row.{Row}
use Rattle.fx_core.specs.Rows.{takes_at}
use Rattle.fx_core.specs.Term.{Term}
use Rattle.fx_typing.specs.Local as local
use Rattle.fx_typing.specs.Local.{stand, put_first, stand_rest, stand_all}
use Rattle.fx_core.specs.ColumnLists.{and_then}
use Rattle.fx_typing.specs.WellTyped.{first_type}
use Rattle.fx_typing.specs.declared.typed.Typed.{Typed}
use Rattle.fx_typing.specs.declared.typed.Piece.{Piece}
use Rattle.fx_typing.specs.TypedView.{typed, piece_view}
use Rattle.fx_typing.proofs.Befores.{before}

-- what is left, behind what stands: the first one's type is known once it stands
abbrev pub stand_from : Row → ℕ → Shape → List (Term × Shape) → List local.Piece → Result (List (Term × Shape)) ℕ
stand_from r n common [] ps = stand_all r common ps
stand_from r n common (x ∷ xs) ps = before (x ∷ xs) (stand_rest r n (length (x ∷ xs)) x.1 common ps)

abbrev pub types : List (Term × Shape) → List Shape
types [] = []
types (x ∷ xs) = x.1 ∷ types xs

one_before : (x : Term × Shape) (r : Result (List (Term × Shape)) ℕ) → put_first x r ≡ before (x ∷ []) r
one_before x (Ok xs) = refl
one_before x (Err e) = refl

more_before : (xs : List (Term × Shape)) (x : Term × Shape) (r : Result (List (Term × Shape)) ℕ) → before xs (put_first x r) ≡ before (xs ++ x ∷ []) r
more_before xs x (Ok ys) = ap Ok (sym (append_assoc xs (x ∷ []) ys))
more_before xs x (Err e) = refl

length_more : (xs : List (Term × Shape)) (x : Term × Shape) → length (xs ++ x ∷ []) ≡ suc (length xs)
length_more [] x = refl
length_more (y ∷ xs) x = ap suc (length_more xs x)

-- one part more stands
stands_next : (r : Row) (n : ℕ) (common : Shape) (done : List (Term × Shape)) (p : local.Piece) (ps : List local.Piece) (x : Term × Shape) →
    n ≡ length done + suc (length ps) → stand (takes_at r n (length done)) (first_type (types done)) common p ≡ Ok x →
    stand_from r n common (done ++ x ∷ []) ps ≡ stand_from r n common done (p ∷ ps)
stands_next r n common [] p ps x h e =
    let m : suc (length ps) ≡ n = omega arith in
    rw (m, e) (sym (one_before x (stand_rest r n 1 x.1 common ps)))
stands_next r n common (d ∷ ds) p ps x h e =
    rw (e, more_before (d ∷ ds) x (stand_rest r n (suc (length (d ∷ ds))) d.1 common ps), length_more ds x) refl

-- or breaks a rule
stands_not : (r : Row) (n : ℕ) (common : Shape) (done : List (Term × Shape)) (p : local.Piece) (ps : List local.Piece) (k : ℕ) →
    n ≡ length done + suc (length ps) → stand (takes_at r n (length done)) (first_type (types done)) common p ≡ Err k →
    stand_from r n common done (p ∷ ps) ≡ Err k
stands_not r n common [] p ps k h e =
    let m : suc (length ps) ≡ n = omega arith in
    rw (m, e) refl
stands_not r n common (d ∷ ds) p ps k h e = rw e refl

types_seen : (xs : List Typed) → map (λ (t : Typed). shape t.ty) xs ≡ types (map typed xs)
types_seen [] = refl
types_seen (x ∷ xs) = ap (λ ts. shape x.ty ∷ ts) (types_seen xs)

map_more : (xs : List Typed) (x : Typed) → map typed (xs ++ x ∷ []) ≡ map typed xs ++ typed x ∷ []
map_more [] x = refl
map_more (y ∷ xs) x = ap (λ ts. typed y ∷ ts) (map_more xs x)

length_seen : (xs : List Typed) → length (map typed xs) ≡ length xs
length_seen [] = refl
length_seen (x ∷ xs) = ap suc (length_seen xs)

length_pieces : (ps : List Piece) → length (map piece_view ps) ≡ length ps
length_pieces [] = refl
length_pieces (p ∷ ps) = ap suc (length_pieces ps)

-- the next part, behind those that stand
abbrev pub next : Row → ℕ → Shape → List Typed → Piece → Result (Term × Shape) ℕ
next r n common done p = stand (takes_at r n (length done)) (first_type (map (λ (t : Typed). shape t.ty) done)) common (piece_view p)

next_is : (r : Row) (n : ℕ) (common : Shape) (done : List Typed) (p : Piece) →
    next r n common done p ≡ stand (takes_at r n (length (map typed done))) (first_type (types (map typed done))) common (piece_view p)
next_is r n common done p = rw (length_seen done, types_seen done) refl

pub next_stands : (r : Row) (n : ℕ) (common : Shape) (done : List Typed) (p : Piece) (ps : List Piece) (x : Typed) →
    n ≡ length done + suc (length ps) → next r n common done p ≡ Ok (typed x) →
    stand_from r n common (map typed (done ++ x ∷ [])) (map piece_view ps) ≡ stand_from r n common (map typed done) (map piece_view (p ∷ ps))
next_stands r n common done p ps x h e =
    let m : n ≡ length (map typed done) + suc (length (map piece_view ps)) = omega (arith, h, length_seen done, length_pieces ps) in
    rw (map_more done x) (stands_next r n common (map typed done) (piece_view p) (map piece_view ps) (typed x) m (sym (next_is r n common done p) ∙ e))

pub next_breaks : (r : Row) (n : ℕ) (common : Shape) (done : List Typed) (p : Piece) (ps : List Piece) (k : ℕ) →
    n ≡ length done + suc (length ps) → next r n common done p ≡ Err k →
    stand_from r n common (map typed done) (map piece_view (p ∷ ps)) ≡ Err k
next_breaks r n common done p ps k h e =
    let m : n ≡ length (map typed done) + suc (length (map piece_view ps)) = omega (arith, h, length_seen done, length_pieces ps) in
    stands_not r n common (map typed done) (piece_view p) (map piece_view ps) k m (sym (next_is r n common done p) ∙ e)

-- as many stand as there are
put_length : (x : Term × Shape) (r : Result (List (Term × Shape)) ℕ) (xs : List (Term × Shape)) (m : ℕ) →
    ((ys : List (Term × Shape)) → r ≡ Ok ys → length ys ≡ m) → put_first x r ≡ Ok xs → length xs ≡ suc m
put_length x (Err k) xs m f e = absurd cc
put_length x (Ok ys) xs m f e = let q : x ∷ ys ≡ xs = cc in let P : List (Term × Shape) → Type 0 = λ zs. length zs ≡ suc m in subst P q (ap suc (f ys refl))

none_length : (xs : List (Term × Shape)) (r : Result (List (Term × Shape)) ℕ) → r ≡ Ok [] → r ≡ Ok xs → length xs ≡ 0
none_length [] r h e = refl
none_length (x ∷ xs) r h e = absurd cc

-- one more, where it stands
by_next : (o : Result (Term × Shape) ℕ) (go : Term × Shape → Result (List (Term × Shape)) ℕ) (xs : List (Term × Shape)) (m : ℕ) →
    ((x : Term × Shape) (ys : List (Term × Shape)) → go x ≡ Ok ys → length ys ≡ m) → and_then o (λ x. put_first x (go x)) ≡ Ok xs → length xs ≡ suc m
by_next (Err k) go xs m f e = absurd cc
by_next (Ok x) go xs m f e = put_length x (go x) xs m (f x) e

rest_length : (r : Row) (n i : ℕ) (first common : Shape) (ps : List local.Piece) (xs : List (Term × Shape)) → stand_rest r n i first common ps ≡ Ok xs → length xs ≡ length ps
rest_length r n i first common [] xs e = none_length xs (Ok []) refl e
rest_length r n i first common (p ∷ ps) xs e =
    by_next (stand (takes_at r n i) first common p) (λ x. stand_rest r n (suc i) first common ps) xs (length ps) (λ x. rest_length r n (suc i) first common ps) e

all_length : (r : Row) (common : Shape) (ps : List local.Piece) (xs : List (Term × Shape)) → stand_all r common ps ≡ Ok xs → length xs ≡ length ps
all_length r common [] xs e = none_length xs (Ok []) refl e
all_length r common (p ∷ ps) xs e =
    by_next (stand (takes_at r (suc (length ps)) 0) blanks common p) (λ x. stand_rest r (suc (length ps)) 1 x.1 common ps) xs (length ps)
    (λ x. rest_length r (suc (length ps)) 1 x.1 common ps) e

pub stood_length : (r : Row) (common : Shape) (ps : List Piece) (xs : List Typed) → stand_all r common (map piece_view ps) ≡ Ok (map typed xs) → length xs ≡ length ps
stood_length r common ps xs e = sym (length_seen xs) ∙ all_length r common (map piece_view ps) (map typed xs) e ∙ length_pieces ps
