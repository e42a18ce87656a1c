-- Tables one after another as their transaction ends.
use Rattle.std.proofs.Common.{◌≡◌, ℕ, zero, suc, ◌+◌, ◌<◌, ◌≤◌, Bool, true, false, List, [], ◌∷◌, arith, get_or, length, refl, set, subst}
use Rattle.row_changes.specs.declared.table.TableChanges.{TableChanges}
use Rattle.store_model.specs.Laws.{AreEnded, IsEnded}
use Rattle.store_writing.specs.Ending.{AreEndedTo}

one_more : (b : Bool) (i : ℕ) (cs xs : List TableChanges) (x d : TableChanges) → i < length xs → x ≡ get_or xs i x → IsEnded b x d → AreEndedTo b i cs xs → AreEndedTo b (suc i) cs (set xs i d)
one_more b i cs [] x d low is ended so_far = absurd (omega (arith, low))
one_more b zero [] (y ∷ ys) x d low is ended so_far = absurd cc
one_more b zero (c ∷ cs) (y ∷ ys) x d low is ended so_far =
    let head : x ≡ c = cc in
    let rest : ys ≡ cs = cc in
    (subst (λ z. IsEnded b z d) head ended, rest)
one_more b (suc i) [] (y ∷ ys) x d low is ended so_far = absurd so_far
one_more b (suc i) (c ∷ cs) (y ∷ ys) x d low is ended so_far = (so_far.0, one_more b i cs ys x d (omega (arith, low)) is ended so_far.1)

pub one_more_ended : (b : Bool) (i : ℕ) (cs xs : List TableChanges) (x d : TableChanges) → i < length xs → x ≡ get_or xs i x → IsEnded b x d → AreEndedTo b i cs xs → AreEndedTo b (i + 1) cs (set xs i d)
one_more_ended b i cs xs x d low is ended so_far = let next : suc i ≡ i + 1 = omega arith in subst (λ n. AreEndedTo b n cs (set xs i d)) next (one_more b i cs xs x d low is ended so_far)

none_left : (b : Bool) (ds : List TableChanges) → ds ≡ [] → AreEnded b [] ds
none_left true [] same = tt
none_left true (d ∷ ds) same = absurd cc
none_left false [] same = tt
none_left false (d ∷ ds) same = absurd cc

both_ended : (b : Bool) (c d : TableChanges) (cs ds : List TableChanges) → IsEnded b c d → AreEnded b cs ds → AreEnded b (c ∷ cs) (d ∷ ds)
both_ended true c d cs ds one all = (one, all)
both_ended false c d cs ds one all = (one, all)

pub all_ended : (b : Bool) (i : ℕ) (cs ds : List TableChanges) → length cs ≤ i → AreEndedTo b i cs ds → AreEnded b cs ds
all_ended b zero [] ds high so_far = none_left b ds so_far
all_ended b zero (c ∷ cs) ds high so_far = absurd (omega (arith, high))
all_ended b (suc i) [] [] high so_far = none_left b [] (let e : ◌≡◌ {A = List TableChanges} [] [] = refl in e)
all_ended b (suc i) [] (d ∷ ds) high so_far = absurd so_far
all_ended b (suc i) (c ∷ cs) [] high so_far = absurd so_far
all_ended b (suc i) (c ∷ cs) (d ∷ ds) high so_far = both_ended b c d cs ds so_far.0 (all_ended b i cs ds (omega (arith, high)) so_far.1)
