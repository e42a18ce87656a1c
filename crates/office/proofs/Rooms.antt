-- Room beside sessions.
use Rattle.std.proofs.Common.{◌≡◌, ℕ, zero, suc, List, [], ◌∷◌, ◌++◌, drop, map, get_or, set, take, refl, ap, sym, ◌∙◌, arith}
use Rattle.fx_core.specs.declared.names.Names.{Names}
use Rattle.session_state.specs.Sessions.{HasSessionRoom, SessionRoom, SessionState, room_with}
use Rattle.numbered_requests.specs.declared.directory.Named.{Named}
use Rattle.office.specs.DeskEdits.{all_carried, one_carried}
use Rattle.session_views.specs.Shows.{LiveSessionsFit}
use Rattle.office.specs.Replacing.{all_over, one_over}
use Rattle.office.specs.Rooms.{HaveNoRoom, HaveRoom, with_room, without_room}

-- there is none beside sessions that fit an app
pub have_none : (n : Names) (xs : List (Named SessionState)) → LiveSessionsFit n xs → HaveNoRoom xs
have_none n [] fit = refl
have_none n (x ∷ xs) fit = λ i. record x { it = record x.it { room = none i } } ∷ have_none n xs fit.1 i
  where
    none : record { variables = 0; collections = 0; controls = 0 } ≡ x.it.room
    none = sym fit.0.spare

-- there is as much as the names want once it was made
enough : (n : Names) (r : SessionRoom) → HasSessionRoom n (room_with n r)
enough n r = record { variables = omega arith; collections = omega arith; controls = omega arith }

pub have_room : (n : Names) (xs : List (Named SessionState)) → HaveRoom n (map (with_room n) xs)
have_room n [] = tt
have_room n (x ∷ xs) = (enough n x.it.room, have_room n xs)

-- and it is no matter for what they hold
pub carried_same : (old new : Names) (xs : List (Named SessionState)) → all_carried old new (map (with_room new) xs) ≡ all_carried old new xs
carried_same old new [] = refl
carried_same old new (x ∷ xs) = ap (λ (l : List (Named SessionState)). one_carried old new x ∷ l) (carried_same old new xs)

pub over_same : (old new : Names) (xs : List (Named SessionState)) → all_over old new (map (with_room new) xs) ≡ all_over old new xs
over_same old new [] = refl
over_same old new (x ∷ xs) = ap (λ (l : List (Named SessionState)). one_over old new x ∷ l) (over_same old new xs)

-- it is given back
room_back : (n : Names) (xs : List (Named SessionState)) → HaveNoRoom xs → map without_room (map (with_room n) xs) ≡ xs
room_back n xs none = same xs ∙ none
  where
    same : (ys : List (Named SessionState)) → map without_room (map (with_room n) ys) ≡ map without_room ys
    same [] = refl
    same (y ∷ ys) = ap (λ (l : List (Named SessionState)). without_room y ∷ l) (same ys)

pub sessions_back : (old new : Names) (xs ys zs : List (Named SessionState)) → LiveSessionsFit old xs → ys ≡ map (with_room new) xs → zs ≡ map without_room ys → zs ≡ xs
sessions_back old new xs ys zs fit made back = back ∙ ap (map without_room) made ∙ room_back new xs (have_none old xs fit)

-- where some have it and others don't, it is no matter beside that
pub without_any : (n : Names) (xs : List (Named SessionState)) (k : ℕ) → map without_room (map (with_room n) (take k xs) ++ drop k xs) ≡ map without_room xs
without_any n xs zero = refl
without_any n [] (suc k) = refl
without_any n (x ∷ xs) (suc k) = ap (λ (l : List (Named SessionState)). without_room x ∷ l) (without_any n xs k)

-- a session that is put back changes nothing
pub put_back : (xs : List (Named SessionState)) (k : ℕ) (x : Named SessionState) → x ≡ get_or xs k x → set xs k x ≡ xs
put_back [] k x e = refl
put_back (y ∷ ys) zero x e = ap (λ (z : Named SessionState). z ∷ ys) e
put_back (y ∷ ys) (suc k) x e = ap (λ (l : List (Named SessionState)). y ∷ l) (put_back ys k x e)
