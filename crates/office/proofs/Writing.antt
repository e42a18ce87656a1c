-- What is left of sessions that were written through a slice of them.
use Rattle.std.proofs.Common.{◌≡◌, ℕ, List, ◌++◌, drop, length, map, take, ap, ◌∙◌, arith}
use Rattle.std.proofs.Math.Seq.{take-length}
use Rattle.std.proofs.lemmas.List.{length-map, take-append-le}
use Rattle.fx_core.specs.declared.names.Names.{Names}
use Rattle.numbered_requests.specs.declared.directory.Named.{Named}
use Rattle.session_state.specs.Sessions.{SessionState}
use Rattle.office.specs.DeskEdits.{all_carried, one_carried}
use Rattle.office.specs.Replacing.{all_over, one_over}
use Rattle.office.specs.Rooms.{with_room, without_room}
use Rattle.office.proofs.Rooms.{carried_same}

-- a list that is written over one of the same length
pub written : (n : ℕ) (xs ys : List (Named SessionState)) → n ≡ length xs → take n (xs ++ drop (length xs) ys) ≡ xs
written n xs ys e = take-append-le n xs (drop (length xs) ys) (omega (arith, e)) ∙ ap (λ (k : ℕ). take k xs) e ∙ take-length xs

-- room was made
pub roomy : (n : ℕ) (m : Names) (items given made read : List (Named SessionState)) → n ≡ length items → given ≡ items → made ≡ map (with_room m) given
    → read ≡ take n (made ++ drop (length made) items) → read ≡ map (with_room m) items
roomy n m items given made read len is made_is read_is =
    let all : made ≡ map (with_room m) items = made_is ∙ ap (map (with_room m)) is in
    let same : n ≡ length made = omega (arith, len, ap length all, length-map items (with_room m)) in
    read_is ∙ written n made items same ∙ all

-- or there was no memory for it
pub unroomy : (n : ℕ) (items given left : List (Named SessionState)) → n ≡ length items → given ≡ items → left ≡ given → take n (left ++ drop (length left) items) ≡ items
unroomy n items given left len is same =
    let all : left ≡ items = same ∙ is in
    written n left items (omega (arith, len, ap length all)) ∙ all

-- room was given back
pub unroomed : (n : ℕ) (items given left : List (Named SessionState)) → n ≡ length items → given ≡ items → left ≡ map without_room given → take n (left ++ drop (length left) items) ≡ map without_room items
unroomed n items given left len is left_is =
    let all : left ≡ map without_room items = left_is ∙ ap (map without_room) is in
    written n left items (omega (arith, len, ap length all, length-map items without_room)) ∙ all

-- they went over to the app that replaces the old one
pub over_all : (n : ℕ) (old new : Names) (items given over : List (Named SessionState)) → n ≡ length items → given ≡ items → over ≡ all_over old new given → take n (over ++ drop (length over) items) ≡ all_over old new items
over_all n old new items given over len is over_is =
    let all : over ≡ all_over old new items = over_is ∙ ap (all_over old new) is in
    written n over items (omega (arith, len, ap length all, length-map items (one_over old new))) ∙ all

-- and they went over to the edited app
pub carried_all : (n : ℕ) (old new : Names) (items read made over : List (Named SessionState)) → n ≡ length items → read ≡ map (with_room new) items → over ≡ all_carried old new read
    → take n (over ++ drop (length over) made) ≡ all_carried old new items
carried_all n old new items read made over len read_is over_is =
    let all : over ≡ all_carried old new items = over_is ∙ ap (all_carried old new) read_is ∙ carried_same old new items in
    let same : n ≡ length over = omega (arith, len, ap length all, length-map items (one_carried old new)) in
    written n over made same ∙ all
