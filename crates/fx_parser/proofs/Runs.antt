-- Where tokens lead, joined.
use Rattle.std.proofs.Common.{◌≡◌, ℕ, ◌+◌, ◌<◌, ◌≤◌, false, List, [], ◌∷◌, ◌++◌, length, take, drop, get_or, refl, ap, sym, ◌∙◌, Option, Some, None, arith, add-one}
use Rattle.std.specs.Prelude.{option_and_then}
use Rattle.std.proofs.lemmas.List.{take_more, take-append-drop}
use Rattle.fx_grammar.specs.declared.item.Item.{Item}
use Rattle.fx_parser.specs.declared.state.Whole.{Whole}
use Rattle.fx_parser.specs.declared.state.Frame.{Frame}
use Rattle.fx_parser.specs.declared.state.State.{State}
use Rattle.fx_parser.specs.declared.state.Move.{Move}
use Rattle.fx_parser.specs.Machine.{turn, MachinePlace, top, place_moved, run, ends, accepted}
use Rattle.fx_parser.specs.Machine.{IsLastPlace}

bound : {A B C : Type 0} (o : Option A) (f : A → Option B) (g : B → Option C) (h : A → Option C) → ((a : A) → h a ≡ option_and_then g (f a)) → option_and_then h o ≡ option_and_then g (option_and_then f o)
bound None f g h e = refl
bound (Some a) f g h e = e a

-- what some tokens lead to, and more tokens from there
pub run_append : (w : Whole) (s : State) (fs : List Frame) (xs us : List Item) → run w s fs (xs ++ us) ≡ option_and_then (λ p. run w p.0 p.1 us) (run w s fs xs)
run_append w s fs [] us = refl
run_append w s fs (x ∷ xs) us = bound (place_moved fs (turn w s (top fs) x.meaning)) (λ p. run w p.0 p.1 xs) (λ p. run w p.0 p.1 us) (λ p. run w p.0 p.1 (xs ++ us)) (λ p. run_append w p.0 p.1 xs us)

-- one token
same : (o : Option MachinePlace) → option_and_then (λ p. Some (p.0, p.1)) o ≡ o
same None = refl
same (Some p) = refl

pub run_more : (w : Whole) (s : State) (fs : List Frame) (xs : List Item) (x : Item) (p : MachinePlace) → run w s fs xs ≡ Some p → run w s fs (xs ++ x ∷ []) ≡ place_moved p.1 (turn w p.0 (top p.1) x.meaning)
run_more w s fs xs x p e = run_append w s fs xs (x ∷ []) ∙ ap (λ o. option_and_then (λ p. run w p.0 p.1 (x ∷ [])) o) e ∙ same (place_moved p.1 (turn w p.0 (top p.1) x.meaning))

pub taken : (w : Whole) (s : State) (xs : List Item) (i : ℕ) (x : Item) (q : State) (fs : List Frame) (o : Option Frame) (k : Move)
    → run w s [] (take i xs) ≡ Some (q, fs) → i < length xs → x ≡ get_or xs i x → o ≡ top fs → k ≡ turn w q o x.meaning → run w s [] (take (i + 1) xs) ≡ place_moved fs k
taken w s xs i x q fs o k e h g f t =
    ap (λ ys. run w s [] ys) (take_more xs i x h ∙ ap (λ y. take i xs ++ y ∷ []) (sym g)) ∙ run_more w s [] (take i xs) x (q, fs) e ∙ ap (place_moved fs) (ap (λ o. turn w q o x.meaning) (sym f) ∙ sym t)

-- tokens at which there is no going on
pub dead : (w : Whole) (s : State) (xs us : List Item) → run w s [] xs ≡ None → run w s [] (xs ++ us) ≡ None
dead w s xs us e = run_append w s [] xs us ∙ ap (λ o. option_and_then (λ p. run w p.0 p.1 us) o) e

pub stops : (w : Whole) (s : State) (xs : List Item) (i : ℕ) (p : MachinePlace) → i < length xs → run w s [] (take i xs) ≡ Some p → run w s [] (take (i + 1) xs) ≡ None → IsLastPlace w s xs i
stops w s xs i p h e g = record {
  within = omega arith;
  place = p;
  so_far = e;
  stuck = λ _. rw add-one at g;
  open_end = ap (accepted w) (ap (λ ys. run w s [] ys) (sym (take-append-drop (i + 1) xs)) ∙ dead w s (take (i + 1) xs) (drop (i + 1) xs) g);
}

all_taken : (xs : List Item) → take (length xs) xs ≡ xs
all_taken [] = refl
all_taken (x ∷ xs) = ap (λ ys. x ∷ ys) (all_taken xs)

over : (i n : ℕ) → n ≤ i → i ≤ n → i ≡ n
over i n h g = omega arith

pub whole_run : (w : Whole) (s : State) (xs : List Item) (i : ℕ) (p : MachinePlace) → run w s [] (take i xs) ≡ Some p → length xs ≤ i → i ≤ length xs → run w s [] xs ≡ Some p
whole_run w s xs i p e h g = ap (λ ys. run w s [] ys) (sym (all_taken xs) ∙ ap (λ n. take n xs) (sym (over i (length xs) h g))) ∙ e

pub ends_open : (w : Whole) (s : State) (xs : List Item) (p : MachinePlace) → run w s [] xs ≡ Some p → ends w p.0 p.1 ≡ false → IsLastPlace w s xs (length xs)
ends_open w s xs p e f = record {
  within = omega arith;
  place = p;
  so_far = ap (λ ys. run w s [] ys) (all_taken xs) ∙ e;
  stuck = λ h. absurd (omega arith);
  open_end = ap (accepted w) e ∙ f;
}
