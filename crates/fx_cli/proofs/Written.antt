-- What several writes do together.
use Rattle.std.proofs.Common.{◌≡◌, ℕ, ◌+◌, ◌-◌, ◌<◌, List, ◌++◌, length, take, drop, ap, sym, ◌∙◌, append_assoc, arith}
use Rattle.std.proofs.lemmas.List.{take-append-drop, take_all, length-drop}
use Rattle.std.proofs.Math.Seq.{take-add}
use Rattle.fx_base.specs.Telling.{Stays}
use Rattle.fx_cli.specs.Telling.{Grows, GrowsInPart}

-- some bytes, and then more
pub grows_join : (x y : List ℕ) (a b c : List ℕ) → Grows x a b → Grows y b c → Grows (x ++ y) a c
grows_join x y a b c h k = k ∙ ap (λ (s : List ℕ). s ++ y) h ∙ append_assoc a x y

-- the first bytes of a text, and then some of the next
pub grows_more : (text : List ℕ) (i n : ℕ) (a b c : List ℕ) → Grows (take i text) a b
    → Grows (take n (take (length text - i) (drop i text))) b c → Grows (take (i + n) text) a c
grows_more text i n a b c h k =
    let whole : take (length text - i) (drop i text) ≡ drop i text = take_all (length text - i) (drop i text) (simp length-drop (omega arith)) in
    rw (take-add i n text) (grows_join (take i text) (take n (drop i text)) a b c h (rw whole at k))

-- the first bytes of a text, and then a fault
pub grows_part : (text : List ℕ) (n : ℕ) → n < length text → (a b c : List ℕ) → Grows (take n text) a b → Stays b c → GrowsInPart text a c
grows_part text n below a b c h k = record {
  part = take n text;
  rest = drop n text;
  is = sym (take-append-drop n text);
  short = simp length-drop (omega arith);
  grown = k ∙ h;
}
