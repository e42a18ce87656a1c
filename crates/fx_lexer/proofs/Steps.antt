-- Turns of the loops.
use Rattle.std.proofs.Common.{length-append, ◌-◌, ◌≡◌, ℕ, suc, ◌+◌, ◌<◌, ◌≤◌, Bool, true, false, List, [], ◌∷◌, length, get_or, drop, take, arith, cond, refl, ap, sym, ◌∙◌, eqb, Some, None}
use Rattle.std.proofs.lemmas.List.{at_drop_more, at_drop_all, take_all}
use Rattle.fx_lexer.specs.Scan.{ScannedElement, run_length, open_run, closed_run, more, number_run, decimals, name_scanned, by_class, formula_at}
use Rattle.fx_lexer.specs.Spelling.{in_number, in_name, class_at}
use Rattle.fx_lexer.specs.declared.element.Class.{Class}
use Rattle.fx_lexer.specs.declared.element.Class.TheVariants.{White, Digit, Letter, Other}
use Rattle.fx_lexer.specs.Lexed.{width}
use Rattle.std.specs.Prelude.{encode_utf8, encode_utf8_all}
use Rattle.std.specs.Str.{chars, IsUtf8}
use Rattle.std.proofs.lemmas.Str.{encodes-chars}

pub run_more : (p : ℕ → Bool) (cs : List ℕ) (i d : ℕ) → i < length cs → run_length p (drop i cs) ≡ cond (p (get_or cs i d)) (suc (run_length p (drop (i + 1) cs))) 0
run_more p cs i d h = at_drop_more (run_length p) cs i d h

pub run_end : (p : ℕ → Bool) (cs : List ℕ) (i : ℕ) → length cs ≤ i → run_length p (drop i cs) ≡ 0
run_end p cs i h = at_drop_all (run_length p) cs i h

pub open_more : (q : ℕ) (cs : List ℕ) (i d : ℕ) → i < length cs → open_run q (drop i cs) ≡ cond (eqb (get_or cs i d) q) (more (closed_run q (drop (i + 1) cs))) (more (open_run q (drop (i + 1) cs)))
open_more q cs i d h = at_drop_more (open_run q) cs i d h

pub open_end : (q : ℕ) (cs : List ℕ) (i : ℕ) → length cs ≤ i → open_run q (drop i cs) ≡ None
open_end q cs i h = at_drop_all (open_run q) cs i h

pub closed_more : (q : ℕ) (cs : List ℕ) (i d : ℕ) → i < length cs → closed_run q (drop i cs) ≡ cond (eqb (get_or cs i d) q) (more (open_run q (drop (i + 1) cs))) (Some 0)
closed_more q cs i d h = at_drop_more (closed_run q) cs i d h

pub closed_end : (q : ℕ) (cs : List ℕ) (i : ℕ) → length cs ≤ i → closed_run q (drop i cs) ≡ Some 0
closed_end q cs i h = at_drop_all (closed_run q) cs i h

pub width_more : (cs : List ℕ) (i d : ℕ) → i < length cs → width (drop i cs) ≡ length (encode_utf8 (get_or cs i d)) + width (drop (i + 1) cs)
width_more cs i d h = at_drop_more width cs i d h

pub width_end : (cs : List ℕ) (i : ℕ) → length cs ≤ i → width (drop i cs) ≡ 0
width_end cs i h = at_drop_all width cs i h

number_by : (c : ℕ) (cs : List ℕ) (b : Bool) → number_run cs ≡ run_length in_number cs + decimals (drop (run_length in_number cs) cs)
    → cond b (suc (number_run cs)) (decimals (c ∷ cs)) ≡ cond b (suc (run_length in_number cs)) 0 + decimals (drop (cond b (suc (run_length in_number cs)) 0) (c ∷ cs))
number_by c cs true h = omega arith
number_by c cs false h = omega arith

pub number_parts : (cs : List ℕ) → number_run cs ≡ run_length in_number cs + decimals (drop (run_length in_number cs) cs)
number_parts [] = refl
number_parts (c ∷ cs) = number_by c cs (in_number c) (number_parts cs)

pub width-is : (cs : List ℕ) → width cs ≡ length (encode_utf8_all cs)
width-is [] = refl
width-is (c ∷ cs) = ap (λ n. length (encode_utf8 c) + n) (width-is cs) ∙ sym (length-append (encode_utf8 c) (encode_utf8_all cs))

pub width-chars : (bs : List ℕ) → IsUtf8 bs → width (chars bs) ≡ length bs
width-chars bs u = width-is (chars bs) ∙ ap length (encodes-chars bs u)

letter_by : (x : ℕ) (xs : List ℕ) (k : Class) (r : ScannedElement) → Letter ≡ k → r ≡ name_scanned (x ∷ xs) (suc (run_length in_name xs)) → r ≡ by_class k x xs
letter_by x xs White r e h = cc
letter_by x xs Digit r e h = cc
letter_by x xs Letter r e h = h
letter_by x xs Other r e h = cc

-- a name or a word at a letter
pub letter_at : (cs : List ℕ) (c n : ℕ) (r : ScannedElement) → 1 ≤ length cs → c ≡ get_or cs 0 c → n ≡ run_length in_name (take (length cs - 1) (drop 1 cs)) → Letter ≡ class_at c → r ≡ name_scanned cs (1 + n) → r ≡ formula_at cs
letter_at [] c n r l i e k h = absurd (omega arith)
letter_at (x ∷ xs) c n r l i e k h =
    let a = take_all (length (x ∷ xs) - 1) xs (omega arith) in
    let f : 1 + n ≡ suc (run_length in_name xs) = omega (arith, e ∙ ap (run_length in_name) a) in
    letter_by x xs (class_at x) r (k ∙ ap class_at i) (h ∙ ap (name_scanned (x ∷ xs)) f)
