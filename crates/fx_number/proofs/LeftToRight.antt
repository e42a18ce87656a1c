-- Reading a text from left to right finds the one number that it spells.
use Rattle.std.proofs.Common.{◌≡◌, ◌≢◌, ◌⊎◌, ℕ, zero, suc, ℤ, ◌+◌, ◌<◌, ◌↔◌, Bool, true, false, not, cond, eqb, List, [], ◌∷◌, ◌++◌, length, take, drop, replicate, Option, Some, None, refl, sym, ◌∙◌, ap, inl, inr, arith, subst, rules, append_assoc, take-append-drop, eqb-true, eq-eqb, ne_eqb, unwrap_or, ◌||◌, append-nil, lit<, Result, Ok, Err}
use Rattle.std.proofs.Math.Seq.{drop-append_seam, take-append_seam}
use Rattle.std.proofs.lemmas.Bool.{eqb-false}
use Rattle.std.proofs.lemmas.List.Folds.{length-prefix_len}
use Rattle.std.proofs.lemmas.Str.Parse.{digit_from_value}
use Rattle.std.specs.Bool.{⊤}
use Rattle.std.specs.Char.{digit_value, is_ascii_digit}
use Rattle.std.specs.List.{prefix_len, take_while}
use Rattle.std.specs.Str.Parse.{AllDigits}
use Rattle.std.specs.Result.{result_ok}
use Rattle.fx_number.specs.declared.NumErr.{NumErr}
use Rattle.fx_number.specs.Decimal.{signed, IsInRange, Checked}
use Rattle.fx_number.specs.Spelling.{Sign, no_sign, plus, minus, sign_text, is_minus, point_and, decimal_units, Spells}
use Rattle.fx_number.specs.Reading.{is_space, skip_while, sign_of, after_sign, fraction_of, after_fraction, spelled}

cases : (b : Bool) → (b ≡ true) ⊎ (b ≡ false)
cases true = inl refl
cases false = inr refl

one_and : (n : ℕ) → 1 + n ≡ suc n
one_and n = omega arith

-- ---- the longest front that passes
abbrev Passes : (ℕ → Bool) → List ℕ → Type 0
Passes p [] = ⊤
Passes p (x ∷ xs) = (p x ≡ true) × Passes p xs

prefix_len-front : (p : ℕ → Bool) (front back : List ℕ) → Passes p front → prefix_len p back ≡ 0 → prefix_len p (front ++ back) ≡ length front
prefix_len-front p [] back h stop = stop
prefix_len-front p (x ∷ xs) back h stop = rw (h.0, prefix_len-front p xs back h.1 stop) (omega arith)

take_while-front : (p : ℕ → Bool) (front back : List ℕ) → Passes p front → prefix_len p back ≡ 0 → take_while p (front ++ back) ≡ front
take_while-front p front back h stop = ap (λ n. take n (front ++ back)) (prefix_len-front p front back h stop) ∙ take-append_seam front back

skip_while-front : (p : ℕ → Bool) (front back : List ℕ) → Passes p front → prefix_len p back ≡ 0 → skip_while p (front ++ back) ≡ back
skip_while-front p front back h stop = ap (λ n. drop n (front ++ back)) (prefix_len-front p front back h stop) ∙ drop-append_seam front back

Passes-spaces : (n : ℕ) → Passes is_space (replicate n 32)
Passes-spaces zero = tt
Passes-spaces (suc n) = (refl, Passes-spaces n)

is_digit : (c : ℕ) → digit_value c < 10 → is_ascii_digit c ≡ true
is_digit c h =
    let inside = digit_from_value c h in
    search rules

Passes-digits : (ds : List ℕ) → AllDigits 10 ds → Passes is_ascii_digit ds
Passes-digits [] h = tt
Passes-digits (d ∷ ds) h = (is_digit d h.0, Passes-digits ds h.1)

digit_of : (c : ℕ) → is_ascii_digit c ≡ true → digit_value c < 10
digit_of c h = search rules

pub digits_at_front : (cs : List ℕ) → AllDigits 10 (take_while is_ascii_digit cs)
digits_at_front [] = tt
digits_at_front (c ∷ cs) = elim (cases (is_ascii_digit c)) [
  | inl passes ↦ rw (passes, one_and) (digit_of c passes, digits_at_front cs)
  | inr fails ↦ rw fails tt
]

spaces_at_front : (cs : List ℕ) → take_while is_space cs ≡ replicate (prefix_len is_space cs) 32
spaces_at_front [] = refl
spaces_at_front (c ∷ cs) = elim (cases (eqb c 32)) [
  | inl passes ↦ rw (passes, one_and) (ap (λ ds. c ∷ ds) (spaces_at_front cs) ∙ ap (λ d. d ∷ replicate (prefix_len is_space cs) 32) (eqb-true _ _ passes))
  | inr fails ↦ rw fails refl
]

front_and_rest : (p : ℕ → Bool) (cs : List ℕ) → cs ≡ take_while p cs ++ skip_while p cs
front_and_rest p cs = sym (take-append-drop (prefix_len p cs) cs)

-- ---- the sign
sign_at_front : (cs : List ℕ) → cs ≡ sign_text (sign_of cs) ++ after_sign cs
sign_at_front [] = refl
sign_at_front (c ∷ cs) = elim (cases (eqb c 43)) [
  | inl passes ↦ rw passes (ap (λ d. d ∷ cs) (eqb-true _ _ passes))
  | inr other ↦ rw other (elim (cases (eqb c 45)) [
    | inl passes ↦ rw passes (ap (λ d. d ∷ cs) (eqb-true _ _ passes))
    | inr fails ↦ rw fails refl
  ])
]

-- a digit is no sign, no space and no point
not_this : (d c : ℕ) → digit_value d < 10 → c < 48 → eqb d c ≡ false
not_this d c h below =
    let inside = digit_from_value d h in
    search (rules, inside.0)

sign_is : (s : Sign) (d : ℕ) (ds : List ℕ) → digit_value d < 10 → sign_of (sign_text s ++ (d ∷ ds)) ≡ s
sign_is no_sign d ds h = rw (not_this d 43 h (lit< tt), not_this d 45 h (lit< tt)) refl
sign_is plus d ds h = refl
sign_is minus d ds h = refl

rest_is : (s : Sign) (d : ℕ) (ds : List ℕ) → digit_value d < 10 → after_sign (sign_text s ++ (d ∷ ds)) ≡ d ∷ ds
rest_is no_sign d ds h = rw (not_this d 43 h (lit< tt), not_this d 45 h (lit< tt)) refl
rest_is plus d ds h = refl
rest_is minus d ds h = refl

-- ---- the fraction
stop_at_spaces : (n : ℕ) → prefix_len is_ascii_digit (replicate n 32) ≡ 0
stop_at_spaces zero = refl
stop_at_spaces (suc n) = refl

fraction_is : (f : List ℕ) (n : ℕ) → AllDigits 10 f → fraction_of (point_and f ++ replicate n 32) ≡ f
fraction_is [] zero h = refl
fraction_is [] (suc n) h = refl
fraction_is (d ∷ ds) n h = take_while-front is_ascii_digit (d ∷ ds) (replicate n 32) (Passes-digits (d ∷ ds) h) (stop_at_spaces n)

tail_is : (f : List ℕ) (n : ℕ) → AllDigits 10 f → after_fraction (point_and f ++ replicate n 32) ≡ replicate n 32
tail_is f n h =
    ap (λ ds. drop (length (point_and ds)) (point_and f ++ replicate n 32)) (fraction_is f n h)
    ∙ drop-append_seam (point_and f) (replicate n 32)

pub digits_in_fraction : (cs : List ℕ) → AllDigits 10 (fraction_of cs)
digits_in_fraction [] = tt
digits_in_fraction (c ∷ cs) = elim (cases (eqb c 46)) [
  | inl passes ↦ rw passes (digits_at_front cs)
  | inr fails ↦ rw fails tt
]

point_in_front : (k : ℕ) (cs f : List ℕ) → f ≡ take k cs → length f ≡ k → 46 ∷ cs ≡ point_and f ++ drop (length (point_and f)) (46 ∷ cs)
point_in_front k cs [] e size = refl
point_in_front k cs (d ∷ ds) e size =
    ap (λ es. 46 ∷ es) (sym (take-append-drop k cs) ∙ ap (λ es. es ++ drop k cs) (sym e) ∙ ap (λ n. (d ∷ ds) ++ drop n cs) (sym size))

fraction_at_front : (cs : List ℕ) → cs ≡ point_and (fraction_of cs) ++ after_fraction cs
fraction_at_front [] = refl
fraction_at_front (c ∷ cs) = elim (cases (eqb c 46)) [
  | inl passes ↦ rw (passes, eqb-true _ _ passes) (point_in_front (prefix_len is_ascii_digit cs) cs (take_while is_ascii_digit cs) refl (length-prefix_len is_ascii_digit cs))
  | inr fails ↦ rw fails refl
]

stop_at_point : (f : List ℕ) (n : ℕ) → prefix_len is_ascii_digit (point_and f ++ replicate n 32) ≡ 0
stop_at_point [] n = stop_at_spaces n
stop_at_point (d ∷ ds) n = refl

stop_at_sign : (s : Sign) (d : ℕ) (ds : List ℕ) → digit_value d < 10 → prefix_len is_space (sign_text s ++ (d ∷ ds)) ≡ 0
stop_at_sign no_sign d ds h = rw (not_this d 32 h (lit< tt)) refl
stop_at_sign plus d ds h = refl
stop_at_sign minus d ds h = refl

spaces_end : (n : ℕ) → skip_while is_space (replicate n 32) ≡ []
spaces_end zero = refl
spaces_end (suc n) = rw one_and (spaces_end n)

-- ---- the parts of a text
abbrev pub number_of : List ℕ → List ℕ
number_of text = skip_while is_space text

abbrev pub whole_of : List ℕ → List ℕ
whole_of text = take_while is_ascii_digit (after_sign (number_of text))

abbrev pub rest_of : List ℕ → List ℕ
rest_of text = skip_while is_ascii_digit (after_sign (number_of text))

abbrev pub end_of : List ℕ → List ℕ
end_of text = skip_while is_space (after_fraction (rest_of text))

abbrev pub value_of : List ℕ → ℤ
value_of text = signed (is_minus (sign_of (number_of text))) (decimal_units (whole_of text) (fraction_of (rest_of text)))

spelled_by_tests : (text : List ℕ) (none more : Bool) → eqb (length (whole_of text)) 0 ≡ none → eqb (length (end_of text)) 0 ≡ more → spelled text ≡ cond (none || not more) None (Some (value_of text))
spelled_by_tests text none more e f = ap (λ b. cond (b || not (eqb (length (end_of text)) 0)) None (Some (value_of text))) e ∙ ap (λ b. cond (none || not b) None (Some (value_of text))) f

pub spelled-no_digit : (text : List ℕ) → length (whole_of text) ≡ 0 → spelled text ≡ None
spelled-no_digit text h = spelled_by_tests text true (eqb (length (end_of text)) 0) (eq-eqb _ _ h) refl

pub spelled-more : (text : List ℕ) → length (end_of text) ≢ 0 → spelled text ≡ None
spelled-more text h = spelled_by_tests text (eqb (length (whole_of text)) 0) false refl (ne_eqb _ _ h) ∙ none_either_way (eqb (length (whole_of text)) 0)
  where
    none_either_way : (b : Bool) → cond (b || true) None (Some (value_of text)) ≡ None
    none_either_way true = refl
    none_either_way false = refl

pub spelled-some : (text : List ℕ) → length (whole_of text) ≢ 0 → length (end_of text) ≡ 0 → spelled text ≡ Some (value_of text)
spelled-some text h e = spelled_by_tests text false true (ne_eqb _ _ h) (eq-eqb _ _ e)

nothing_left : (ds : List ℕ) → length ds ≡ 0 → ds ≡ []
nothing_left [] h = refl
nothing_left (d ∷ ds) h = absurd (omega arith)

-- ---- what is read is spelled
spelled_value : (text : List ℕ) → length (whole_of text) ≢ 0 → length (end_of text) ≡ 0 → Spells text (value_of text)
spelled_value text h e =
    let number = number_of text in
    let whole = whole_of text in
    let rest = rest_of text in
    let tail = after_fraction rest in
    let after = prefix_len is_space tail in
    let last : tail ≡ replicate after 32 =
    front_and_rest is_space tail ∙ ap (λ ds. take_while is_space tail ++ ds) (nothing_left (end_of text) e) ∙ append-nil (take_while is_space tail) ∙ spaces_at_front tail in
    let digits : after_sign number ≡ (whole ++ point_and (fraction_of rest)) ++ replicate after 32 =
    front_and_rest is_ascii_digit (after_sign number)
    ∙ ap (λ ds. whole ++ ds) (fraction_at_front rest ∙ ap (λ ds. point_and (fraction_of rest) ++ ds) last)
    ∙ sym (append_assoc whole (point_and (fraction_of rest)) (replicate after 32)) in
    record {
      before = prefix_len is_space text;
      sign = sign_of number;
      digits = whole ++ point_and (fraction_of rest);
      whole = whole;
      fraction = fraction_of rest;
      is_decimal = record { has_whole = (omega (arith, h), digits_at_front (after_sign number)); has_fraction = digits_in_fraction rest; is_text = refl };
      after = after;
      is_text = front_and_rest is_space text
          ∙ ap (λ ds. ds ++ number) (spaces_at_front text)
          ∙ ap (λ ds. replicate (prefix_len is_space text) 32 ++ ds) (sign_at_front number ∙ ap (λ ds. sign_text (sign_of number) ++ ds) digits);
      is_value = refl;
    }

-- ---- what is spelled is read
read_back : (before after : ℕ) (s : Sign) (d : ℕ) (ds f : List ℕ) → AllDigits 10 (d ∷ ds) → AllDigits 10 f → spelled (replicate before 32 ++ (sign_text s ++ (((d ∷ ds) ++ point_and f) ++ replicate after 32))) ≡ Some (signed (is_minus s) (decimal_units (d ∷ ds) f))
read_back before after s d ds f digits decimals =
    let tail = point_and f ++ replicate after 32 in
    let body = ((d ∷ ds) ++ point_and f) ++ replicate after 32 in
    let text = replicate before 32 ++ (sign_text s ++ body) in
    let number : number_of text ≡ sign_text s ++ body =
    skip_while-front is_space (replicate before 32) (sign_text s ++ body) (Passes-spaces before) (stop_at_sign s d ((ds ++ point_and f) ++ replicate after 32) digits.0) in
    let sign : sign_of (number_of text) ≡ s = ap sign_of number ∙ sign_is s d ((ds ++ point_and f) ++ replicate after 32) digits.0 in
    let unsigned : after_sign (number_of text) ≡ (d ∷ ds) ++ tail =
    ap after_sign number ∙ rest_is s d ((ds ++ point_and f) ++ replicate after 32) digits.0 ∙ append_assoc (d ∷ ds) (point_and f) (replicate after 32) in
    let whole : whole_of text ≡ d ∷ ds =
    ap (λ cs. take_while is_ascii_digit cs) unsigned ∙ take_while-front is_ascii_digit (d ∷ ds) tail (Passes-digits (d ∷ ds) digits) (stop_at_point f after) in
    let rest : rest_of text ≡ tail =
    ap (λ cs. skip_while is_ascii_digit cs) unsigned ∙ skip_while-front is_ascii_digit (d ∷ ds) tail (Passes-digits (d ∷ ds) digits) (stop_at_point f after) in
    let fraction : fraction_of (rest_of text) ≡ f = ap fraction_of rest ∙ fraction_is f after decimals in
    let end : end_of text ≡ [] = ap (λ cs. skip_while is_space (after_fraction cs)) rest ∙ ap (λ cs. skip_while is_space cs) (tail_is f after decimals) ∙ spaces_end after in
    let some : length (whole_of text) ≢ 0 = λ none. absurd (omega (arith, ap length whole, none)) in
    spelled-some text some (ap length end)
    ∙ ap (λ t. Some (signed (is_minus t) (decimal_units (whole_of text) (fraction_of (rest_of text))))) sign
    ∙ ap (λ cs. Some (signed (is_minus s) (decimal_units cs (fraction_of (rest_of text))))) whole
    ∙ ap (λ cs. Some (signed (is_minus s) (decimal_units (d ∷ ds) cs))) fraction

read_parts : (before after : ℕ) (s : Sign) (whole f : List ℕ) → 0 < length whole → AllDigits 10 whole → AllDigits 10 f → spelled (replicate before 32 ++ (sign_text s ++ ((whole ++ point_and f) ++ replicate after 32))) ≡ Some (signed (is_minus s) (decimal_units whole f))
read_parts before after s [] f h digits decimals = absurd (omega arith)
read_parts before after s (d ∷ ds) f h digits decimals = read_back before after s d ds f digits decimals

-- a text spells just the number that is read
pub spelled-Spells : (text : List ℕ) (z : ℤ) → Spells text z → spelled text ≡ Some z
spelled-Spells text z h =
    ap spelled h.is_text
    ∙ ap (λ ds. spelled (replicate h.before 32 ++ (sign_text h.sign ++ (ds ++ replicate h.after 32)))) h.is_decimal.is_text
    ∙ read_parts h.before h.after h.sign h.whole h.fraction h.is_decimal.has_whole.0 h.is_decimal.has_whole.1 h.is_decimal.has_fraction
    ∙ ap (λ k. Some k) (sym h.is_value)

same_some : (a b : ℤ) → ◌≡◌ {A = Option ℤ} (Some a) (Some b) → a ≡ b
same_some a b e = ap (λ o. unwrap_or o a) e

none_some : (a : ℤ) → ◌≡◌ {A = Option ℤ} None (Some a) → ⊥
none_some a e = cc

pub Spells-spelled : (text : List ℕ) (z : ℤ) → spelled text ≡ Some z → Spells text z
Spells-spelled text z e = elim (cases (eqb (length (whole_of text)) 0)) [
  | inl none ↦ absurd (none_some z (sym (spelled-no_digit text (eqb-true _ _ none)) ∙ e))
  | inr some ↦ elim (cases (eqb (length (end_of text)) 0)) [
    | inl end ↦
        let own = spelled-some text (eqb-false _ _ some) (eqb-true _ _ end) in
        let P : ℤ → Type 0 = λ w. Spells text w in
        subst P (same_some _ _ (sym own ∙ e)) (spelled_value text (eqb-false _ _ some) (eqb-true _ _ end))
    | inr more ↦ absurd (none_some z (sym (spelled-more text (eqb-false _ _ more)) ∙ e))
  ]
]

-- ---- the answer of reading
pub reads-none : (text : List ℕ) (r : Option ℤ) → r ≡ None → spelled text ≡ None → (z : ℤ) → (r ≡ Some z) ↔ (Spells text z × IsInRange z)
reads-none text r none e z =
    (λ found. absurd (none_some z (sym none ∙ found)), λ h. absurd (none_some z (sym e ∙ spelled-Spells text z h.0)))

pub reads-beyond : (text : List ℕ) (r : Option ℤ) (w : ℤ) → r ≡ None → spelled text ≡ Some w → ¬ IsInRange w → (z : ℤ) → (r ≡ Some z) ↔ (Spells text z × IsInRange z)
reads-beyond text r w none e out z = (
  λ found. absurd (none_some z (sym none ∙ found)),
  λ h. let P : ℤ → Type 0 = λ k. IsInRange k in absurd (out (subst P (same_some z w (sym (spelled-Spells text z h.0) ∙ e)) h.1)),
)

pub reads-found : (text : List ℕ) (r : Option ℤ) (w : ℤ) → r ≡ Some w → spelled text ≡ Some w → IsInRange w → (z : ℤ) → (r ≡ Some z) ↔ (Spells text z × IsInRange z)
reads-found text r w some e inside z = (
  λ found. let P : ℤ → Type 0 = λ k. Spells text k × IsInRange k in
      subst P (same_some w z (sym some ∙ found)) (Spells-spelled text w e, inside),
  λ h. some ∙ sym e ∙ spelled-Spells text z h.0,
)

pub reads-checked : (text : List ℕ) (r : Option ℤ) (checked : Result ℤ NumErr) (w : ℤ) → r ≡ result_ok checked → Checked w checked → spelled text ≡ Some w → (z : ℤ) → (r ≡ Some z) ↔ (Spells text z × IsInRange z)
reads-checked text r (Ok n) w own h e = reads-found text r w (own ∙ ap (λ k. Some k) h.0) e h.1
reads-checked text r (Err x) w own h e = reads-beyond text r w own e h.1
