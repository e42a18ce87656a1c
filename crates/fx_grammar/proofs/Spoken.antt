-- What the spelling of a token says of what it means.
use Rattle.std.proofs.Common.{◌≡◌, ℕ, ℤ, ◌+◌, ◌-◌, ◌≤◌, Bool, true, false, List, [], ◌∷◌, ◌++◌, length, take, drop, refl, ap, sym, ◌∙◌, subst, eqb, arith, inl, inr, length-append, Option, Some, None, cond, Result, Ok, Err, IfOk}
use Rattle.std.specs.Prelude.{◌⊎◌, pos, encode_utf8_all, ◌≤ℤ◌, option_map, IsSome, ◌↔◌}
use Rattle.std.specs.Str.{chars, IsUtf8, all_scalars}
use Rattle.std.proofs.Math.Utf8.{scalar}
use Rattle.std.proofs.lemmas.Str.{encodes-chars, chars-encodes}
use Rattle.std.proofs.lemmas.Bool.Decides.{nat_tests}
use Rattle.std.proofs.lemmas.Int.{ints}
use Rattle.std.proofs.lemmas.List.{take_at}
use Rattle.fx_number.specs.Decimal.{greatest, IsInRange}
use Rattle.fx_number.specs.Spelling.{IsDecimal, Spells, decimal_units}
use Rattle.fx_number.proofs.LeftToRight.{spelled-Spells}
use Rattle.fx_number.proofs.Written.{Spells-decimal}
use Rattle.fx_lexer.specs.declared.token.TokenKind.TheVariants as kind
use Rattle.fx_lexer.specs.declared.element.Class.TheVariants.{Letter, Other}
use Rattle.fx_lexer.specs.declared.element.Element.{Element}
use Rattle.fx_lexer.specs.declared.element.Element.TheVariants.{Token}
use Rattle.fx_lexer.specs.declared.element.Mode.{Mode}
use Rattle.fx_lexer.specs.Spelling.{class_at, doubled, begins_with, Spelt, white, line_comment, block_comment, number, text, name, quoted_name, word, symbol, opening, closing, piece, island}
use Rattle.fx_lexer.specs.Slices.{IsSpeltAs}
use Rattle.fx_lexer.proofs.Texts.{scalars_split, decimal_bytes, both}
use Rattle.fx_grammar.specs.declared.marks.Marks.{Marks}
use Rattle.fx_grammar.specs.declared.marks.Marks.TheVariants.{Quote, Apostrophe, Weave}
use Rattle.fx_grammar.specs.Undoubling.{test_of, undoubled}
use Rattle.fx_grammar.proofs.Doubling.{undoubled-doubled, one_doubled}
use Rattle.fx_grammar.specs.Meant.{quote_of, in_quotes, IsQuoted, IsSomeDoubled, IsNumberOf, IsValued}

abbrev pub IsNamed : List ℕ → Type 0
IsNamed xs = (begins_with 39 xs ≡ false) ⊎ IsQuoted Apostrophe xs

abbrev pub Spoken : Element → List ℕ → Type 0
Spoken (Token kind.Number) xs = (ds : List ℕ) × (es : List ℕ) × IsDecimal xs ds es
Spoken (Token kind.Text) xs = IsQuoted Quote xs
Spoken (Token kind.Name) xs = IsNamed xs
Spoken (Token kind.Piece) xs = IsSomeDoubled Weave xs
Spoken e xs = Unit {0}

pub quote_class : class_at 39 ≡ Other
unfolding class_at
quote_class = refl

plain : (c : ℕ) → class_at c ≡ Letter → eqb c 39 ≡ false
plain c h = by (eqb c 39) refl
  where
    by : (b : Bool) → eqb c 39 ≡ b → eqb c 39 ≡ false
    by false e = e
    by true e = let g : c ≡ 39 = grind (arith, nat_tests) in let k : Other ≡ Letter = sym quote_class ∙ ap class_at (sym g) ∙ h in cc

pub spoken : (mode : Mode) (e : Element) (xs : List ℕ) → Spelt mode e xs → Spoken e xs
spoken mode e xs (white c h) = tt
spoken mode e xs (line_comment cs h) = tt
spoken mode e xs (block_comment cs h) = tt
spoken mode e xs (number cs ds es h) = (ds, es, h)
spoken mode e xs (text cs) = (cs, refl)
spoken mode e xs (name c cs h k n) = inl (plain c h)
spoken mode e xs (quoted_name c cs) = inr (c ∷ cs, refl)
spoken mode e xs (word w) = tt
spoken mode e xs (symbol s) = tt
spoken mode e xs opening = tt
spoken mode e xs closing = tt
spoken mode e xs (piece c cs) = (c ∷ cs, refl)
spoken mode e xs island = tt

pub as_text : (xs : List ℕ) → IsSpeltAs kind.Text xs → IsQuoted Quote xs
as_text xs h = spoken h.0 (Token kind.Text) xs h.1

pub as_piece : (xs : List ℕ) → IsSpeltAs kind.Piece xs → IsSomeDoubled Weave xs
as_piece xs h = spoken h.0 (Token kind.Piece) xs h.1

pub as_name : (xs : List ℕ) → IsSpeltAs kind.Name xs → true ≡ begins_with 39 xs → IsQuoted Apostrophe xs
as_name xs h e = by (spoken h.0 (Token kind.Name) xs h.1)
  where
    by : IsNamed xs → IsQuoted Apostrophe xs
    by (inl f) = let g : true ≡ false = e ∙ f in absurd cc
    by (inr f) = f

pub as_number : (xs : List ℕ) → IsSpeltAs kind.Number xs → (ds : List ℕ) × (es : List ℕ) × IsDecimal xs ds es
as_number xs h = spoken h.0 (Token kind.Number) xs h.1

-- the text between the quotes
pub quoted_inner : (k : Marks) (xs cs : List ℕ) → xs ≡ in_quotes k cs → take (length xs - 1 - 1) (drop 1 xs) ≡ doubled (test_of k) cs
quoted_inner k xs cs e =
    let D = doubled (test_of k) cs in
    let l = ap length e in
    let n : length xs - 1 - 1 ≡ length D = omega (arith, length-append D (quote_of k ∷ [])) in
    (λ i. take (n i) (drop 1 (e i))) ∙ take_at D (quote_of k ∷ []) (length D) refl

-- the characters of a number are its bytes
pub number_bytes : (bs : List ℕ) → IsUtf8 bs → IsSpeltAs kind.Number (chars bs) → bs ≡ chars bs
number_bytes bs u h = let d = as_number (chars bs) h in sym (encodes-chars bs u) ∙ decimal_bytes (chars bs) d.0 d.1 d.2

in_range : (n : ℕ) → pos n ≤ℤ pos greatest → n ≤ greatest
in_range n h = omega (arith, ints)

pub value_is : (bs : List ℕ) (z : ℤ) → IsUtf8 bs → IsSpeltAs kind.Number (chars bs) → Spells bs z → IsInRange z → IsNumberOf (chars bs) z
value_is bs z u h s r =
    let d = as_number (chars bs) h in
    let t : Spells (chars bs) z = subst (λ x. Spells x z) (number_bytes bs u h) s in
    let f : ◌≡◌ {A = Option ℤ} (Some z) (Some (pos (decimal_units d.0 d.1))) = sym (spelled-Spells (chars bs) z t) ∙ spelled-Spells (chars bs) _ (Spells-decimal (chars bs) d.0 d.1 d.2) in
    let g : z ≡ pos (decimal_units d.0 d.1) = cc in
    (d.0, d.1, d.2, in_range (decimal_units d.0 d.1) (subst (λ y. y ≤ℤ pos greatest) g r.1), g)

pub single_scalars : (p : ℕ → Bool) (cs : List ℕ) → all_scalars (doubled p cs) ≡ true → all_scalars cs ≡ true
single_scalars p [] e = refl
single_scalars p (c ∷ cs) e = by (single_scalars p cs) (p c) e
  where
    by : (all_scalars (doubled p cs) ≡ true → all_scalars cs ≡ true) → (b : Bool) → all_scalars (cond b (c ∷ c ∷ doubled p cs) (c ∷ doubled p cs)) ≡ true → all_scalars (c ∷ cs) ≡ true
    by r true f =
        let h = both (scalar c) (all_scalars (c ∷ doubled p cs)) f in
        let g = both (scalar c) (all_scalars (doubled p cs)) h.1 in
        let k = r g.1 in rw (h.0, k) refl
    by r false f =
        let h = both (scalar c) (all_scalars (doubled p cs)) f in
        let k = r h.1 in rw (h.0, k) refl

pub inner_scalars : (k : Marks) (xs cs : List ℕ) → xs ≡ in_quotes k cs → all_scalars xs ≡ true → all_scalars (take (length xs - 1 - 1) (drop 1 xs)) ≡ true
inner_scalars k xs cs e s =
    let D = doubled (test_of k) cs in
    let h = both (scalar (quote_of k)) (all_scalars (D ++ quote_of k ∷ [])) (subst (λ (x : List ℕ). all_scalars x ≡ true) e s) in
    subst (λ (x : List ℕ). all_scalars x ≡ true) (sym (quoted_inner k xs cs e)) (scalars_split D (quote_of k ∷ []) h.1).0

pub quoted_back : {E : Type 0} (r : Result (List ℕ) E) (k : Marks) (xs : List ℕ) → IsQuoted k xs → IfOk r (λ w. take (length xs - 1 - 1) (drop 1 xs) ≡ doubled (test_of k) w) → IfOk r (λ w. xs ≡ in_quotes k w)
quoted_back (Ok w) k xs q h = let e = one_doubled (test_of k) q.0 w (sym (quoted_inner k xs q.0 q.1) ∙ h) in q.1 ∙ ap (in_quotes k) e
quoted_back (Err x) k xs q h = h

pub words_are : {E : Type 0} (r : Result (List ℕ) E) (bs cs : List ℕ) → IfOk r (λ w. w ≡ chars bs) → bs ≡ encode_utf8_all cs → all_scalars cs ≡ true → IfOk r (λ w. w ≡ cs)
words_are (Ok w) bs cs h e s = h ∙ ap chars e ∙ chars-encodes cs s
words_are (Err x) bs cs h e s = h

pub doubled_back : {E : Type 0} (r : Result (List ℕ) E) (p : ℕ → Bool) (xs ys cs : List ℕ) → IfOk r (λ w. w ≡ ys) → ys ≡ cs → xs ≡ doubled p cs → IfOk r (λ w. xs ≡ doubled p w)
doubled_back (Ok w) p xs ys cs h e f = f ∙ ap (doubled p) (sym (h ∙ e))
doubled_back (Err x) p xs ys cs h e f = h

-- what is found without doubled marks
pub found_some : {V : Type 0} (o : Option V) (items : V → List ℕ) (p : ℕ → Bool) (xs : List ℕ) → option_map items o ≡ undoubled p xs → (cs : List ℕ) → xs ≡ doubled p cs → option_map items o ≡ Some cs
found_some o items p xs e cs f = e ∙ ap (undoubled p) f ∙ undoubled-doubled p cs

pub is_found : {V : Type 0} (o : Option V) (items : V → List ℕ) (cs : List ℕ) → option_map items o ≡ Some cs → IsSome o
is_found None items cs e = absurd cc
is_found (Some v) items cs e = refl

pub found_is : {V : Type 0} (o : Option V) (items : V → List ℕ) (cs : List ℕ) (v : V) → option_map items o ≡ Some cs → o ≡ Some v → items v ≡ cs
found_is o items cs v e f = let g : ◌≡◌ {A = Option (List ℕ)} (Some (items v)) (Some cs) = sym (ap (option_map items) f) ∙ e in cc

-- the value of a number
pub read_some : (bs : List ℕ) (r : Option ℤ) → IsUtf8 bs → IsSpeltAs kind.Number (chars bs) → IsValued kind.Number (chars bs) → ((z : ℤ) → (r ≡ Some z) ↔ (Spells bs z × IsInRange z)) → IsSome r
read_some bs r u h v f =
    let e : r ≡ Some v.0 = (f v.0).1 (subst (λ (x : List ℕ). Spells x v.0) (sym (number_bytes bs u h)) v.1, v.2) in
    subst (λ (o : Option ℤ). IsSome o) (sym e) refl

pub read_value : (bs : List ℕ) (r : Option ℤ) → IsUtf8 bs → IsSpeltAs kind.Number (chars bs) → ((z : ℤ) → (r ≡ Some z) ↔ (Spells bs z × IsInRange z)) → (z : ℤ) → r ≡ Some z → IsNumberOf (chars bs) z
read_value bs r u h f z e = let k = (f z).0 e in value_is bs z u h k.0 k.1
