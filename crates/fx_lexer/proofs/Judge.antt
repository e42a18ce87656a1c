-- The element at the front of a text is the one that is found there.
use Rattle.std.proofs.Common.{◌≡◌, ℕ, ◌<◌, ◌≤◌, List, [], ◌++◌, length, take, drop, refl, ap, sym, ◌∙◌, subst, Some, None, arith, take-append-drop, length-append}
use Rattle.std.proofs.lemmas.List.{length-take-le, take_at, drop_at}
use Rattle.fx_number.specs.Spelling.{IsDecimal, point_and}
use Rattle.fx_lexer.specs.declared.token.Symbol.{Symbol}
use Rattle.fx_lexer.specs.declared.token.Symbol.TheVariants.{OpenParen, CloseParen, OpenBrace, CloseBrace, OpenBracket, CloseBracket, OpenBracketAt, Comma, Semicolon, Colon, Dot, Plus, Minus, Star, Slash, Caret, Percent, Ampersand, DoubleAmpersand, DoubleBar, Bang, Equal, NotEqual, Less, LessEqual, Greater, GreaterEqual}
use Rattle.fx_lexer.specs.declared.token.Word.{Word}
use Rattle.fx_lexer.specs.declared.token.Word.TheVariants as words
use Rattle.fx_lexer.specs.declared.token.TokenKind.TheVariants as kind
use Rattle.fx_lexer.specs.declared.element.Element.{Element}
use Rattle.fx_lexer.specs.declared.element.Element.TheVariants.{Token}
use Rattle.fx_lexer.specs.declared.element.Mode.{Mode}
use Rattle.fx_lexer.specs.Spelling.{is_mark, doubled, word_spelling, symbol_spelling, Spelt, white, line_comment, block_comment, number, text, name, quoted_name, word, symbol, opening, closing, piece, island, SpellsNumber, IsElement, NoElement}
use Rattle.fx_lexer.specs.Scan.{ScannedElement, element_at}
use Rattle.fx_lexer.specs.Lexed.{width}
use Rattle.fx_lexer.specs.Next.{IsFirstElement}
use Rattle.fx_lexer.proofs.Found.{Found, found}
use Rattle.fx_lexer.proofs.Covers.{Covers, covers, piece_long}

-- no spelling is empty
decimal_long : (cs ds es : List ℕ) → IsDecimal cs ds es → 0 < length cs
decimal_long cs ds es h = let k = h.has_whole.0 in let e = ap length h.is_text in omega (arith, length-append ds (point_and es))

word_long : (w : Word) → 0 < length (word_spelling w)
word_long words.And = omega arith
word_long words.Or = omega arith
word_long words.Not = omega arith
word_long words.In = omega arith
word_long words.ExactIn = omega arith
word_long words.As = omega arith
word_long words.True = omega arith
word_long words.False = omega arith

symbol_long : (s : Symbol) → 0 < length (symbol_spelling s)
symbol_long OpenParen = omega arith
symbol_long CloseParen = omega arith
symbol_long OpenBrace = omega arith
symbol_long CloseBrace = omega arith
symbol_long OpenBracket = omega arith
symbol_long CloseBracket = omega arith
symbol_long OpenBracketAt = omega arith
symbol_long Comma = omega arith
symbol_long Semicolon = omega arith
symbol_long Colon = omega arith
symbol_long Dot = omega arith
symbol_long Plus = omega arith
symbol_long Minus = omega arith
symbol_long Star = omega arith
symbol_long Slash = omega arith
symbol_long Caret = omega arith
symbol_long Percent = omega arith
symbol_long Ampersand = omega arith
symbol_long DoubleAmpersand = omega arith
symbol_long DoubleBar = omega arith
symbol_long Bang = omega arith
symbol_long Equal = omega arith
symbol_long NotEqual = omega arith
symbol_long Less = omega arith
symbol_long LessEqual = omega arith
symbol_long Greater = omega arith
symbol_long GreaterEqual = omega arith

pub spelt_long : (mode : Mode) (q : Element) (ys : List ℕ) → Spelt mode q ys → 0 < length ys
spelt_long mode q ys (white c e) = omega arith
spelt_long mode q ys (line_comment cs h) = omega arith
spelt_long mode q ys (block_comment cs h) = omega arith
spelt_long mode q ys (number cs ds es h) = decimal_long cs ds es h
spelt_long mode q ys (text cs) = omega arith
spelt_long mode q ys (name c cs e h n) = omega arith
spelt_long mode q ys (quoted_name c cs) = omega arith
spelt_long mode q ys (word w) = word_long w
spelt_long mode q ys (symbol s) = symbol_long s
spelt_long mode q ys opening = omega arith
spelt_long mode q ys closing = omega arith
spelt_long mode q ys (piece c cs) = piece_long c (doubled is_mark cs) (is_mark c)
spelt_long mode q ys island = omega arith

pub found_at : (mode : Mode) (cs : List ℕ) (e : Element) (n : ℕ) → element_at mode cs ≡ Some (e, n) → Found mode (Some (e, n)) cs
found_at mode cs e n h = subst (λ o. Found mode o cs) h (found mode cs)

pub found_within : (mode : Mode) (cs : List ℕ) (e : Element) (n : ℕ) → element_at mode cs ≡ Some (e, n) → n ≤ length cs
found_within mode cs e n h = (found_at mode cs e n h).0

covers_at : (mode : Mode) (cs : List ℕ) (o : ScannedElement) (q : Element) (ys zs : List ℕ) → element_at mode cs ≡ o → cs ≡ ys ++ zs → Spelt mode q ys → Covers o q ys zs
covers_at mode cs o q ys zs e f s = let P : ScannedElement → Type 0 = λ o. Covers o q ys zs in subst P (ap (element_at mode) (sym f) ∙ e) (covers mode q ys zs s)

longest_at : (mode : Mode) (cs : List ℕ) (e : Element) (n : ℕ) → element_at mode cs ≡ Some (e, n) → (q : Element) (ys zs : List ℕ) → take n cs ++ drop n cs ≡ ys ++ zs → Spelt mode q ys → length ys ≤ length (take n cs)
longest_at mode cs e n h q ys zs f s =
    let c = covers_at mode cs (Some (e, n)) q ys zs h (sym (take-append-drop n cs) ∙ f) s in
    let l = length-take-le n cs (found_within mode cs e n h) in
    subst (λ m. length ys ≤ m) (sym l) (c.0)

pub element_found : (mode : Mode) (cs : List ℕ) (e : Element) (n : ℕ) → element_at mode cs ≡ Some (e, n) → SpellsNumber e (take n cs) → IsElement mode e (take n cs) (drop n cs)
element_found mode cs e n h r = let f = found_at mode cs e n h in record { spelt = f.1; longest = longest_at mode cs e n h; closed = f.2; has_value = r }

pub none_found : (mode : Mode) (cs : List ℕ) → element_at mode cs ≡ None → NoElement mode cs
none_found mode cs h q ys zs f k = covers_at mode cs None q ys zs h f k.spelt k.closed

-- an element is the one that is found
pub element_is : (mode : Mode) (p : Element) (xs rest : List ℕ) → IsElement mode p xs rest → element_at mode (xs ++ rest) ≡ Some (p, length xs)
element_is mode p xs rest h = by (element_at mode (xs ++ rest)) refl (found mode (xs ++ rest)) (covers mode p xs rest h.spelt)
  where
    by : (o : ScannedElement) → element_at mode (xs ++ rest) ≡ o → Found mode o (xs ++ rest) → Covers o p xs rest → element_at mode (xs ++ rest) ≡ Some (p, length xs)
    by None e f c = absurd (c h.closed)
    by (Some r) e f c =
        let most : r.1 ≤ length xs = omega (arith, h.longest r.0 (take r.1 (xs ++ rest)) (drop r.1 (xs ++ rest)) (sym (take-append-drop r.1 (xs ++ rest))) f.1, length-take-le r.1 (xs ++ rest) f.0) in
        let least = c.0 in
        let same : length xs ≡ r.1 = omega arith in
        let k : r.0 ≡ p = c.1 same in
        e ∙ (λ i. Some (k i, sym same i))

-- two elements at one place are the same
pub one_element : (mode mode' : Mode) (p q : Element) (xs rest ys zs : List ℕ) → IsElement mode p xs rest → IsElement mode' q ys zs → mode ≡ mode' → xs ++ rest ≡ ys ++ zs → (p ≡ q) × (xs ≡ ys) × (rest ≡ zs)
one_element mode mode' p q xs rest ys zs f g m e =
    let a = element_is mode p xs rest f in
    let b = element_is mode' q ys zs g in
    let d : ◌≡◌ {A = ScannedElement} (Some (p, length xs)) (Some (q, length ys)) = sym a ∙ (λ i. element_at (m i) (e i)) ∙ b in
    let r : ◌≡◌ {A = Element × ℕ} (p, length xs) (q, length ys) = cc in
    let k : p ≡ q = ap (λ (z : Element × ℕ). z.0) r in
    let n : length xs ≡ length ys = ap (λ (z : Element × ℕ). z.1) r in (
      k,
      sym (take_at xs rest (length xs) refl) ∙ (λ i. take (n i) (e i)) ∙ take_at ys zs (length ys) refl,
      sym (drop_at xs rest (length xs) refl) ∙ (λ i. drop (n i) (e i)) ∙ drop_at ys zs (length ys) refl,
    )

-- where the number found is out of range, there is no element
pub out_of_range : (mode : Mode) (cs : List ℕ) (e : Element) (n : ℕ) → element_at mode cs ≡ Some (e, n) → (SpellsNumber e (take n cs) → ⊥) → NoElement mode cs
out_of_range mode cs e n h r q ys zs f k =
    let a = element_is mode q ys zs k in
    let d : ◌≡◌ {A = ScannedElement} (Some (q, length ys)) (Some (e, n)) = sym a ∙ ap (element_at mode) (sym f) ∙ h in
    let g : ◌≡◌ {A = Element × ℕ} (q, length ys) (e, n) = cc in
    let i : q ≡ e = ap (λ (z : Element × ℕ). z.0) g in
    let m : length ys ≡ n = ap (λ (z : Element × ℕ). z.1) g in
    let t : ys ≡ take n cs = sym (take_at ys zs (length ys) refl) ∙ (λ j. take (m j) (sym f j)) in
    r (subst (λ x. SpellsNumber x (take n cs)) i (subst (SpellsNumber q) t k.has_value))

pub no_element_nil : (mode : Mode) → NoElement mode []
no_element_nil mode q ys zs e k = let n = spelt_long mode q ys k.spelt in let m = ap length e in absurd (omega (arith, length-append ys zs))

-- a number is spelt as one
abbrev pub IsDecimalIfNumber : Element → List ℕ → Type 0
IsDecimalIfNumber (Token kind.Number) xs = (ds : List ℕ) × (es : List ℕ) × IsDecimal xs ds es
IsDecimalIfNumber e xs = Unit {0}

pub decimal_found : (mode : Mode) (e : Element) (xs : List ℕ) → Spelt mode e xs → IsDecimalIfNumber e xs
decimal_found mode e xs (white c h) = tt
decimal_found mode e xs (line_comment cs h) = tt
decimal_found mode e xs (block_comment cs h) = tt
decimal_found mode e xs (number cs ds es h) = (ds, es, h)
decimal_found mode e xs (text cs) = tt
decimal_found mode e xs (name c cs h k n) = tt
decimal_found mode e xs (quoted_name c cs) = tt
decimal_found mode e xs (word w) = tt
decimal_found mode e xs (symbol s) = tt
decimal_found mode e xs opening = tt
decimal_found mode e xs closing = tt
decimal_found mode e xs (piece c cs) = tt
decimal_found mode e xs island = tt

pub front : (mode : Mode) (cs : List ℕ) (e : Element) (n b : ℕ) → element_at mode cs ≡ Some (e, n) → SpellsNumber e (take n cs) → b ≡ width (take n cs) → IsFirstElement mode cs (record { element = e; characters = n; bytes = b })
front mode cs e n b h r w =
    let f = found_at mode cs e n h in
    let l = length-take-le n cs f.0 in
    record { is_long = subst (λ m. 0 < m) l (spelt_long mode e (take n cs) f.1); within = f.0; bytes = w; is_element = element_found mode cs e n h r }
