-- Where the source may be cut.
use Rattle.std.proofs.Common.{◌≡◌, ℕ, ◌+◌, ◌<◌, ◌≤◌, List, [], ◌∷◌, ◌++◌, length, map, refl, ap, sym, ◌∙◌, subst, arith, Option, Some, Ok, length-append}
use Rattle.std.specs.Str.{chars, IsUtf8, IsCharBoundary}
use Rattle.fx_lexer.specs.declared.token.Token.{Token as Tok}
use Rattle.fx_lexer.specs.Lexed.{width, Lexeme, token_of, Lexed}
use Rattle.fx_lexer.specs.Slices.{lexemes, AreSlicesFrom, AreSlices}
use Rattle.fx_lexer.proofs.Cuts.{slices_of}
use Rattle.fx_lexer.proofs.Readings.{lexemes_one}
use Rattle.fx_grammar.specs.declared.item.Item.{Item}
use Rattle.fx_grammar.specs.Grammar.{first_byte}
use Rattle.fx_grammar.specs.Formulas.{end}
use Rattle.fx_grammar.specs.Means.{TokenMeans, number, text, plain_name, quoted_name, word, symbol, opening, closing, piece, AllMean, no_more, one_more}
use Rattle.fx_grammar.proofs.MeantSound.{texts}
use Rattle.fx_parser.specs.Entries.{AreCutsFrom, AreCuts, entry_head, next_of}
use Rattle.fx_core.specs.Tree.{Tree}
use Rattle.fx_grammar.specs.declared.line.Join.TheVariants as join
use Rattle.fx_grammar.specs.declared.line.Line.TheVariants.{Several}
use Rattle.fx_grammar.specs.Reading.{Parsed, line_at}
use Rattle.fx_parser.proofs.Firsts.{front, front_joins, head_shape, next_shape, NextIs}

placed : {l : Lexeme} {x : Item} → TokenMeans l x → (x.at ≡ l.at) × (x.upto ≡ l.at + width l.text)
placed (number l ds es e f b) = (refl, refl)
placed (text l cs e f) = (refl, refl)
placed (plain_name l e f) = (refl, refl)
placed (quoted_name l cs e f) = (refl, refl)
placed (word l w e) = (refl, refl)
placed (symbol l s e) = (refl, refl)
placed (opening l e) = (refl, refl)
placed (closing l e) = (refl, refl)
placed (piece l cs e f) = (refl, refl)

cuts_by : {ls : List Lexeme} {xs : List Item} → AllMean ls xs → (source : List ℕ) (from : ℕ) → AreSlicesFrom source from (map token_of ls) → AreCutsFrom source from xs
cuts_by no_more source from s = tt
cuts_by (one_more l x ls xs p h) source from s =
    let e = placed p in
    let f = e.0 in
    let g = e.1 in
    let k = s.1.is_long in (
      subst (λ (n : ℕ). from ≤ n) (sym f) s.0,
      subst (IsCharBoundary source) (sym f) s.1.begins,
      omega arith,
      subst (IsCharBoundary source) (sym g) s.1.ends,
      subst (λ (n : ℕ). AreCutsFrom source n xs) (sym g) (cuts_by h source (l.at + width l.text) s.2),
    )

pub cuts_of : (source : List ℕ) (ts : List Tok) (xs : List Item) → IsUtf8 source → Lexed (chars source) ts → AllMean (lexemes source ts) xs → AreCuts source xs
cuts_of source ts xs u l a =
    let s : AreSlices source ts = slices_of {V = List Tok} {E = ℕ} (λ x. x) source (chars source) (Ok ts) u refl l in
    let e : lexemes source ts ≡ l.0 = lexemes_one (chars source) (lexemes source ts) l.0 (texts source ts u l) l.1 in
    cuts_by a source 0 (subst (AreSlicesFrom source 0) (l.2 ∙ ap (map token_of) (sym e)) s)

earlier : (source : List ℕ) (a b : ℕ) (us : List Item) → a ≤ b → AreCutsFrom source b us → AreCutsFrom source a us
earlier source a b [] l h = tt
earlier source a b (x ∷ us) l h = (let k = h.0 in omega arith, h.1, h.2, h.3, h.4)

before : (source : List ℕ) (from : ℕ) (ts us : List Item) → AreCutsFrom source from (ts ++ us) → AreCutsFrom source from ts
before source from [] us h = tt
before source from (x ∷ ts) us h = (h.0, h.1, h.2, h.3, before source x.upto ts us h.4)

pub behind : (source : List ℕ) (from : ℕ) (ts us : List Item) → AreCutsFrom source from (ts ++ us) → AreCuts source us
behind source from [] us h = earlier source 0 from us (omega arith) h
behind source from (x ∷ ts) us h = behind source x.upto ts us h.4

-- These tokens are a slice of the source.
pub record IsRange (source : List ℕ) (from : ℕ) (ts : List Item) : Type 0 where
  pub begins : IsCharBoundary source (first_byte ts)
  pub above : from ≤ first_byte ts
  pub ordered : first_byte ts ≤ end ts
  pub ends : IsCharBoundary source (end ts)

range : (source : List ℕ) (from : ℕ) (ts : List Item) → AreCutsFrom source from ts → 0 < length ts → IsRange source from ts
range source from [] h n = absurd (omega arith)
range source from (x ∷ []) h n = record { begins = h.1; above = h.0; ordered = h.2; ends = h.3 }
range source from (x ∷ y ∷ us) h n =
    let r = range source x.upto (y ∷ us) h.4 (omega arith) in
    let a = h.2 in
    let b = r.above in
    let c = r.ordered in
    record { begins = h.1; above = h.0; ordered = omega arith; ends = r.ends }

pub range_of : (source : List ℕ) (ts us : List Item) → AreCuts source (ts ++ us) → 0 < length ts → IsRange source 0 ts
range_of source ts us h n = range source 0 ts (before source 0 ts us h) n

pub body_cuts : (source : List ℕ) (ts : List Item) (cs : List ℕ) (body : List Item) → AreCuts source ts → entry_head ts ≡ Some (cs, body) → AreCuts source body
body_cuts source ts cs body h e = let k = head_shape ts cs body e in behind source 0 (k.0 ∷ k.1 ∷ []) body (subst (λ (us : List Item). AreCuts source us) k.2 h)

pub front_range : (source : List ℕ) (body : List Item) (s : Parsed Tree) → AreCuts source body → line_at 64 (Several join.Or) body ≡ Some s → length s.2 < length body → IsRange source 0 (front body s.2)
front_range source body s h e n =
    let f = front_joins body s e in
    let l = ap length f in
    range_of source (front body s.2) s.2 (subst (λ (us : List Item). AreCuts source us) f h) (omega (arith, length-append (front body s.2) s.2))

next_cuts : (source : List ℕ) (ts us : List Item) → AreCuts source ts → NextIs ts (Some us) → AreCuts source us
next_cuts source [] us h n = subst (λ (vs : List Item). AreCuts source vs) (sym n) tt
next_cuts source (z ∷ vs) us h n = subst (λ (ws : List Item). AreCuts source ws) (sym n.1) (behind source 0 (z ∷ []) vs h)

pub others_cuts : (source : List ℕ) (body : List Item) (s : Parsed Tree) (us : List Item) → AreCuts source body → line_at 64 (Several join.Or) body ≡ Some s → next_of s.2 ≡ Some us → AreCuts source us
others_cuts source body s us h e f = next_cuts source s.2 us (behind source 0 (front body s.2) s.2 (subst (λ (ws : List Item). AreCuts source ws) (front_joins body s e) h)) (next_shape s.2 us f)
