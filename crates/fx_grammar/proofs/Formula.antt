-- The reading of a whole formula.
use Rattle.std.proofs.Common.{◌≡◌, ℕ, suc, ◌+◌, ◌<◌, ◌≤◌, Bool, true, false, List, [], ◌∷◌, length, refl, ap, sym, ◌∙◌, subst, Option, Some, None, arith, leb}
use Rattle.std.proofs.lemmas.Bool.Decides.{nat_tests}
use Rattle.fx_core.specs.Tree.{Tree}
use Rattle.fx_grammar.specs.declared.item.Item.{Item}
use Rattle.fx_grammar.specs.declared.line.Line.TheVariants.{Chain}
use Rattle.fx_grammar.specs.declared.line.Mark.TheVariants as mark
use Rattle.fx_grammar.specs.Grammar.{Parses}
use Rattle.fx_grammar.specs.Reading.{Parsed, after_mark, line_at}
use Rattle.fx_grammar.specs.Grammar.{IsFormula, bare, marked}
use Rattle.fx_grammar.specs.Formulas.{IsTreeOf, IsDeeper}
use Rattle.fx_grammar.proofs.Tokens.{after_it}
use Rattle.fx_grammar.proofs.Shapes.{unmarked}
use Rattle.fx_grammar.proofs.Complete.{complete}
use Rattle.fx_grammar.proofs.Sound.{Kept, Is, reads, AfterIs, after_is}

-- the tokens of a formula after a first `=`, where there is one
abbrev pub body_by : List Item → Option (List Item) → List Item
body_by ts None = ts
body_by ts (Some us) = us

abbrev pub body : List Item → List Item
body ts = body_by ts (after_mark mark.Equal ts)

pub formula_is : {ts : List Item} {d : ℕ} {t : Tree} → IsFormula ts d t → (n : ℕ) → d ≤ suc n → line_at (suc n) Chain (body ts) ≡ Some (t, d, [])
formula_is (bare ts d t p) n h = ap (λ o. line_at (suc n) Chain (body_by ts o)) (unmarked p) ∙ complete p n h refl
formula_is (marked x us d t e p) n h = ap (λ o. line_at (suc n) Chain (body_by (x ∷ us) o)) (after_it mark.Equal x us e) ∙ complete p n h refl

from_chain : (ts : List Item) (d : ℕ) (t : Tree) (o : Option (List Item)) → AfterIs mark.Equal ts o → Parses Chain d (body_by ts o) t [] → IsFormula ts d t
from_chain ts d t None a p = bare ts d t p
from_chain ts d t (Some us) a p = subst (λ r. IsFormula r d t) (sym a.1) (marked a.0 us d t a.2 p)

pub has_tree : (n : ℕ) (ts : List Item) (s : Parsed Tree) → line_at n Chain (body ts) ≡ Some s → length s.2 ≡ 0 → IsTreeOf n ts s.0
has_tree n ts (t, d, []) e h = let p : Is Chain n (body ts) (t, d, []) = subst (Kept (Is Chain n (body ts))) e (reads n Chain (body ts)) in (d, p.1, from_chain ts d t (after_mark mark.Equal ts) (after_is mark.Equal ts) p.0)
has_tree n ts (t, d, x ∷ us) e h = absurd (omega arith)

pub above : (n d : ℕ) → (d ≤ n → ⊥) → n < d
above n d f = by (leb d n) refl
  where
    by : (b : Bool) → leb d n ≡ b → n < d
    by true e = absurd (f (grind (arith, nat_tests)))
    by false e = grind (arith, nat_tests)

pub deeper_none : (n : ℕ) (ts : List Item) → line_at (suc n) Chain (body ts) ≡ None → IsDeeper (suc n) ts
deeper_none n ts e d t p = above (suc n) d (λ h. let f = formula_is p n h in cc)

pub deeper_rest : (n : ℕ) (ts : List Item) (s : Parsed Tree) → line_at (suc n) Chain (body ts) ≡ Some s → (length s.2 ≡ 0 → ⊥) → IsDeeper (suc n) ts
deeper_rest n ts s e h d t p = above (suc n) d (λ k.
    let f : ◌≡◌ {A = Option (Parsed Tree)} (Some s) (Some (t, d, [])) = sym e ∙ formula_is p n k in
    let g : ◌≡◌ {A = Parsed Tree} s (t, d, []) = cc in
    h (ap (λ (z : Parsed Tree). length z.2) g))

-- a formula has one tree and one depth
pub one_tree : (ts : List Item) (d e : ℕ) (t u : Tree) → IsFormula ts d t → IsFormula ts e u → (t ≡ u) × (d ≡ e)
one_tree ts d e t u p q =
    let f : ◌≡◌ {A = Option (Parsed Tree)} (Some (t, d, [])) (Some (u, e, [])) = sym (formula_is p (d + e) (omega arith)) ∙ formula_is q (d + e) (omega arith) in
    let g : ◌≡◌ {A = Parsed Tree} (t, d, []) (u, e, []) = cc in
    (ap (λ (z : Parsed Tree). z.0) g, ap (λ (z : Parsed Tree). z.1) g)
