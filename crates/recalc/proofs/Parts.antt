-- Trees of an edited app, part by part.
use Rattle.std.proofs.Common.{◌≡◌, ℕ, zero, suc, ◌+◌, ◌<◌, ◌≤◌, List, [], ◌∷◌, length, Option, Some, None, refl, sym, subst, ap, ◌∙◌, arith, below_more, inl, inr}
use Rattle.std.proofs.lemmas.Bool.{cases_lt}
use Rattle.std.specs.Borrow.{Bor}
use Rattle.std.specs.Prelude.{MatchOption, slice_get}
use Rattle.fx_core.specs.Term.{Term, Terms, all, cons, term_field_names, nil, of, term_size, terms_size}
use Rattle.fx_core.specs.Term as term
use Rattle.fx_core.specs.declared.sources.Source.{Source}
use Rattle.recalc.specs.Carrying.{AreOldTrees, IsOldPart, IsOldTop, IsOldTree, IsPast, subtree_at, subtrees, top_of}

abbrev Was : Type 1
Was = Source → Source → Type 0

-- ---- where parts stand

pub listed_at : (ts : List Term) (k : ℕ) → subtree_at (all ts) k ≡ slice_get ts k
listed_at [] k = refl
listed_at (t ∷ ts) zero = refl
listed_at (t ∷ ts) (suc k) = listed_at ts k

part_falls : (ts : Terms) (k : ℕ) (t : Term) → subtree_at ts k ≡ Some t → term_size t < terms_size ts
part_falls nil k t e = (let no : None ≡ Some t = e in absurd cc)
part_falls (cons u ts) zero t e = (let same : u ≡ t = cc in let s : term_size u ≡ term_size t = ap term_size same in omega (arith, s))
part_falls (cons u ts) (suc k) t e = (let l = part_falls ts k t e in omega (arith, l))

-- a part is smaller than its tree
pub part_is_smaller : (u : Term) (k : ℕ) (t : Term) → subtree_at (subtrees u) k ≡ Some t → term_size t < term_size u
part_is_smaller (of h ts) k t e = (let l = part_falls ts k t e in omega (arith, l))

-- ---- trees that are old ones, part by part

pub parts_each : (W : Was) (ts us : Terms) → AreOldTrees W ts us → (k : ℕ) → IsOldPart W (subtree_at ts k) (subtree_at us k)
parts_each W nil nil h k = tt
parts_each W (cons t ts) (cons u us) h zero = h.0
parts_each W (cons t ts) (cons u us) h (suc k) = parts_each W ts us h.1 k
parts_each W nil (cons u us) h k = absurd h
parts_each W (cons t ts) nil h k = absurd h

pub parts_all : (W : Was) (ts us : Terms) → ((k : ℕ) → IsOldPart W (subtree_at ts k) (subtree_at us k)) → AreOldTrees W ts us
parts_all W nil nil h = tt
parts_all W (cons t ts) (cons u us) h = (h 0, parts_all W ts us (λ k. h (suc k)))
parts_all W nil (cons u us) h = absurd (h 0)
parts_all W (cons t ts) nil h = absurd (h 0)

pub tree_each : (W : Was) (t u : Term) → IsOldTree W t u → (k : ℕ) → IsOldPart W (subtree_at (subtrees t) k) (subtree_at (subtrees u) k)
tree_each W (of h ts) (of g us) o k = parts_each W ts us o.1 k

pub tree_all : (W : Was) (t u : Term) → IsOldTop W (top_of t) (top_of u) → ((k : ℕ) → IsOldPart W (subtree_at (subtrees t) k) (subtree_at (subtrees u) k)) → IsOldTree W t u
tree_all W (of h ts) (of g us) top each = (top, parts_all W ts us each)

-- ---- fields

pub names_long : (fs gs : List (List ℕ × Term)) → term_field_names fs ≡ term_field_names gs → length fs ≡ length gs
names_long [] [] e = refl
names_long [] (g ∷ gs) e = absurd cc
names_long (f ∷ fs) [] e = absurd cc
names_long (f ∷ fs) (g ∷ gs) e = (let rest : term_field_names fs ≡ term_field_names gs = cc in ap suc (names_long fs gs rest))

-- ---- beyond the last part

listed_none : (ts : List Term) (k : ℕ) → length ts ≤ k → subtree_at (all ts) k ≡ None
listed_none [] k h = refl
listed_none (t ∷ ts) zero h = absurd (omega (arith, h))
listed_none (t ∷ ts) (suc k) h = listed_none ts k (omega (arith, h))

fields_none : (fs : List (List ℕ × Term)) (k : ℕ) → length fs ≤ k → subtree_at (term.field_terms fs) k ≡ None
fields_none [] k h = refl
fields_none (f ∷ fs) zero h = absurd (omega (arith, h))
fields_none (f ∷ fs) (suc k) h = fields_none fs k (omega (arith, h))

pub past_none : IsPast 0 nil
past_none k h = refl

pub past_one : (t : Term) → IsPast 0 (cons t nil)
past_one t zero h = absurd (omega (arith, h))
past_one t (suc k) h = refl

pub past_two : (t u : Term) → IsPast 1 (cons t (cons u nil))
past_two t u zero h = absurd (omega (arith, h))
past_two t u (suc zero) h = absurd (omega (arith, h))
past_two t u (suc (suc k)) h = refl

pub past_listed : (ts : List Term) (n : ℕ) → n ≡ length ts → IsPast n (all ts)
past_listed ts n e k h = listed_none ts k (omega (arith, e, h))

pub past_headed : (t : Term) (ts : List Term) (n : ℕ) → n ≡ length ts → IsPast n (cons t (all ts))
past_headed t ts n e zero h = absurd (omega (arith, h))
past_headed t ts n e (suc k) h = listed_none ts k (omega (arith, e, h))

pub past_fields : (fs : List (List ℕ × Term)) (n : ℕ) → n ≡ length fs → IsPast n (term.field_terms fs)
past_fields fs n e k h = fields_none fs k (omega (arith, e, h))

-- ---- where parts are found

pub listed_found : (ts : List Term) (k : ℕ) (o : Option (Bor Term)) → MatchOption o (length ts ≤ k) (λ t. slice_get ts k ≡ Some t.now) → MatchOption o (subtree_at (all ts) k ≡ None) (λ t. subtree_at (all ts) k ≡ Some t.now)
listed_found ts k None h = listed_none ts k h
listed_found ts k (Some t) e = listed_at ts k ∙ e

pub field_found : (fs : List (List ℕ × Term)) (k : ℕ) (f : List ℕ × Term) → slice_get fs k ≡ Some f → subtree_at (term.field_terms fs) k ≡ Some f.1
field_found [] k f e = (let no : None ≡ Some f = e in absurd cc)
field_found (g ∷ fs) zero f e = (let same : g ≡ f = cc in ap (λ (x : List ℕ × Term). Some x.1) same)
field_found (g ∷ fs) (suc k) f e = field_found fs k f e

pub field_end : (fs : List (List ℕ × Term)) (k : ℕ) → length fs ≤ k → subtree_at (term.field_terms fs) k ≡ None
field_end fs k h = fields_none fs k h

-- ---- all of them

-- what holds up to a place after which none stands holds everywhere
pub everywhere : (W : Was) (ts us : Terms) (n m last : ℕ) → IsPast n ts → IsPast m us → n ≤ last → m ≤ last → ((k : ℕ) → k < last → IsOldPart W (subtree_at ts k) (subtree_at us k)) → IsOldPart W (subtree_at ts last) (subtree_at us last) → (k : ℕ) → IsOldPart W (subtree_at ts k) (subtree_at us k)
everywhere W ts us n m last p q low high below here k = elim (cases_lt k (last + 1)) [
  | inl before ↦ below_more (λ (i : ℕ). IsOldPart W (subtree_at ts i) (subtree_at us i)) last below here k before
  | inr from ↦ subst (λ (o : Option Term). IsOldPart W o (subtree_at us k)) (sym (p k (omega (arith, low, from)))) (subst (IsOldPart W None) (sym (q k (omega (arith, high, from)))) tt)
]
