-- What was written on the way.
use Rattle.std.proofs.Common.{◌≡◌, ◌⊎◌, ℕ, List, [], ◌∷◌, ◌++◌, Bool, true, false, ap, sym, subst, ◌∙◌, append_assoc, inl, inr}
use Rattle.std.proofs.lemmas.List.{append-nil}
use Rattle.fx_base.specs.Telling.{Stays}
use Rattle.fx_types.specs.Values.{Data}
use Rattle.fx_core.specs.declared.schema.Column.{Column}
use Rattle.fx_core.specs.declared.sources.Source.{Source}
use Rattle.fx_core.specs.declared.sources.Source.TheVariants as source
use Rattle.session_state.specs.declared.change.Change.{Change}
use Rattle.row_keeper.specs.declared.rows.Put.{Put}
use Rattle.row_keeper.specs.declared.rows.Put.TheVariants.{Id, NoRow, Refused}
use Rattle.fx_deeds.specs.Changed.{IsChanged, IsRowChanged, IsRowMade, IsRowRemoved, written}
use Rattle.fx_deeds.specs.State.{WorldState}
use Rattle.fx_deeds.specs.Within.{IsAmong}
use Rattle.fx_deeds.specs.Writable.{IsOneOf, WritesOnly}

-- ---- states

among_either : (x : Source) (xs ys : List Source) → IsAmong x (xs ++ ys) → IsAmong x xs ⊎ IsAmong x ys
among_either x [] ys h = inr h
among_either x (z ∷ xs) ys (inl e) = inl (inl e)
among_either x (z ∷ xs) ys (inr h) = by_rest (among_either x xs ys h) where
  by_rest : IsAmong x xs ⊎ IsAmong x ys → IsAmong x (z ∷ xs) ⊎ IsAmong x ys
  by_rest (inl k) = inl (inr k)
  by_rest (inr k) = inr k

either : {X Y Z : Type 0} → (X → Z) → (Y → Z) → X ⊎ Y → Z
either f g (inl x) = f x
either f g (inr y) = g y

pub writes_nothing : {A : Type 0} (P : Source → Type 0) (a : WorldState A) → WritesOnly P a a
writes_nothing P a = record { more = []; wrote = sym (append-nil a.wrote); allowed = λ x h. absurd h }

pub writes_on : {A : Type 0} (P Q R : Source → Type 0) → ((x : Source) → P x → R x) → ((x : Source) → Q x → R x) → (a b c : WorldState A) → WritesOnly P a b → WritesOnly Q b c → WritesOnly R a c
writes_on P Q R f g a b c p q = record {
  more = p.more ++ q.more;
  wrote = q.wrote ∙ ap (λ z. z ++ q.more) p.wrote ∙ append_assoc a.wrote p.more q.more;
  allowed = λ x h. either (λ k. f x (p.allowed x k)) (λ k. g x (q.allowed x k)) (among_either x p.more q.more h);
}

pub writes_wider : {A : Type 0} (P Q : Source → Type 0) → ((x : Source) → P x → Q x) → (a b : WorldState A) → WritesOnly P a b → WritesOnly Q a b
writes_wider P Q f a b p = record { more = p.more; wrote = p.wrote; allowed = λ x h. f x (p.allowed x h) }

pub unwritten : {A : Type 0} (P : Source → Type 0) (a b : WorldState A) → Stays a b → WritesOnly P a b
unwritten P a b e = subst (λ z. WritesOnly P a z) (sym e) (writes_nothing P a)

-- the first of what is left, where all of it is allowed
pub first_among : (left : List Source) (k : Source) (others : List Source) (P : Source → Type 0) → left ≡ k ∷ others → ((x : Source) → IsAmong x left → P x) → (x : Source) → IsAmong x (k ∷ []) → P x
first_among left k others P e f x (inl q) = f x (subst (λ ks. IsAmong x ks) (sym e) (inl q))
first_among left k others P e f x (inr w) = absurd w

-- the others
pub others_among : (left : List Source) (k : Source) (others : List Source) (P : Source → Type 0) → left ≡ k ∷ others → ((x : Source) → IsAmong x left → P x) → (x : Source) → IsAmong x others → P x
others_among left k others P e f x h = f x (subst (λ ks. IsAmong x ks) (sym e) (inr h))

-- ---- changes

pub changed_only : {A : Type 0} (c : Change) (done : Bool) (a b : WorldState A) → IsChanged c done a b → WritesOnly (IsOneOf (written c)) a b
changed_only c true a b h = record { more = written c; wrote = ap (λ z. z.wrote) h.1; allowed = λ x k. k }
changed_only c false a b h = unwritten (IsOneOf (written c)) a b h.1

pub row_made_only : {A : Type 0} (columns : List Column) (k : ℕ) (cells : List Data) (p : Put) (s t : WorldState A) → IsRowMade columns k cells p s t → WritesOnly (IsOneOf (source.Table k ∷ [])) s t
row_made_only columns k cells (Id n) s t h = record { more = source.Table k ∷ []; wrote = ap (λ z. z.wrote) h.2; allowed = λ x w. w }
row_made_only columns k cells (Refused r) s t h = unwritten (IsOneOf (source.Table k ∷ [])) s t h.2
row_made_only columns k cells NoRow s t h = unwritten (IsOneOf (source.Table k ∷ [])) s t h.2

pub row_changed_only : {A : Type 0} (columns : List Column) (k id : ℕ) (cells : List Data) (p : Put) (s t : WorldState A) → IsRowChanged columns k id cells p s t → WritesOnly (IsOneOf (source.Table k ∷ [])) s t
row_changed_only columns k id cells (Id n) s t h = record { more = source.Table k ∷ []; wrote = ap (λ z. z.wrote) h.2; allowed = λ x w. w }
row_changed_only columns k id cells (Refused r) s t h = unwritten (IsOneOf (source.Table k ∷ [])) s t h.2
row_changed_only columns k id cells NoRow s t h = unwritten (IsOneOf (source.Table k ∷ [])) s t h.2

pub row_removed_only : {A : Type 0} (k id : ℕ) (found : Bool) (s t : WorldState A) → IsRowRemoved k id found s t → WritesOnly (IsOneOf (source.Table k ∷ [])) s t
row_removed_only k id true s t h = record { more = source.Table k ∷ []; wrote = ap (λ z. z.wrote) h.2; allowed = λ x w. w }
row_removed_only k id false s t h = unwritten (IsOneOf (source.Table k ∷ [])) s t h.2
