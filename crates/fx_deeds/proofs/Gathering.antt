-- Rows of collections, one after another.
use Rattle.std.proofs.Common.{◌≡◌, ℕ, List, [], ◌∷◌, ◌++◌, Bool, true, false, map, Option, Some, None, refl, ap, sym, subst, ◌∙◌, append_assoc, inl, inr}
use Rattle.std.specs.Prelude.{◌↔◌, IsTrue}
use Rattle.fx_base.proofs.Silences.{goes_two}
use Rattle.fx_base.specs.Silence.{MayFallSilent, IsLater, SilenceCause, Marks}
use Rattle.fx_types.specs.declared.values.Value.{Value}
use Rattle.fx_types.specs.declared.values.Value.TheVariants.{Tab}
use Rattle.fx_types.specs.Types.{ColumnList}
use Rattle.fx_types.specs.Values.{Data}
use Rattle.fx_types.specs.ValueView.{view}
use Rattle.fx_semantics.specs.Around.{record_of}
use Rattle.fx_semantics.specs.Rows.{table_of}
use Rattle.fx_value.specs.Columns.{Row}
use Rattle.fx_value.proofs.SameLemmas.{rec_tells}
use Rattle.session_state.specs.declared.change.Change.TheVariants as change
use Rattle.fx_deeds.proofs.Steps.{Whole, none_is}
use Rattle.fx_deeds.specs.Changed.{IsChanged}
use Rattle.fx_deeds.specs.Collections.{AreTaken, IsFirstRow, Lacks, rows_held}
use Rattle.fx_deeds.specs.Deeds.{IsValueGiven}
use Rattle.fx_deeds.specs.Found.{IsTakenFrom}
use Rattle.fx_deeds.specs.RemainingRows.{RestDecides}
use Rattle.fx_deeds.specs.RowValues.{record_row, too_much}
use Rattle.fx_deeds.specs.State.{WorldState}

-- ---- the first row that is this one

lacks_more : (r q : Row) (rows : List Row) → (q ≡ r → ⊥) → Lacks r rows → Lacks r (rows ++ q ∷ [])
lacks_more r q [] n h = (n, tt)
lacks_more r q (x ∷ xs) n h = (h.0, lacks_more r q xs n h.1)

-- the rows so far stand before those that are left, and this row isn't among them
pub record IsPart (rows : List Row) (d : Data) (before rest : List Row) : Type 0 where
  pub parted : before ++ rest ≡ rows
  pub lacks : (r : Row) → d ≡ record_of r → Lacks r before

pub part_first : (rows before rest others start after : List Row) (d : Data) (q : Row) (b : Bool) → IsPart rows d before rest → rest ≡ q ∷ others → start ≡ [] → after ≡ start ++ others →
    IsTrue b ↔ (record_of q ≡ d) → b ≡ true → (r : Row) → d ≡ record_of r → IsFirstRow r rows before after
part_first rows before rest others start after d q b p e n a w is r h =
    let same : q ≡ r = rec_tells q r (w.0 is ∙ h) in
    record {
      parted = sym p.parted ∙ ap (λ z. before ++ z) e ∙ ap (λ z. before ++ z ∷ others) same ∙ ap (λ z. before ++ r ∷ z) (sym (a ∙ ap (λ z. z ++ others) n));
      first = p.lacks r h;
    }

pub part_goes : (rows before now rest others : List Row) (d : Data) (q copy : Row) (b : Bool) → IsPart rows d before rest → rest ≡ q ∷ others → copy ≡ q → now ≡ before ++ copy ∷ [] →
    IsTrue b ↔ (record_of q ≡ d) → b ≡ false → IsPart rows d now others
part_goes rows before now rest others d q copy b p e c n w is = record {
  parted = ap (λ z. z ++ others) n ∙ append_assoc before (copy ∷ []) others ∙ ap (λ z. before ++ z ∷ others) c ∙ ap (λ z. before ++ z) (sym e) ∙ p.parted;
  lacks = λ r h.
      subst (Lacks r) (sym n)
      (lacks_more r copy before (λ same. let yes : b ≡ true = w.1 (ap record_of (sym c ∙ same) ∙ sym h) in let wrong : true ≡ false = sym yes ∙ is in absurd cc) (p.lacks r h));
}

-- ---- the rows that are held, and then a change

abbrev pub HeldRows : {A : Type 0} → ℕ → List Row → WorldState A → WorldState A → Type 0
HeldRows k rows s t = (t ≡ s) × (rows ≡ rows_held k s)

given_there : {A : Type 0} (n : ℕ) (left rows : List Row) (done : Bool) (s b t : WorldState A) → left ≡ rows → b ≡ s → IsChanged (change.Gather n (Tab left)) done b t → IsValueGiven (change.Gather n) (table_of rows) done s t
given_there n left rows done s b t e f h = (Tab left, ap table_of e, subst (λ z. IsChanged (change.Gather n (Tab left)) done z t) f h)

module _ {A : Type 0} (k l m : Marks) (x y z : Option (WorldState A)) (n : ℕ) (r : Row) (rows all before after : List Row) (a : IsLater k l) (b : IsLater l m) (p : all ≡ rows) (f : IsFirstRow r all before after) where
  first_held : (s : WorldState A) → rows ≡ rows_held n s → IsFirstRow r (rows_held n s) before after
  first_held s e = subst (λ zs. IsFirstRow r zs before after) (p ∙ e) f

  -- it is taken out
  pub take_takes : (left : List Row) (done : Bool) → left ≡ before ++ after → done ≡ true → MayFallSilent (SilenceCause k l) (HeldRows n rows) x y → MayFallSilent (SilenceCause l m) (IsChanged (change.Gather n (Tab left)) done) y z →
      MayFallSilent (SilenceCause k m) (IsTakenFrom n r None) x z
  take_takes left done e is =
      goes_two (HeldRows n rows) (IsChanged (change.Gather n (Tab left)) done) (IsTakenFrom n r None)
      (λ s c t h j. (before, after, first_held s h.1, subst (λ o. IsValueGiven (change.Gather n) (table_of (before ++ after)) o s t) is (given_there n left (before ++ after) done s c t e h.0 j))) k l m a b x y z

  -- that is refused
  pub take_fails : (left : List Row) (done : Bool) (e : Value) → left ≡ before ++ after → done ≡ false → view e ≡ too_much → MayFallSilent (SilenceCause k l) (HeldRows n rows) x y → MayFallSilent (SilenceCause l m) (IsChanged (change.Gather n (Tab left)) done) y z →
      MayFallSilent (SilenceCause k m) (IsTakenFrom n r (Some e)) x z
  take_fails left done w e is q =
      goes_two (HeldRows n rows) (IsChanged (change.Gather n (Tab left)) done) (IsTakenFrom n r (Some w))
      (λ s c t h j. inl (before, after, first_held s h.1, subst (λ o. IsValueGiven (change.Gather n) (table_of (before ++ after)) o s t) is (given_there n left (before ++ after) done s c t e h.0 j), q)) k l m a b x y z

-- ---- rows, one after another

abbrev pub taking : {A : Type 0} → ColumnList → ℕ → List Value → Whole A
taking cs k vs = AreTaken cs k (map view vs)

taken_first : {A : Type 0} (cs : ColumnList) (k : ℕ) (v : Value) (vs rest : List Value) (r : Row) (s m t : WorldState A) (x : Data) → rest ≡ v ∷ vs → r ≡ record_row cs (view v) → IsTakenFrom k r None s m → taking cs k vs m x t → taking cs k rest s x t
taken_first cs k v vs rest r s m t x e f h q =
    subst (λ z. taking cs k z s x t) (sym e) (inl (h.0, h.1, true, m, subst (λ z. IsFirstRow z (rows_held k s) h.0 h.1) f h.2, h.3, q))

taken_stops : {A : Type 0} (cs : ColumnList) (k : ℕ) (v e : Value) (vs rest : List Value) (r : Row) (s t : WorldState A) → rest ≡ v ∷ vs → r ≡ record_row cs (view v) → IsTakenFrom k r (Some e) s t → taking cs k rest s (view e) t
taken_stops cs k v e vs rest r s t q f (inl h) =
    subst (λ z. taking cs k z s (view e) t) (sym q) (inl (h.0, h.1, false, t, subst (λ z. IsFirstRow z (rows_held k s) h.0 h.1) f h.2, h.3, (h.4, refl)))
taken_stops cs k v e vs rest r s t q f (inr h) = subst (λ z. taking cs k z s (view e) t) (sym q) (inr (subst (λ z. Lacks z (rows_held k s)) f h.0, h.1))

pub take_stops : {A : Type 0} (k l m : Marks) (x y z : Option (WorldState A)) (W : Whole A) (cs : ColumnList) (n : ℕ) (v e : Value) (o : Option Value) (vs rest : List Value) (r : Row) → IsLater k l → IsLater l m → rest ≡ v ∷ vs →
    r ≡ record_row cs (view v) → o ≡ Some e → MayFallSilent (SilenceCause k l) (RestDecides (taking cs n rest) W) x y → MayFallSilent (SilenceCause l m) (IsTakenFrom n r o) y z → MayFallSilent (SilenceCause k m) (λ s t. W s (view e) t) x z
take_stops k l m x y z W cs n v e o vs rest r before later q f is =
    goes_two (RestDecides (taking cs n rest) W) (IsTakenFrom n r o) (λ s t. W s (view e) t)
    (λ s b t h j. h (view e) t (taken_stops cs n v e vs rest r b t q f (subst (λ i. IsTakenFrom n r i b t) is j))) k l m before later x y z

pub take_goes : {A : Type 0} (k l m : Marks) (x y z : Option (WorldState A)) (W : Whole A) (cs : ColumnList) (n : ℕ) (v : Value) (o : Option Value) (vs rest : List Value) (r : Row) → IsLater k l → IsLater l m → rest ≡ v ∷ vs →
    r ≡ record_row cs (view v) → ((e : Value) → o ≡ Some e → ⊥) → MayFallSilent (SilenceCause k l) (RestDecides (taking cs n rest) W) x y → MayFallSilent (SilenceCause l m) (IsTakenFrom n r o) y z → MayFallSilent (SilenceCause k m) (RestDecides (taking cs n vs) W) x z
take_goes k l m x y z W cs n v o vs rest r before later q f none =
    goes_two (RestDecides (taking cs n rest) W) (IsTakenFrom n r o) (RestDecides (taking cs n vs) W)
    (λ s b t h j w u i. h w u (taken_first cs n v vs rest r b t u w q f (subst (λ c. IsTakenFrom n r c b t) (none_is o none) j) i)) k l m before later x y z
