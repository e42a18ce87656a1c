-- Which cells of the app before an edit left.
use Rattle.std.proofs.Common.{◌≡◌, ◌⊎◌, ℕ, zero, suc, ◌+◌, ◌<◌, ◌≤◌, List, [], ◌∷◌, ◌++◌, get_or, length, Bool, true, false, Option, Some, None, IsSome, refl, sym, subst, ap, ◌∙◌, arith, inl, inr}
use Rattle.std.specs.Prelude.{◌↔◌, ◌&&◌, IfNone, IfSome, bytes_eq, slice_get}
use Rattle.std.proofs.lemmas.Bool.{cases_lt, eq-eqb, eqb-true}
use Rattle.std.proofs.lemmas.List.{get_or_past, length-append}
use Rattle.std.proofs.lemmas.Option.{slice_get-get_or, slice_get_within}
use Rattle.std.proofs.lemmas.Slice.Eq.{bytes_eq-Decides}
use Rattle.fx_types.specs.TypeView.{shape}
use Rattle.fx_types.specs.Types.{ColumnList, Shape, blanks, booleans, column, dates, no_columns, numbers, records, tables, texts}
use Rattle.fx_core.specs.Reads.{IsAmong}
use Rattle.fx_core.specs.declared.sources.Source.{Source}
use Rattle.fx_typing.proofs.Same.{shape_same}
use Rattle.fx_typing.specs.Ways.{same_columns, same_shape}
use Rattle.recalc.specs.app_cells.Leaning.{cell_behind}
use Rattle.recalc.specs.app_cells.declared.app.App.{App}
use Rattle.recalc.specs.app_cells.declared.app.CellInfo.{CellInfo}
use Rattle.recalc.specs.app_semantics.Fresh.{reads_table}
use Rattle.recalc.specs.app_semantics.Needed.{is_alone, stands_alone}
use Rattle.recalc.specs.Carrying.{AreHad, AreOldPlaces, IsLeft, IsOldCell, IsOldSource, IsOldTree, cell_was, place_of_cell}
use Rattle.recalc.specs.Kept.{CacheState, stamp_of}
use Rattle.recalc.specs.declared.stamps.Stamp.{Stamp}
use Rattle.session_state.proofs.Moving.{was}
use Rattle.session_state.specs.Carrying.{is_place}

-- ---- types

both_so : (a b : Bool) → a ≡ true → b ≡ true → (a && b) ≡ true
both_so true b e f = f
both_so false b e f = absurd cc

mutual
  -- a type is itself
  pub shape_itself : (t : Shape) → same_shape t t ≡ true
  shape_itself blanks = refl
  shape_itself numbers = refl
  shape_itself texts = refl
  shape_itself booleans = refl
  shape_itself dates = refl
  shape_itself (records cs) = columns_itself cs
  shape_itself (tables cs) = columns_itself cs

  columns_itself : (cs : ColumnList) → same_columns cs cs ≡ true
  columns_itself no_columns = refl
  columns_itself (column n t cs) = both_so (bytes_eq n n) (same_shape t t && same_columns cs cs) ((bytes_eq-Decides n n).1 refl) (both_so (same_shape t t) (same_columns cs cs) (shape_itself t) (columns_itself cs))

-- ---- places

pub place_tells : (j : ℕ) (o : Option ℕ) → (is_place j o ≡ true) ↔ (o ≡ Some j)
place_tells j (Some k) = (λ e. ap (λ (m : ℕ). Some m) (sym (eqb-true j k e)), λ e. eq-eqb j k (let same : k ≡ j = cc in sym same))
place_tells j None = (λ e. absurd cc, λ e. absurd cc)

-- ---- cells

-- a cell has the type of the one that it was
pub old_ty : (old new : App) (k w : ℕ) (b a : CellInfo) → cell_was old new k ≡ Some w → slice_get old.cells w ≡ Some b → slice_get new.cells k ≡ Some a → shape a.ty ≡ shape b.ty
old_ty old new k w b a is there here =
    let h = was (λ (c : CellInfo). c.ty) (place_of_cell old) (place_of_cell new) old.cells new.cells k w is in
    let before : h.old ≡ b = (let both : Some h.old ≡ Some b = sym h.old_at ∙ there in cc) in
    let after : h.new ≡ a = (let both : Some h.new ≡ Some a = sym h.new_at ∙ here in cc) in
    sym (subst (λ (c : CellInfo). shape b.ty ≡ shape c.ty) after (subst (λ (c : CellInfo). shape c.ty ≡ shape h.new.ty) before (shape_same (shape h.old.ty) (shape h.new.ty) h.type_same)))

-- a formula was left, whose sources stand in these lists
pub left_by : (old new : App) (b a : CellInfo) (reads were : List Source) → reads ≡ a.reads → were ≡ b.reads → (stands_alone b ≡ true) × (stands_alone a ≡ true) × (reads_table a.reads ≡ reads_table b.reads) → ((x : Source) → IsAmong x reads → (r : Source) × IsAmong r were × IsOldSource old new x r) → IsOldTree (IsOldSource old new) a.taken b.taken → IsLeft old new b a
left_by old new b a reads were e f both each tree = record {
  alone = both.0;
  still = both.1;
  told = both.2;
  reads = λ x among. let was = each x (subst (IsAmong x) (sym e) among) in (was.0, subst (IsAmong was.0) f was.1, was.2);
  tree = tree;
}

pub reads_left : (old new : App) (b a : CellInfo) (reads were : List Source) → reads ≡ a.reads → were ≡ b.reads → IsLeft old new b a → (x : Source) → IsAmong x reads → (r : Source) × IsAmong r were × IsOldSource old new x r
reads_left old new b a reads were e f left x among = let was = left.reads x (subst (IsAmong x) e among) in (was.0, subst (IsAmong was.0) (sym f) was.1, was.2)

-- a cell that was found and left is an old one
pub old_cell_of : (old new : App) (k w : ℕ) (b a : CellInfo) → cell_was old new k ≡ Some w → slice_get old.cells w ≡ Some b → slice_get new.cells k ≡ Some a → IsLeft old new b a → IsOldCell old new w k
old_cell_of old new k w b a is there here left = record { was = is; before = b; after = a; there = there; here = here; ty = old_ty old new k w b a is there here; left = left }

-- and of an old one the formula that was found was left
pub left_of : (old new : App) (j k w : ℕ) (b a : CellInfo) → IsOldCell old new j k → cell_was old new k ≡ Some w → slice_get old.cells w ≡ Some b → slice_get new.cells k ≡ Some a → IsLeft old new b a
left_of old new j k w b a o is there here =
    let same : j ≡ w = (let both : Some j ≡ Some w = sym o.was ∙ is in cc) in
    let before : o.before ≡ b = (let both : Some o.before ≡ Some b = sym o.there ∙ subst (λ n. slice_get old.cells n ≡ Some b) (sym same) there in cc) in
    let after : o.after ≡ a = (let both : Some o.after ≡ Some a = sym o.here ∙ here in cc) in
    subst (λ (c : CellInfo). IsLeft old new b c) after (subst (λ (c : CellInfo). IsLeft old new c o.after) before o.left)

-- ---- where cells were, one after another

pub record ArePlacesSoFar (old new : App) (places : List (Option ℕ)) : Type 0 where
  pub each : (k : ℕ) → k < length places → get_or places k None ≡ cell_was old new k

or_last : (xs : List (Option ℕ)) (o : Option ℕ) (k : ℕ) → k < length xs + 1 → ((k < length xs) × (get_or (xs ++ o ∷ []) k None ≡ get_or xs k None)) ⊎ ((k ≡ length xs) × (get_or (xs ++ o ∷ []) k None ≡ o))
or_last [] o zero h = inr (refl, refl)
or_last [] o (suc k) h = absurd (omega (arith, h))
or_last (x ∷ xs) o zero h = inl (omega arith, refl)
or_last (x ∷ xs) o (suc k) h = elim (or_last xs o k (omega (arith, h))) [ inl f ↦ inl (let low = f.0 in omega (arith, low), f.1) | inr f ↦ inr (ap suc f.0, f.1) ]

pub place_so_far : (old new : App) (xs : List (Option ℕ)) (o : Option ℕ) → o ≡ cell_was old new (length xs) → ArePlacesSoFar old new xs → ArePlacesSoFar old new (xs ++ o ∷ [])
place_so_far old new xs o is h = record {
  each = λ k low. elim (or_last xs o k (let long = length-append xs (o ∷ []) in omega (arith, low, long))) [ inl f ↦ f.1 ∙ h.each k f.0 | inr f ↦ f.1 ∙ is ∙ ap (cell_was old new) (sym f.0) ];
}

-- beyond the last cell there is none
none_beyond : (old new : App) (k : ℕ) → length new.cells ≤ k → cell_was old new k ≡ None
none_beyond old new k past = by (cell_was old new k) refl
  where
    by : (o : Option ℕ) → cell_was old new k ≡ o → o ≡ None
    by None e = refl
    by (Some i) e =
        let h = was (λ (c : CellInfo). c.ty) (place_of_cell old) (place_of_cell new) old.cells new.cells k i e in
        let low = slice_get_within new.cells k h.new h.new_at in
        absurd (omega (arith, past, low))

pub places_all : (old new : App) (xs : List (Option ℕ)) → length new.cells ≤ length xs → ArePlacesSoFar old new xs → AreOldPlaces old new xs
places_all old new xs all h k = elim (cases_lt k (length xs)) [ inl low ↦ h.each k low | inr past ↦ get_or_past xs k None past ∙ sym (none_beyond old new k (omega (arith, all, past))) ]

-- ---- all cells of the edited app, one after another

pub record AreOldSoFar (old new : App) (cells : List (Option ℕ)) : Type 0 where
  pub same : (k j : ℕ) → slice_get cells k ≡ Some (Some j) → IsOldCell old new j k
  pub other : (k j : ℕ) → slice_get cells k ≡ Some None → IsOldCell old new j k → ⊥

at_last : (xs : List (Option ℕ)) (o q : Option ℕ) (k : ℕ) → slice_get (xs ++ o ∷ []) k ≡ Some q → (slice_get xs k ≡ Some q) ⊎ ((k ≡ length xs) × (o ≡ q))
at_last [] o q zero e = inr (refl, (let both : Some o ≡ Some q = e in cc))
at_last [] o q (suc k) e = (let no : None ≡ Some q = e in absurd cc)
at_last (x ∷ xs) o q zero e = inl e
at_last (x ∷ xs) o q (suc k) e = elim (at_last xs o q k e) [ inl h ↦ inl h | inr h ↦ inr (ap suc h.0, h.1) ]

some_of : (o : Option ℕ) (P : ℕ → Type 0) → IfSome o P → (j : ℕ) → o ≡ Some j → P j
some_of (Some k) P h j e = (let same : k ≡ j = cc in subst P same h)
some_of None P h j e = absurd cc

none_of : (o : Option ℕ) (Q : Type 0) → IfNone o Q → o ≡ None → Q
none_of (Some k) Q h e = absurd cc
none_of None Q h e = h

pub none_so_far : (old new : App) → AreOldSoFar old new []
none_so_far old new = record { same = λ k j e. (let no : None ≡ Some (Some j) = e in absurd cc); other = λ k j e. (let no : None ≡ Some None = e in absurd cc) }

pub one_so_far : (old new : App) (xs : List (Option ℕ)) (n : ℕ) (o : Option ℕ) → length xs ≡ n → IfSome o (λ j. IsOldCell old new j n) → IfNone o ((j : ℕ) → IsOldCell old new j n → ⊥) → AreOldSoFar old new xs → AreOldSoFar old new (xs ++ o ∷ [])
one_so_far old new xs n o long some none h = record {
  same = λ k j e. elim (at_last xs o (Some j) k e) [ inl there ↦ h.same k j there | inr here ↦ subst (IsOldCell old new j) (sym (here.0 ∙ long)) (some_of o (λ i. IsOldCell old new i n) some j here.1) ];
  other = λ k j e cell. elim (at_last xs o None k e) [ inl there ↦ h.other k j there cell | inr here ↦ none_of o ((i : ℕ) → IsOldCell old new i n → ⊥) none here.1 j (subst (IsOldCell old new j) (here.0 ∙ long) cell) ];
}

-- what was found for a cell stands at its place
pub at_cell : (xs : List (Option ℕ)) (k : ℕ) (r o : Option ℕ) → k < length xs → r ≡ get_or xs k None → r ≡ o → slice_get xs k ≡ Some o
at_cell xs k r o low e f = slice_get-get_or xs k None low ∙ ap (λ (x : Option ℕ). Some x) (sym e ∙ f)

-- ---- what is kept of the cells on which one leans

pub not_had : (a : App) (c : CacheState) (k d : ℕ) (i : CellInfo) (s : Source) → slice_get a.cells k ≡ Some i → IsAmong s i.reads → cell_behind a.names s ≡ Some d → is_alone a.cells d ≡ true → stamp_of c d ≡ None → AreHad a c k → ⊥
not_had a c k d i s there among behind alone none had = (let no : IsSome {T = Stamp} None = subst IsSome none (had d (i, there, (s, among, behind), alone)) in absurd cc)

pub all_had : (a : App) (c : CacheState) (k : ℕ) (i : CellInfo) → slice_get a.cells k ≡ Some i → ((s : Source) (d : ℕ) → IsAmong s i.reads → cell_behind a.names s ≡ Some d → is_alone a.cells d ≡ true → IsSome (stamp_of c d)) → AreHad a c k
all_had a c k i there all d leans =
    let same : leans.0 ≡ i = (let both : Some leans.0 ≡ Some i = sym leans.1 ∙ there in cc) in
    all leans.2.0 d (subst (λ (x : CellInfo). IsAmong leans.2.0 x.reads) same leans.2.1) leans.2.2 leans.3
