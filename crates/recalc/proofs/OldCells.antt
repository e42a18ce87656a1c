-- The values of formulas that an edit left.
use Rattle.std.proofs.Common.{◌≡◌, ℕ, ◌<◌, List, [], ◌∷◌, ◌++◌, length, Bool, true, false, Option, Some, None, refl, sym, subst, ap, inl, inr}
use Rattle.std.specs.Prelude.{not}
use Rattle.fx_types.specs.TypeView.{shape}
use Rattle.fx_types.specs.Values.{Data}
use Rattle.fx_plan.specs.Limited.{limited}
use Rattle.fx_semantics.specs.Fresh.{meaning}
use Rattle.fx_core.specs.Reads.{IsAmong, read_by, sources_among, sources_in}
use Rattle.fx_core.specs.Term.{Term, Terms, Top, cons, nil, of}
use Rattle.fx_core.specs.Term as top
use Rattle.fx_core.specs.declared.sources.Source.{Source}
use Rattle.fx_core.specs.declared.sources.Source.TheVariants as source
use Rattle.fx_value.specs.Fits.{fits_in}
use Rattle.recalc.proofs.Kept.{own_value}
use Rattle.recalc.proofs.of_app_semantics.Taken.{limited_reads}
use Rattle.recalc.specs.Asking.{ToldRows}
use Rattle.recalc.specs.app_cells.Leaning.{LeansOn, cell_behind, default_cell, items_cell}
use Rattle.recalc.specs.app_cells.declared.app.App.{App}
use Rattle.recalc.specs.app_cells.declared.app.CellInfo.{CellInfo}
use Rattle.recalc.specs.app_semantics.Fresh.{CanRead, IsByItself, IsCellValue, IsValueOf, IsWhere, is_told, reads_table, formula_context}
use Rattle.recalc.specs.app_semantics.Needed.{stands_alone, stands_by}
use Rattle.recalc.specs.app_semantics.Present.{SourceGives, Present, present}
use Rattle.recalc.specs.app_semantics.Sound.{IsSoundApp}
use Rattle.session_state.specs.Carrying.{carried, collection_was}
use Rattle.session_state.specs.Sessions.{SessionState}
use Rattle.recalc.proofs.OldTrees.{same_value}
use Rattle.recalc.proofs.OldValues.{gives_old}
use Rattle.recalc.specs.Carrying.{AreOldTrees, IsEditOf, IsOldBehind, IsOldCell, IsOldOne, IsOldSource, IsOldTop, IsOldTree}

-- ---- trees whose sources are some
among_left : (s : Source) (xs ys : List Source) → IsAmong s xs → IsAmong s (xs ++ ys)
among_left s [] ys h = absurd h
among_left s (x ∷ xs) ys (inl e) = inl e
among_left s (x ∷ xs) ys (inr h) = inr (among_left s xs ys h)

among_right : (s : Source) (xs ys : List Source) → IsAmong s ys → IsAmong s (xs ++ ys)
among_right s [] ys h = h
among_right s (x ∷ xs) ys h = inr (among_right s xs ys h)

abbrev Was : Type 1
Was = Source → Source → Type 0

abbrev both : Was → (Source → Type 0) → Was
both W K s r = W s r × K s

top_of : (W : Was) (K : Source → Type 0) (h u : Top) → ((s : Source) → IsAmong s (read_by h) → K s) → IsOldTop W h u → IsOldTop (both W K) h u
top_of W K (top.read s) u r o = (o.0, (o.1, r s (inl refl)), o.2)
top_of W K (top.act d) u r o = o
top_of W K (top.const d) u r o = o
top_of W K (top.row n) u r o = o
top_of W K top.item u r o = o
top_of W K top.caught u r o = o
top_of W K (top.dot n) u r o = o
top_of W K (top.call f) u r o = o
top_of W K (top.over f) u r o = o
top_of W K (top.user f) u r o = o
top_of W K (top.form f) u r o = o
top_of W K top.within u r o = o
top_of W K (top.rec ns) u r o = o
top_of W K (top.list t) u r o = o
top_of W K (top.coerce t) u r o = o
top_of W K top.chain u r o = o

mutual
  tree_of : (W : Was) (K : Source → Type 0) (t u : Term) → ((s : Source) → IsAmong s (sources_in t) → K s) → IsOldTree W t u → IsOldTree (both W K) t u
  tree_of W K (of h ts) (of k us) r o = (
    top_of W K h k (λ s a. r s (among_left s (read_by h) (sources_among ts) a)) o.0,
    trees_of W K ts us (λ s a. r s (among_right s (read_by h) (sources_among ts) a)) o.1,
  )

  trees_of : (W : Was) (K : Source → Type 0) (ts us : Terms) → ((s : Source) → IsAmong s (sources_among ts) → K s) → AreOldTrees W ts us → AreOldTrees (both W K) ts us
  trees_of W K nil nil r o = tt
  trees_of W K (cons t ts) (cons u us) r o = (
    tree_of W K t u (λ s a. r s (among_left s (sources_in t) (sources_among ts) a)) o.0,
    trees_of W K ts us (λ s a. r s (among_right s (sources_in t) (sources_among ts) a)) o.1,
  )
  trees_of W K nil (cons u us) r o = absurd o
  trees_of W K (cons t ts) nil r o = absurd o

-- ---- values
of_own : (p : Present) (values : ℕ → Data) (c : CellInfo) (v : Data) → stands_alone c ≡ true → IsCellValue p values c v → IsValueOf p values None c v
of_own p values c v e h = by c.cell.acts c.cell.item e h
  where
    by : (b : Bool) (o : Option ℕ) → stands_by b o ≡ true → IsByItself b o (IsValueOf p values None c v) v → IsValueOf p values None c v
    by false None q x = x
    by false (Some g) q x = absurd cc
    by true o q x = absurd cc

told_same : (tables : ToldRows) (xs ys : List Source) → reads_table xs ≡ reads_table ys → is_told tables xs ≡ is_told tables ys
told_same (Some rows) xs ys e = refl
told_same None xs ys e = ap not e

where_map : {P P' Q Q' : Type 0} (b : Bool) → (P → P') → (Q → Q') → IsWhere b P Q → IsWhere b P' Q'
where_map true f g h = f h
where_map false f g h = g h

-- the cells behind a source and the one that it was are one
behind_old : (old new : App) (x r : Source) (k j : ℕ) → IsOldSource old new x r → cell_behind new.names x ≡ Some k → cell_behind old.names r ≡ Some j → IsOldOne old new k j
behind_old old new (source.Cell a) (source.Cell b) k j o f g =
    let one : a ≡ k = (let h : Some a ≡ Some k = f in cc) in
    let other : b ≡ j = (let h : Some b ≡ Some j = g in cc) in
    subst (λ n. IsOldOne old new n j) one (subst (λ n. IsOldOne old new a n) other o)
behind_old old new (source.Input a) (source.Input b) k j o f g = subst (λ n. IsOldBehind old new (Some k) n) g (subst (λ n. IsOldBehind old new n (default_cell old.names b)) f o.1)
behind_old old new (source.Chosen a) (source.Chosen b) k j o f g = subst (λ n. IsOldBehind old new (Some k) n) g (subst (λ n. IsOldBehind old new n (items_cell old.names b)) f o.1)
behind_old old new (source.Global a) (source.Global b) k j o f g = absurd cc
behind_old old new (source.Context a) (source.Context b) k j o f g = absurd cc
behind_old old new (source.Gathered a) (source.Gathered b) k j o f g = absurd cc
behind_old old new (source.Table a) (source.Table b) k j o f g = absurd cc
behind_old old new source.Today source.Today k j o f g = absurd cc
behind_old old new x r k j o f g = absurd o

module _ (old new : App) (was : IsSoundApp old) (sound : IsSoundApp new) (edit : IsEditOf old new) (s : SessionState) (long : (j k : ℕ) → collection_was old.names new.names k ≡ Some j → j < length s.collections) (tables : ToldRows) (m : ℕ) (values others : ℕ → Data) where
  -- the value that a formula had, it has
  pub value_old_cell : (j k : ℕ) (o : IsOldCell old new j k) (v : Data) → ((d c : ℕ) → LeansOn new.names o.after d → IsOldOne old new d c → others d ≡ values c) → IsCellValue (present old s tables m) values o.before v →
      IsCellValue (present new (carried old.names new.names s) tables m) others o.after v
  value_old_cell j k o v same h =
      let p : Present = present old s tables m in
      let q : Present = present new (carried old.names new.names s) tables m in
      let reads : (x : Source) → IsAmong x (sources_in o.after.taken) → IsAmong x o.after.reads =
      λ x among. ((sound.cells k o.after o.here).reads x).1 (limited_reads new.names.schema.tables new.limit 0 false o.after.core x (subst (λ t. IsAmong x (sources_in t)) (sound.taken k o.after o.here) among)) in
      let tree : IsOldTree (both (IsOldSource old new) (λ x. IsAmong x o.after.reads)) o.after.taken o.before.taken = tree_of (IsOldSource old new) (λ x. IsAmong x o.after.reads) o.after.taken o.before.taken reads o.left.tree in
      own_value q others o.after v o.left.still
      (subst (λ b. IsWhere b (meaning (limited new.names.schema.tables new.limit 0 false o.after.core) (formula_context q others o.after.reads None) v) (fits_in v (shape o.after.ty) ≡ true)) (sym (told_same tables o.after.reads o.before.reads o.left.told))
      (where_map (is_told tables o.before.reads)
      (λ x. subst (λ t. meaning t (formula_context q others o.after.reads None) v) (sound.taken k o.after o.here)
      (same_value (both (IsOldSource old new) (λ y. IsAmong y o.after.reads)) (λ y d. CanRead o.after.reads y × SourceGives q others y d) o.after.taken o.before.taken (formula_context p values o.before.reads None) v tree
      (λ y r d w g. (can_read o.after.reads y w.1, gives_old old new edit s long tables m values others y r d w.0 (λ a b f e. same a b (y, w.1, f) (behind_old old new y r a b w.0 f e)) g.1))
      (subst (λ t. meaning t (formula_context p values o.before.reads None) v) (sym (was.taken j o.before o.there)) x)))
      (λ fit. subst (λ t. fits_in v t ≡ true) (sym o.ty) fit)
      (of_own p values o.before v o.left.alone h)))
    where
      can_read : (xs : List Source) (y : Source) → IsAmong y xs → CanRead xs y
      can_read xs (source.Cell n) a = a
      can_read xs (source.Global n) a = a
      can_read xs (source.Context n) a = a
      can_read xs (source.Gathered n) a = a
      can_read xs (source.Input n) a = a
      can_read xs (source.Chosen n) a = a
      can_read xs (source.Table n) a = tt
      can_read xs source.Today a = a
