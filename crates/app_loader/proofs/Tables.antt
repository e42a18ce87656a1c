-- An empty table fits each collection of an accepted app.
use Rattle.std.proofs.Common.{◌≡◌, ℕ, zero, suc, List, [], ◌∷◌, Bool, true, false, map, All, Some, option_map, bytes_eq, refl, ap, sym, subst, ◌∙◌, slice_get, if◌then◌else◌}
use Rattle.std.specs.Borrow.{Bor}
use Rattle.std.proofs.lemmas.List.Elements.{All-nil, All-cons, All-append}
use Rattle.fx_types.specs.TypeView.{shape}
use Rattle.fx_types.specs.Types.{Shape, blanks}
use Rattle.fx_types.specs.Values.{tab, no_rows}
use Rattle.fx_types.specs.declared.types.Ty.TheVariants as ty
use Rattle.fx_core.specs.declared.names.Collection.{Collection}
use Rattle.fx_core.specs.declared.names.Names.{Names}
use Rattle.fx_core.specs.declared.signatures.Signature.{Signature}
use Rattle.fx_typing.proofs.Same.{bytes_same}
use Rattle.fx_typing.proofs.Steps.{option_map_some}
use Rattle.fx_typing.specs.Meaning as meaning
use Rattle.fx_typing.specs.Rounds.{AllSame, GivenType, SameCollection, SameNames, all_given, collection_join, join_if, to_collection, to_global, to_screen}
use Rattle.fx_typing.specs.Rounds as rounds
use Rattle.fx_value.specs.Fits.{fits_in}
use Rattle.session_state.specs.Changes.{HoldsTables}
use Rattle.app_cells.specs.declared.app.App.{App}
use Rattle.app_cells.specs.declared.cell.Cell.{Cell}
use Rattle.app_cells.specs.declared.frame.Frame.{Frame}
use Rattle.app_names.specs.AppNames.{as_collection, collections_among}
use Rattle.app_names.specs.Declarations.{declared_in, given_names, is_name_among, things_of}
use Rattle.app_names.specs.declared.declarations.Declared.{Declared}
use Rattle.app_names.specs.declared.declarations.Thing.{Thing}
use Rattle.app_names.specs.declared.declarations.Thing.TheVariants as thing
use Rattle.app_loader.specs.Accepted.{AcceptedHoldsTables, IsAcceptedApp}
use Rattle.app_loader.specs.Cells.{round_cell, cell_place}
use Rattle.app_loader.specs.Infos.{IsElaborated}
use Rattle.app_loader.specs.JudgedFormulas.{IsAppOf}
use Rattle.app_loader.proofs.Below.{final_same}
use Rattle.app_loader.proofs.Cells.{map_at, zip_right}
use Rattle.app_loader.proofs.Contexts.{all_at}
use Rattle.app_loader.proofs.Declared.{things_hold}
use Rattle.app_loader.proofs.Gathered.{IsGathered, whole_stands}
use Rattle.app_loader.proofs.Soundness.{app_parts}

-- ---- collections are declared ones
abbrev IsCollected : Names → Collection → Type 0
IsCollected n c = IsGathered n c.name

as_collected : (n : Names) (d : Declared) (k : Thing) → d.thing ≡ k → (d.thing ≡ thing.Collection → IsGathered n d.name) → All (IsCollected n) (as_collection d k)
as_collected n d thing.Collection e h = All-cons (IsCollected n) (record { name = d.name; ty = ty.Blank }) [] (h e) (All-nil (IsCollected n))
as_collected n d (thing.Variable s) e h = All-nil (IsCollected n)

among_collected : (n : Names) (ds : List Declared) → ((k : ℕ) (d : Declared) → slice_get ds k ≡ Some d → d.thing ≡ thing.Collection → IsGathered n d.name) → All (IsCollected n) (collections_among ds)
among_collected n [] h = All-nil (IsCollected n)
among_collected n (d ∷ ds) h =
    All-append (IsCollected n) (as_collection d d.thing) (collections_among ds) (as_collected n d d.thing refl (h 0 d refl)) (among_collected n ds (λ k e i. h (suc k) e i))

-- ---- the type of a collection depends on its name alone
join_alike : (c d : Collection) (t : Shape) (gs : List GivenType) → c.name ≡ d.name → collection_join c t gs ≡ collection_join d t gs
join_alike c d t [] e = refl
join_alike c d t (to_collection x u ∷ gs) e =
    ap (λ z. collection_join c (join_if (bytes_eq z x) t u) gs) e ∙ join_alike c d (join_if (bytes_eq d.name x) t u) gs e
join_alike c d t (to_global x u ∷ gs) e = join_alike c d t gs e
join_alike c d t (to_screen s x u ∷ gs) e = join_alike c d t gs e

-- the first thing that a test keeps is one of the list
record IsKept {A : Type 0} (test : A → Bool) (xs : List A) (x : A) : Type 0 where
  at : ℕ
  there : slice_get xs at ≡ Some x
  kept : test x ≡ true

kept_by : {A : Type 0} (test : A → Bool) (i : ℕ) (xs : List A) (w : ℕ × A) → meaning.first_match test i xs ≡ Some w → IsKept test xs w.1
kept_by test i [] w e = absurd cc
kept_by {A = A} test i (x ∷ xs) w e = by (test x) refl e (λ k. kept_by test (suc i) xs w k)
  where
    later : IsKept test xs w.1 → IsKept test (x ∷ xs) w.1
    later k = record { at = suc k.at; there = k.there; kept = k.kept }

    by : (b : Bool) → test x ≡ b → (if b then Some (i, x) else meaning.first_match test (suc i) xs) ≡ Some w → (meaning.first_match test (suc i) xs ≡ Some w → IsKept test xs w.1) → IsKept test (x ∷ xs) w.1
    by true t k go = let same : ◌≡◌ {A = ℕ × A} (i, x) w = cc in subst (IsKept test (x ∷ xs)) (ap (λ (z : ℕ × A). z.1) same) (record { at = 0; there = refl; kept = t })
    by false t k go = later (go k)

same_before : (cs ds : List Collection) (k : ℕ) (d : Collection) → AllSame SameCollection cs ds → slice_get ds k ≡ Some d → (c : Collection) × (slice_get cs k ≡ Some c) × (c.name ≡ d.name)
same_before [] [] k d s e = absurd cc
same_before [] (x ∷ ds) k d s e = absurd s
same_before (c ∷ cs) [] k d s e = absurd s
same_before (c ∷ cs) (x ∷ ds) zero d s e = let same : x ≡ d = cc in (c, refl, s.0 ∙ ap (λ (z : Collection). z.name) same)
same_before (c ∷ cs) (x ∷ ds) (suc k) d s e = same_before cs ds k d s.1 e

module _ (f : Frame) (cells : List Cell) (most : ℕ) (a : App) (h : IsAcceptedApp f cells most a) where
  parts : IsAppOf h.first most cells a
  parts = app_parts h.judged

  same : SameNames h.first a.names
  same = final_same (map round_cell cells) h.first a.names parts.settled.final

  abbrev IsTable : Declared → Type 0
  IsTable d = d.thing ≡ thing.Collection → IsGathered a.names d.name

  one_stands : (k : ℕ) (c : Cell) → slice_get cells k ≡ Some c → All IsTable (declared_in h.first.signatures.now c.screen c.expr)
  one_stands k c e =
      let w = zip_right (IsElaborated a.names most) cells a.cells k c parts.settled.elaborated e in
      subst (λ (s : Bor (List Signature)). All IsTable (declared_in s.now c.screen c.expr)) (sym same.signatures)
      (whole_stands (cell_place a.names c) refl c.screen c.acts (option_map shape c.wanted) c.expr (w.0.core, shape w.0.ty) w.2.tree)

  all_stand : All IsTable (things_of h.first.signatures.now f cells)
  all_stand = things_hold IsTable h.first.signatures.now (is_name_among (given_names f cells)) [] cells one_stands (All-nil IsTable)

  first_collected : All (IsCollected a.names) h.first.collections
  first_collected =
      subst (All (IsCollected a.names)) (sym h.named.collections)
      (among_collected a.names (things_of h.first.signatures.now f cells) (λ k d e. all_at IsTable (things_of h.first.signatures.now f cells) k d all_stand e))

  -- the type of a collection is the join of all that is given to its name
  joined : (k : ℕ) (c : Collection) → slice_get a.names.collections k ≡ Some c → collection_join c blanks (all_given a.names (map round_cell cells)) ≡ shape c.ty
  joined k c e =
      map_at (λ (d : Collection). collection_join d blanks (all_given a.names (map round_cell cells))) (λ (d : Collection). shape d.ty) a.names.collections k c
      (ap (λ (t : rounds.Types). t.collections) parts.settled.final.3) e

  type_is : (k : ℕ) (c : Collection) → slice_get a.names.collections k ≡ Some c → (t : Shape) → shape c.ty ≡ t → fits_in (tab no_rows) t ≡ true
  type_is k c e t s =
      let b = same_before h.first.collections a.names.collections k c same.collections e in
      let g = subst (IsGathered a.names) b.2 (all_at (IsCollected a.names) h.first.collections k b.0 first_collected b.1) in
      let found = kept_by (λ (d : Collection). bytes_eq d.name c.name) 0 a.names.collections g.0 g.2 in
      let named : g.0.1.name ≡ c.name = bytes_same g.0.1.name c.name found.kept in
      let own : shape g.0.1.ty ≡ shape c.ty =
      sym (joined found.at g.0.1 found.there) ∙ join_alike g.0.1 c blanks (all_given a.names (map round_cell cells)) named ∙ joined k c e in
      subst (λ u. fits_in (tab no_rows) u ≡ true) (sym g.3 ∙ own ∙ s) refl

  tables_held : HoldsTables a.names
  tables_held k t e =
      let w = option_map_some (λ (c : Collection). shape c.ty) (slice_get a.names.collections k) t e in
      type_is k w.0 w.1 t w.2

pub accepted_tables : AcceptedHoldsTables
accepted_tables f cells most a h = tables_held f cells most a h
