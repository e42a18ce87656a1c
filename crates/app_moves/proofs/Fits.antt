-- Where nothing breaks a rule, the moves by places are ones that a keeper takes.
use Rattle.std.proofs.Common.{◌≡◌, ◌≢◌, ℕ, zero, suc, ◌<◌, ◌≤◌, List, [], ◌∷◌, Bool, true, false, length, map, get_or, Option, Some, None, bytes_eq, refl, sym, ap, ◌∙◌, subst, arith, All}
use Rattle.std.specs.Prelude.{slice_get, not, option_map, unwrap_or, IsSome, IsSomeAnd}
use Rattle.std.specs.List.{AllByRecursion, find, position}
use Rattle.std.specs.Option.{ForSome}
use Rattle.std.proofs.lemmas.List.Elements.{All-get_or, recursion_from_All}
use Rattle.std.proofs.lemmas.Option.{get_or_from_slice_get, slice_get-map, slice_get_within}
use Rattle.fx_types.specs.declared.types.Ty.{Ty}
use Rattle.fx_types.specs.declared.types.Ty.TheVariants as ty
use Rattle.fx_core.specs.Lawful.{AreDistinct, DiffersFromAll, IsLawfulSchema, IsLawfulTable}
use Rattle.fx_core.specs.declared.schema.Column.{Column}
use Rattle.fx_core.specs.declared.schema.Schema.{Schema}
use Rattle.fx_core.specs.declared.schema.TableShape.{TableShape}
use Rattle.view_text.specs.declared.refused.Refusal.{Refusal}
use Rattle.row_keeper.specs.Kept.{columns_shaped}
use Rattle.row_keeper.specs.MovedTables.{AreMoves, AreMovesOf, AreSources, IsFrom, IsMove, IsSource, column_numbered, columns_from, named}
use Rattle.row_keeper.specs.declared.moves.TableMove.{TableMove}
use Rattle.app_moves.specs.Broken.{broken_move, has_other_type, is_same_type, mistyped_column}
use Rattle.app_moves.specs.Moves.{column_named, column_source, or_else, source_of, table_named}
use Rattle.app_moves.specs.Places.{column_move, move_from, number_of, place_of, table_move, table_moves}
use Rattle.app_moves.specs.Refusals.{broken_refusal, mistyped_refusal, moves_refusal, type_refusal}
use Rattle.app_moves.specs.declared.moves.Move.{Move}
use Rattle.app_moves.proofs.Apart.{column_found, columns_apart, source_named, tables_apart}
use Rattle.app_moves.proofs.Lists.{Placed, found, is_after_all, none_found, placed}

-- ---- places of things with names that differ

module _ {A : Type 0} (name : A → List ℕ) (g : A → Option ℕ) (one : (x y : A) (k : ℕ) → g x ≡ Some k → g y ≡ Some k → name x ≡ name y) where
  differs : (xs : List A) (x : A) (k : ℕ) → g x ≡ Some k → DiffersFromAll (name x) (map name xs) → DiffersFromAll k (named (map g xs))
  differs [] x k e h = tt
  differs (y ∷ ys) x k e h = by (g y) refl (differs ys x k e h.1)
    where
      by : (o : Option ℕ) → g y ≡ o → DiffersFromAll k (named (map g ys)) → DiffersFromAll k (named (o ∷ map g ys))
      by None q rest = rest
      by (Some j) q rest = (λ at. h.0 (one x y k e (q ∙ ap (λ (m : ℕ). Some m) (sym at))), rest)

  pub distinct : (xs : List A) → AreDistinct (map name xs) → AreDistinct (named (map g xs))
  distinct [] h = tt
  distinct (x ∷ xs) h = by (g x) refl (distinct xs h.1)
    where
      by : (o : Option ℕ) → g x ≡ o → AreDistinct (named (map g xs)) → AreDistinct (named (o ∷ map g xs))
      by None q rest = rest
      by (Some k) q rest = (differs xs x k q h.0, rest)

-- ---- columns

-- a number is that of the source
record IsSourceAt (moves : List Move) (old : TableShape) (c : Column) (k : ℕ) : Type 0 where
  source : Column
  is : column_source moves old c.name ≡ Some source
  there : column_numbered old.columns k ≡ Some source

source_at : (moves : List Move) (old : TableShape) (c : Column) (k : ℕ) → column_move moves (Some old) c ≡ Some k → IsSourceAt moves old c k
source_at moves old c k e = by (column_source moves old c.name) refl e
  where
    by : (o : Option Column) → column_source moves old c.name ≡ o → number_of old.columns o ≡ Some k → IsSourceAt moves old c k
    by None q f = absurd cc
    by (Some d) q f =
        let where_found = column_found moves old c.name d q in
        let at = placed (λ (x : Column). x.name) old.columns where_found.0 d where_found.1 in
        let number : Some (suc at.place) ≡ Some k = sym (ap (option_map suc) at.first) ∙ f in
        let is : suc at.place ≡ k = cc in
        record { source = d; is = q; there = subst (λ n. column_numbered old.columns n ≡ Some d) is at.there }

type_is : (a b : Ty) → is_same_type a b ≡ true → a ≡ b
type_is ty.Number ty.Number e = refl
type_is ty.Text ty.Text e = refl
type_is ty.Boolean ty.Boolean e = refl
type_is ty.Date ty.Date e = refl
type_is a b e = absurd cc

source_fits : (moves : List Move) (old : TableShape) (c : Column) → has_other_type c (column_source moves old c.name) ≡ false → IsSource old.columns c (column_move moves (Some old) c)
source_fits moves old c e = by (column_move moves (Some old) c) refl
  where
    by : (o : Option ℕ) → column_move moves (Some old) c ≡ o → IsSource old.columns c o
    by None q = tt
    by (Some k) q =
        let s = source_at moves old c k q in
        let same_type : is_same_type s.source.ty c.ty ≡ true = is_after_all (is_same_type s.source.ty c.ty) (subst (λ (o : Option Column). has_other_type c o ≡ false) s.is e) in
        subst (λ (o : Option Column). IsSomeAnd o (λ (d : Column). d.ty ≡ c.ty)) (sym s.there) (type_is s.source.ty c.ty same_type)

sources_fit : (moves : List Move) (old : TableShape) (cs : List Column) → find (λ (c : Column). has_other_type c (column_source moves old c.name)) cs ≡ None → AreSources old.columns cs (map (column_move moves (Some old)) cs)
sources_fit moves old [] e = tt
sources_fit moves old (c ∷ cs) e =
    let parts = none_found (λ (x : Column). has_other_type x (column_source moves old x.name)) c cs e in
    (source_fits moves old c parts.0, sources_fit moves old cs parts.1)

no_sources : (moves : List Move) (cs : List Column) → AreSources [] cs (map (column_move moves None) cs)
no_sources moves [] = tt
no_sources moves (c ∷ cs) = (tt, no_sources moves cs)

-- a place is that of a new table's source
record IsTableAt (olds : List TableShape) (moves : List Move) (new : TableShape) (k : ℕ) : Type 0 where
  source : TableShape
  is : source_of olds moves new.name ≡ Some source
  there : slice_get olds k ≡ Some source

module _ (olds news : List TableShape) (moves : List Move) (fine : broken_move olds news moves ≡ None) where
  -- two columns with one number have one name
  one_column : (source : Option TableShape) (x y : Column) (k : ℕ) → column_move moves source x ≡ Some k → column_move moves source y ≡ Some k → x.name ≡ y.name
  one_column None x y k e f = absurd cc
  one_column (Some old) x y k e f =
      let a = source_at moves old x k e in
      let b = source_at moves old y k f in
      let both_there : Some a.source ≡ Some b.source = sym a.there ∙ b.there in
      let is : b.source ≡ a.source = cc in
      columns_apart olds news moves fine old x.name y.name a.source a.is (subst (λ (c : Column). column_source moves old y.name ≡ Some c) is b.is)

  -- ---- tables

  place_at : (new : TableShape) (t : TableShape) → source_of olds moves new.name ≡ Some t → Placed (λ (u : TableShape). u.name) olds t
  place_at new t q =
      let where_found = source_named olds moves new.name t q in
      placed (λ (u : TableShape). u.name) olds where_found.0 t where_found.1

  table_at : (new : TableShape) (k : ℕ) → place_of olds (source_of olds moves new.name) ≡ Some k → IsTableAt olds moves new k
  table_at new k e = by (source_of olds moves new.name) refl e
    where
      by : (o : Option TableShape) → source_of olds moves new.name ≡ o → place_of olds o ≡ Some k → IsTableAt olds moves new k
      by None q f = absurd cc
      by (Some t) q f =
          let at = place_at new t q in
          let place : Some at.place ≡ Some k = sym at.first ∙ f in
          let is : at.place ≡ k = cc in
          record { source = t; is = q; there = subst (λ n. slice_get olds n ≡ Some t) is at.there }

  one_table : (x y : TableShape) (k : ℕ) → place_of olds (source_of olds moves x.name) ≡ Some k → place_of olds (source_of olds moves y.name) ≡ Some k → x.name ≡ y.name
  one_table x y k e f =
      let a = table_at x k e in
      let b = table_at y k f in
      let both_there : Some a.source ≡ Some b.source = sym a.there ∙ b.there in
      let is : b.source ≡ a.source = cc in
      tables_apart olds news moves fine x.name y.name a.source a.is (subst (λ (t : TableShape). source_of olds moves y.name ≡ Some t) is b.is)

  move_fits : (new : TableShape) (source : Option TableShape) → source_of olds moves new.name ≡ source → mistyped_column moves source new ≡ None → AreDistinct (map (λ (c : Column). c.name) new.columns)
      → IsMove (columns_shaped olds) new (move_from olds moves source new)
  move_fits new None q e names = record {
    from = tt;
    sources = no_sources moves new.columns;
    apart = distinct (λ (c : Column). c.name) (column_move moves None) (one_column None) new.columns names;
  }
  move_fits new (Some old) q e names =
      let at = place_at new old q in
      let columns = map (column_move moves (Some old)) new.columns in
      let there : slice_get (columns_shaped olds) at.place ≡ Some old.columns = slice_get-map (λ (t : TableShape). t.columns) olds at.place ∙ ap (option_map (λ (t : TableShape). t.columns)) at.there in
      let from : IsFrom (columns_shaped olds) (Some at.place) = subst IsSome (sym there) refl in
      let sources : AreSources (columns_from (columns_shaped olds) (Some at.place)) new.columns columns = subst (λ (o : Option (List Column)). AreSources (unwrap_or o []) new.columns columns) (sym there) (sources_fit moves old new.columns e) in
      let move_of : Option ℕ → TableMove = λ o. record { from = o; columns = columns } in
      subst (λ (o : Option ℕ). IsMove (columns_shaped olds) new (move_of o)) (sym at.first) (record {
        from = from;
        sources = sources;
        apart = distinct (λ (c : Column). c.name) (column_move moves (Some old)) (one_column (Some old)) new.columns names;
      })

  each_fits : (ns : List TableShape) → mistyped_refusal olds moves ns ≡ None → AllByRecursion IsLawfulTable ns → AreMovesOf (columns_shaped olds) ns (map (table_move olds moves) ns)
  each_fits [] e h = tt
  each_fits (n ∷ ns) e h = by (mistyped_column moves (source_of olds moves n.name) n) refl e (λ f. each_fits ns f h.1)
    where
      by : (o : Option Column) → mistyped_column moves (source_of olds moves n.name) n ≡ o → or_else (option_map (type_refusal n) o) (mistyped_refusal olds moves ns) ≡ None
          → (mistyped_refusal olds moves ns ≡ None → AreMovesOf (columns_shaped olds) ns (map (table_move olds moves) ns)) → AreMovesOf (columns_shaped olds) (n ∷ ns) (map (table_move olds moves) (n ∷ ns))
      by None q f rest = (move_fits n (source_of olds moves n.name) refl q h.0.2.1, rest f)
      by (Some c) q f rest = absurd cc

map_twice : {A B C : Type 0} (f : A → B) (g : B → C) (xs : List A) → map g (map f xs) ≡ map (λ x. g (f x)) xs
map_twice f g [] = refl
map_twice f g (x ∷ xs) = ap (λ ys. g (f x) ∷ ys) (map_twice f g xs)

no_refusal : (a b : Option Refusal) → or_else a b ≡ None → (a ≡ None) × (b ≡ None)
no_refusal None b e = (refl, e)
no_refusal (Some r) b e = absurd cc

no_move : (o : Option Move) → option_map broken_refusal o ≡ None → o ≡ None
no_move None e = refl
no_move (Some m) e = absurd cc

-- moves that aren't refused are ones that a keeper takes
pub moves_fit : (olds news : Schema) (moves : List Move) → IsLawfulSchema news → moves_refusal olds.tables news.tables moves ≡ None → AreMoves olds.tables news.tables (table_moves olds.tables moves news.tables)
moves_fit olds news moves lawful e =
    let parts = no_refusal (option_map broken_refusal (broken_move olds.tables news.tables moves)) (mistyped_refusal olds.tables moves news.tables) e in
    let fine = no_move (broken_move olds.tables news.tables moves) parts.0 in
    let place : TableShape → Option ℕ = λ n. place_of olds.tables (source_of olds.tables moves n.name) in
    record {
      each = each_fits olds.tables news.tables moves fine news.tables parts.1 (recursion_from_All IsLawfulTable news.tables lawful.2);
      apart = subst (λ (l : List (Option ℕ)). AreDistinct (named l)) (sym (map_twice (table_move olds.tables moves) (λ (m : TableMove). m.from) news.tables))
          (distinct (λ (t : TableShape). t.name) place (one_table olds.tables news.tables moves fine) news.tables lawful.1);
    }

-- ---- what the code asks

-- the source of a table is narrow where all old tables are
pub source_narrow : (olds : List TableShape) (moves : List Move) (n : List ℕ) → All (λ (t : TableShape). length t.columns ≤ 63) olds → ForSome (source_of olds moves n) (λ (t : TableShape). length t.columns ≤ 63)
source_narrow olds moves n h = λ t e.
    let m = source_named olds moves n t e in
    let f = found (λ (u : TableShape). bytes_eq u.name m.0) olds t m.1 in
    let below : f.place < length olds = slice_get_within olds f.place t f.there in
    subst (λ (u : TableShape). length u.columns ≤ 63) (get_or_from_slice_get olds f.place t t f.there) (All-get_or (λ (u : TableShape). length u.columns ≤ 63) olds f.place t below h)
