-- The four tables are in the order of their rowids: as the open found them, and where one of them changes.
use Rattle.std.proofs.Common.{◌≡◌, ◌≢◌, ◌⊎◌, inl, inr, ℕ, List, refl, sym, subst, arith}
use Rattle.sqlite_trees.specs.Tree.{IsTable, Trees}
use Rattle.sqlite_trees.specs.Objects.{IsListed, catalog_tree}
use Rattle.sqlite_schema.specs.declared.schema.Schema.{Schema}
use Rattle.sqlite_catalog.specs.Listing.{AreListed, IsSound}
use Rattle.sqlite_catalog.proofs.LayoutLemmas.{table_shape}
use Rattle.sqlite_trees.specs.View.{IsOrdered, IsShaped, View}
use Rattle.sqlite_trees.specs.declared.store.Shape.TheVariants.{Table as TableShape}
use Rattle.sqlite.specs.State.{State}
use Rattle.sql_meanings.specs.Schema.{kept_schema, lines_at, marks_at, shape_at, tabs_at}
use Rattle.sql_meanings.specs.Forms.{OthersStay}
use Rattle.sql_meanings.specs.UnderWay.{AreSeated}

pub seated_by_shape : (old new : State) → AreSeated old.now.trees → IsShaped TableShape (new.now.trees 0) → OthersStay old new kept_schema 0 → AreSeated new.now.trees
seated_by_shape old new were now others = record {
  shape = now;
  tabs = subst (IsShaped TableShape) (sym (others.1.0 (λ e. omega arith))) were.tabs;
  lines = subst (IsShaped TableShape) (sym (others.1.1.0 (λ e. omega arith))) were.lines;
  marks = subst (IsShaped TableShape) (sym (others.1.1.1.0 (λ e. omega arith))) were.marks;
}

pub seated_by_tabs : (old new : State) → AreSeated old.now.trees → IsShaped TableShape (new.now.trees 1) → OthersStay old new kept_schema 1 → AreSeated new.now.trees
seated_by_tabs old new were now others = record {
  shape = subst (IsShaped TableShape) (sym (others.0 (λ e. omega arith))) were.shape;
  tabs = now;
  lines = subst (IsShaped TableShape) (sym (others.1.1.0 (λ e. omega arith))) were.lines;
  marks = subst (IsShaped TableShape) (sym (others.1.1.1.0 (λ e. omega arith))) were.marks;
}

pub seated_by_lines : (old new : State) → AreSeated old.now.trees → IsShaped TableShape (new.now.trees 2) → OthersStay old new kept_schema 2 → AreSeated new.now.trees
seated_by_lines old new were now others = record {
  shape = subst (IsShaped TableShape) (sym (others.0 (λ e. omega arith))) were.shape;
  tabs = subst (IsShaped TableShape) (sym (others.1.0 (λ e. omega arith))) were.tabs;
  lines = now;
  marks = subst (IsShaped TableShape) (sym (others.1.1.1.0 (λ e. omega arith))) were.marks;
}

pub seated_by_marks : (old new : State) → AreSeated old.now.trees → IsShaped TableShape (new.now.trees 4) → OthersStay old new kept_schema 4 → AreSeated new.now.trees
seated_by_marks old new were now others = record {
  shape = subst (IsShaped TableShape) (sym (others.0 (λ e. omega arith))) were.shape;
  tabs = subst (IsShaped TableShape) (sym (others.1.0 (λ e. omega arith))) were.tabs;
  lines = subst (IsShaped TableShape) (sym (others.1.1.0 (λ e. omega arith))) were.lines;
  marks = now;
}

-- a sound store that lists the four tables keeps each in the order of its rowids
pub all_seated : (v : View) (schema : Schema) (trees : Trees) → IsOrdered v.shape v.trees → IsListed (v.trees catalog_tree) v.shape v.reals → IsSound schema trees → schema ≡ kept_schema → trees ≡ v.trees → AreSeated trees
all_seated v schema trees ordered listed sound has same =
    let rising : IsTable (v.trees catalog_tree) = (subst (λ s. IsShaped s (v.trees catalog_tree)) listed.itself.0 (ordered catalog_tree)).0 in
    let are : AreListed (v.trees catalog_tree) kept_schema = subst (λ s. AreListed (v.trees catalog_tree) s) has (subst (λ (t : Trees). AreListed (t catalog_tree) schema) same sound.lists.listed) in
    let table = table_shape listed rising are in
    subst AreSeated (sym same) (record {
      shape = subst (λ s. IsShaped s (v.trees 0)) (table shape_at (inl refl)).0 (ordered 0);
      tabs = subst (λ s. IsShaped s (v.trees 1)) (table tabs_at (inr (inl refl))).0 (ordered 1);
      lines = subst (λ s. IsShaped s (v.trees 2)) (table lines_at (inr (inr (inl refl)))).0 (ordered 2);
      marks = subst (λ s. IsShaped s (v.trees 4)) (table marks_at (inr (inr (inr (inl refl))))).0 (ordered 4);
    })
