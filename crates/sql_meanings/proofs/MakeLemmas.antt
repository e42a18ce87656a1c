-- What the statements that make the tables do.
use Rattle.std.proofs.Common.{◌≡◌, ℕ, List, [], ◌∷◌, false, None, Ok, Err, Result, OnOk, refl, sym, ap, subst, ◌∙◌}
use Rattle.std.specs.List.{AllByRecursion}
use Rattle.sqlite.specs.Table.{Table}
use Rattle.sqlite.specs.Schema.{Schema}
use Rattle.sqlite.specs.Change.{created, next_tree}
use Rattle.sqlite.specs.Command.TheVariants.{CreateTable}
use Rattle.sqlite.specs.Compile.{table_defined_by}
use Rattle.sqlite.specs.Does.{Tally, lacks_sequence}
use Rattle.sqlite.specs.Effect.{Database}
use Rattle.sqlite.specs.Tree.{Trees}
use Rattle.sqlite.specs.Listing.{understood}
use Rattle.sqlite.specs.State.{State, Writes, ExecutesInside}
use Rattle.sqlite.specs.declared.error.Error.{Error}
use Rattle.sqlite.proofs.Callers.{IsPlain, command_of, statement_of, runs_as}
use Rattle.sqlite_tied.specs.Compute.{everything}
use Rattle.sql_meanings.specs.Schema.{no_schema, one_table, two_tables, three_tables, kept_schema, shape_table, tabs_table, lines_table, marks_table}
use Rattle.sql_meanings.specs.Texts.{make_shape, make_tabs, make_lines, make_marks}
use Rattle.sql_meanings.specs.Forms.{IsBegun, Makes}
use Rattle.sql_meanings.proofs.FormLemmas.{went, same_value}

-- the text makes this table, under the schema before it
abbrev Defines : Schema → List ℕ → Table → Type 0
Defines before text table =
    (command_of (understood before text) ≡ CreateTable) × (statement_of text (understood before text) ≡ text) × (table_defined_by text ≡ Ok table) × IsPlain (understood before text)

module _ (before : Schema) (text : List ℕ) (table : Table) (is : Defines before text table) (uncounted : lacks_sequence (created before table) ≡ false) where
  pub makes : (old new : State) (r : Result ℕ Error) → IsBegun old before → ExecutesInside 0 text [] old new r → OnOk r (Makes old new before (created before table) (next_tree before))
  makes old new (Err e) begun h = tt
  makes old new (Ok count) begun h =
      let w = subst (λ t. Writes old new None CreateTable t [] count) is.1 (runs_as text [] old new before begun.schema_is CreateTable is.0 is.3 count h.0) in
      let all = went w.changed in
      let first = went all.1 in
      let made = first.1 in
      let both : Ok made.table ≡ Ok table = sym made.defined ∙ is.2 in
      let same : made.table ≡ table = same_value both in
      let schema : first.0.schema ≡ created before table = made.is ∙ ap (λ s. created s made.table) begun.schema_is ∙ ap (created before) same in
      let unlisted : lacks_sequence first.0.schema ≡ false = ap lacks_sequence schema ∙ uncounted in
      let now : new.now ≡ first.0 = ap (λ (p : Tally × Database). p.1) (same_value all.2) ∙ same_value (rw unlisted at first.2) in
      record {
        goes_on = record { under_way = h.1.mode; schema_is = ap (λ (d : Database). d.schema) now ∙ schema };
        empty = ap (λ (d : Database). d.trees (next_tree before)) now ∙ subst (λ s. first.0.trees (next_tree s) ≡ []) begun.schema_is made.empty;
        kept = subst (λ (t : Trees). AllByRecursion (λ (it : Table). t it.tree ≡ old.now.trees it.tree) before.tables) (sym (ap (λ (d : Database). d.trees) now))
            (subst (λ s. AllByRecursion (λ (it : Table). first.0.trees it.tree ≡ old.now.trees it.tree) s.tables) begun.schema_is made.others);
        committed = h.1.committed_is;
      }

shape_is : Defines no_schema make_shape shape_table
unfolding understood everything
shape_is = (refl, refl, refl, (refl, refl))

tabs_is : Defines one_table make_tabs tabs_table
unfolding understood everything
tabs_is = (refl, refl, refl, (refl, refl))

lines_is : Defines two_tables make_lines lines_table
unfolding understood everything
lines_is = (refl, refl, refl, (refl, refl))

marks_is : Defines three_tables make_marks marks_table
unfolding understood everything
marks_is = (refl, refl, refl, (refl, refl))

pub makes_shape : (old new : State) (r : Result ℕ Error) → IsBegun old no_schema → ExecutesInside 0 make_shape [] old new r → OnOk r (Makes old new no_schema one_table 0)
makes_shape = makes no_schema make_shape shape_table shape_is refl

pub makes_tabs : (old new : State) (r : Result ℕ Error) → IsBegun old one_table → ExecutesInside 0 make_tabs [] old new r → OnOk r (Makes old new one_table two_tables 1)
makes_tabs = makes one_table make_tabs tabs_table tabs_is refl

pub makes_lines : (old new : State) (r : Result ℕ Error) → IsBegun old two_tables → ExecutesInside 0 make_lines [] old new r → OnOk r (Makes old new two_tables three_tables 2)
makes_lines = makes two_tables make_lines lines_table lines_is refl

pub makes_marks : (old new : State) (r : Result ℕ Error) → IsBegun old three_tables → ExecutesInside 0 make_marks [] old new r → OnOk r (Makes old new three_tables kept_schema 4)
makes_marks = makes three_tables make_marks marks_table marks_is refl
