-- Four statements, one after another: the tables are made, or cleared.
use Rattle.std.proofs.Common.{◌≡◌, inl, inr, ℕ, IsTrue, true, false, true≢false, List, [], sym, subst, ◌∙◌, arith}
use Rattle.sqlite.specs.State.{State, HasCleanDisk}
use Rattle.sqlite.specs.Tree.{Trees}
use Rattle.sqlite.specs.Order.{Row}
use Rattle.std.proofs.lemmas.Bool.{cases_Bool}
use Rattle.sqlite_trees.specs.View.{IsShaped, View}
use Rattle.sqlite_trees.specs.declared.store.Shape.TheVariants.{Table as TableShape}
use Rattle.sql_meanings.specs.Schema.{kept_schema, no_schema, one_table, two_tables, three_tables}
use Rattle.sql_meanings.specs.Forms.{GoesOn, Makes}
use Rattle.sql_meanings.specs.Calls.{RunsInside}
use Rattle.sql_meanings.specs.UnderWay.{AreEmpty, AreSeated, Clears, IsEmptied}
use Rattle.sql_meanings.proofs.CallLemmas.{inside_then, on_then}

-- ---- what any such calls leave, of which all but the last were answered

abbrev GoesOnIf : State → State → Type 0
GoesOnIf old new = HasCleanDisk new → old.in_transaction ≡ true → GoesOn old new

module _ (a b c d : State) (on-b : GoesOnIf a b) (on-c : GoesOnIf b c) (to-b : RunsInside a b) (to-c : RunsInside b c) (to-d : RunsInside c d) where
  on_two : GoesOnIf a c
  on_two = on_then a b c on-b to-b to-c on-c

  two : RunsInside a c
  two = inside_then a b c on-b to-b to-c

  pub three : RunsInside a d
  three = inside_then a c d on_two two to-d

  module _ (e : State) (on-d : GoesOnIf c d) (to-e : RunsInside d e) where
    on_three : GoesOnIf a d
    on_three = on_then a c d on_two two to-d on-d

    pub four : RunsInside a e
    four = inside_then a d e on_three three to-e

    pub on_four : GoesOnIf d e → GoesOnIf a e
    on_four on-e = on_then a d e on_three three to-e on-e

-- ---- the tables

no_rows_seated : (rows : List Row) → rows ≡ [] → IsShaped TableShape rows
no_rows_seated rows none = subst (IsShaped TableShape) (sym none) (tt, tt)

-- tables without rows are in order
pub empty_seated : (trees : Trees) → AreEmpty trees → AreSeated trees
empty_seated trees none = record { shape = no_rows_seated _ none.shape; tabs = no_rows_seated _ none.tabs; lines = no_rows_seated _ none.lines; marks = no_rows_seated _ none.marks }

pub made_all : (a b c d e : State) → Makes a b no_schema one_table 0 → Makes b c one_table two_tables 1 → Makes c d two_tables three_tables 2 → Makes d e three_tables kept_schema 4 → IsEmptied e
made_all a b c d e first second third fourth =
    let none : AreEmpty e.now.trees = record {
      shape = fourth.kept.0 ∙ third.kept.0 ∙ second.kept.0 ∙ first.empty;
      tabs = fourth.kept.1.0 ∙ third.kept.1.0 ∙ second.empty;
      lines = fourth.kept.1.1.0 ∙ third.empty;
      marks = fourth.empty;
    } in
    record { goes_on = record { under_way = fourth.goes_on.under_way; schema = fourth.goes_on.schema_is; seated = empty_seated e.now.trees none }; empty = none }

pub cleared_all : (a b c d e : State) → (count-b count-c count-d count-e : ℕ) → Clears a b 0 count-b → Clears b c 1 count-c → Clears c d 2 count-d → Clears d e 4 count-e → IsEmptied e
cleared_all a b c d e _ _ _ _ first second third fourth = record {
  goes_on = fourth.goes_on;
  empty = record {
    shape = fourth.others.0 (λ e. omega arith) ∙ third.others.0 (λ e. omega arith) ∙ second.others.0 (λ e. omega arith) ∙ first.empty;
    tabs = fourth.others.1.0 (λ e. omega arith) ∙ third.others.1.0 (λ e. omega arith) ∙ second.empty;
    lines = fourth.others.1.1.0 (λ e. omega arith) ∙ third.empty;
    marks = fourth.empty;
  };
}

-- ---- a store that is taken over

pub open_if_unbroken : (v : View) → v.is_broken ≡ false → (v.is_open ≡ false → IsTrue v.is_broken) → IsTrue v.is_open
open_if_unbroken v unbroken broken = elim (cases_Bool v.is_open) [ inl up ↦ up | inr shut ↦ absurd (true≢false (sym (broken shut) ∙ unbroken)) ]
