use Rattle.std.proofs.Common.{◌∙◌, ap, sym, true≢false}
use Rattle.sqlite.specs.Schema.{Schema}
use Rattle.sql_layout.proofs.LayoutLemmas.{all_kept, indexes_of_kept, tables_of_kept}
use Rattle.sql_layout.proofs.is_kept_schema.Goals as goal
use Rattle.sql_layout.proofs.is_kept_schema.Goals.{then-are_tables, else-are_tables}

pub returns-then-are_indexes : goal.returns-then-are_indexes
returns-then-are_indexes c = (
  λ bare. elim c.if-are_tables.branch [
    | then-are_tables w ↦ all_kept c.args.schema.now (sym c.as_slice.ensures ∙ c.are_tables.ensures.0 w.if-are_tables.true) (sym w.as_slice-then-are_tables.ensures ∙ w.are_indexes.ensures.0 (sym w.value-is ∙ c.if-are_indexes.true)) (c.is_empty.ensures.0 bare)
    | else-are_tables w ↦ absurd (true≢false (sym c.if-are_indexes.true ∙ w.value-is ∙ w.if-are_tables.false))
  ],
  λ same. c.is_empty.ensures.1 (ap (λ (s : Schema). s.views) same),
)

pub returns-else-are_indexes : goal.returns-else-are_indexes
returns-else-are_indexes c = (
  λ passes. absurd (cc),
  λ same. elim c.if-are_tables.branch [
    | then-are_tables w ↦ absurd (true≢false (sym (w.are_indexes.ensures.1 (w.as_slice-then-are_tables.ensures ∙ indexes_of_kept _ same)) ∙ sym w.value-is ∙ c.if-are_indexes.false))
    | else-are_tables w ↦ absurd (true≢false (sym (c.are_tables.ensures.1 (c.as_slice.ensures ∙ tables_of_kept _ same)) ∙ w.if-are_tables.false))
  ],
)
