use Rattle.std.proofs.Common.{List, ◌++◌, Option, ap, get_or, sym, take, ◌≡◌, ◌∙◌}
use Rattle.std.specs.Prelude.{option_to_list}
use Rattle.std.proofs.lemmas.List.{append-nil, take_more}
use Rattle.row_queries.specs.declared.rows.Row.{Row}
use Rattle.row_keeper.specs.Found.{rows_of_ids}
use Rattle.row_keeper.proofs.FoundLemmas.{rows_of_more}
use Rattle.row_keeper.proofs.picked_rows.rows_of.Goals as goal
use Rattle.row_keeper.proofs.picked_rows.rows_of.Goals.{in-Some+in_ok-push, in_default}

pub loop-id-preserved : goal.loop-id-preserved
loop-id-preserved c =
    let rows = c.args.rows.now.entries in
    let before = take c.loop-id.id-index c.args.ids.now in
    let id = get_or c.args.ids.now c.loop-id.id-index 0 in
    pushed
    ∙ ap (λ (l : List Row). l ++ option_to_list c.in_ok-row.field-0) c.loop-id.invariant
    ∙ ap (λ (o : Option Row). rows_of_ids rows before ++ option_to_list o) c.in_ok-row.ensures
    ∙ sym (rows_of_more rows before id)
    ∙ ap (rows_of_ids rows) (sym (take_more c.args.ids.now c.loop-id.id-index 0 c.loop-id-test.true))
  where
    pushed : c.match-branch-3.found.items ≡ c.loop-id.found.items ++ option_to_list c.in_ok-row.field-0
    pushed = elim c.match-branch-3.branch [
      | in-Some+in_ok-push w ↦
          ap (λ v. v.items) w.found-is ∙ w.in_ok-push.ensures.items ∙ ap (λ (o : Option Row). c.loop-id.found.items ++ option_to_list o) (sym w.in-Some.is)
      | in_default w ↦
          ap (λ v. v.items) w.found-is ∙ sym (append-nil c.loop-id.found.items) ∙ ap (λ (o : Option Row). c.loop-id.found.items ++ option_to_list o) (sym w.in_default.is)
    ]
