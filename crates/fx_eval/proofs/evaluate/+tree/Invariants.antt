use Rattle.std.proofs.Common.{◌≡◌, ◌+◌, ◌*◌, ◌≤◌, Option, length, map, take}
use Rattle.fx_types.specs.ValueView.{fields_view, view}
use Rattle.fx_types.specs.Values.{Data}
use Rattle.fx_eval.specs.Courses.{FormIsWorth, course_going}
use Rattle.fx_eval.proofs.Visiting.{HasPassed}
use Rattle.fx_eval.specs.EvalSteps.{HasVisited, Went, moment}
use Rattle.fx_eval.specs.Visits.{AllVisit, EachVisits, PartsVisit, Visits, parts}
use Rattle.fx_eval.specs.Parts.{AreFilled, AreSet, terms_of}
use Rattle.fx_env.specs.Scopes.{around}
use Rattle.fx_env.specs.Telling.{IsHeard, values_told}
use Rattle.fx_semantics.specs.Around.{AreEach, AreValues}
use Rattle.fx_semantics.specs.Fresh.{meaning, meanings}
use Rattle.fx_eval.specs.Given.{AreGiven, argument_values}
use Rattle.fx_core.specs.declared.sources.Source.{Source}
use Rattle.fx_core.specs.Term.{all, over, term_size, terms_size}
use Rattle.fx_eval.proofs.evaluate.+tree.Given as goal

abbrev pub decreases-tree : goal.decreases-tree
decreases-tree g l = 8 * term_size l.core.now + 3

abbrev pub decreases-value_here : goal.decreases-value_here
decreases-value_here g l = 8 * term_size l.core.now + 2

abbrev pub decreases-query : goal.decreases-query
decreases-query g l = 8 * term_size l.core.now + 1

abbrev pub decreases-constant_values : goal.decreases-constant_values
decreases-constant_values g l = 8 * terms_size (all l.constants.now) + 3

abbrev pub decreases-of_found : goal.decreases-of_found
decreases-of_found g l = 8 * term_size l.formula.now + 5

abbrev pub decreases-node : goal.decreases-node
decreases-node g l = 8 * term_size l.core.now

abbrev pub decreases-within : goal.decreases-within
decreases-within g l = 8 * (term_size l.part.now + term_size l.formula.now) + 5

abbrev pub decreases-in_scope : goal.decreases-in_scope
decreases-in_scope g l = 8 * term_size l.formula.now + 4

abbrev pub decreases-catch_error : goal.decreases-catch_error
decreases-catch_error g l = 8 * term_size l.formula.now + 4

abbrev pub decreases-field_values : goal.decreases-field_values
decreases-field_values g l = 8 * terms_size (all (terms_of l.fields.now)) + 2

abbrev pub decreases-part_values : goal.decreases-part_values
decreases-part_values g l = 8 * terms_size (all l.parts.now) + 2

abbrev pub decreases-go_through : goal.decreases-go_through
decreases-go_through g l = 8 * terms_size (all l.parts.now) + 2

abbrev pub decreases-call_over : goal.decreases-call_over
decreases-call_over g l = 8 * (term_size l.table.now + terms_size (all l.parts.now)) + 5

abbrev pub decreases-over_table : goal.decreases-over_table
decreases-over_table g l = 8 * (term_size l.table.now + terms_size (all l.parts.now)) + 6

abbrev pub decreases-part_answers : goal.decreases-part_answers
decreases-part_answers g l = 8 * terms_size (all l.parts.now) + 4

abbrev pub decreases-answer : goal.decreases-answer
decreases-answer g l = 8 * term_size l.part.now + 6

abbrev pub decreases-each : goal.decreases-each
decreases-each g l = 8 * term_size l.formula.now + 5

abbrev pub decreases-go_through-loop-part : goal.decreases-go_through-loop-part
decreases-go_through-loop-part g l = terms_size (all l.rest)

-- so far nothing has changed, and what is left decides
abbrev pub invariant-go_through-loop-part : goal.invariant-go_through-loop-part
invariant-go_through-loop-part g l = record {
  went : Went
      (moment (g.E.Env.fixed l.fn.env) (g.E.Env.told l.fn.env) (g.E.Env.marks l.fn.env) (g.E.Env.ticked l.fn.env) (g.E.Env.visited l.fn.env) l.fn.scope l.fn.steps)
      (moment (g.E.Env.fixed l.env) (g.E.Env.told l.env) (g.E.Env.marks l.env) (g.E.Env.ticked l.env) (g.E.Env.visited l.env) l.scope l.steps);
  parts : AreSet (g.E.Env.fixed l.fn.env).types l.fn.scope (course_going l.course) l.rest;
  value : (told : Option (Source → Data)) → IsHeard (values_told (g.E.Env.told l.env)) told → (v : Data) → FormIsWorth (course_going l.course) (meanings (all l.rest)) (around (g.E.Env.fixed l.fn.env).types told l.fn.scope) v
      → FormIsWorth (course_going l.fn.course) (meanings (all l.parts)) (around (g.E.Env.fixed l.fn.env).types told l.fn.scope) v;
  small : terms_size (all l.rest) ≤ terms_size (all l.parts);
  visits : HasPassed (course_going l.course) l.rest (course_going l.fn.course) l.parts
      (moment (g.E.Env.fixed l.fn.env) (g.E.Env.told l.fn.env) (g.E.Env.marks l.fn.env) (g.E.Env.ticked l.fn.env) (g.E.Env.visited l.fn.env) l.fn.scope l.fn.steps)
      (moment (g.E.Env.fixed l.env) (g.E.Env.told l.env) (g.E.Env.marks l.env) (g.E.Env.ticked l.env) (g.E.Env.visited l.env) l.scope l.steps);
}

-- the fields so far
abbrev pub invariant-field_values-loop-name : goal.invariant-field_values-loop-name
invariant-field_values-loop-name g l = record {
  went : Went
      (moment (g.E.Env.fixed l.fn.env) (g.E.Env.told l.fn.env) (g.E.Env.marks l.fn.env) (g.E.Env.ticked l.fn.env) (g.E.Env.visited l.fn.env) l.fn.scope l.fn.steps)
      (moment (g.E.Env.fixed l.env) (g.E.Env.told l.env) (g.E.Env.marks l.env) (g.E.Env.ticked l.env) (g.E.Env.visited l.env) l.scope l.steps);
  values : (told : Option (Source → Data)) → IsHeard (values_told (g.E.Env.told l.env)) told → AreFilled (take l.name-index l.fields) (around (g.E.Env.fixed l.fn.env).types told l.fn.scope) (fields_view l.items.items);
  visits : HasVisited (λ w. AllVisit (parts w (all (terms_of (take l.name-index l.fields)))))
      (moment (g.E.Env.fixed l.fn.env) (g.E.Env.told l.fn.env) (g.E.Env.marks l.fn.env) (g.E.Env.ticked l.fn.env) (g.E.Env.visited l.fn.env) l.fn.scope l.fn.steps)
      (moment (g.E.Env.fixed l.env) (g.E.Env.told l.env) (g.E.Env.marks l.env) (g.E.Env.ticked l.env) (g.E.Env.visited l.env) l.scope l.steps);
}

-- the values so far
abbrev pub invariant-part_values-loop-part : goal.invariant-part_values-loop-part
invariant-part_values-loop-part g l = record {
  went : Went
      (moment (g.E.Env.fixed l.fn.env) (g.E.Env.told l.fn.env) (g.E.Env.marks l.fn.env) (g.E.Env.ticked l.fn.env) (g.E.Env.visited l.fn.env) l.fn.scope l.fn.steps)
      (moment (g.E.Env.fixed l.env) (g.E.Env.told l.env) (g.E.Env.marks l.env) (g.E.Env.ticked l.env) (g.E.Env.visited l.env) l.scope l.steps);
  values : (told : Option (Source → Data)) → IsHeard (values_told (g.E.Env.told l.env)) told → AreValues (meanings (all (take l.part-index l.parts))) (around (g.E.Env.fixed l.fn.env).types told l.fn.scope) (map view l.values.items);
  visits : HasVisited (λ w. AllVisit (parts w (all (take l.part-index l.parts))))
      (moment (g.E.Env.fixed l.fn.env) (g.E.Env.told l.fn.env) (g.E.Env.marks l.fn.env) (g.E.Env.ticked l.fn.env) (g.E.Env.visited l.fn.env) l.fn.scope l.fn.steps)
      (moment (g.E.Env.fixed l.env) (g.E.Env.told l.env) (g.E.Env.marks l.env) (g.E.Env.ticked l.env) (g.E.Env.visited l.env) l.scope l.steps);
}

-- what the parts so far come to
abbrev pub invariant-part_answers-loop-part : goal.invariant-part_answers-loop-part
invariant-part_answers-loop-part g l = record {
  went : Went
      (moment (g.E.Env.fixed l.fn.env) (g.E.Env.told l.fn.env) (g.E.Env.marks l.fn.env) (g.E.Env.ticked l.fn.env) (g.E.Env.visited l.fn.env) l.fn.scope l.fn.steps)
      (moment (g.E.Env.fixed l.env) (g.E.Env.told l.env) (g.E.Env.marks l.env) (g.E.Env.ticked l.env) (g.E.Env.visited l.env) l.scope l.steps);
  count : length l.answers.items ≡ l.part-index;
  answers : (told : Option (Source → Data)) → IsHeard (values_told (g.E.Env.told l.env)) told → AreGiven (over l.fun) (length l.parts + 1) 1 (meanings (all (take l.part-index l.parts))) (around (g.E.Env.fixed l.fn.env).types told l.fn.scope) l.rows
      (map argument_values l.answers.items);
  visits : HasVisited (λ w. PartsVisit l.fun (length l.parts + 1) 1 l.rows (parts w (all (take l.part-index l.parts))))
      (moment (g.E.Env.fixed l.fn.env) (g.E.Env.told l.fn.env) (g.E.Env.marks l.fn.env) (g.E.Env.ticked l.fn.env) (g.E.Env.visited l.fn.env) l.fn.scope l.fn.steps)
      (moment (g.E.Env.fixed l.env) (g.E.Env.told l.env) (g.E.Env.marks l.env) (g.E.Env.ticked l.env) (g.E.Env.visited l.env) l.scope l.steps);
}

-- the values for the rows so far
abbrev pub invariant-each-loop-row : goal.invariant-each-loop-row
invariant-each-loop-row g l = record {
  went : Went
      (moment (g.E.Env.fixed l.fn.env) (g.E.Env.told l.fn.env) (g.E.Env.marks l.fn.env) (g.E.Env.ticked l.fn.env) (g.E.Env.visited l.fn.env) l.fn.scope l.fn.steps)
      (moment (g.E.Env.fixed l.env) (g.E.Env.told l.env) (g.E.Env.marks l.env) (g.E.Env.ticked l.env) (g.E.Env.visited l.env) l.scope l.steps);
  values : (told : Option (Source → Data)) → IsHeard (values_told (g.E.Env.told l.env)) told → AreEach (meaning l.formula) (around (g.E.Env.fixed l.fn.env).types told l.fn.scope) (take l.row-index l.rows) (map view l.values.items);
  visits : HasVisited (λ w. EachVisits (Visits w l.formula) (take l.row-index l.rows))
      (moment (g.E.Env.fixed l.fn.env) (g.E.Env.told l.fn.env) (g.E.Env.marks l.fn.env) (g.E.Env.ticked l.fn.env) (g.E.Env.visited l.fn.env) l.fn.scope l.fn.steps)
      (moment (g.E.Env.fixed l.env) (g.E.Env.told l.env) (g.E.Env.marks l.env) (g.E.Env.ticked l.env) (g.E.Env.visited l.env) l.scope l.steps);
}
