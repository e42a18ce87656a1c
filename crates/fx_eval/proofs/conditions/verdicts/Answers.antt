use Rattle.std.proofs.Common.{◌≡◌, ◌∙◌, ap, length, map, sym}
use Rattle.std.proofs.lemmas.List.{length-map}
use Rattle.fx_types.specs.ValueView.{view}
use Rattle.fx_eval.specs.Given.{argument_values}
use Rattle.fx_eval.proofs.Turns.{condition_many, for_many, next_formula, verdict_step}
use Rattle.fx_eval.proofs.conditions.verdicts.Goals as goal

pub loop-condition-preserved : goal.loop-condition-preserved
loop-condition-preserved c =
    let left = c.loop-condition.condition-iterator.rest.items in
    let rest = c.next.new.self.rest.items in
    let x = c.in-Some.condition in
    let vs = c.loop-condition.verdicts.items in
    let ds = c.values_of.result.items in
    let ws = c.in_ok-verdicts-2.verdicts.items in
    let n = length c.args.rows.now in
    let made = c.in_ok-verdicts-2.ensures in
    let next = next_formula n left rest x c.in-Some.ensures.steps.0 c.loop-condition.invariant.fine in
    let each_one : length ds ≡ n = for_many n (argument_values x) ds c.values_of.ensures next.0 in
    let same : length (map view ds) ≡ length (map view vs) = length-map ds view ∙ each_one ∙ sym c.loop-condition.invariant.long ∙ sym (length-map vs view) in
    record {
      value = verdict_step _ (map view vs) left rest x (map view ds) (map view ws) c.in-Some.ensures.steps.0 c.values_of.ensures made c.loop-condition.invariant.value;
      fine = next.1;
      long = sym (length-map ws view) ∙ ap length made ∙ condition_many (map view vs) (map view ds) same ∙ length-map vs view ∙ c.loop-condition.invariant.long;
    }
