use Rattle.std.proofs.Common.{◌≡◌, ◌∙◌, ◌++◌, ◌∷◌, [], ap, sym, true, false, rules}
use Rattle.std.specs.BTreeSet.{contains}
use Rattle.std.proofs.lemmas.Bool.{not-false, not-true}
use Rattle.fx_types.specs.ValueView.{view}
use Rattle.fx_tables.specs.Distinct.{value_row}
use Rattle.fx_tables.specs.Seen.{key_order}
use Rattle.fx_tables.proofs.DistinctSteps.{is_among, keys_more, was_among, firsts_same, firsts_more}
use Rattle.fx_tables.proofs.first_values.take_first.Goals as goal

pub returns-then-not-branch-clause-adds : goal.returns-then-not-branch-clause-adds
returns-then-not-branch-clause-adds c = λ ds h t p.
    let seen = c.args.seen.now in
    let key = c.in_ok-key.key in
    let d = view c.args.value.now in
    let was = was_among c.keys_order.ensures.order seen key c.args.rows.now.items ds d h c.in_ok-key.ensures t p c.value_is_proper.ensures in
    let stays : c.in_ok-insert.field-0 ≡ false = search (rules, not-true) in
    let among : is_among d ds ≡ true = sym was ∙ not-false (contains key_order seen key) (sym c.in_ok-insert.ensures.added ∙ stays) in
    firsts_same seen c.insert.new.self c.args.rows.now.items ds d h among
    (keys_more seen c.insert.new.self key ds d c.in_ok-insert.ensures.updates.0 c.in_ok-key.ensures h.keys_are)

pub returns-clause-adds : goal.returns-clause-adds
returns-clause-adds c = λ ds h t p.
    let seen = c.args.seen.now in
    let key = c.in_ok-key.key in
    let rows = c.args.rows.now.items in
    let d = view c.args.value.now in
    let was = was_among c.keys_order.ensures.order seen key rows ds d h c.in_ok-key.ensures t p c.value_is_proper.ensures in
    let comes : c.in_ok-insert.field-0 ≡ true = search (rules, not-false) in
    let among : is_among d ds ≡ false = sym was ∙ not-true (contains key_order seen key) (sym c.in_ok-insert.ensures.added ∙ comes) in
    let made = c.in_ok-push.ensures.items ∙ ap (λ r. rows ++ r ∷ []) (c.in_ok-value_row.ensures ∙ ap (λ v. value_row (view v)) c.in_ok-copy.ensures) in
    firsts_more seen c.insert.new.self rows c.push.new.self.items ds d h among made
    (keys_more seen c.insert.new.self key ds d c.in_ok-insert.ensures.updates.0 c.in_ok-key.ensures h.keys_are)
