use Rattle.std.proofs.Common.{◌≡◌, ◌<◌, ◌≤◌, ◌+◌, ◌-◌, ℕ, List, [], ◌∷◌, ◌++◌, max, Option, Some, None, arith, refl, ap, sym, ◌∙◌}
use Rattle.std.proofs.lemmas.Result.{err_from_is_err_and}
use Rattle.std.specs.Borrow.{Bor}
use Rattle.fx_grammar.specs.declared.item.Item.{Item}
use Rattle.fx_grammar.specs.Reading.{line_at}
use Rattle.fx_grammar.proofs.Turns.{comes_first, left_ends, left_stuck, left_too_deep, parts_end, parts_stuck, fields_end, fields_stuck, strands_end, strands_stuck}
use Rattle.fx_parser.specs.Answer.{ParserAnswers, parsed_view, strand_seen}
use Rattle.fx_parser.proofs.Lines.{none_line, passed, gives_as, chain_ends, chain_goes_off, chain_none, several_read, several_none, by_none, alias_read, alias_none, percent_read, percent_none, access_read, access_none, prefix_unsigned, prefix_none, prefix_read, power_none, power_base, power_stuck, power_read, power_deep, atom_nothing, atom_at, strand_nothing, strand_first, parts_first, parts_none, left_first, by_goes, parts_goes, fields_first, fields_goes, args_empty, args_none, args_open, args_read, fields_empty, fields_none, fields_open, fields_read, some_fields_none, field_none, field_stuck, field_read, strand_over, strand_deep, strand_shorter, weave_goes, weave_none, weave_open, weave_deep, weave_read}
use Rattle.fx_parser.proofs.descent.+descent.Goals as goal

abbrev tokens_of : Bor (List Item) → List Item
tokens_of x = x.now

pub line-returns-then-limit-eq0-clause-gives : goal.line-returns-then-limit-eq0-clause-gives
line-returns-then-limit-eq0-clause-gives t c = none_line _ _ _ c.if-limit-eq0.true

pub access-returns-in_err-tree-clause-gives : goal.access-returns-in_err-tree-clause-gives
access-returns-in_err-tree-clause-gives t c = let p = err_from_is_err_and c.from_residual.result c.from_residual.ensures.1 in rw (p.1, p.2) (passed parsed_view parsed_view _ _ _ c.in_err-tree.ensures.gives (access_none _ _ c.requires))

pub access-returns-clause-gives : goal.access-returns-clause-gives
access-returns-clause-gives t c = gives_as parsed_view _ _ _ (access_read _ _ _ _ _ _ c.requires c.in_ok-tree.ensures.gives c.place.ensures) c.dots.ensures.gives

pub alias-returns-in_err-tree-clause-gives : goal.alias-returns-in_err-tree-clause-gives
alias-returns-in_err-tree-clause-gives t c = let p = err_from_is_err_and c.from_residual.result c.from_residual.ensures.1 in rw (p.1, p.2) (passed parsed_view parsed_view _ _ _ c.in_err-tree.ensures.gives (alias_none _ _ c.requires))

pub alias-returns-clause-gives : goal.alias-returns-clause-gives
alias-returns-clause-gives t c = gives_as parsed_view _ _ _ (alias_read _ _ _ _ _ _ c.requires c.in_ok-tree.ensures.gives c.place.ensures) c.alias_behind.ensures.gives

pub percent-returns-in_err-tree-clause-gives : goal.percent-returns-in_err-tree-clause-gives
percent-returns-in_err-tree-clause-gives t c = let p = err_from_is_err_and c.from_residual.result c.from_residual.ensures.1 in rw (p.1, p.2) (passed parsed_view parsed_view _ _ _ c.in_err-tree.ensures.gives (percent_none _ _ c.requires))

pub percent-returns-clause-gives : goal.percent-returns-clause-gives
percent-returns-clause-gives t c = gives_as parsed_view _ _ _ (percent_read _ _ _ _ _ _ c.requires c.in_ok-tree.ensures.gives c.place.ensures) c.percents.ensures.gives

pub several-returns-in_err-found-clause-gives : goal.several-returns-in_err-found-clause-gives
several-returns-in_err-found-clause-gives t c = let p = err_from_is_err_and c.from_residual.result c.from_residual.ensures.1 in rw (p.1, p.2) (passed parsed_view parsed_view _ _ _ c.in_err-found.ensures.gives (several_none _ _ _ c.requires))

pub several-returns-clause-gives : goal.several-returns-clause-gives
several-returns-clause-gives t c = gives_as parsed_view _ _ _ (several_read _ _ _ _ _ c.requires c.in_ok-found.ensures.gives c.place.ensures) c.gather.ensures.gives

pub chain-returns-in_err-tree-clause-gives : goal.chain-returns-in_err-tree-clause-gives
chain-returns-in_err-tree-clause-gives t c = let p = err_from_is_err_and c.from_residual.result c.from_residual.ensures.1 in rw (p.1, p.2) (passed parsed_view parsed_view _ _ _ c.in_err-tree.ensures.gives (chain_none _ _ c.requires))

pub chain-returns-in-None-clause-gives : goal.chain-returns-in-None-clause-gives
chain-returns-in-None-clause-gives t c = chain_ends _ _ _ _ _ c.requires c.in_ok-tree.ensures.gives c.in-None.ensures.value

pub chain-returns-in-Some-clause-gives : goal.chain-returns-in-Some-clause-gives
chain-returns-in-Some-clause-gives t c = chain_goes_off _ _ _ _ _ _ c.requires c.in_ok-tree.ensures.gives c.in-Some.ensures.value

pub prefix-returns-in-None-clause-gives : goal.prefix-returns-in-None-clause-gives
prefix-returns-in-None-clause-gives t c = gives_as parsed_view _ _ _ (prefix_unsigned _ _ c.requires c.in-None.ensures.value) c.power.ensures.gives

pub prefix-returns-in_err-part-in-Some-clause-gives : goal.prefix-returns-in_err-part-in-Some-clause-gives
prefix-returns-in_err-part-in-Some-clause-gives t c = let p = err_from_is_err_and c.from_residual.result c.from_residual.ensures.1 in rw (p.1, p.2) (passed parsed_view parsed_view _ _ _ c.in_err-part-in-Some.ensures.gives (prefix_none _ _ _ _ c.requires c.in-Some.ensures.value))

pub prefix-returns-in_ok-sign_before-in-Some-clause-gives : goal.prefix-returns-in_ok-sign_before-in-Some-clause-gives
prefix-returns-in_ok-sign_before-in-Some-clause-gives t c = prefix_read _ _ _ _ _ _ _ _ _ c.requires c.in-Some.ensures.value c.in_ok-part-in-Some.ensures.gives c.place.ensures c.in_ok-sign_before-in-Some.ensures

pub power-returns-in_err-tree-clause-gives : goal.power-returns-in_err-tree-clause-gives
power-returns-in_err-tree-clause-gives t c = let p = err_from_is_err_and c.from_residual.result c.from_residual.ensures.1 in rw (p.1, p.2) (passed parsed_view parsed_view _ _ _ c.in_err-tree.ensures.gives (power_none _ _ c.requires))

pub power-returns-in_err-up-in-Some-clause-gives : goal.power-returns-in_err-up-in-Some-clause-gives
power-returns-in_err-up-in-Some-clause-gives t c = let p = err_from_is_err_and c.from_residual-in_err-up-in-Some.result c.from_residual-in_err-up-in-Some.ensures.1 in rw (p.1, p.2) (passed parsed_view parsed_view _ _ _ c.in_err-up-in-Some.ensures.gives (power_stuck _ _ _ _ _ _ c.requires c.in_ok-tree.ensures.gives c.in-Some.ensures.value))

pub power-returns-in-None-clause-gives : goal.power-returns-in-None-clause-gives
power-returns-in-None-clause-gives t c = power_base _ _ _ _ _ c.requires c.in_ok-tree.ensures.gives c.in-None.ensures.value

pub power-returns-in_ok-tree-in-Some-clause-gives : goal.power-returns-in_ok-tree-in-Some-clause-gives
power-returns-in_ok-tree-in-Some-clause-gives t c = power_read _ _ _ _ _ _ _ _ _ _ _ _ c.requires c.in_ok-tree.ensures.gives c.in-Some.ensures.value c.in_ok-up-in-Some.ensures.gives c.if-depth-limit.true c.in_ok-up-in-Some.ensures.shallow c.place.ensures c.in_ok-tree-in-Some.ensures c.max.ensures

pub power-returns-else-depth-limit-clause-gives : goal.power-returns-else-depth-limit-clause-gives
power-returns-else-depth-limit-clause-gives t c = power_deep _ _ _ _ _ _ _ _ _ c.requires c.in_ok-tree.ensures.gives c.in-Some.ensures.value c.in_ok-up-in-Some.ensures.gives c.if-depth-limit.false

pub by-returns-in_err-first-clause-gives : goal.by-returns-in_err-first-clause-gives
by-returns-in_err-first-clause-gives t c = let p = err_from_is_err_and c.from_residual.result c.from_residual.ensures.1 in rw (p.1, p.2) (passed parsed_view parsed_view _ _ _ c.in_err-first.ensures.gives (by_none _ _ _ _ c.requires c.under-operand.ensures))

pub by-loop-op-init : goal.by-loop-op-init
by-loop-op-init t c = record { comes = left_first _ _ _ _ _ _ _ _ c.requires c.place-at.ensures c.under-operand.ensures c.in_ok-first.ensures.gives; shallow = c.in_ok-first.ensures.shallow; shorter = c.in_ok-first.ensures.shorter }

pub by-returns-in_err-right-clause-gives : goal.by-returns-in_err-right-clause-gives
by-returns-in_err-right-clause-gives t c =
    let p = err_from_is_err_and c.from_residual-in_err-right.result c.from_residual-in_err-right.ensures.1 in rw (p.1, p.2) (passed parsed_view parsed_view _ _ _ c.in_err-right.ensures.gives (left_stuck _ _ _ _ _ _ _ _ _ _ c.loop-op.invariant.comes (sym c.in-Some.ensures.value)))

pub by-returns-then-deepest-limit-clause-gives : goal.by-returns-then-deepest-limit-clause-gives
by-returns-then-deepest-limit-clause-gives t c =
    let k = c.max-deepest.ensures in let b = c.if-deepest-limit.true in
    left_too_deep _ _ _ _ _ _ _ _ _ _ _ _ _ c.loop-op.invariant.comes (sym c.in-Some.ensures.value) c.in_ok-right.ensures.gives (omega arith)

pub by-loop-op-preserved : goal.by-loop-op-preserved
by-loop-op-preserved t c =
    let k = c.max-deepest.ensures in let b = c.if-deepest-limit.false in
    let s = c.in-Some.ensures.shorter in let u = c.in_ok-right.ensures.shorter in let v = c.loop-op.invariant.shorter in
    record {
      comes = by_goes _ _ _ _ _ _ _ _ _ _ _ _ _ _ _ c.loop-op.invariant.comes c.in-Some.ensures.value c.in_ok-right.ensures.gives s u k b c.in_ok-tree.ensures;
      shallow = omega arith;
      shorter = omega arith;
    }

pub by-returns-clause-gives : goal.by-returns-clause-gives
by-returns-clause-gives t c = left_ends _ _ _ _ _ _ _ _ c.loop-op.invariant.comes (sym c.in_default.ensures.value)

pub parts-returns-in_err-first-clause-gives : goal.parts-returns-in_err-first-clause-gives
parts-returns-in_err-first-clause-gives t c = let p = err_from_is_err_and c.from_residual.result c.from_residual.ensures.1 in rw (p.1, p.2) (passed parsed_view parsed_view _ _ _ c.in_err-first.ensures.gives (parts_none _ _ _ _ c.part_of-inner.ensures))

pub parts-loop-others-init : goal.parts-loop-others-init
parts-loop-others-init t c = record { comes = parts_first _ _ _ _ _ _ _ _ c.part_of-inner.ensures c.in_ok-first.ensures.gives (rw (c.in_ok-push.ensures.ok, c.new-found.ensures) refl); shallow = c.in_ok-first.ensures.shallow; shorter = c.in_ok-first.ensures.shorter }

pub parts-returns-in_err-part-clause-gives : goal.parts-returns-in_err-part-clause-gives
parts-returns-in_err-part-clause-gives t c =
    let p = err_from_is_err_and c.from_residual-in_err-part.result c.from_residual-in_err-part.ensures.1 in rw (p.1, p.2) (passed parsed_view parsed_view _ _ _ c.in_err-part.ensures.gives (parts_stuck _ _ _ _ _ _ _ c.loop-others.invariant.comes (sym c.in-Some.ensures.value)))

pub parts-loop-others-preserved : goal.parts-loop-others-preserved
parts-loop-others-preserved t c =
    let s = c.in-Some.ensures.shorter in let u = c.in_ok-part.ensures.shorter in let v = c.loop-others.invariant.shorter in let k = c.max-deepest.ensures in let a = c.in_ok-part.ensures.shallow in
    record {
      comes = parts_goes _ _ _ _ _ _ _ _ _ _ _ _ c.loop-others.invariant.comes c.in-Some.ensures.value c.in_ok-part.ensures.gives s u c.in_ok-push-2.ensures.ok k;
      shallow = omega arith;
      shorter = omega arith;
    }

pub parts-returns-clause-gives : goal.parts-returns-clause-gives
parts-returns-clause-gives t c = parts_end _ _ _ _ _ _ c.loop-others.invariant.comes (sym c.in_default.ensures.value)

pub args-returns-in_err-found-in-None-clause-gives : goal.args-returns-in_err-found-in-None-clause-gives
args-returns-in_err-found-in-None-clause-gives t c = let p = err_from_is_err_and c.from_residual.result c.from_residual.ensures.1 in rw (p.1, p.2) (passed parsed_view parsed_view _ _ _ c.in_err-found-in-None.ensures.gives (args_none _ _ _ c.in-None.ensures.value))

pub args-returns-in_err-shut-in-None-clause-gives : goal.args-returns-in_err-shut-in-None-clause-gives
args-returns-in_err-shut-in-None-clause-gives t c =
    let p = err_from_is_err_and c.from_residual-in_err-shut-in-None.result c.from_residual-in_err-shut-in-None.ensures.1 in rw (p.1, p.2) (passed tokens_of parsed_view _ _ _ c.in_err-shut-in-None.ensures.gives (args_open _ _ _ _ _ _ c.in-None.ensures.value c.in_ok-found-in-None.ensures.gives))

pub args-returns-in-Some-clause-gives : goal.args-returns-in-Some-clause-gives
args-returns-in-Some-clause-gives t c = rw c.new.ensures (args_empty _ _ _ _ c.in-Some.ensures.value)

pub args-returns-in_ok-shut-in-None-clause-gives : goal.args-returns-in_ok-shut-in-None-clause-gives
args-returns-in_ok-shut-in-None-clause-gives t c = args_read _ _ _ _ _ _ _ c.in-None.ensures.value c.in_ok-found-in-None.ensures.gives c.in_ok-shut-in-None.ensures.gives

pub atom-returns-in-None-clause-gives : goal.atom-returns-in-None-clause-gives
atom-returns-in-None-clause-gives t c = atom_nothing _ _ c.in-None.ensures.value

pub atom-returns-in-Some-clause-gives : goal.atom-returns-in-Some-clause-gives
atom-returns-in-Some-clause-gives t c = gives_as parsed_view _ _ _ (atom_at _ _ _ _ c.requires c.in-Some.ensures.value) c.atom_of.ensures.gives

pub field-returns-in-None-clause-gives : goal.field-returns-in-None-clause-gives
field-returns-in-None-clause-gives t c = field_none _ _ c.in-None.ensures.value

pub field-returns-in_err-tree-in-Some-clause-gives : goal.field-returns-in_err-tree-in-Some-clause-gives
field-returns-in_err-tree-in-Some-clause-gives t c = let p = err_from_is_err_and c.from_residual.result c.from_residual.ensures.1 in rw (p.1, p.2) (passed parsed_view parsed_view _ _ _ c.in_err-tree-in-Some.ensures.gives (field_stuck _ _ _ _ c.in-Some.ensures.value))

pub field-returns-in_ok-copy-in-Some-clause-gives : goal.field-returns-in_ok-copy-in-Some-clause-gives
field-returns-in_ok-copy-in-Some-clause-gives t c = field_read _ _ _ _ _ _ _ _ _ c.in-Some.ensures.value c.in_ok-tree-in-Some.ensures.gives c.in_ok-copy-in-Some.ensures c.place.ensures

pub fields-returns-in-Some-clause-gives : goal.fields-returns-in-Some-clause-gives
fields-returns-in-Some-clause-gives t c = rw c.new.ensures (fields_empty _ _ _ c.in-Some.ensures.value)

pub fields-returns-in_err-found-in-None-clause-gives : goal.fields-returns-in_err-found-in-None-clause-gives
fields-returns-in_err-found-in-None-clause-gives t c = let p = err_from_is_err_and c.from_residual.result c.from_residual.ensures.1 in rw (p.1, p.2) (passed parsed_view parsed_view _ _ _ c.in_err-found-in-None.ensures.gives (fields_none _ _ c.in-None.ensures.value))

pub fields-returns-in_err-shut-in-None-clause-gives : goal.fields-returns-in_err-shut-in-None-clause-gives
fields-returns-in_err-shut-in-None-clause-gives t c =
    let p = err_from_is_err_and c.from_residual-in_err-shut-in-None.result c.from_residual-in_err-shut-in-None.ensures.1 in rw (p.1, p.2) (passed tokens_of parsed_view _ _ _ c.in_err-shut-in-None.ensures.gives (fields_open _ _ _ _ _ c.in-None.ensures.value c.in_ok-found-in-None.ensures.gives))

pub fields-returns-in_ok-shut-in-None-clause-gives : goal.fields-returns-in_ok-shut-in-None-clause-gives
fields-returns-in_ok-shut-in-None-clause-gives t c = fields_read _ _ _ _ _ _ c.in-None.ensures.value c.in_ok-found-in-None.ensures.gives c.in_ok-shut-in-None.ensures.gives

pub some_fields-returns-in_err-first-clause-gives : goal.some_fields-returns-in_err-first-clause-gives
some_fields-returns-in_err-first-clause-gives t c = let p = err_from_is_err_and c.from_residual.result c.from_residual.ensures.1 in rw (p.1, p.2) (passed parsed_view parsed_view _ _ _ c.in_err-first.ensures.gives (some_fields_none _ _))

pub some_fields-loop-others-init : goal.some_fields-loop-others-init
some_fields-loop-others-init t c = record { comes = fields_first _ _ _ _ _ _ c.in_ok-first.ensures.gives (rw (c.in_ok-push.ensures.ok, c.new-found.ensures) refl); shallow = c.in_ok-first.ensures.shallow; shorter = c.in_ok-first.ensures.shorter }

pub some_fields-returns-in_err-next-clause-gives : goal.some_fields-returns-in_err-next-clause-gives
some_fields-returns-in_err-next-clause-gives t c =
    let p = err_from_is_err_and c.from_residual-in_err-next.result c.from_residual-in_err-next.ensures.1 in rw (p.1, p.2) (passed parsed_view parsed_view _ _ _ c.in_err-next.ensures.gives (fields_stuck _ _ _ _ _ _ c.loop-others.invariant.comes (sym c.in-Some.ensures.value)))

pub some_fields-loop-others-preserved : goal.some_fields-loop-others-preserved
some_fields-loop-others-preserved t c =
    let s = c.in-Some.ensures.shorter in let u = c.in_ok-next.ensures.shorter in let v = c.loop-others.invariant.shorter in let k = c.max-deepest.ensures in let a = c.in_ok-next.ensures.shallow in
    record {
      comes = fields_goes _ _ _ _ _ _ _ _ _ _ _ c.loop-others.invariant.comes c.in-Some.ensures.value c.in_ok-next.ensures.gives s u c.in_ok-push-2.ensures.ok k;
      shallow = omega arith;
      shorter = omega arith;
    }

pub some_fields-returns-clause-gives : goal.some_fields-returns-clause-gives
some_fields-returns-clause-gives t c = fields_end _ _ _ _ _ c.loop-others.invariant.comes (sym c.in_default.ensures.value)

pub strand-returns-in-None-clause-gives : goal.strand-returns-in-None-clause-gives
strand-returns-in-None-clause-gives t c = strand_nothing _ _ c.in-None.ensures.value

pub strand-returns-in-Some-clause-gives : goal.strand-returns-in-Some-clause-gives
strand-returns-in-Some-clause-gives t c = gives_as strand_seen _ _ _ (strand_first _ _ _ _ c.in-Some.ensures.value) c.strand_of.ensures.gives

pub weave-loop-found-init : goal.weave-loop-found-init
weave-loop-found-init t c = record { comes = rw c.new-found.ensures (comes_first _ _); shallow = omega arith; shorter = omega arith }

pub weave-returns-in_err-part-clause-gives : goal.weave-returns-in_err-part-clause-gives
weave-returns-in_err-part-clause-gives t c =
    let p = err_from_is_err_and c.from_residual.result c.from_residual.ensures.1 in
    rw (p.1, p.2) (passed strand_seen parsed_view _ _ _ c.in_err-part.ensures.gives (λ f. weave_none c.args.limit (line_at (c.args.limit - 1)) c.args.x.now c.args.tokens.now (strands_stuck _ _ _ _ _ c.loop-found.invariant.comes f)))

pub weave-loop-found-preserved : goal.weave-loop-found-preserved
weave-loop-found-preserved t c =
    let s = strand_shorter _ _ _ _ _ c.in-Some.is c.in_ok-part.ensures.shorter in
    let a = strand_deep _ _ _ _ _ c.in-Some.is c.in_ok-part.ensures.shallow in
    let k = c.max-deepest.ensures in let v = c.loop-found.invariant.shorter in let b = c.loop-found.invariant.shallow in let r = c.requires in
    record {
      comes = weave_goes _ _ _ _ _ _ _ _ _ _ _ c.loop-found.invariant.comes c.in_ok-part.ensures.gives c.in-Some.is s c.in_ok-push.ensures.ok k;
      shallow = omega arith;
      shorter = omega arith;
    }

pub weave-returns-in_err-rest-clause-gives : goal.weave-returns-in_err-rest-clause-gives
weave-returns-in_err-rest-clause-gives t c =
    let p = err_from_is_err_and c.from_residual-in_err-rest.result c.from_residual-in_err-rest.ensures.1 in
    rw (p.1, p.2) (passed tokens_of parsed_view _ _ _ c.in_err-rest.ensures.gives (weave_open c.args.limit (line_at (c.args.limit - 1)) c.args.x.now c.args.tokens.now _ _ _
    (strands_end _ _ _ _ _ c.loop-found.invariant.comes (strand_over _ _ _ c.in_ok-part.ensures.gives c.in_default.is))))

pub weave-returns-then-deepest-limit-clause-gives : goal.weave-returns-then-deepest-limit-clause-gives
weave-returns-then-deepest-limit-clause-gives t c =
    weave_read c.args.limit (line_at (c.args.limit - 1)) c.args.x.now c.args.tokens.now _ _ _ _ _
    (strands_end _ _ _ _ _ c.loop-found.invariant.comes (strand_over _ _ _ c.in_ok-part.ensures.gives c.in_default.is)) c.in_ok-rest.ensures.gives c.if-deepest-limit.true c.weave.ensures

pub weave-returns-clause-gives : goal.weave-returns-clause-gives
weave-returns-clause-gives t c =
    weave_deep c.args.limit (line_at (c.args.limit - 1)) c.args.x.now c.args.tokens.now _ _ _ _
    (strands_end _ _ _ _ _ c.loop-found.invariant.comes (strand_over _ _ _ c.in_ok-part.ensures.gives c.in_default.is)) c.in_ok-rest.ensures.gives c.if-deepest-limit.false
