use Rattle.std.proofs.Common.{◌≡◌, ℕ, ◌≤◌, sym, ap, ◌∙◌, subst, arith, Some, None}
use Rattle.std.specs.Prelude.{slice_range}
use Rattle.std.specs.Str.{chars, IsCharBoundary}
use Rattle.std.proofs.lemmas.Result.{err_from_is_err_and}
use Rattle.fx_core.specs.Tree.{Tree}
use Rattle.fx_grammar.specs.Grammar.{first_byte}
use Rattle.fx_grammar.specs.Formulas.{end}
use Rattle.fx_grammar.specs.Reading.{Parsed}
use Rattle.fx_parser.specs.Entries.{entry_head, head_seen, next_of, next_seen}
use Rattle.fx_parser.proofs.Firsts.{front, refused_line, no_next, first_is, named_is, next_shorter}
use Rattle.fx_parser.proofs.Cuts.{body_cuts, front_range, others_cuts}
use Rattle.fx_parser.proofs.entries.entry.Goals as goal

pub returns-in_err-expr-clause-refused : goal.returns-in_err-expr-clause-refused
returns-in_err-expr-clause-refused c =
    let e = sym c.head.ensures.value ∙ ap head_seen c.in-Some.is in
    let p = err_from_is_err_and c.from_residual.result c.from_residual.ensures.1 in
    rw (p.1, p.2) (refused_line c.args.tokens.now c.in-Some.name.now c.in-Some.body.now _ c.requires.some e c.in_err-expr.ensures.gives)

pub returns-in_default-next-clause-refused : goal.returns-in_default-next-clause-refused
returns-in_default-next-clause-refused c =
    let e = sym c.head.ensures.value ∙ ap head_seen c.in-Some.is in
    let s : Parsed Tree = (c.in_ok-expr.expr, c.in_ok-expr.field-0-1, c.in_ok-expr.rest.now) in
    no_next c.args.tokens.now c.in-Some.name.now c.in-Some.body.now s c.requires.some e c.in_ok-expr.ensures.gives (sym c.next.ensures.value ∙ ap next_seen c.in_default-next.is)

pub range-text-requires-clause-start_le_end : goal.range-text-requires-clause-start_le_end
range-text-requires-clause-start_le_end c =
    let e = sym c.head.ensures.value ∙ ap head_seen c.in-Some.is in
    let s : Parsed Tree = (c.in_ok-expr.expr, c.in_ok-expr.field-0-1, c.in_ok-expr.rest.now) in
    let r = front_range c.args.source.now c.in-Some.body.now s (body_cuts c.args.source.now c.args.tokens.now c.in-Some.name.now c.in-Some.body.now c.requires.cuts e) c.in_ok-expr.ensures.gives c.in_ok-expr.ensures.shorter in
    let a = c.begin_of-at.ensures ∙ ap first_byte c.split_at.ensures.front in
    let b = c.end_of.ensures ∙ ap end c.split_at.ensures.front in
    subst (λ (n : ℕ). c.begin_of-at.result ≤ n) (sym b) (subst (λ (n : ℕ). n ≤ end (front c.in-Some.body.now c.in_ok-expr.rest.now)) (sym a) r.ordered)

pub range-text-requires-clause-end_boundary : goal.range-text-requires-clause-end_boundary
range-text-requires-clause-end_boundary c =
    let e = sym c.head.ensures.value ∙ ap head_seen c.in-Some.is in
    let s : Parsed Tree = (c.in_ok-expr.expr, c.in_ok-expr.field-0-1, c.in_ok-expr.rest.now) in
    let r = front_range c.args.source.now c.in-Some.body.now s (body_cuts c.args.source.now c.args.tokens.now c.in-Some.name.now c.in-Some.body.now c.requires.cuts e) c.in_ok-expr.ensures.gives c.in_ok-expr.ensures.shorter in
    let b = c.end_of.ensures ∙ ap end c.split_at.ensures.front in
    subst (λ (n : ℕ). IsCharBoundary c.args.source.now n) (sym b) r.ends

pub returns-clause-first : goal.returns-clause-first
returns-clause-first c =
    let e = sym c.head.ensures.value ∙ ap head_seen c.in-Some.is in
    let f = sym c.next.ensures.value ∙ ap next_seen c.in-Some-next.is in
    let s : Parsed Tree = (c.in_ok-expr.expr, c.in_ok-expr.field-0-1, c.in_ok-expr.rest.now) in
    let a = c.begin_of-at.ensures ∙ ap first_byte c.split_at.ensures.front in
    let b = c.end_of.ensures ∙ ap end c.split_at.ensures.front in
    let x = c.in_ok-of.ensures ∙ ap chars (c.range-text.ensures.value ∙ (λ i. slice_range c.args.source.now (a i) (b i))) in
    first_is c.args.source.now c.args.tokens.now c.in-Some.name.now c.in-Some.body.now s c.in-Some-next.others.now _ c.requires.some e c.in_ok-expr.ensures.gives f
    (named_is c.args.source.now c.in_ok-copy.field-0 c.in-Some.name.now c.in_ok-of.field-0 c.begin_of-at.result c.in_ok-expr.expr (front c.in-Some.body.now c.in_ok-expr.rest.now) c.in_ok-copy.ensures a x)

pub returns-clause-cuts : goal.returns-clause-cuts
returns-clause-cuts c =
    let e = sym c.head.ensures.value ∙ ap head_seen c.in-Some.is in
    let f = sym c.next.ensures.value ∙ ap next_seen c.in-Some-next.is in
    let s : Parsed Tree = (c.in_ok-expr.expr, c.in_ok-expr.field-0-1, c.in_ok-expr.rest.now) in
    others_cuts c.args.source.now c.in-Some.body.now s c.in-Some-next.others.now (body_cuts c.args.source.now c.args.tokens.now c.in-Some.name.now c.in-Some.body.now c.requires.cuts e) c.in_ok-expr.ensures.gives f

pub returns-clause-shorter : goal.returns-clause-shorter
returns-clause-shorter c =
    let f = sym c.next.ensures.value ∙ ap next_seen c.in-Some-next.is in
    let k = next_shorter c.in_ok-expr.rest.now c.in-Some-next.others.now f in
    omega (arith, k, c.in-Some.ensures.shorter, c.in_ok-expr.ensures.shorter)
