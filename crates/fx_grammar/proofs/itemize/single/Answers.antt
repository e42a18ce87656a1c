use Rattle.std.proofs.Common.{◌≡◌, List, ℕ, true, subst, sym, ◌∙◌}
use Rattle.std.specs.Str.{all_scalars}
use Rattle.fx_grammar.specs.Undoubling.{test_of}
use Rattle.fx_grammar.proofs.Spoken.{found_some, is_found, found_is, single_scalars, doubled_back}
use Rattle.fx_grammar.proofs.itemize.single.Goals as goal

pub unwrap-found-requires : goal.unwrap-found-requires
unwrap-found-requires c =
    let o = c.in_ok-undouble.field-0 in
    is_found o (λ v. v.items) c.requires.marks.0 (found_some o (λ v. v.items) (test_of c.args.marks) c.args.chars.now c.in_ok-undouble.ensures c.requires.marks.0 c.requires.marks.1)

pub words_of-requires : goal.words_of-requires
words_of-requires c =
    let o = c.in_ok-undouble.field-0 in
    let p = test_of c.args.marks in
    let e = found_is o (λ v. v.items) c.requires.marks.0 c.unwrap-found.result (found_some o (λ v. v.items) p c.args.chars.now c.in_ok-undouble.ensures c.requires.marks.0 c.requires.marks.1) c.unwrap-found.ensures in
    subst (λ (x : List ℕ). all_scalars x ≡ true) (sym (c.as_slice.ensures.value ∙ e)) (single_scalars p c.requires.marks.0 (subst (λ (x : List ℕ). all_scalars x ≡ true) c.requires.marks.1 c.requires.scalars))

pub returns : goal.returns
returns c =
    let o = c.in_ok-undouble.field-0 in
    let p = test_of c.args.marks in
    let e = found_is o (λ v. v.items) c.requires.marks.0 c.unwrap-found.result (found_some o (λ v. v.items) p c.args.chars.now c.in_ok-undouble.ensures c.requires.marks.0 c.requires.marks.1) c.unwrap-found.ensures in
    doubled_back c.words_of.result p c.args.chars.now c.as_slice.result.now c.requires.marks.0 c.words_of.ensures (c.as_slice.ensures.value ∙ e) c.requires.marks.1
