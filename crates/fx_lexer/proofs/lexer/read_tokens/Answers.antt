use Rattle.std.proofs.Common.{arith, ◌∙◌, sym, ap, subst, reverse, take, drop}
use Rattle.std.specs.Str.{chars, IsUtf8, IsCharBoundary}
use Rattle.std.proofs.lemmas.Str.{IsUtf8-drop}
use Rattle.fx_lexer.specs.Spelling.{IsElement}
use Rattle.fx_lexer.specs.Lexed.{mode_in}
use Rattle.fx_lexer.proofs.Readings.{start, turn}
use Rattle.fx_lexer.proofs.Texts.{cut}
use Rattle.fx_lexer.proofs.lexer.read_tokens.Goals as goal

pub loop-rest-init : goal.loop-rest-init
loop-rest-init c = record { text = c.utf8.source; so_far = start _ _ _ c.new-out.ensures.items (ap reverse c.new-around.ensures.items); same = c.requires.same; place = omega arith }

pub overflow_add-upto : goal.overflow_add-upto
overflow_add-upto c =
    let k = cut c.loop-rest.text.now c.loop-rest.rest.now c.in-Some.front.characters c.loop-rest.invariant.text c.loop-rest.invariant.same in
    let b = c.in-Some.ensures.bytes in
    omega (arith, k.within, b, c.loop-rest.invariant.place, c.requires.room)

pub split_at-requires-in-loop-rest : goal.split_at-requires-in-loop-rest
split_at-requires-in-loop-rest c =
    let k = cut c.loop-rest.text.now c.loop-rest.rest.now c.in-Some.front.characters c.loop-rest.invariant.text c.loop-rest.invariant.same in
    subst (IsCharBoundary c.loop-rest.text.now) (sym c.in-Some.ensures.bytes) k.boundary

pub loop-rest-preserved : goal.loop-rest-preserved
loop-rest-preserved c =
    let text = c.loop-rest.text.now in
    let rest = c.loop-rest.rest.now in
    let n = c.in-Some.front.characters in
    let f = c.in-Some.ensures in
    let k = cut text rest n c.loop-rest.invariant.text c.loop-rest.invariant.same in
    let boundary = subst (IsCharBoundary text) (sym f.bytes) k.boundary in
    let mode = c.mode_of-mode.ensures ∙ ap (λ x. mode_in (reverse x)) c.as_slice.ensures.value in
    let back = c.split_at-in-loop-rest.ensures.back in
    let length = c.split_at-in-loop-rest.ensures.back_len in
    record {
      text = subst IsUtf8 (sym back) (IsUtf8-drop text c.in-Some.front.bytes c.loop-rest.invariant.text boundary);
      so_far = turn _ _ _ _ _ _ n _ c.in-Some.front.element rest _ c.loop-rest.invariant.so_far (subst (λ m. IsElement m c.in-Some.front.element (take n rest) (drop n rest)) mode f.is_element) c.split_at.ensures.back f.bytes c.in_ok-put.ensures.put;
      same = c.split_at.ensures.back ∙ k.rest ∙ ap (λ w. chars (drop w text)) (sym f.bytes) ∙ ap chars (sym back);
      place = omega (arith, length, c.loop-rest.invariant.place);
    }
