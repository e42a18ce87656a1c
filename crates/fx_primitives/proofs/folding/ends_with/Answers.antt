use Rattle.std.proofs.Common.{◌≡◌, List, ℕ, IsTrue, ◌↔◌, subst, ◌∙◌}
use Rattle.std.specs.Cmp.Lexicographic.{told_text}
use Rattle.caseless.specs.Caseless.{default_case_fold}
use Rattle.fx_primitives.specs.Folding.{EndsWith}
use Rattle.fx_primitives.proofs.Places.{told_ends}
use Rattle.fx_primitives.proofs.folding.ends_with.Goals as goal

pub returns : goal.returns
returns c =
    let part = c.deref-2.ensures.value ∙ c.in_ok-part.ensures in
    let text = c.deref.ensures.value ∙ c.in_ok-text.ensures in
    let told = told_ends c.deref.result.now c.deref-2.result.now c.ends_with.result c.ends_with.ensures.bound (told_text _ _ _ c.ends_with.ensures.value) in
    let half = subst (λ (x : List ℕ). IsTrue c.ends_with.result ↔ EndsWith x c.deref-2.result.now) text told in
    subst (λ (x : List ℕ). IsTrue c.ends_with.result ↔ EndsWith (default_case_fold c.args.text.now) x) part half
