use Rattle.std.proofs.Common.{◌≡◌, ◌∙◌, ◌++◌, ◌+◌, ◌-◌, ◌*◌, ℕ, List, ap, subst, arith}
use Rattle.std.specs.Prelude.{IfOk}
use Rattle.app_wire.specs.Framing.{asked}
use Rattle.sample_app.specs.Sample.{changes as changes_of, more_rows as more_rows_of, row_text as row_text_of}
use Rattle.sample_app.proofs.making.adds.Goals as goal

pub returns : goal.returns
returns c =
    let n = c.args.n in
    let k = c.args.k in
    let first : ℕ = 1000 * k - 999 in
    let next : first + 1 ≡ 1000 * k - 998 = omega (arith, c.requires.place.0) in
    let text = c.as_str.ensures.value ∙ c.in_ok-push_rows.ensures ∙ ap (λ (t : List ℕ). t ++ more_rows_of n (first + 1) 999) c.in_ok-list.ensures ∙ ap (λ (i : ℕ). row_text_of n first ++ more_rows_of n i 999) next in
    subst (λ (t : List ℕ). IfOk c.changes.result (λ r. asked r ≡ changes_of k t)) text c.changes.ensures
