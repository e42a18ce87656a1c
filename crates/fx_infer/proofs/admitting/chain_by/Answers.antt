use Rattle.std.proofs.Common.{◌≡◌, ◌-◌, ◌∙◌, List, Ok, Some, ap, length, map, slice_get, sym}
use Rattle.fx_types.specs.TypeView.{shape}
use Rattle.fx_types.specs.declared.types.Ty.{Ty}
use Rattle.fx_typing.specs.Typing.{chain_as}
use Rattle.fx_typing.specs.declared.typed.Typed.{Typed}
use Rattle.fx_typing.specs.TypedView.{typed}
use Rattle.fx_core.specs.Term.{Term, chain, of}
use Rattle.fx_core.specs.Term as term
use Rattle.fx_typing.specs.Local.{firsts}
use Rattle.fx_infer.proofs.Lasts.{last_shape}
use Rattle.fx_infer.proofs.admitting.chain_by.Goals as goal

pub returns : goal.returns
returns c =
    let xs = c.args.values.items in
    let whole : Term = of chain (term.all (firsts (map typed xs))) in
    let last : Some c.in-Some.last.now ≡ slice_get xs (length xs - 1) =
    c.in-Some.ensures.value ∙ ap (λ (ys : List Typed). slice_get ys (length ys - 1)) c.deref.ensures.value in
    let core : c.chain.result ≡ whole = c.chain.ensures ∙ ap (λ ts. of chain (term.all ts)) c.in_ok-cores_of.ensures in
    ap (chain_as (map typed xs)) (last_shape xs c.in-Some.last.now last)
    ∙ ap (λ (t : Ty). Ok (whole, shape t)) (sym c.in_ok-ty.ensures)
    ∙ ap (λ (k : Term). Ok (k, shape c.in_ok-ty.ty)) (sym core)
