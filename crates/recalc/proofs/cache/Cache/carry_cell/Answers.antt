use Rattle.std.proofs.Common.{◌∙◌, List, ap, inl, inr, refl, subst, sym}
use Rattle.fx_types.specs.Values.{Data}
use Rattle.fx_core.specs.Reads.{IsAmong}
use Rattle.fx_core.specs.declared.sources.Source.{Source}
use Rattle.recalc.proofs.Finding.{all_had, not_had}
use Rattle.recalc.specs.Carrying.{received}
use Rattle.recalc.proofs.cache.Cache.carry_cell.Goals as goal
use Rattle.recalc.proofs.cache.Cache.carry_cell.Goals.{then-not-stands-via-then-not-stands, then-not-stands-via-else-not-stands+then-not-are_had}

pub returns-then-not-stands : goal.returns-then-not-stands
returns-then-not-stands c = inr (
  λ clean had. elim c.then-not-stands.branch [
    | then-not-stands-via-then-not-stands w ↦ c.stands.ensures.no w.if-not-stands.true clean
    | then-not-stands-via-else-not-stands+then-not-are_had w ↦
        let f = w.are_had.ensures.no w.if-not-are_had.true in
        not_had c.args.new.now c.args.self.now c.args.cell f.1 c.in-Some.info.now f.0 c.in-Some.ensures (subst (λ (l : List Source). IsAmong f.0 l) w.as_slice.ensures f.2) f.3 f.4 f.5 had
  ],
  refl,
  refl,
)

pub returns-in-Some-stamp : goal.returns-in-Some-stamp
returns-in-Some-stamp c = inl (
  c.in-Some-stamp.stamp,
  sym c.in-Some-stamp.ensures,
  c.stands.ensures.yes c.if-not-stands.false,
  all_had c.args.new.now c.args.self.now c.args.cell c.in-Some.info.now c.in-Some.ensures (λ s d among. c.are_had.ensures.yes c.if-not-are_had.false s d (subst (λ (l : List Source). IsAmong s l) (sym c.as_slice.ensures) among)),
  c.take-value.ensures.left,
  c.receive.ensures ∙ ap (λ (v : Data). received c.args.self.now c.args.cell v c.in-Some-stamp.stamp.moved) c.take-value.ensures.value,
)
