use Rattle.std.proofs.Common.{◌≡◌, ◌+◌, ◌++◌, ◌∷◌, ◌∙◌, [], ℕ, Global, Vec, ap, arith, subst, sym}
use Rattle.recalc.specs.Kept.{IsClean}
use Rattle.recalc.proofs.Listing.{AreListed, listed_more, listed_same, stamp_within}
use Rattle.recalc.proofs.cache.Cache.clean.Goals.{else-stands, then-stands+in_ok-push}
use Rattle.recalc.proofs.cache.Cache.clean.Goals as goal

pub loop-cell-preserved : goal.loop-cell-preserved
loop-cell-preserved c =
    elim c.if-stands.branch [
      | then-stands+in_ok-push w ↦
          let items : c.if-stands.cells.items ≡ c.loop-cell.cells.items ++ c.loop-cell.cell ∷ [] = ap (λ (v : Vec ℕ Global). v.items) w.cells-is ∙ w.in_ok-push.ensures.items in
          subst (AreListed (IsClean c.args.app.now c.args.self.now) (c.loop-cell.cell + 1)) (sym items)
          (listed_more (IsClean c.args.app.now c.args.self.now) c.loop-cell.cell c.loop-cell.cells.items (c.stands.ensures.yes w.if-stands.true) c.loop-cell.invariant)
      | else-stands w ↦
          subst (AreListed (IsClean c.args.app.now c.args.self.now) (c.loop-cell.cell + 1)) (sym (ap (λ (v : Vec ℕ Global). v.items) w.cells-is))
          (listed_same (IsClean c.args.app.now c.args.self.now) c.loop-cell.cell c.loop-cell.cells.items (c.stands.ensures.no w.if-stands.false) c.loop-cell.invariant)
    ]

pub returns-clause-exact : goal.returns-clause-exact
returns-clause-exact c = λ k. (
  λ there. (c.loop-cell.invariant.only k there).1,
  λ clean.
      let within = stamp_within c.args.self.now.stamps k clean.0 clean.1 in
      let long = c.requires.order.stamps in
      let count = c.len-count.ensures in
      let end = c.loop-cell-test.false in
      c.loop-cell.invariant.made k (omega (arith, within, long, count, end)) clean,
)
