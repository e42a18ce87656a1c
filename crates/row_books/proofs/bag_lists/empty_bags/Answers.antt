use Rattle.std.proofs.Common.{◌≡◌, ◌+◌, ◌++◌, ℕ, List, [], ◌∷◌, ap, arith, length, length-append, map, subst, sym}
use Rattle.number_bags.specs.Bags.{now_in}
use Rattle.number_bags.specs.declared.bags.NumberBag.{NumberBag}
use Rattle.row_books.specs.Numbers.{AreEmpty}
use Rattle.row_books.proofs.BagLoops.{empty_more}
use Rattle.row_books.proofs.bag_lists.empty_bags.Goals as goal

longer : (xs ys : List NumberBag) (b : NumberBag) (n : ℕ) → ys ≡ xs ++ b ∷ [] → length xs ≡ n → length ys ≡ n + 1
longer xs ys b n e l = let a = ap length e in let s = length-append xs (b ∷ []) in omega (arith, a, s, l)

pub loop-preserved : goal.loop-preserved
loop-preserved c = (
  subst (λ (l : List NumberBag). AreEmpty (map now_in l)) (sym c.in_ok-push.ensures.items) (empty_more c.loop.bags.items c.new.result c.new.ensures.0 c.loop.invariant.0),
  longer c.loop.bags.items c.push.new.self.items c.new.result c.loop.counter c.in_ok-push.ensures.items c.loop.invariant.1,
)
