use Rattle.std.proofs.Common.{◌≡◌, ℕ, ◌∙◌, ap, ap₂, sym, subst, ◌||◌}
use Rattle.std.specs.Result.{OnOk}
use Rattle.std.specs.BTreeSet.{contains}
use Rattle.std.specs.Ordering.{nat_cmp, is_lt}
use Rattle.std.specs.BTreeMap.Range.{entries_between}
use Rattle.std.specs.declared.ops.Bound.TheVariants.{Included, Excluded}
use Rattle.row_keeper.specs.Entries.{among, entry_cmp}
use Rattle.row_keeper.proofs.HitLemmas.{between, none_between, or_none}
use Rattle.row_keeper.proofs.index.Index.add_hits.Goals as goal

pub returns-then-is_lt : goal.returns-then-is_lt
returns-then-is_lt c =
    let es = c.args.self.now.entries.entries in
    let same = c.range.ensures.between tt
    ∙ ap₂ (λ f u. entries_between entry_cmp (Included ((c.args.column, f), 0)) (Excluded (u, 0)) es) c.in_ok-copy_key.ensures c.in_ok-end_of.ensures
    ∙ between c.args.column c.args.range.now es in
    subst (λ l. OnOk c.gather.result ((i : ℕ) → contains nat_cmp c.gather.new.found i ≡ (contains nat_cmp c.args.found.now i || among l i))) same c.gather.ensures

pub returns-else-is_lt : goal.returns-else-is_lt
returns-else-is_lt c i =
    let h = c.if-is_lt.ensures in
    let g = c.cmp.ensures in
    or_none _ _ (none_between c.args.column c.args.range.now (sym (ap is_lt (g ∙ ap₂ (λ f u. entry_cmp ((c.args.column, f), 0) (u, 0)) c.in_ok-copy_key.ensures c.in_ok-end_of.ensures)) ∙ sym h) c.args.self.now.entries.entries i)
