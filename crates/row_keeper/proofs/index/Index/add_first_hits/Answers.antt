use Rattle.std.proofs.Common.{◌≡◌, ◌∙◌, ◌++◌, ap, ap₂, sym, subst, take}
use Rattle.std.specs.Result.{OnOk}
use Rattle.std.specs.Ordering.{is_lt}
use Rattle.std.specs.BTreeMap.Range.{entries_between}
use Rattle.std.specs.declared.ops.Bound.TheVariants.{Included, Excluded}
use Rattle.row_keeper.specs.Entries.{entry_cmp, ids_of}
use Rattle.row_keeper.proofs.HitLemmas.{between, nothing_between}
use Rattle.row_keeper.proofs.PageLemmas.{take_few}
use Rattle.row_keeper.proofs.index.Index.add_first_hits.Goals as goal

pub returns-then-is_lt : goal.returns-then-is_lt
returns-then-is_lt c =
    let es = c.args.self.now.entries.entries in
    let same = c.range.ensures.between tt
    ∙ ap₂ (λ f u. entries_between entry_cmp (Included ((c.args.column, f), 0)) (Excluded (u, 0)) es) c.in_ok-copy_key.ensures c.in_ok-end_of.ensures
    ∙ between c.args.column c.args.range.now es in
    subst (λ l. OnOk c.gather_first.result (c.gather_first.new.found.items ≡ take c.args.most (c.args.found.now.items ++ ids_of l))) same c.gather_first.ensures

pub returns-else-is_lt : goal.returns-else-is_lt
returns-else-is_lt c =
    let h = c.if-is_lt.ensures in
    let g = c.cmp.ensures in
    let none = nothing_between c.args.column c.args.range.now (sym (ap is_lt (g ∙ ap₂ (λ f u. entry_cmp ((c.args.column, f), 0) (u, 0)) c.in_ok-copy_key.ensures c.in_ok-end_of.ensures)) ∙ sym h) c.args.self.now.entries.entries in
    take_few c.args.most c.args.found.now.items _ (ap ids_of none) c.requires.few
