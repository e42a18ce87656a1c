use Rattle.std.proofs.Common.{◌<◌, ◌^◌, rules, subst}
use Rattle.row_keeper.specs.Sound.{IsSoundTable}
use Rattle.row_keeper.proofs.SoundLemmas.{sound}
use Rattle.row_keeper.proofs.table.Table.is_sound.Goals as goal

pub returns : goal.returns
returns c =
    let most : c.self.inside.last < 2 ^ 32 = search rules in
    let most_then : c.self.inside.first < 2 ^ 32 = search rules in
    subst IsSoundTable c.self.view_is (sound c.self.inside.columns c.self.inside.covered.items c.self.inside.slots.by_id.entries c.self.inside.index.entries.entries c.self.inside.last c.self.inside.count c.self.inside.first c.self.inside.first_count c.self.invariant c.len-len.ensures.ordered most most_then)
