use Rattle.std.proofs.Common.{refl}
use Rattle.app_loader.proofs.infos.info_of.Goals as goal

pub returns : goal.returns
returns c = record {
  cell = refl;
  tree = c.requires.tree;
  once = c.in_ok-reads.ensures.once;
  reads = c.in_ok-reads.ensures.exact;
  taken = c.in_ok-taken.ensures.taken;
  sites = c.in_ok-taken.ensures.sites;
}
