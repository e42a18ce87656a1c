use Rattle.std.proofs.Common.{◌≡◌, subst, sym, true}
use Rattle.recalc.specs.app_semantics.Needed.{is_alone}
use Rattle.recalc.proofs.Listing.{the_head}
use Rattle.recalc.proofs.cache.Cache.value_of.Goals as goal

pub refresh-requires-clause-roots : goal.refresh-requires-clause-roots
refresh-requires-clause-roots g c = λ k there. subst (λ m. is_alone c.args.app.now.cells m ≡ true) (sym (the_head c.args.cell k there)) c.requires.alone
