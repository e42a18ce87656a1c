use Rattle.office.proofs.Refusing.{refused_leaves}
use Rattle.office.proofs.laws.refused_leaves.Goals as goal

pub returns : goal.returns
returns c = refused_leaves
