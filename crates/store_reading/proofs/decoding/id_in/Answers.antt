use Rattle.std.proofs.lemmas.Int.{to_z-of_z}
use Rattle.store_reading.proofs.DecodeLemmas.{whole_of}
use Rattle.store_reading.proofs.decoding.id_in.Goals as goal

pub returns-in-Ok : goal.returns-in-Ok
returns-in-Ok c = whole_of c.args.number c.in-Ok.id (simp (to_z-of_z, c.ranges.number) at c.in-Ok.ensures)
