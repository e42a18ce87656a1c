use Rattle.std.proofs.Common.{FitsSigned, w64}
use Rattle.std.proofs.lemmas.Int.{to_z-of_z}
use Rattle.store_reading.proofs.DecodeLemmas.{id_read}
use Rattle.store_reading.proofs.decoding.id_of.Goals as goal

-- a number that was read is one of 64 bits, which its type tells
pub returns-in-Some : goal.returns-in-Some
returns-in-Some c =
    let told = rw c.in-Some.is at c.number_in.type_inv in
    let fits : FitsSigned w64 c.in-Some.number = record { sfits = told.1.1.1.1.0.1 } in
    id_read c.args.line.now c.in-Some.number c.id_in.result c.in-Some.ensures.some (simp to_z-of_z at c.id_in.ensures)
