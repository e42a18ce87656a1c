use Rattle.std.proofs.Common.{◌≡◌, ◌∙◌, arith, FitsSigned, w64, ℤ, pos, negsuc, ◌^◌}
use Rattle.std.proofs.lemmas.Int.{to_z-of_z}
use Rattle.std.proofs.lemmas.Int.{ints}
use Rattle.std.proofs.lemmas.Bool.Decides.{nat_tests}
use Rattle.jiff_core.specs.Calendar.{IsWithin}
use Rattle.jiff_core.proofs.SignedLemmas.{signed_arith}
use Rattle.fx_primitives.specs.Dates.{full_year}
use Rattle.fx_primitives.proofs.date_parts.month_of_parts.Goals as goal

-- a full year is as small as a year
small : (y : ℤ) → FitsSigned w64 y → IsWithin (2 ^ 64) (full_year y)
small (pos n) f = grind (arith, signed_arith, ints, nat_tests)
small (negsuc n) f = grind (arith, signed_arith, ints)

pub returns-clause-value : goal.returns-clause-value
returns-clause-value c =
    let fy : FitsSigned w64 c.args.year = c.ranges.year in
    let fm : FitsSigned w64 c.args.month = c.ranges.month in
    let fr : FitsSigned w64 c.full_year.result = record { sfits = c.full_year.type_inv } in
    let full : c.full_year.result ≡ full_year c.args.year = simp to_z-of_z at c.full_year.ensures in
    let one : c.from.result ≡ full_year c.args.year = (simp to_z-of_z at c.from.ensures) ∙ full in
    let two : c.from-2.result ≡ c.args.month = simp to_z-of_z at c.from-2.ensures in
    rw (one, two) (omega (arith, signed_arith, small c.args.year fy))
