use Rattle.std.proofs.Common.{◌≡◌, rules, true, Some, sym}
use Rattle.fx_types.specs.TypeView.{shape}
use Rattle.fx_types.specs.ValueView.{view}
use Rattle.fx_value.specs.Fits.{fits_in}
use Rattle.fx_value.specs.Join.{join_of}
use Rattle.fx_value.proofs.Coercions.{join_takes_both}
use Rattle.test_functions.proofs.weights.add_joined.Goals as goal

pub coerce-requires : goal.coerce-requires
coerce-requires c =
    let j : join_of (shape c.args.ty.now) (shape c.args.other.now) ≡ Some (shape c.in-Some.joined) = sym (rw c.in-Some.is at c.in_ok-joined.ensures.value) in
    let f : fits_in (view c.args.value.now) (shape c.args.ty.now) ≡ true = search rules in
    rw c.in_ok-copy-in-Some.ensures (join_takes_both (shape c.args.ty.now) (shape c.args.other.now) (shape c.in-Some.joined) j (view c.args.value.now) f)
