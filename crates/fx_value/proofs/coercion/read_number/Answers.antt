use Rattle.std.proofs.Common.{◌∙◌, sym, refl}
use Rattle.std.specs.Str.{chars}
use Rattle.fx_value.proofs.coercion.read_number.Goals as goal

pub returns-in_ok-of-in-None-clause-value : goal.returns-in_ok-of-in-None-clause-value
unfolding chars
returns-in_ok-of-in-None-clause-value c =
    let bytes = c.as_str-text.ensures.bytes in
    let spaces = sym c.has_only_spaces.ensures ∙ c.if-has_only_spaces.false in
    (refl, c.in_ok-of-in-None.ensures, rw (c.as_bytes.ensures.value, bytes) at spaces, λ z r s. let k = sym c.in-None.is ∙ (c.read.ensures z).1 (rw bytes s, r) in cc)
