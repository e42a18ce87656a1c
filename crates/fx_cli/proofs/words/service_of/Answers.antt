use Rattle.std.proofs.Common.{◌≡◌, ◌<◌, ◌≤◌, List, [], ◌∷◌, length, get_or, String, string_bytes, sym, ap, ◌∙◌, arith, refl}
use Rattle.std.specs.declared.alloc.Global.{Global}
use Rattle.fx_cli.specs.Words.{Service, service_count, or_usual, port_of, service}
use Rattle.fx_cli.proofs.words.service_of.Goals as goal

five : (ws : List (String Global)) (s p n : String Global) → 5 ≤ length ws → length ws < 6 → s ≡ get_or ws 2 s → p ≡ get_or ws 3 p → n ≡ get_or ws 4 n
    → service ws ≡ record { store = string_bytes s; port = port_of (string_bytes p); most = or_usual (service_count (string_bytes n)) }
five [] s p n l b e f g = absurd (omega (arith, l))
five (u ∷ []) s p n l b e f g = absurd (omega (arith, l))
five (u ∷ v ∷ []) s p n l b e f g = absurd (omega (arith, l))
five (u ∷ v ∷ w ∷ []) s p n l b e f g = absurd (omega (arith, l))
five (u ∷ v ∷ w ∷ x ∷ []) s p n l b e f g = absurd (omega (arith, l))
five (u ∷ v ∷ w ∷ x ∷ y ∷ z ∷ zs) s p n l b e f g = absurd (omega (arith, b))
five (u ∷ v ∷ w ∷ x ∷ y ∷ []) s p n l b e f g = cc

pub returns-in-len5 : goal.returns-in-len5
returns-in-len5 c =
    let is = five c.args.words.now c.store-item-then-words-lt6.result c.port-item-then-words-lt6.result c.count-item.result c.in-len5.len_at_least c.in-len5.len_below c.store-item-then-words-lt6.is c.port-item-then-words-lt6.is c.count-item.is in
    ap (λ x. record { store = x; port = c.port_in-in-len5.result; most = c.count_or_usual.result }) c.as_str-in-len5.ensures.value
    ∙ ap (λ x. record { store = string_bytes c.store-item-then-words-lt6.result; port = x; most = c.count_or_usual.result }) (c.port_in-in-len5.ensures ∙ ap port_of c.as_str-in-len5-2.ensures.value)
    ∙ ap (λ x. record { store = string_bytes c.store-item-then-words-lt6.result; port = port_of (string_bytes c.port-item-then-words-lt6.result); most = x }) (c.count_or_usual.ensures ∙ ap (λ t. or_usual (service_count t)) c.as_str-in-len5-3.ensures.value)
    ∙ sym is
