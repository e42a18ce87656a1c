-- How much is taken of a conversation past a request.
use Rattle.std.proofs.Common.{◌≡◌, ℕ, ◌≤◌, inl, inr, false, List, ◌++◌, length, drop, ap, sym, ◌∙◌, subst, append_assoc, arith}
use Rattle.std.proofs.lemmas.List.{length-append, length-drop}
use Rattle.app_wire.specs.Framing.{Asked, IsStillOpen, IsWholeRequest, need, nothing, whole}
use Rattle.app_wire.specs.NextRequest.{ReadsLittle}
use Rattle.app_wire.proofs.OneThing.{one_thing}
use Rattle.app_wire.proofs.Stands.{whole_less}

-- a request ends past bytes in which none is whole
ends_past : (held more : List ℕ) (request : Asked) (len : ℕ) → IsStillOpen held → IsWholeRequest (held ++ more) request len → len ≤ length held → ⊥
ends_past held more request len (inl none) w le =
    let same : whole request len ≡ nothing = one_thing held false (whole request len) nothing (whole_less held more w le) none in cc
ends_past held more request len (inr begun) w le =
    let same : whole request len ≡ need = one_thing held false (whole request len) need (whole_less held more w le) begun in cc

-- what is held past a request is at most what one read takes
pub little : (held read unread : List ℕ) (request : Asked) (len : ℕ) → length held ≤ 512
    → IsWholeRequest (held ++ (read ++ unread)) request len → ReadsLittle held read → length (drop len (held ++ read)) ≤ 512
little held read unread request len few w (inl none) =
    omega (arith, few, length-drop len (held ++ read), length-append held read, ap length none)
little held read unread request len few w (inr r) =
    let whole : held ++ (read ++ unread) ≡ (held ++ r.0) ++ (r.1 ++ unread) =
    ap (λ u. held ++ (u ++ unread)) r.4 ∙ ap (λ u. held ++ u) (append_assoc r.0 r.1 unread) ∙ sym (append_assoc held r.0 (r.1 ++ unread)) in
    let past : len ≤ length (held ++ r.0) → ⊥ = ends_past (held ++ r.0) (r.1 ++ unread) request len r.2 (subst (λ bytes. IsWholeRequest bytes request len) whole w) in
    omega (arith, r.3, past, length-append held r.0, length-drop len (held ++ read), length-append held read, ap length r.4, length-append r.0 r.1)
