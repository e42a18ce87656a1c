use Rattle.std.proofs.Common.{◌≡◌, ℕ, zero, suc, List, [], ◌∷◌, Option, None, map, ap, ◌∙◌, refl, length}
use Rattle.std.specs.Prelude.{option_map, replicate, false}
use Rattle.fx_types.specs.Values.{Data, blank, tab, no_rows}
use Rattle.fx_types.specs.ValueView.{view}
use Rattle.fx_types.specs.declared.values.Value.{Value}
use Rattle.fx_core.specs.declared.names.Names.{Names}
use Rattle.session_state.specs.Once.{LastRequest, nobody}
use Rattle.session_state.specs.Sessions.{SessionRoom, SessionState, opened}
use Rattle.session_state.proofs.Fitting.{fits_opened}
use Rattle.session_state.proofs.session.Session.new.Goals as goal

pub returns-clause-fits : goal.returns-clause-fits
returns-clause-fits c = λ some tables. fits_opened c.args.names.now some tables

-- a list of nothing is seen as one
nothing_seen : (n : ℕ) → map (option_map view) (replicate n None) ≡ replicate n None
nothing_seen zero = refl
nothing_seen (suc n) = ap (λ (xs : List (Option Data)). None ∷ xs) (nothing_seen n)

inputs_seen : (vs : List (Option Value)) (n : ℕ) → vs ≡ replicate n None → map (option_map view) vs ≡ replicate n None
inputs_seen vs n e = ap (map (option_map view)) e ∙ nothing_seen n

abbrev first_session : List Data → List Data → List (Option Data) → List (Option (ℕ × Option ℕ)) → LastRequest → List (List ℕ) → SessionRoom → SessionState
first_session vs cs is ch k ns r = record { screen = 0; navigated = false; variables = vs; collections = cs; inputs = is; chosen = ch; kept = k; notices = ns; room = r }

is_opened : (n : Names) (a b d e : ℕ) (vs cs : List Data) (is : List (Option Data)) (ch : List (Option (ℕ × Option ℕ))) (k : LastRequest) (ns : List (List ℕ)) (x y z : ℕ) → a ≡ length n.variables → b ≡ length n.collections → d ≡ length n.controls → e ≡ length n.controls → vs ≡ replicate a blank → cs ≡ replicate b (tab no_rows) → is ≡ replicate d None → ch ≡ replicate e None → k ≡ nobody → ns ≡ [] → x ≡ 0 → y ≡ 0 → z ≡ 0 → first_session vs cs is ch k ns (record { variables = x; collections = y; controls = z }) ≡ opened n
is_opened n a b d e vs cs is ch k ns v w z a-is b-is d-is e-is vs-are cs-are is-are ch-are k-is ns-are v-is w-is z-is =
    let r : SessionRoom = record { variables = v; collections = w; controls = z } in
    ap (λ (x : List Data). first_session x cs is ch k ns r) (vs-are ∙ ap (λ (m : ℕ). replicate m blank) a-is)
    ∙ ap (λ (x : List Data). first_session (replicate (length n.variables) blank) x is ch k ns r) (cs-are ∙ ap (λ (m : ℕ). replicate m (tab no_rows)) b-is)
    ∙ ap (λ (x : List (Option Data)). first_session (replicate (length n.variables) blank) (replicate (length n.collections) (tab no_rows)) x ch k ns r) (is-are ∙ ap (λ (m : ℕ). replicate m None) d-is)
    ∙ ap (λ (x : List (Option (ℕ × Option ℕ))). first_session (replicate (length n.variables) blank) (replicate (length n.collections) (tab no_rows)) (replicate (length n.controls) None) x k ns r) (ch-are ∙ ap (λ (m : ℕ). replicate m None) e-is)
    ∙ ap (λ (x : LastRequest). first_session (replicate (length n.variables) blank) (replicate (length n.collections) (tab no_rows)) (replicate (length n.controls) None) (replicate (length n.controls) None) x ns r) k-is
    ∙ ap (λ (x : List (List ℕ)). first_session (replicate (length n.variables) blank) (replicate (length n.collections) (tab no_rows)) (replicate (length n.controls) None) (replicate (length n.controls) None) nobody x r) ns-are
    ∙ ap (λ (m : ℕ). record (opened n) { room = record { variables = m; collections = w; controls = z } }) v-is
    ∙ ap (λ (m : ℕ). record (opened n) { room = record { variables = 0; collections = m; controls = z } }) w-is
    ∙ ap (λ (m : ℕ). record (opened n) { room = record { variables = 0; collections = 0; controls = m } }) z-is

pub returns-clause-opened : goal.returns-clause-opened
returns-clause-opened c =
    is_opened c.args.names.now c.len-3.result c.len-4.result c.len-5.result c.len-6.result _ _ _ _ _ _ _ _ _ c.len-3.ensures c.len-4.ensures c.len-5.ensures c.len-6.ensures
    c.in_ok-blanks.ensures c.in_ok-empty_tables.ensures (inputs_seen c.in_ok-nothing.field-0.items c.len-5.result c.in_ok-nothing.ensures) c.in_ok-nothing-2.ensures c.new.ensures c.new-2.ensures.items c.new-3.ensures.capacity c.new-4.ensures.capacity c.new-5.ensures.capacity
