-- What becomes of an office by a replacement: all is left, or an accepted app is served.
use Rattle.std.proofs.Common.{◌≡◌, ◌≢◌, ◌⊎◌, inl, inr, ℕ, ◌==◌, ◌&&◌, Bool, true, false, if◌then◌else◌, List, Option, Some, None, Result, Ok, Err, refl, ap, sym, ◌∙◌, subst}
use Rattle.std.specs.Prelude.{is_some, option_and_then, option_map}
use Rattle.fx_base.specs.Silence.{MayFallSilent}
use Rattle.fx_core.specs.declared.broken.Broken.{Broken}
use Rattle.fx_core.specs.declared.names.Names.{Names}
use Rattle.fx_core.specs.declared.schema.Schema.{Schema}
use Rattle.serde_json.specs.Data.{Data}
use Rattle.serde_json.specs.Written.{compact_text}
use Rattle.app_cells.specs.declared.app.App.{App}
use Rattle.app_loader.specs.Judged.{JudgedValue}
use Rattle.app_loader.specs.Verdicts.{IsSameApp}
use Rattle.app_loader.proofs.OneRefusal.{one_refusal_of_a_value}
use Rattle.app_loader.proofs.OneVerdict.{one_app_of_a_value, one_value_verdict}
use Rattle.app_moves.specs.Places.{table_moves}
use Rattle.app_moves.specs.Refusals.{moves_refusal, rows_refusal}
use Rattle.app_replacements.specs.Bodies.{app_in, replaced_in}
use Rattle.app_replacements.specs.declared.body.Replacement.{Replacement}
use Rattle.app_wire.specs.Framing.{Asked}
use Rattle.app_wire.specs.Routing.{Routing}
use Rattle.app_wire.specs.declared.route.Route.TheVariants.{Replace}
use Rattle.numbered_requests.proofs.Again.{passed}
use Rattle.numbered_requests.proofs.Directories.{find_other}
use Rattle.numbered_requests.specs.Checks.{desk_of}
use Rattle.numbered_requests.specs.Directory.{find}
use Rattle.numbered_requests.specs.GivenValues.{member_count}
use Rattle.numbered_requests.specs.Replies.{refusal_reply}
use Rattle.numbered_requests.specs.declared.directory.Named.{Named}
use Rattle.row_keeper.specs.MovedTables.{Reshapes, breach, reshaped}
use Rattle.row_keeper.specs.Tables.{Tables}
use Rattle.row_keeper.specs.declared.moves.TableMove.{TableMove}
use Rattle.row_keeper.specs.declared.rows.Reshaped.{Reshaped}
use Rattle.row_keeper.specs.declared.rows.Reshaped.TheVariants.{Done, Broken as RuleBroken}
use Rattle.row_keeper.specs.declared.rows.RowRefusal.{RowRefusal}
use Rattle.session_state.specs.CarriedOver.{carried_over}
use Rattle.session_state.specs.Once.{LastRequest}
use Rattle.view_text.specs.declared.refused.Refusal.{Refusal}
use Rattle.office.specs.DeskEdits.{accepted_edit_reply, seq_data}
use Rattle.office.specs.Isolation.{SessionIsCarriedOver}
use Rattle.office.specs.Refused.{IsRefused}
use Rattle.office.specs.Replacing.{IsAccepted, Moved, MovesEnd, PostsApp, RefusesRows, ReplacementEnds, Replaces, ReplacesChecked, RowsEnd, all_over, app_given, replace_checks, replaced}
use Rattle.office.specs.State.{OfficeState, schema_of}
use Rattle.office.specs.Step.{AreOne, Left, alike, edited, refused}
use Rattle.office.proofs.Directories.{find_over}
use Rattle.office.proofs.Repeats.{same_app}
use Rattle.office.proofs.Served.{broken_stays}
use Rattle.office.proofs.StepLemmas.{left_all}

-- an accepted app is served, and that is said
pub record IsServed (name body : List ℕ) (s : OfficeState) (said : List ℕ) (new : OfficeState) : Type 0 where
  pub asked : Replacement
  pub checked : replace_checks s.desks name body ≡ Ok asked
  pub app : App
  pub accepted : IsAccepted app
  pub said_is : said ≡ accepted_edit_reply asked.seq
  pub is : new ≡ replaced name body asked.seq app new.tables s

-- THE OUTCOMES of a replacement, from which all laws take their cases
abbrev pub Outcome : Type 0 → List ℕ → List ℕ → OfficeState → List ℕ → OfficeState → Type 0
Outcome lost name body s said new = Left lost s new ⊎ IsServed name body s said new

module _ (lost : Type 0) (name body : List ℕ) (r : Replacement) (s : OfficeState) (said : List ℕ) (new : OfficeState) (checked : replace_checks s.desks name body ≡ Ok r) where
  rows_end : (b : App) (o : Reshaped) → IsAccepted b → Moved lost b r.moves o s new → RowsEnd name body r.seq b o s said new → Outcome lost name body s said new
  rows_end b Done accepted moved h = inr (record { asked = r; checked = checked; app = b; accepted = accepted; said_is = h.0; is = h.1 })
  rows_end b (RuleBroken k x) accepted moved h =
      inl (record { tables = broken_stays lost (schema_of b) (table_moves (schema_of s.app).tables r.moves (schema_of b).tables) k x s.tables new.tables moved; others = h.1 })

  moves_end : (b : App) (o : Option Refusal) → IsAccepted b → MovesEnd lost name body r b o s said new → Outcome lost name body s said new
  moves_end b (Some refusal) accepted h = inl (left_all lost s new h.1)
  moves_end b None accepted h = rows_end b h.0 accepted h.1 h.2

  pub replacement_ends : (v : Result App (List Broken)) → ReplacementEnds lost name body r v s said new → Outcome lost name body s said new
  replacement_ends (Err bs) h = inl (left_all lost s new h.1)
  replacement_ends (Ok b) h = moves_end b (moves_refusal (schema_of s.app).tables (schema_of b).tables r.moves) h.0 h.1

checked_ends : (lost : Type 0) (name body : List ℕ) (c : Result Replacement (List ℕ)) (s : OfficeState) (said : List ℕ) (new : OfficeState) → replace_checks s.desks name body ≡ c → ReplacesChecked lost name body c s said new → Outcome lost name body s said new
checked_ends lost name body (Err words) s said new e h = inl (left_all lost s new h.1)
checked_ends lost name body (Ok r) s said new e h = replacement_ends lost name body r s said new e h.verdict h.ends

pub outcome : (lost : Type 0) (name body : List ℕ) (s : OfficeState) (said : List ℕ) (new : OfficeState) → PostsApp lost name body s said new → Outcome lost name body s said new
outcome lost name body s said new h = checked_ends lost name body (replace_checks s.desks name body) s said new refl h

-- ---- the app that is given

only_if : (a b : Bool) (x : Option Replacement) (r : Replacement) → (if a && b then x else None) ≡ Some r → b ≡ true
only_if true true x r e = refl
only_if true false x r e = absurd cc
only_if false b x r e = absurd cc

-- a body of the shape has one
app_there : (d : Data) (r : Replacement) → replaced_in d ≡ Some r → is_some (app_in d) ≡ true
app_there d r e = only_if (member_count d == 3) (is_some (app_in d)) _ r e

-- what is read through a reference is what stands there
pub read_through : {X Y Z : Type 0} (f : X → Y) (v : Y → Z) (o : Option X) → option_map (λ (x : X). v (f x)) o ≡ option_map v (option_map f o)
read_through f v None = refl
read_through f v (Some x) = refl

pub given_there : (desks : List (Named LastRequest)) (name body : List ℕ) (r : Replacement) → replace_checks desks name body ≡ Ok r → is_some (app_given body) ≡ true
given_there desks name body r e =
    let asks = passed Replacement replaced_in (λ (q : Replacement). q.seq) (desk_of name desks) body r e in
    subst (λ (o : Option Data). is_some (option_and_then app_in o) ≡ true) (sym asks.is_json) (app_there asks.value r asks.shape)

-- ---- what laws take from it

-- what is refused leaves all
pub refused_left : (lost : Type 0) (name body : List ℕ) (s : OfficeState) (said : List ℕ) (new : OfficeState) → IsRefused said → PostsApp lost name body s said new → Left lost s new
refused_left lost name body s said new is_refused h = by (outcome lost name body s said new h)
  where
    by : Outcome lost name body s said new → Left lost s new
    by (inl left) = left
    by (inr served) = absurd (is_refused (compact_text (seq_data served.asked.seq)) served.said_is)

-- a session is left, or goes over to the app that is served
pub session_over : (lost : Type 0) (name body : List ℕ) (s : OfficeState) (said : List ℕ) (new : OfficeState) (other : List ℕ) → PostsApp lost name body s said new → (find other new.sessions ≡ find other s.sessions) ⊎ SessionIsCarriedOver s new other
session_over lost name body s said new other h = by (outcome lost name body s said new h)
  where
    by : Outcome lost name body s said new → (find other new.sessions ≡ find other s.sessions) ⊎ SessionIsCarriedOver s new other
    by (inl left) = inl (ap (λ (x : OfficeState). find other x.sessions) left.others)
    by (inr served) =
        inr (subst (λ (a : App). find other new.sessions ≡ option_map (carried_over s.app.names a.names) (find other s.sessions)) (sym (ap (λ (x : OfficeState). x.app) served.is))
        (ap (λ (x : OfficeState). find other x.sessions) served.is ∙ find_over s.app.names served.app.names other s.sessions))

-- other desks are left
pub desk_left : (lost : Type 0) (name body : List ℕ) (s : OfficeState) (said : List ℕ) (new : OfficeState) (other : List ℕ) → name ≢ other → PostsApp lost name body s said new → find other new.desks ≡ find other s.desks
desk_left lost name body s said new other differ h = by (outcome lost name body s said new h)
  where
    by : Outcome lost name body s said new → find other new.desks ≡ find other s.desks
    by (inl left) = ap (λ (x : OfficeState). find other x.desks) left.others
    by (inr served) =
        let desk : LastRequest = record { last = served.asked.seq; body = body; reply = accepted_edit_reply served.asked.seq } in
        ap (λ (x : OfficeState). find other x.desks) served.is ∙ find_other LastRequest name other desk s.desks differ

-- ---- one outcome

-- where tables are told before and after, this became of them
told_moved : (lost : Type 0) (P : Tables → Tables → Type 0) (x y : Option Tables) (t u : Tables) → x ≡ Some t → y ≡ Some u → MayFallSilent lost P x y → P t u
told_moved lost P x y t u e f h = subst (λ (o : Option Tables). MayFallSilent lost P (Some t) o) f (subst (λ (o : Option Tables). MayFallSilent lost P o y) e h)

one_some : (x y : ℕ × RowRefusal) → Some x ≡ Some y → x ≡ y
one_some x y e = cc

one_refusal : (x y : Refusal) (o : Option Refusal) → o ≡ Some x → o ≡ Some y → x ≡ y
one_refusal x y o e f = cc

one_given : (x y : Data) (o : Option Data) → o ≡ Some x → o ≡ Some y → x ≡ y
one_given x y o e f = cc

one_breach : (r q : Reshaped) → breach r ≡ breach q → r ≡ q
one_breach Done Done e = refl
one_breach Done (RuleBroken k x) e = absurd cc
one_breach (RuleBroken k x) Done e = absurd cc
one_breach (RuleBroken k x) (RuleBroken l y) e = ap (λ (z : ℕ × RowRefusal). RuleBroken z.0 z.1) (one_some (k, x) (l, y) e)

-- tables move in one way
one_move : (schema : Schema) (moves : List TableMove) (r q : Reshaped) (t u v : Tables) → Reshapes schema moves r t u → Reshapes schema moves q t v → (r ≡ q) × (u ≡ v)
one_move schema moves r q t u v h k =
    let same = one_breach r q (sym h.0 ∙ k.0) in (same, h.1 ∙ ap (λ (x : Reshaped). reshaped schema moves x t) same ∙ sym k.1)

module _ (lost lost' : Type 0) (name : List ℕ) (request : Asked) (s new new' : OfficeState) (said said' : List ℕ) (t u u' : Tables) (routed : Routing request.method request.path (Ok (Replace name)))
    (e : s.tables ≡ Some t) (f : new.tables ≡ Some u) (g : new'.tables ≡ Some u') where
  -- two apps that mean the same are served, over the same tables
  served_alike : (seq : ℕ) (b b' : App) → IsSameApp b b' → new.tables ≡ new'.tables → RowsEnd name request.body seq b Done s said new → RowsEnd name request.body seq b' Done s said' new' → AreOne request s new new' said said'
  served_alike seq b b' same tables h k =
      let names : all_over s.app.names b'.names s.sessions ≡ all_over s.app.names b.names s.sessions = ap (λ (n : Names). all_over s.app.names n s.sessions) same.names in
      let sessions : new'.sessions ≡ new.sessions = ap (λ (x : OfficeState). x.sessions) k.1 ∙ names ∙ sym (ap (λ (x : OfficeState). x.sessions) h.1) in
      let told : new'.tables ≡ new.tables = sym tables in
      let desks : new'.desks ≡ new.desks = ap (λ (x : OfficeState). x.desks) k.1 ∙ sym (ap (λ (x : OfficeState). x.desks) h.1) in
      edited (inr (name, routed)) (same_app b b' new.app new'.app (sym (ap (λ (x : OfficeState). x.app) h.1)) (sym (ap (λ (x : OfficeState). x.app) k.1)) same)
      (λ i. record { app = new'.app; tables = told i; sessions = sessions i; desks = desks i }) (h.0 ∙ sym k.0)

  rows_alike : (seq : ℕ) (b b' : App) (o : Reshaped) → IsSameApp b b' → new.tables ≡ new'.tables → RowsEnd name request.body seq b o s said new → RowsEnd name request.body seq b' o s said' new' → AreOne request s new new' said said'
  rows_alike seq b b' Done same tables h k = served_alike seq b b' same tables h k
  rows_alike seq b b' (RuleBroken j x) same tables h k =
      let schema : schema_of b' ≡ schema_of b = ap (λ (n : Names). n.schema) same.names in
      let other : RefusesRows b j x said' = subst (λ (z : Schema). (refusal : Refusal) × (rows_refusal z.tables j x ≡ Some refusal) × (said' ≡ refusal_reply refusal)) schema k.0 in
      alike (h.1 ∙ ap (λ (z : Option Tables). record s { tables = z }) tables ∙ sym k.1)
      (h.0.2 ∙ ap refusal_reply (one_refusal h.0.0 other.0 (rows_refusal (schema_of b).tables j x) h.0.1 other.1) ∙ sym other.2)

  moves_alike : (r : Replacement) (b b' : App) (o : Option Refusal) → IsSameApp b b' → MovesEnd lost name request.body r b o s said new → MovesEnd lost' name request.body r b' o s said' new' → AreOne request s new new' said said'
  moves_alike r b b' (Some refusal) same h k = alike (h.1 ∙ sym k.1) (h.0 ∙ sym k.0)
  moves_alike r b b' None same h k =
      let schema : schema_of b' ≡ schema_of b = ap (λ (n : Names). n.schema) same.names in
      let olds = (schema_of s.app).tables in
      let moves = table_moves olds r.moves (schema_of b).tables in
      let first = told_moved lost (Reshapes (schema_of b) moves h.0) s.tables new.tables t u e f h.1 in
      let second = told_moved lost' (Reshapes (schema_of b) moves k.0) s.tables new'.tables t u' e g
      (subst (λ (z : Schema). MayFallSilent lost' (Reshapes z (table_moves olds r.moves z.tables) k.0) s.tables new'.tables) schema k.1) in
      let one = one_move (schema_of b) moves h.0 k.0 t u u' first second in
      rows_alike r.seq b b' h.0 same (f ∙ ap (λ (z : Tables). Some z) one.1 ∙ sym g) h.2 (subst (λ (z : Reshaped). RowsEnd name request.body r.seq b' z s said' new') (sym one.0) k.2)

  ends_alike : (r : Replacement) (v w : Result App (List Broken)) (d : Data) → JudgedValue d v → JudgedValue d w → ReplacementEnds lost name request.body r v s said new → ReplacementEnds lost' name request.body r w s said' new' → AreOne request s new new' said said'
  ends_alike r (Ok b) (Ok b') d i j h k =
      let same = one_app_of_a_value d b b' i j in
      let schema : schema_of b' ≡ schema_of b = ap (λ (n : Names). n.schema) same.names in
      moves_alike r b b' (moves_refusal (schema_of s.app).tables (schema_of b).tables r.moves) same h.1
      (subst (λ (z : Schema). MovesEnd lost' name request.body r b' (moves_refusal (schema_of s.app).tables z.tables r.moves) s said' new') schema k.1)
  ends_alike r (Ok b) (Err cs) d i j h k = absurd (one_value_verdict d b cs i j)
  ends_alike r (Err bs) (Ok b') d i j h k = absurd (one_value_verdict d b' bs j i)
  ends_alike r (Err bs) (Err cs) d i j h k =
      refused (inr (name, routed)) (record { breaks = bs; breaks' = cs; same = one_refusal_of_a_value d bs cs i j; first = h.0; second = k.0 }) h.1 k.1

  replaces_alike : (r : Replacement) → Replaces lost name request.body r s said new → Replaces lost' name request.body r s said' new' → AreOne request s new new' said said'
  replaces_alike r h k =
      let given = one_given h.app k.app _ h.given k.given in
      ends_alike r h.verdict k.verdict h.app h.judged (subst (λ (d : Data). JudgedValue d k.verdict) (sym given) k.judged) h.ends k.ends

  checked_alike : (c : Result Replacement (List ℕ)) → ReplacesChecked lost name request.body c s said new → ReplacesChecked lost' name request.body c s said' new' → AreOne request s new new' said said'
  checked_alike (Err words) h k = alike (h.1 ∙ sym k.1) (h.0 ∙ sym k.0)
  checked_alike (Ok r) h k = replaces_alike r h k

  -- a replacement has one outcome, where tables are told
  pub replacements_alike : PostsApp lost name request.body s said new → PostsApp lost' name request.body s said' new' → AreOne request s new new' said said'
  replacements_alike h k = checked_alike (replace_checks s.desks name request.body) h k
