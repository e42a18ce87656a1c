-- Sessions go on fitting an app, and keep replies.
use Rattle.std.proofs.Common.{◌≡◌, ℕ, zero, suc, ◌<◌, List, [], ◌∷◌, ◌++◌, Option, Some, None, length, refl, ap, sym, subst}
use Rattle.std.specs.Prelude.{IfSome, slice_set, unwrap_or}
use Rattle.std.specs.List.{AllByRecursion, position}
use Rattle.fx_types.specs.Values.{Data, blank, number, text, boolean, date, rec, tab, fault, FieldList, no_fields, field, field_list, RowList, no_rows, row, row_list}
use Rattle.fx_types.specs.declared.values.Value.TheVariants as value
use Rattle.recalc.specs.fx_semantics.Rows.{fields_of, rows_of}
use Rattle.fx_core.specs.declared.names.Names.{Names}
use Rattle.session_requests.proofs.RequestFitting.{fits_with}
use Rattle.fx_core.specs.declared.sources.Source.{Source}
use Rattle.fx_core.specs.declared.sources.Source.TheVariants as source
use Rattle.numbered_requests.specs.Checked.{KeepsReply, SessionsKeepReplies}
use Rattle.numbered_requests.specs.Directory.{is_named, put_named, put_at}
use Rattle.numbered_requests.specs.declared.directory.Named.{Named}
use Rattle.session_state.specs.Changes.{FitsNames, FitsSource}
use Rattle.session_state.specs.Sessions.{SessionState}
use Rattle.session_state.specs.declared.change.Change.TheVariants as change
use Rattle.session_state.proofs.Fitting.{fits_made}
use Rattle.session_requests.specs.Acting.{session_answered, with_input, with_item_chosen, with_target}
use Rattle.session_requests.specs.Posting.{SessionsFit}
use Rattle.session_requests.specs.Targets.{InputValue}
use Rattle.session_requests.specs.declared.target.Item.{Item}
use Rattle.session_requests.specs.declared.target.Target.{Target}

-- ---- one session

listed : (fs : FieldList) → field_list (fields_of fs) ≡ fs
listed no_fields = refl
listed (field n d fs) = ap (λ (gs : FieldList). field n d gs) (listed fs)

rows_listed : (rs : RowList) → row_list (rows_of rs) ≡ rs
rows_listed no_rows = refl
rows_listed (row fs rs) = λ i. row (listed fs i) (rows_listed rs i)

-- what a user gives fits
fits_some : (n : Names) (s : SessionState) (k : ℕ) (d : Data) → FitsNames n s → FitsSource n (source.Input k) d → FitsNames n (with_input (k, Some d) s)
fits_some n s k blank f g = fits_made n (change.Input k (Some value.Blank)) s f g
fits_some n s k (number z) f g = fits_made n (change.Input k (Some (value.Number z))) s f g
fits_some n s k (text cs) f g = fits_made n (change.Input k (Some (value.Text cs))) s f g
fits_some n s k (boolean b) f g = fits_made n (change.Input k (Some (value.Boolean b))) s f g
fits_some n s k (date z) f g = fits_made n (change.Input k (Some (value.Date z))) s f g
fits_some n s k (fault kind cs) f g = fits_made n (change.Input k (Some (value.Fault (record { kind = kind; message = cs })))) s f g
fits_some n s k (rec fs) f g =
    subst (λ (gs : FieldList). FitsNames n (with_input (k, Some (rec gs)) s)) (listed fs)
    (fits_made n (change.Input k (Some (value.Rec (fields_of fs)))) s f (subst (λ (gs : FieldList). FitsSource n (source.Input k) (rec gs)) (sym (listed fs)) g))
fits_some n s k (tab rs) f g =
    subst (λ (ss : RowList). FitsNames n (with_input (k, Some (tab ss)) s)) (rows_listed rs)
    (fits_made n (change.Input k (Some (value.Tab (rows_of rs)))) s f (subst (λ (ss : RowList). FitsSource n (source.Input k) (tab ss)) (sym (rows_listed rs)) g))

fits_given : (n : Names) (s : SessionState) (k : ℕ) (o : Option Data) → FitsNames n s → FitsSource n (source.Input k) (unwrap_or o blank) → FitsNames n (with_input (k, o) s)
fits_given n s k None f g = fits_made n (change.Input k None) s f g
fits_given n s k (Some d) f g = fits_some n s k d f g

-- an item that is chosen fits
fits_chosen : (n : Names) (s : SessionState) (o : Option Item) → FitsNames n s → IfSome o (λ (i : Item). i.gallery < length n.controls) → FitsNames n (with_item_chosen o s)
fits_chosen n s None f g = f
fits_chosen n s (Some i) f g = fits_made n (change.Choose i.gallery i.at i.id) s f g

pub input_fits : (n : Names) (s : SessionState) (g : InputValue) → FitsNames n s → FitsSource n (source.Input g.0) (unwrap_or g.1 blank) → FitsNames n (with_input g s)
input_fits n s g f h = fits_given n s g.0 g.1 f h

pub target_fits : (n : Names) (s : SessionState) (t : Target) → FitsNames n s → IfSome t.item (λ (i : Item). i.gallery < length n.controls) → FitsNames n (with_target t s)
target_fits n s t f h = fits_chosen n s t.item f h

-- what is kept of its requests is no matter
pub fits_answered : (n : Names) (s : SessionState) (seq : ℕ) (body said : List ℕ) → FitsNames n s → FitsNames n (session_answered seq body said s)
fits_answered n s seq body said f = fits_with n s.navigated (record { last = seq; body = body; reply = said }) s.notices s f

-- ---- all of them

all_more : (P : Named SessionState → Type 0) (xs : List (Named SessionState)) (x : Named SessionState) → AllByRecursion P xs → P x → AllByRecursion P (xs ++ x ∷ [])
all_more P [] x h p = (p, tt)
all_more P (y ∷ ys) x h p = (h.0, all_more P ys x h.1 p)

all_set : (P : Named SessionState → Type 0) (xs : List (Named SessionState)) (k : ℕ) (x : Named SessionState) → AllByRecursion P xs → P x → AllByRecursion P (slice_set xs k x)
all_set P [] k x h p = h
all_set P (y ∷ ys) zero x h p = (p, h.1)
all_set P (y ∷ ys) (suc k) x h p = (h.0, all_set P ys k x h.1 p)

all_put : (P : Named SessionState → Type 0) (o : Option ℕ) (x : Named SessionState) (xs : List (Named SessionState)) → AllByRecursion P xs → P x → AllByRecursion P (put_at o x xs)
all_put P None x xs h p = all_more P xs x h p
all_put P (Some k) x xs h p = all_set P xs k x h p

-- after a request of one
pub put_fits : (n : Names) (name : List ℕ) (s : SessionState) (sessions : List (Named SessionState)) → SessionsFit n sessions → FitsNames n s → SessionsFit n (put_named name s sessions)
put_fits n name s sessions all f = all_put (λ (x : Named SessionState). FitsNames n x.it) (position (is_named name) sessions) (record { name = name; it = s }) sessions all f

pub put_keeps : (name : List ℕ) (s : SessionState) (sessions : List (Named SessionState)) → SessionsKeepReplies sessions → KeepsReply s.kept → SessionsKeepReplies (put_named name s sessions)
put_keeps name s sessions all f = all_put (λ (x : Named SessionState). KeepsReply x.it.kept) (position (is_named name) sessions) (record { name = name; it = s }) sessions all f
