use Rattle.std.proofs.Common.{◌∙◌, ◌≡◌, ap, subst}
use Rattle.fx_base.specs.Silence.{SilenceCause}
use Rattle.row_keeper.specs.Tables.{columns_at}
use Rattle.row_requests.specs.Page.{ShowsTable, VisitsTable, page_reply}
use Rattle.numbered_requests.specs.Replies.{said}
use Rattle.row_requests.proofs.Pages.{shows, visits}
use Rattle.row_requests.proofs.Schemas.{found_rows_sound, rows_numbered}
use Rattle.row_requests.proofs.Soundness.{sound_stays}
use Rattle.row_requests.proofs.page.show_page.Goals as goal

pub returns-in_ok-reply-in-Ok-clause-done : goal.returns-in_ok-reply-in-Ok-clause-done
returns-in_ok-reply-in-Ok-clause-done g c =
    let lost = SilenceCause (g.K.Keeper.marks c.args.keeper.now) (g.K.Keeper.marks c.find_rows.new.keeper) in
    let before = g.K.Keeper.told c.args.keeper.now in
    let now = g.K.Keeper.told c.find_rows.new.keeper in
    let tables = c.args.schema.now.tables in
    let columns = columns_at tables c.in-Some.place in
    let is : said c.in_ok-reply-in-Ok.reply ≡ page_reply columns c.in-Ok.rows.items =
    c.in_ok-reply-in-Ok.ensures.said ∙ ap (λ cs. page_reply cs c.deref.result.now) c.columns_of.ensures ∙ ap (page_reply columns) c.deref.ensures.value in
    subst (λ o. ShowsTable lost tables o c.args.after before (said c.in_ok-reply-in-Ok.reply) now) c.in-Some.ensures.place (
      shows lost c.in-Some.place c.args.after c.in-Ok.rows.items columns (said c.in_ok-reply-in-Ok.reply) is before now
          (rows_numbered c.args.schema.now c.in-Some.place c.in-Some.ensures.within before c.requires.sound) c.in-Ok.ensures.found,
      (c.in-Ok.rows.items, is),
    )

pub returns-in_err-reply-in-Ok-clause-visits : goal.returns-in_err-reply-in-Ok-clause-visits
returns-in_err-reply-in-Ok-clause-visits g c =
    let told = g.K.Keeper.told c.find_rows.new.keeper in
    let before = g.K.Keeper.visited c.args.keeper.now in
    let now = g.K.Keeper.visited c.find_rows.new.keeper in
    let sound = found_rows_sound c.args.schema.now c.in-Some.place c.args.after (SilenceCause (g.K.Keeper.marks c.args.keeper.now) (g.K.Keeper.marks c.find_rows.new.keeper)) c.in-Ok.rows.items (g.K.Keeper.told c.args.keeper.now) told c.requires.sound c.in-Ok.ensures.found in
    subst (λ o. VisitsTable o c.args.after told before now) c.in-Some.ensures.place
    (visits c.in-Some.place c.args.after before now told (rows_numbered c.args.schema.now c.in-Some.place c.in-Some.ensures.within told sound) c.find_rows.ensures.visits)

pub returns-in_ok-reply-in-Ok-clause-visits : goal.returns-in_ok-reply-in-Ok-clause-visits
returns-in_ok-reply-in-Ok-clause-visits g c =
    let told = g.K.Keeper.told c.find_rows.new.keeper in
    let before = g.K.Keeper.visited c.args.keeper.now in
    let now = g.K.Keeper.visited c.find_rows.new.keeper in
    let sound = found_rows_sound c.args.schema.now c.in-Some.place c.args.after (SilenceCause (g.K.Keeper.marks c.args.keeper.now) (g.K.Keeper.marks c.find_rows.new.keeper)) c.in-Ok.rows.items (g.K.Keeper.told c.args.keeper.now) told c.requires.sound c.in-Ok.ensures.found in
    subst (λ o. VisitsTable o c.args.after told before now) c.in-Some.ensures.place
    (visits c.in-Some.place c.args.after before now told (rows_numbered c.args.schema.now c.in-Some.place c.in-Some.ensures.within told sound) c.find_rows.ensures.visits)

pub returns-in-Err-clause-visits : goal.returns-in-Err-clause-visits
returns-in-Err-clause-visits g c =
    let told = g.K.Keeper.told c.find_rows.new.keeper in
    let before = g.K.Keeper.visited c.args.keeper.now in
    let now = g.K.Keeper.visited c.find_rows.new.keeper in
    let sound = sound_stays c.args.schema.now (SilenceCause (g.K.Keeper.marks c.args.keeper.now) (g.K.Keeper.marks c.find_rows.new.keeper)) (g.K.Keeper.told c.args.keeper.now) told c.requires.sound c.in-Err.ensures.err in
    subst (λ o. VisitsTable o c.args.after told before now) c.in-Some.ensures.place
    (visits c.in-Some.place c.args.after before now told (rows_numbered c.args.schema.now c.in-Some.place c.in-Some.ensures.within told sound) c.find_rows.ensures.visits)
