use Rattle.std.proofs.Common.{◌≡◌, ◌≤◌, [], inr, map, length, vec_len, string_bytes, sym, ap, ◌∙◌, refl, arith}
use Rattle.edit_io.specs.Handed.{handed_more}
use Rattle.edit_session.specs.Words.{order_in}
use Rattle.edit_session.proofs.Whole.{order_has_cap, told_usage, told_failed, told_memory, told_long, told_run, answered_run, begun_run, told_unread, answered_unread, begun_unread, alone_unread, not_alone, none_asked, never_long}
use Rattle.edit_session.proofs.session.run_session.Goals as goal

pub obey-requires-clause-cap : goal.obey-requires-clause-cap
obey-requires-clause-cap g c = order_has_cap (map string_bytes c.args.words.now) (order_in c.in-Some.order) ((c.in-Some.ensures.grammar (order_in c.in-Some.order)).0 refl)

pub obey-requires-in-Ok-clause-cap : goal.obey-requires-in-Ok-clause-cap
obey-requires-in-Ok-clause-cap g c = order_has_cap (map string_bytes c.args.words.now) (order_in c.in-Some.order) ((c.in-Some.ensures.grammar (order_in c.in-Some.order)).0 refl)

pub returns-then-not-reads_input-clause-told : goal.returns-then-not-reads_input-clause-told
returns-then-not-reads_input-clause-told g c =
    let unread = sym c.reads_input.ensures ∙ c.if-not-reads_input.true in
    told_unread _ (map string_bytes c.args.words.now) (order_in c.in-Some.order) _ _ _ _ _ _ (sym c.in-Some.ensures.computed) unread c.obey.ensures

pub returns-then-not-reads_input-clause-answered : goal.returns-then-not-reads_input-clause-answered
returns-then-not-reads_input-clause-answered g c =
    let unread = sym c.reads_input.ensures ∙ c.if-not-reads_input.true in
    let asked = (c.in-Some.ensures.grammar (order_in c.in-Some.order)).0 refl in
    answered_unread _ _ (map string_bytes c.args.words.now) (order_in c.in-Some.order) _ _ _ _ _ asked (sym c.in-Some.ensures.computed) unread c.obey.ensures

pub returns-in-None-clause-told : goal.returns-in-None-clause-told
returns-in-None-clause-told g c = told_usage _ (map string_bytes c.args.words.now) _ _ _ (sym c.in-None.ensures.computed)

pub returns-in-Ok-clause-told : goal.returns-in-Ok-clause-told
returns-in-Ok-clause-told g c =
    let bytes = c.deref.result.now in
    let is : bytes ≡ c.in-Ok.bytes.items = c.deref.ensures.value in
    let short : length bytes ≤ 8388608 = rw is (omega (arith, c.in-Ok.ensures.short, c.in-Ok.bytes.ok)) in
    told_run _ _ bytes (map string_bytes c.args.words.now) (order_in c.in-Some.order) _ _ _ _ _ _ _ (sym c.in-Some.ensures.computed) (rw is c.in-Ok.ensures.bytes) c.in-Ok.ensures.end short c.obey-in-Ok.ensures

pub returns-in-Ok-clause-answered : goal.returns-in-Ok-clause-answered
returns-in-Ok-clause-answered g c =
    let bytes = c.deref.result.now in
    let is : bytes ≡ c.in-Ok.bytes.items = c.deref.ensures.value in
    let short : length bytes ≤ 8388608 = rw is (omega (arith, c.in-Ok.ensures.short, c.in-Ok.bytes.ok)) in
    let asked = (c.in-Some.ensures.grammar (order_in c.in-Some.order)).0 refl in
    let size : vec_len c.in-Ok.bytes ≡ length c.in-Ok.bytes.items = omega (arith, c.in-Ok.bytes.ok) in
    answered_run _ _ _ _ bytes (map string_bytes c.args.words.now) (order_in c.in-Some.order) _ _ _ _ _ asked (sym c.in-Some.ensures.computed) (sym c.reads_input.ensures ∙ c.if-not-reads_input.false) (rw is c.in-Ok.ensures.bytes) c.in-Ok.ensures.end (rw is (c.in-Ok.ensures.amount ∙ ap (λ n. handed_more (g.I.Source.handed c.args.input.now) n) size)) short c.obey-in-Ok.ensures

pub returns-in-Err-Failed-clause-told : goal.returns-in-Err-Failed-clause-told
returns-in-Err-Failed-clause-told g c = told_failed _ (map string_bytes c.args.words.now) (order_in c.in-Some.order) _ _ _ _ (sym c.in-Some.ensures.computed) (c.in-Err-Failed.ensures.failed c.in-Err-Failed.field-0-is)

pub returns-in-Err-TooLong-clause-told : goal.returns-in-Err-TooLong-clause-told
returns-in-Err-TooLong-clause-told g c = told_long _ (map string_bytes c.args.words.now) (order_in c.in-Some.order) _ _ _ _ (sym c.in-Some.ensures.computed) (sym c.reads_input.ensures ∙ c.if-not-reads_input.false) (c.in-Err-TooLong.ensures.too_long c.in-Err-TooLong.field-0-is)

pub returns-in-Err-Memory-clause-told : goal.returns-in-Err-Memory-clause-told
returns-in-Err-Memory-clause-told g c = told_memory _ (map string_bytes c.args.words.now) (order_in c.in-Some.order) _ _ _ _ (sym c.in-Some.ensures.computed)

-- ---- an order that reads no input

pub returns-then-not-reads_input-clause-alone : goal.returns-then-not-reads_input-clause-alone
returns-then-not-reads_input-clause-alone g c = λ other asked unread. alone_unread (map string_bytes c.args.words.now) (order_in c.in-Some.order) _ _ _ _ _ (sym c.in-Some.ensures.computed) (sym c.reads_input.ensures ∙ c.if-not-reads_input.true) c.obey.ensures

pub returns-in-None-clause-alone : goal.returns-in-None-clause-alone
returns-in-None-clause-alone g c = λ other asked unread. none_asked (map string_bytes c.args.words.now) other (sym c.in-None.ensures.computed) asked

pub returns-in-Ok-clause-alone : goal.returns-in-Ok-clause-alone
returns-in-Ok-clause-alone g c = λ other asked unread. not_alone (map string_bytes c.args.words.now) (order_in c.in-Some.order) other (sym c.in-Some.ensures.computed) (sym c.reads_input.ensures ∙ c.if-not-reads_input.false) asked unread

pub returns-in-Err-Failed-clause-alone : goal.returns-in-Err-Failed-clause-alone
returns-in-Err-Failed-clause-alone g c = λ other asked unread. not_alone (map string_bytes c.args.words.now) (order_in c.in-Some.order) other (sym c.in-Some.ensures.computed) (sym c.reads_input.ensures ∙ c.if-not-reads_input.false) asked unread

pub returns-in-Err-TooLong-clause-alone : goal.returns-in-Err-TooLong-clause-alone
returns-in-Err-TooLong-clause-alone g c = λ other asked unread. not_alone (map string_bytes c.args.words.now) (order_in c.in-Some.order) other (sym c.in-Some.ensures.computed) (sym c.reads_input.ensures ∙ c.if-not-reads_input.false) asked unread

pub returns-in-Err-Memory-clause-alone : goal.returns-in-Err-Memory-clause-alone
returns-in-Err-Memory-clause-alone g c = λ other asked unread. not_alone (map string_bytes c.args.words.now) (order_in c.in-Some.order) other (sym c.in-Some.ensures.computed) (sym c.reads_input.ensures ∙ c.if-not-reads_input.false) asked unread

-- ---- what is cut off

pub returns-then-not-reads_input-clause-cut_off : goal.returns-then-not-reads_input-clause-cut_off
returns-then-not-reads_input-clause-cut_off g c = λ cut.
    let unread = sym c.reads_input.ensures ∙ c.if-not-reads_input.true in
    let asked = (c.in-Some.ensures.grammar (order_in c.in-Some.order)).0 refl in
    inr (begun_unread _ _ (map string_bytes c.args.words.now) (order_in c.in-Some.order) _ _ _ _ _ asked (sym c.in-Some.ensures.computed) unread c.obey.ensures)

pub returns-in-Ok-clause-cut_off : goal.returns-in-Ok-clause-cut_off
returns-in-Ok-clause-cut_off g c = λ cut.
    let bytes = c.deref.result.now in
    let is : bytes ≡ c.in-Ok.bytes.items = c.deref.ensures.value in
    let short : length bytes ≤ 8388608 = rw is (omega (arith, c.in-Ok.ensures.short, c.in-Ok.bytes.ok)) in
    let asked = (c.in-Some.ensures.grammar (order_in c.in-Some.order)).0 refl in
    let size : vec_len c.in-Ok.bytes ≡ length c.in-Ok.bytes.items = omega (arith, c.in-Ok.bytes.ok) in
    inr (begun_run _ _ _ _ bytes (map string_bytes c.args.words.now) (order_in c.in-Some.order) _ _ _ _ _ asked (sym c.in-Some.ensures.computed) (sym c.reads_input.ensures ∙ c.if-not-reads_input.false) (rw is c.in-Ok.ensures.bytes) c.in-Ok.ensures.end (rw is (c.in-Ok.ensures.amount ∙ ap (λ n. handed_more (g.I.Source.handed c.args.input.now) n) size)) short c.obey-in-Ok.ensures)

-- ---- what is too long

pub returns-then-not-reads_input-clause-too_long : goal.returns-then-not-reads_input-clause-too_long
returns-then-not-reads_input-clause-too_long g c = λ long. never_long (order_in c.in-Some.order) [] _ _ _ _ _ c.obey.ensures long

pub returns-in-Ok-clause-too_long : goal.returns-in-Ok-clause-too_long
returns-in-Ok-clause-too_long g c = λ long. never_long (order_in c.in-Some.order) c.deref.result.now _ _ _ _ _ c.obey-in-Ok.ensures long

pub returns-in-Err-TooLong-clause-too_long : goal.returns-in-Err-TooLong-clause-too_long
returns-in-Err-TooLong-clause-too_long g c = λ _. c.in-Err-TooLong.ensures.beyond c.in-Err-TooLong.field-0-is
