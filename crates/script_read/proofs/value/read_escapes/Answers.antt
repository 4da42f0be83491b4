use Rattle.std.proofs.Common.{Some, chars, ap, sym, ◌∙◌}
use Rattle.std.specs.Str.Iter.{chars_rest}
use Rattle.std.proofs.lemmas.List.{nil_from_length}
use Rattle.std.proofs.lemmas.Str.{chars-nil, chars_past_char, IsUtf8-past_char}
use Rattle.script_read.proofs.Values.{Follows-more, Follows-bad, Follows-end, Follows-open, still_open}
use Rattle.script_read.proofs.value.read_escapes.Goals as goal

pub returns-in_default : goal.returns-in_default
returns-in_default c =
    let before = c.loop-c.invariant in
    Follows-bad c.args.printed c.loop-c.value.items c.loop-c.state c.in-Some.c (chars (chars_rest c.next.new.self)) (chars (chars_rest c.loop-c.c-iterator)) _
    (chars_past_char _ _ _ before.1 c.in-Some.ensures.steps.0) c.in_default.ensures.step before.2

pub loop-c-preserved : goal.loop-c-preserved
loop-c-preserved c =
    let spelled = c.in-Some.ensures.steps.0 in
    let before = c.loop-c.invariant in (
      c.in-Some-step.ensures.fits,
      IsUtf8-past_char _ _ _ before.1 spelled,
      rw c.in_ok-push_read.ensures
          (Follows-more c.args.printed c.loop-c.value.items c.loop-c.state c.in-Some.c (chars (chars_rest c.next.new.self)) (chars (chars_rest c.loop-c.c-iterator)) _ (c.in-Some-step.next, c.in-Some-step.read)
          (chars_past_char _ _ _ before.1 spelled) c.in-Some-step.ensures.step before.2),
    )

pub returns-in_ok-from_vec-in-Outside : goal.returns-in_ok-from_vec-in-Outside
returns-in_ok-from_vec-in-Outside c =
    let none = ap chars (nil_from_length _ c.in-None.ensures.steps.0.0) ∙ chars-nil in
    Follows-end c.args.printed c.loop-c.value.items c.loop-c.state (chars (chars_rest c.loop-c.c-iterator)) _ none c.in-Outside.is c.loop-c.invariant.2
    ∙ ap Some (sym c.in_ok-from_vec-in-Outside.ensures)

pub returns-in_default-state : goal.returns-in_default-state
returns-in_default-state c =
    let none = ap chars (nil_from_length _ c.in-None.ensures.steps.0.0) ∙ chars-nil in
    Follows-open c.args.printed c.loop-c.value.items c.loop-c.state (chars (chars_rest c.loop-c.c-iterator)) _ none (still_open c.loop-c.state c.in_default-state.not-Outside) c.loop-c.invariant.2
