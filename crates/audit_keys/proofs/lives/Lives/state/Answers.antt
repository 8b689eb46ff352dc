use Rattle.std.proofs.Common.{ℕ, refl, sym, append-nil}
use Rattle.std.specs.List.{fold}
use Rattle.std.specs.Prelude.{take}
use Rattle.key_names.specs.Lanes.StateList.{NamedState, state_start, state_step}
use Rattle.judge_log.proofs.Loops.{found}
use Rattle.audit_keys.specs.Lives.{state_births_at, state_endings_at}
use Rattle.audit_keys.specs.Rests.{BatchConforms, state_given_up_at}
use Rattle.audit_keys.proofs.Along.{listed_more, listed_all}
use Rattle.audit_keys.proofs.Conforms.{conforms_more}
use Rattle.audit_keys.proofs.lives.Lives.state.Goals as goal

pub loop-place-init : goal.loop-place-init
loop-place-init c = record {
  births = sym (append-nil _);
  endings = sym (append-nil _);
  given_up = sym (append-nil _);
  conforms = c.start-batch.ensures;
}

pub loop-place-preserved : goal.loop-place-preserved
loop-place-preserved c =
    let es = c.args.entries.now in
    let place : ℕ = c.loop-place.place in
    let of = c.args.of in
    let step = state_step of.caller of.state in
    let s : NamedState = fold step state_start (take place es) in
    let h = c.loop-place.invariant in
    let is = found es es place _ refl c.loop-place-test.true in
    record {
      births = listed_more (state_births_at of) step state_start es place _ _ _ _ is h.births
          (c.in_ok-state_entry.ensures.births s h.conforms);
      endings = listed_more (state_endings_at of) step state_start es place _ _ _ _ is h.endings
          (c.in_ok-state_entry.ensures.endings s h.conforms);
      given_up = listed_more (state_given_up_at of) step state_start es place _ _ _ _ is h.given_up
          (c.in_ok-state_entry.ensures.given_up s h.conforms);
      conforms = conforms_more step state_start BatchConforms es place _ c.step.new.self is
          (c.in_ok-step.ensures.after s place h.conforms);
    }

pub returns-clause-births : goal.returns-clause-births
returns-clause-births c =
    listed_all (state_births_at c.args.of) (state_step c.args.of.caller c.args.of.state) state_start c.args.entries.now
    c.loop-place.place _ _ c.loop-place-test.false c.loop-place.invariant.births

pub returns-clause-endings : goal.returns-clause-endings
returns-clause-endings c =
    listed_all (state_endings_at c.args.of) (state_step c.args.of.caller c.args.of.state) state_start c.args.entries.now
    c.loop-place.place _ _ c.loop-place-test.false c.loop-place.invariant.endings

pub returns-clause-given_up : goal.returns-clause-given_up
returns-clause-given_up c =
    listed_all (state_given_up_at c.args.of) (state_step c.args.of.caller c.args.of.state) state_start c.args.entries.now
    c.loop-place.place _ _ c.loop-place-test.false c.loop-place.invariant.given_up
