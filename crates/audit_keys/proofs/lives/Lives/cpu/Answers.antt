use Rattle.std.proofs.Common.{ℕ, refl, sym, ◌∙◌, append-nil}
use Rattle.std.proofs.lemmas.List.{length-map}
use Rattle.std.specs.List.{fold}
use Rattle.std.specs.Prelude.{take}
use Rattle.key_names.specs.Lanes.CpuList.{CpuState, cpu_start, cpu_step}
use Rattle.key_names.proofs.Lists.ListFacts.{image_at}
use Rattle.judge_log.proofs.Loops.{found}
use Rattle.judge_log.specs.declared.kept.KeptCpu.{KeptCpu}
use Rattle.audit_keys.specs.Fills.{CpuConforms}
use Rattle.audit_keys.specs.KeptEntries.{cpu_entries}
use Rattle.audit_keys.specs.Lives.{cpu_births_at, cpu_endings_at}
use Rattle.audit_keys.specs.Rests.{cpu_given_up_at}
use Rattle.audit_keys.proofs.Along.{listed_after, listed_more, listed_all}
use Rattle.audit_keys.proofs.Conforms.{conforms_more}
use Rattle.audit_keys.proofs.lives.Lives.cpu.Goals as goal

pub loop-place-init : goal.loop-place-init
loop-place-init c = λ base. record {
  births = sym (append-nil _);
  endings = sym (append-nil _);
  given_up = sym (append-nil _);
  conforms = record { place_is = refl; key = c.start-keys.ensures.key; fills = c.start-keys.ensures.fills };
}

pub loop-place-preserved : goal.loop-place-preserved
loop-place-preserved c = λ base.
    let es = cpu_entries c.args.lane.now in
    let place : ℕ = c.loop-place.place in
    let step = cpu_step base c.args.cpu in
    let s : CpuState = fold step cpu_start (take place es) in
    let h = c.loop-place.invariant base in
    let is = image_at (λ (k : KeptCpu). k.entry) c.args.lane.now place _
    (found c.args.lane.now c.args.lane.now place _ refl c.loop-place-test.true) in
    record {
      births = listed_more (cpu_births_at c.args.cpu) step cpu_start es place _ _ _ _ is h.births
          (c.cpu_gives_up.ensures.births ∙ c.in_ok-cpu_entry.ensures.births s h.conforms.place_is);
      endings = listed_more (cpu_endings_at c.args.cpu) step cpu_start es place _ _ _ _ is h.endings
          (c.cpu_gives_up.ensures.endings ∙ c.in_ok-cpu_entry.ensures.endings s h.conforms.place_is (sym h.conforms.key));
      given_up = listed_after (cpu_given_up_at c.args.cpu) step cpu_start es place _ _ _ _ _ is h.given_up
          c.cpu_entry.ensures.given_up (c.in_ok-cpu_gives_up.ensures.given_up s h.conforms);
      conforms = conforms_more step cpu_start CpuConforms es place _ c.step.new.self is (c.in_ok-step.ensures.after s base h.conforms);
    }

pub returns-clause-births : goal.returns-clause-births
returns-clause-births c = λ base.
    listed_all (cpu_births_at c.args.cpu) (cpu_step base c.args.cpu) cpu_start (cpu_entries c.args.lane.now)
    c.loop-place.place _ _ (rw length-map c.loop-place-test.false) (c.loop-place.invariant base).births

pub returns-clause-endings : goal.returns-clause-endings
returns-clause-endings c = λ base.
    listed_all (cpu_endings_at c.args.cpu) (cpu_step base c.args.cpu) cpu_start (cpu_entries c.args.lane.now)
    c.loop-place.place _ _ (rw length-map c.loop-place-test.false) (c.loop-place.invariant base).endings

pub returns-clause-given_up : goal.returns-clause-given_up
returns-clause-given_up c = λ base.
    listed_all (cpu_given_up_at c.args.cpu) (cpu_step base c.args.cpu) cpu_start (cpu_entries c.args.lane.now)
    c.loop-place.place _ _ (rw length-map c.loop-place-test.false) (c.loop-place.invariant base).given_up
