use Rattle.std.proofs.Common.{ℕ, refl, sym, ◌∙◌, append-nil}
use Rattle.std.proofs.lemmas.List.{length-map}
use Rattle.std.specs.List.{fold}
use Rattle.std.specs.Prelude.{take}
use Rattle.key_names.specs.Lanes.BaseList.{BaseState, base_start, base_step}
use Rattle.key_names.proofs.Lists.ListFacts.{image_at}
use Rattle.judge_log.proofs.Loops.{found}
use Rattle.judge_log.specs.declared.kept.KeptBase.{KeptBase}
use Rattle.audit_keys.specs.KeptEntries.{base_entries}
use Rattle.audit_keys.proofs.BaseKeys.{BaseConforms, base_after_entry}
use Rattle.audit_keys.specs.Lives.{base_births_at, base_endings_at}
use Rattle.audit_keys.proofs.Along.{listed_more, listed_all}
use Rattle.audit_keys.proofs.Conforms.{conforms_more}
use Rattle.audit_keys.proofs.lives.Lives.base.Goals as goal

pub loop-place-init : goal.loop-place-init
loop-place-init c = record {
  births = sym (append-nil _);
  endings = sym (append-nil _);
  given_up = refl;
  conforms = record { place_is = refl; key_is = refl };
}

pub loop-place-preserved : goal.loop-place-preserved
loop-place-preserved c =
    let es = base_entries c.args.base.now in
    let place : ℕ = c.loop-place.place in
    let s : BaseState = fold base_step base_start (take place es) in
    let h = c.loop-place.invariant in
    let is = image_at (λ (k : KeptBase). k.entry) c.args.base.now place _
    (found c.args.base.now c.args.base.now place _ refl c.loop-place-test.true) in
    record {
      births = listed_more base_births_at base_step base_start es place _ _ _ _ is h.births
          (c.in_ok-base_entry.ensures.births s h.conforms.place_is);
      endings = listed_more base_endings_at base_step base_start es place _ _ _ _ is h.endings
          (c.in_ok-base_entry.ensures.endings s h.conforms.place_is h.conforms.key_is);
      given_up = c.base_entry.ensures.given_up ∙ h.given_up;
      conforms = conforms_more base_step base_start BaseConforms es place _ c.key_after-key.result is
          (base_after_entry s _ place c.loop-place.key c.key_after-key.result h.conforms c.key_after-key.ensures);
    }

pub returns-clause-births : goal.returns-clause-births
returns-clause-births c =
    listed_all base_births_at base_step base_start (base_entries c.args.base.now) c.loop-place.place _ _
    (rw length-map c.loop-place-test.false) c.loop-place.invariant.births

pub returns-clause-endings : goal.returns-clause-endings
returns-clause-endings c =
    listed_all base_endings_at base_step base_start (base_entries c.args.base.now) c.loop-place.place _ _
    (rw length-map c.loop-place-test.false) c.loop-place.invariant.endings
