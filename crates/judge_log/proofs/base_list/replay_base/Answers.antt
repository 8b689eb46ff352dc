use Rattle.std.proofs.Common.{◌≡◌, ◌≤◌, ◌<◌, ◌+◌, ◌++◌, [], ◌∷◌, suc, Some, length, refl, sym, subst, ap, ◌∙◌, arith}
use Rattle.std.proofs.lemmas.Bool.{false≢true}
use Rattle.key_names.specs.declared.entries.BaseEntry.{BaseEntry}
use Rattle.key_names.specs.Lanes.BaseList.{root_of, roots_after}
use Rattle.base_gen.specs.BaseValue.{BaseValue}
use Rattle.judge_log.specs.BaseLane.{RootConformsIn}
use Rattle.judge_log.specs.Closed.{closed}
use Rattle.judge_log.specs.Tables.{tables_of}
use Rattle.judge_log.proofs.BaseSteps.{BaseMay, BaseKeeps, base_stops_at_root, base_stops, base_more, base_next, root_within}
use Rattle.judge_log.proofs.Filling.{closed_fills}
use Rattle.judge_log.proofs.Loops.{found, after_all}
use Rattle.judge_log.proofs.base_list.replay_base.Goals as goal
use Rattle.judge_log.proofs.base_list.replay_base.Goals.{in-Some-named, in_default-named}

pub returns-in_default-clause-none : goal.returns-in_default-clause-none
returns-in_default-clause-none c = λ all. absurd
    (base_stops_at_root (tables_of c.args.inferred.now) c.args.pool.now c.requires.pool c.loop-place.place _
    (found c.deref-one-items.result.now c.args.inferred.now.base.items c.loop-place.place _
    c.deref-one-items.ensures.value c.loop-place-test.true)
    c.loop-place.base c.loop-place.least c.loop-place.kept.items c.loop-place.invariant c.close-entry.result
    c.close-entry.ensures
    (λ conforms. c.in_default.ensures
    (subst (λ n. RootConformsIn c.args.pool.now c.loop-place.least c.loop-place.place n) (sym c.root_of-named.ensures)
    conforms)) all)

pub returns-then-not-fits-clause-none : goal.returns-then-not-fits-clause-none
returns-then-not-fits-clause-none c = λ all. absurd
    (base_stops (tables_of c.args.inferred.now) c.args.pool.now c.requires.pool c.loop-place.place _
    (found c.deref-one-items.result.now c.args.inferred.now.base.items c.loop-place.place _
    c.deref-one-items.ensures.value c.loop-place-test.true)
    c.loop-place.base c.loop-place.least c.loop-place.kept.items c.loop-place.invariant c.close-entry.result
    c.close-entry.ensures (λ fits. absurd (false≢true (c.if-not-fits.ensures.1 fits))) all)

pub overflow_add-least : goal.overflow_add-least
overflow_add-least c =
    let conforms : RootConformsIn c.args.pool.now c.loop-place.least c.loop-place.place (Some c.in-Some-named.named) =
    subst (λ n. RootConformsIn c.args.pool.now c.loop-place.least c.loop-place.place n) c.in-Some-named.is
    c.in-Some.ensures.0 in
    let within : c.in-Some-named.named < length c.args.pool.now =
    root_within c.args.pool.now c.loop-place.least c.loop-place.place c.in-Some-named.named conforms in
    omega arith

pub loop-place-preserved : goal.loop-place-preserved
loop-place-preserved c =
    let entry : BaseEntry = c.close-entry.result in
    let more = base_more (tables_of c.args.inferred.now) c.args.pool.now c.requires.pool c.loop-place.place _
    (found c.deref-one-items.result.now c.args.inferred.now.base.items c.loop-place.place _
    c.deref-one-items.ensures.value c.loop-place-test.true)
    c.loop-place.base c.loop-place.least c.loop-place.kept.items c.loop-place.invariant entry c.close-entry.ensures
    c.in-Some.root
    (subst (λ n. RootConformsIn c.args.pool.now c.loop-place.least c.loop-place.place n) c.root_of-named.ensures
    c.in-Some.ensures.0)
    (λ r is. c.in-Some.ensures.1 r (c.root_of-named.ensures ∙ is))
    (c.if-not-fits.ensures.0 refl) c.enter-key.result c.enter-key.ensures.key in
    let least : c.match-named.least ≡ roots_after (root_of entry) c.loop-place.least =
    elim c.match-named.branch [
      | in-Some-named w ↦ (let one : w.in-Some-named.named + 1 ≡ suc w.in-Some-named.named = omega arith in
          w.least-is ∙ one
          ∙ sym (ap (λ o. roots_after o c.loop-place.least) (sym c.root_of-named.ensures ∙ w.in-Some-named.is)))
      | in_default-named w ↦ w.least-is
          ∙ sym (ap (λ o. roots_after o c.loop-place.least) (sym c.root_of-named.ensures ∙ w.in_default-named.is))
    ] in
    base_next (closed (tables_of c.args.inferred.now)) (c.loop-place.place + 1) _ _ _ c.enter-key.new.base
    c.match-named.least c.push.new.self.items more c.enter-key.ensures.state least
    (c.in_ok-push.ensures.items
    ∙ ap (λ g. c.loop-place.kept.items ++ record { entry = entry; generation = g; key = c.enter-key.result } ∷ [])
    (c.generation.ensures ∙ ap (λ (b : BaseValue). b.generation) c.enter-key.ensures.state))

pub returns-clause-some : goal.returns-clause-some
returns-clause-some c =
    let counts : length (closed (tables_of c.args.inferred.now)).base ≡ length c.args.inferred.now.base.items =
    (closed_fills (tables_of c.args.inferred.now)).base_count in
    let same : length c.deref-one-items.result.now ≡ length c.args.inferred.now.base.items =
    ap length c.deref-one-items.ensures.value in
    let up : c.loop-place.place ≤ length c.deref-one-items.result.now = c.loop-place.auto.place-end in
    let down : length c.deref-one-items.result.now ≤ c.loop-place.place = c.loop-place-test.false in
    after_all (BaseMay (closed (tables_of c.args.inferred.now))) (BaseKeeps (closed (tables_of c.args.inferred.now)))
    (closed (tables_of c.args.inferred.now)).base c.loop-place.place c.loop-place.kept.items (omega arith)
    c.loop-place.invariant.following
