use Rattle.std.proofs.Common.{vec_capacity, ◌≤◌, ◌≡◌, ◌∷◌, ◌++◌, [], List, length, ℕ, take, drop, sym, subst, ap, ◌∙◌, arith, rules}
use Rattle.std.proofs.lemmas.List.{length-map, length-take, length-take-le}
use Rattle.rng_core.specs.declared.vdso.acts.Bound.{Bound}
use Rattle.rng_core.specs.Acts.{all_wanted, ask_of, asks_of, outcomes_of}
use Rattle.caller_run.specs.Calling.{StateRead}
use Rattle.key_names.specs.declared.events.Event.TheVariants.{Vread}
use Rattle.key_names.specs.declared.events.Word.TheVariants.{Vread as VreadWord}
use Rattle.key_names.specs.Transcripts.SeenLine.{SeenLine}
use Rattle.caller_run.specs.Waiting.{emitted_anew, act_lines}
use Rattle.caller_run.specs.Says.{most_shown, line_of}
use Rattle.caller_run.proofs.Planning.LogFills.{put_back, wanted_few}
use Rattle.caller_run.proofs.Events.VreadGoes.{HasRead, can_read, gone_read}
use Rattle.caller_run.proofs.making.caller.Caller.read_state.Goals as goal
use Rattle.caller_run.proofs.making.caller.Caller.read_state.Goals.{After-go_on}

pub all_wanted-requires : goal.all_wanted-requires
all_wanted-requires g c =
    let can = c.requires.can.goes in
    let few = wanted_few c.args.log.now.acts.items can.fresh in
    let same = ap (λ (bs : List Bound). all_wanted (asks_of bs)) c.deref.ensures.value in
    let many = can.few.0 in omega arith

pub tell_acts-requires-clause-short : goal.tell_acts-requires-clause-short
tell_acts-requires-clause-short g c =
    let can = c.requires.can.goes in
    let few = wanted_few c.args.log.now.acts.items can.fresh in
    let same = ap (λ (bs : List Bound). all_wanted (asks_of bs)) c.deref.ensures.value in
    let many = can.few.0 in
    let long : length c.vread-said.new.into.inside.now ≡ all_wanted (asks_of c.deref.result.now) = search rules in omega arith

-- a list of n items has at most n items after its items were lent out and came back
back_long : (back items : List Bound) (n : ℕ) → length (take n (back ++ drop (length back) items)) ≤ n
back_long back items n = omega (arith, length-take n (back ++ drop (length back) items))

pub tell_acts-requires-clause-step_room : goal.tell_acts-requires-clause-step_room
tell_acts-requires-clause-step_room g c =
    let acts = c.args.log.now.acts in let room = c.requires.can.goes.step_room in
    let long : length acts.items ≡ acts.len = search rules in
    let few = ap length c.deref-2.ensures.value in
    omega (arith, back_long c.vread-said.new.acts acts.items acts.len)

pub tell-requires-clause-step_room : goal.tell-requires-clause-step_room
tell-requires-clause-step_room g c =
    let acts = c.args.log.now.acts in let room = c.requires.can.goes.step_room in
    let long : length acts.items ≡ acts.len = search rules in
    let few = ap length c.deref-2.ensures.value in let left = c.tell_acts.ensures.step_room in
    omega (arith, back_long c.vread-said.new.acts acts.items acts.len)

pub tell-requires-clause-steps : goal.tell-requires-clause-steps
tell-requires-clause-steps g c = c.vread-said.ensures.read.steps_fit

-- at the event `c.args.event` the caller read out of its current state (`HasRead`)
has_read : (g : _) (c : After-go_on g) → HasRead c.args.shared.now.lanes.now c.args.event.now c.args.self.now
    c.vread-said.new.self c.go_on.new.self
    c.args.log.now.lines c.tell.new.lines c.args.log.now.acts.items c.clear-2.new.self.items
has_read g c =
    let acts = c.args.log.now.acts in let after = c.vread-said.new in let left = c.deref-2.result.now in
    let len = c.requires.is.0 in let flags = c.flags_of.result in let is = c.requires.is.2 in
    let low : c.most_shown.result ≤ length c.args.served.now =
    (let e = c.most_shown.ensures in let l = c.requires.can.goes.longest.0 in omega arith) in
    let shown : c.most_shown.result ≡ len = c.most_shown.ensures ∙ ap most_shown c.requires.is.2 in
    let n_is : length (take c.most_shown.result c.args.served.now) ≡ len =
    length-take-le c.most_shown.result c.args.served.now low ∙ shown in
    let left_is : left ≡ after.acts = c.deref-2.ensures.value
    ∙ put_back after.acts acts.items acts.len (search rules) in
    let asks_are : asks_of left ≡ asks_of acts.items =
    ap asks_of left_is ∙ c.vread-said.ensures.asks ∙ ap asks_of c.deref_mut.ensures.value in
    let long : length after.acts ≡ length acts.items = omega (
      arith,
      length-map after.acts ask_of,
      length-map acts.items ask_of,
      ap length c.vread-said.ensures.asks,
      ap (λ (bs : List Bound). length (asks_of bs)) c.deref_mut.ensures.value,
    ) in
    let zs = outcomes_of after.acts after.into.inside.now in
    let served : length after.into.served.now ≡ c.most_shown.result = search rules in
    let inside : length after.into.inside.now ≡ all_wanted (asks_of c.deref.result.now) = search rules in
    let same = ap (λ (bs : List Bound). all_wanted (asks_of bs)) c.deref.ensures.value in
    record {
      len = len;
      flags = flags;
      event_is = is ∙ ap (Vread len) (sym (c.flags_of.ensures len c.requires.is.1 is));
      said = c.vread-said.result;
      served = after.into.served.now;
      steps = after.trace;
      zs = zs;
      read = subst (λ (n : ℕ). StateRead c.args.shared.now.lanes.now n flags c.args.self.now after.self c.vread-said.result
          after.into.served.now after.trace (asks_of acts.items) zs) n_is
          (subst (λ (bs : List Bound). StateRead c.args.shared.now.lanes.now (length (take c.most_shown.result c.args.served.now))
          flags
          c.args.self.now after.self c.vread-said.result after.into.served.now after.trace (asks_of bs) zs)
          c.deref_mut.ensures.value
          c.vread-said.ensures.read);
      on = c.go_on.ensures;
      lines = c.tell.ensures.lines
          ∙ ap (λ (ls : List SeenLine). ls ++ line_of after.self.set VreadWord after.into.served.now c.vread-said.result
          after.trace ∷ [])
          (c.tell_acts.ensures.lines
          ∙ (λ i. emitted_anew c.args.log.now.lines.lines (asks_are i)
          (act_lines after.self.set (asks_are i) (outcomes_of (left_is i) after.into.inside.now))));
      line_room = c.tell.ensures.line_room ∙ c.tell_acts.ensures.line_room;
      step_room = (let a = c.tell.ensures.step_room in let few = c.tell.ensures.few_steps in
          let b = c.tell_acts.ensures.step_room in let many = ap length left_is in omega arith);
      byte_room = (let a = c.tell.ensures.byte_room in let b = c.tell_acts.ensures.byte_room in omega arith);
      none = c.clear-2.ensures.items;
    }

pub returns : goal.returns
returns g c = record {
  can = λ rest can. record {
    goes = can_read (has_read g c) can.goes;
    act_room = (let e : vec_capacity c.clear-2.new.self ≡ vec_capacity c.args.log.now.acts = search rules in
        let b = can.act_room in omega arith);
  };
  gone = gone_read (has_read g c);
}
