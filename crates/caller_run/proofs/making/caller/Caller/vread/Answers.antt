use Rattle.std.proofs.Common.{◌≡◌, [], rules, refl, length, ◌<◌, ◌∙◌, sym, subst, ap, arith}
use Rattle.std.proofs.lemmas.Bool.{eqb-true}
use Rattle.key_names.specs.Callers.Meaning.{CallerState, current_state, with_state}
use Rattle.lane_table.specs.Calls.{view}
use Rattle.rng_core.specs.Makes.{setting_of}
use Rattle.rng_core.specs.Acts.{all_wanted, asks_of, outcomes_of}
use Rattle.rng_core.proofs.Hosting.{none_left}
use Rattle.caller_run.specs.Calling.{StateRead, caller_at}
use Rattle.caller_run.specs.declared.making.states.States.{States}
use Rattle.caller_run.proofs.Events.OwnSites.{own_hands}
use Rattle.caller_run.proofs.Events.StateReads.{lent_read, read_inside, current_is}
use Rattle.caller_run.proofs.making.caller.Caller.vread.Goals as goal

pub returns-then-is_empty : goal.returns-then-is_empty
returns-then-is_empty g c =
    let acts = c.args.acts.now in
    let none : acts ≡ [] = none_left acts (eqb-true (length acts) 0 (sym c.is_empty.ensures ∙ c.if-is_empty.true)) in
    record {
      served = refl;
      inside = refl;
      long = search rules;
      fits = c.requires.can.fits;
      asks = refl;
      read = subst (λ bs. StateRead c.args.lanes.now (length c.args.into.now.served.now) c.args.into.now.flags c.args.self.now
          c.vread_alone.new.self c.vread_alone.result c.vread_alone.new.served c.vread_alone.new.trace (asks_of bs)
          (outcomes_of bs c.args.into.now.inside.now)) (sym none) c.vread_alone.ensures;
    }

pub returns : goal.returns
returns g c =
    let lent = c.deref_mut-states.result.now in let conform = c.requires.can.states in let acts = c.args.acts.now in
    let same : lent ≡ c.args.self.now.states.value = c.deref_mut-states.ensures.value in
    let at : States → CallerState = caller_at (setting_of c.args.self.now.set) in
    let recorded = c.vread_inside.ensures in let over = c.over-host.ensures in let next = c.vread_inside.new.host in
    let two : 1 < length (view c.args.self.now.pass).lanes =
    (let s = c.requires.can.ready.has.pass.sized in let f = c.args.lanes.now.few in omega arith) in
    let asks : asks_of next.acts.now ≡ asks_of acts = recorded.asks ∙ ap asks_of over.acts.1 in
    record {
      served = refl;
      inside = refl;
      long = search rules;
      fits = ap length (search rules) ∙ next.fits ∙ ap all_wanted asks;
      asks = ap asks_of (search rules) ∙ asks;
      read = lent_read (search rules) (search rules) (search rules)
          (read_inside (record {
            has = rw over.site at (own_hands recorded.loans.site recorded.has);
            set = refl;
            conforms = ap (λ (s : States). with_state (at s) c.vread_inside.new.st) same;
            published = recorded.current;
            new = c.requires.new;
            current = current_is lent.all lent.current c.index-states-states.result
                (let m = conform.many in let l = conform.current in let n = ap (λ (s : States). length s.all) same in
                let k = ap (λ (s : States). s.current) same in omega arith)
                ∙ ap (λ (s : States). current_state (at s)) same;
            answers = c.read.ensures.answer;
            shows = c.read.ensures.shows c.vread_inside.new.buf;
            bytes = c.read.ensures.bytes;
          }) acts next.acts.now c.args.into.now.inside.now next.out.now c.requires.can.fresh two asks
          (rw over.acts.1 at (rw over.site at recorded.did))
          (rw over.new.before at (rw over.out.1 at (rw over.acts.1 at (rw over.site at recorded.ran)))));
    }
