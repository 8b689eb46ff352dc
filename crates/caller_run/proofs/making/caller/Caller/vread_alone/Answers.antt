use Rattle.std.proofs.Common.{◌≡◌, [], rules, refl, ap, ◌∙◌, length, arith}
use Rattle.key_names.specs.Callers.Meaning.{CallerState, current_state, with_state}
use Rattle.rng_core.specs.Makes.{setting_of}
use Rattle.caller_run.specs.Calling.{caller_at}
use Rattle.caller_run.specs.declared.making.states.States.{States}
use Rattle.caller_run.proofs.Events.OwnSites.{own_hands}
use Rattle.caller_run.proofs.Events.StateReads.{lent_read, read_alone, current_is}
use Rattle.caller_run.proofs.making.caller.Caller.vread_alone.Goals as goal

pub returns : goal.returns
returns g c =
    let lent = c.deref_mut-states.result.now in let conform = c.requires.states in
    let same : lent ≡ c.args.self.now.states.value = c.deref_mut-states.ensures.value in
    let at : States → CallerState = caller_at (setting_of c.args.self.now.set) in
    let recorded = c.vread.ensures in let over = c.over-host.ensures in
    lent_read (search rules) (search rules) refl
    (read_alone (record {
      has = rw over.site at (own_hands recorded.loans.site recorded.has);
      set = refl;
      conforms = ap (λ (s : States). with_state (at s) c.vread.new.st) same;
      published = recorded.current;
      new = c.requires.new;
      current = current_is lent.all lent.current c.index-states-states.result
          (let m = conform.many in let l = conform.current in let n = ap (λ (s : States). length s.all) same in
          let k = ap (λ (s : States). s.current) same in omega arith)
          ∙ ap (λ (s : States). current_state (at s)) same;
      answers = c.read.ensures.answer;
      shows = c.read.ensures.shows c.vread.new.buf;
      bytes = c.read.ensures.bytes;
    }) [] refl (rw over.site at recorded.did))
