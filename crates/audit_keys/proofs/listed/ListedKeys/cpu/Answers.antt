use Rattle.std.proofs.Common.{ℕ, ap, ◌∙◌, ◌++◌, arith}
use Rattle.std.specs.List.{list_any}
use Rattle.std.proofs.lemmas.List.{length-map}
use Rattle.key_names.specs.Lanes.CpuList.{cpu_start, cpu_step, cpu_after}
use Rattle.key_names.specs.Keys.Uses.{is_rekeyed}
use Rattle.audit_keys.specs.Fills.{rekeys_of}
use Rattle.audit_keys.specs.KeptEntries.{cpu_entries}
use Rattle.audit_keys.specs.ListedFrom.{listed_from}
use Rattle.audit_keys.specs.UsedAt.{cpu_used_at}
use Rattle.judge_log.specs.declared.kept.KeptCpu.{KeptCpu}
use Rattle.audit_keys.specs.declared.held.KeyHolder.TheVariants.{Cpu}
use Rattle.audit_keys.specs.Held.{held_key, held_fills}
use Rattle.audit_keys.specs.Lives.{cpu_births_at, cpu_endings_at}
use Rattle.audit_keys.specs.Rests.{cpu_given_up_at}
use Rattle.audit_keys.specs.Listed.{tells_of, joined, cpu_tells}
use Rattle.audit_keys.proofs.Marks.{takes_read_is, same_used, lists_take}
use Rattle.audit_keys.proofs.Tells.{tells_same}
use Rattle.audit_keys.proofs.listed.ListedKeys.cpu.Goals as goal

pub returns : goal.returns
returns c = λ lists e callers.
    let old = tells_of c.args.self.now in
    let cpu : ℕ = c.args.cpu in
    let step = cpu_step lists.base cpu in
    let es = cpu_entries c.args.lane.now in
    let rekeyed = rekeys_of c.deref.result.now in
    tells_same _ (joined old (cpu_tells lists cpu)) (record {
      births = c.in_ok-cpu.ensures.births lists.base
          ∙ ap (λ es. old.births ++ listed_from (cpu_births_at cpu) step cpu_start es) e;
      endings = c.in_ok-cpu.ensures.endings lists.base
          ∙ ap (λ es. old.endings ++ listed_from (cpu_endings_at cpu) step cpu_start es) e;
      given_up = c.in_ok-cpu.ensures.given_up lists.base
          ∙ ap (λ es. old.given_up ++ listed_from (cpu_given_up_at cpu) step cpu_start es) e;
      keys = c.in_ok-add_cpu.ensures.keys lists.base
          ∙ ap (λ es. old.keys ++ held_key (Cpu cpu) (cpu_after lists.base cpu es).key) e;
      rests = c.in_ok-add_cpu.ensures.rests lists.base
          ∙ ap (λ es. old.rests ++ held_fills cpu (cpu_after lists.base cpu es).fills) e;
      uses = c.in_ok-extend_from_slice.ensures.items
          ∙ ap (λ us. old.uses ++ us) (c.deref-2.ensures.value
          ∙ c.in_ok-cpu_uses.ensures lists.base
          ∙ same_used lists.base cpu rekeyed (is_rekeyed lists cpu) cpu_start es
          (λ k low high. ap (λ bs. rekeys_of bs k) c.deref.ensures.value
          ∙ c.in_ok-rekeyed.ensures k
          (let len = length-map c.args.lane.now (λ (k : KeptCpu). k.entry) in omega (arith, len, high))
          ∙ takes_read_is cpu c.args.callers.now k
          ∙ ap (λ ess. list_any (λ ls. lists_take cpu k ls) ess) callers)
          ∙ ap (listed_from (cpu_used_at cpu (is_rekeyed lists cpu)) step cpu_start) e);
    })
