use Rattle.std.proofs.Common.{Some, ◌≡◌, ℕ, List, refl, sym, ap, subst, ◌∙◌, ◌++◌, append-nil, length, arith}
use Rattle.std.proofs.lemmas.List.{length-map}
use Rattle.judge_log.proofs.Loops.{found}
use Rattle.key_names.specs.Lanes.Book.{Lists, cpu_list, list_at}
use Rattle.key_names.specs.Lanes.CpuList.{cpu_after}
use Rattle.audit_keys.specs.KeptEntries.{cpu_entries}
use Rattle.judge_log.specs.declared.kept.KeptCpu.{KeptCpu}
use Rattle.std.specs.Global.{Vec}
use Rattle.audit_keys.specs.declared.held.KeyHolder.TheVariants.{Cpu}
use Rattle.audit_keys.specs.Held.{held_key, held_fills}
use Rattle.audit_keys.specs.Listed.{cpu_lists, cpu_tells, listed_below}
use Rattle.audit_keys.proofs.Below.{added_more, list_at_map}
use Rattle.audit_keys.proofs.held_book.add_cpus.Goals as goal

pub loop-index-init : goal.loop-index-init
loop-index-init c = record { keys = λ lists cpus. sym (append-nil _); rests = λ lists cpus. sym (append-nil _) }

pub loop-index-preserved : goal.loop-index-preserved
loop-index-preserved c =
    let index : ℕ = c.loop-index.index in
    let number : ℕ = c.in_ok-number.number in
    let same : number ≡ index = c.in_ok-number.ensures.number in
    let lane : List KeptCpu = c.index-cpus-index.result.items in
    let at = list_at_map (λ (lane : Vec KeptCpu). cpu_entries lane.items) c.args.cpus.now index c.index-cpus-index.result
    (found c.args.cpus.now c.args.cpus.now index c.index-cpus-index.result refl c.loop-index-test.true
    ∙ ap Some (sym c.index-cpus-index.is)) in
    let entries : (lists : Lists) → cpu_lists c.args.cpus.now ≡ lists.cpus →
    cpu_entries c.deref.result.now ≡ cpu_list lists number = (λ lists cpus.
    ap (λ (ks : List KeptCpu). cpu_entries ks) c.deref.ensures.value ∙ sym at ∙ ap (λ xs. list_at xs index) cpus
    ∙ ap (λ n. list_at lists.cpus n) (sym same)) in
    record {
      keys = λ lists cpus. added_more (λ n. (cpu_tells lists n).keys) index _ _ _ (c.loop-index.invariant.keys lists cpus)
          (subst (λ n. c.add_cpu.new.self.keys.items ≡ c.loop-index.held.keys.items ++ (cpu_tells lists n).keys) same
          (c.in_ok-add_cpu.ensures.keys lists.base
          ∙ ap (λ es. c.loop-index.held.keys.items ++ held_key (Cpu number) (cpu_after lists.base number es).key)
          (entries lists cpus)));
      rests = λ lists cpus. added_more (λ n. (cpu_tells lists n).rests) index _ _ _ (c.loop-index.invariant.rests lists cpus)
          (subst (λ n. c.add_cpu.new.self.rests.items ≡ c.loop-index.held.rests.items ++ (cpu_tells lists n).rests) same
          (c.in_ok-add_cpu.ensures.rests lists.base
          ∙ ap (λ es. c.loop-index.held.rests.items ++ held_fills number (cpu_after lists.base number es).fills)
          (entries lists cpus)));
    }

all_cpus : (cpus : List (Vec KeptCpu)) (lists : Lists) (index : ℕ) → cpu_lists cpus ≡ lists.cpus →
    index ≡ length cpus → index ≡ length lists.cpus
all_cpus cpus lists index is all =
    let e = ap length is in
    let l = length-map cpus (λ (lane : Vec KeptCpu). cpu_entries lane.items) in
    omega (arith, e, l, all)

pub returns-clause-keys : goal.returns-clause-keys
returns-clause-keys c = λ lists cpus.
    c.loop-index.invariant.keys lists cpus
    ∙ ap (λ n. c.args.held.now.keys.items ++ listed_below n (λ i. (cpu_tells lists i).keys))
    (all_cpus c.args.cpus.now lists c.loop-index.index cpus (omega arith))

pub returns-clause-rests : goal.returns-clause-rests
returns-clause-rests c = λ lists cpus.
    c.loop-index.invariant.rests lists cpus
    ∙ ap (λ n. c.args.held.now.rests.items ++ listed_below n (λ i. (cpu_tells lists i).rests))
    (all_cpus c.args.cpus.now lists c.loop-index.index cpus (omega arith))
