use Rattle.std.proofs.Common.{Some, ◌≡◌, ℕ, List, refl, sym, ap, subst, ◌∙◌, length, arith}
use Rattle.std.proofs.lemmas.List.{length-map}
use Rattle.judge_log.proofs.Loops.{found}
use Rattle.key_names.specs.Lanes.Book.{list_at}
use Rattle.audit_keys.specs.KeptEntries.{cpu_entries}
use Rattle.judge_log.specs.declared.kept.KeptCpu.{KeptCpu}
use Rattle.std.specs.Global.{Vec}
use Rattle.audit_keys.specs.Listed.{tells_of, joined, all_below, cpu_tells}
use Rattle.audit_keys.proofs.Below.{list_at_map}
use Rattle.audit_keys.proofs.Tells.{joined_nothing, joined_more}
use Rattle.audit_keys.proofs.listed.ListedKeys.cpus.Goals as goal

pub loop-index-init : goal.loop-index-init
loop-index-init c = λ lists cpus callers. sym (joined_nothing _)

pub loop-index-preserved : goal.loop-index-preserved
loop-index-preserved c = λ lists cpus callers.
    let index : ℕ = c.loop-index.index in
    let number : ℕ = c.in_ok-number.number in
    let same : number ≡ index = c.in_ok-number.ensures.number in
    let at = list_at_map (λ (lane : Vec KeptCpu). cpu_entries lane.items) c.args.cpus.now index c.index-cpus-index.result
    (found c.args.cpus.now c.args.cpus.now index c.index-cpus-index.result refl c.loop-index-test.true
    ∙ ap Some (sym c.index-cpus-index.is)) in
    joined_more (cpu_tells lists) index _ _ _ (c.loop-index.invariant lists cpus callers)
    (subst (λ n. tells_of c.cpu.new.self ≡ joined (tells_of c.loop-index.self) (cpu_tells lists n)) same
    (c.in_ok-cpu.ensures lists
    (ap (λ (ks : List KeptCpu). cpu_entries ks) c.deref.ensures.value ∙ sym at ∙ ap (λ xs. list_at xs index) cpus ∙ ap (λ n. list_at lists.cpus n) (sym same)) callers))

pub returns : goal.returns
returns c = λ lists cpus callers.
    let index : ℕ = c.loop-index.index in
    let all : index ≡ length lists.cpus =
    (let e = ap length cpus in
    let l = length-map c.args.cpus.now (λ (lane : Vec KeptCpu). cpu_entries lane.items) in
    omega (arith, e, l)) in
    c.loop-index.invariant lists cpus callers
    ∙ ap (λ n. joined (tells_of c.args.self.now) (all_below n (cpu_tells lists))) all
