use Rattle.std.proofs.Common.{Some, ◌≡◌, ℕ, List, refl, sym, ap, subst, ◌∙◌, ◌++◌, append-nil, length, arith}
use Rattle.std.specs.Prelude.{map}
use Rattle.std.proofs.lemmas.List.{length-map}
use Rattle.judge_log.proofs.Loops.{found}
use Rattle.key_names.specs.Lanes.Book.{Lists, list_at}
use Rattle.key_names.specs.declared.entries.VEntry.{VEntry}
use Rattle.std.specs.Global.{Vec}
use Rattle.audit_keys.specs.Listed.{caller_lists, caller_tells, listed_below}
use Rattle.audit_keys.proofs.Below.{added_more, list_at_map}
use Rattle.audit_keys.proofs.held_book.add_callers.Goals as goal

abbrev lists_of_states : List (Vec VEntry) → List (List VEntry)
lists_of_states states = map (λ (es : Vec VEntry). es.items) states

pub loop-index-init : goal.loop-index-init
loop-index-init c = record { keys = λ lists callers. sym (append-nil _); rests = λ lists callers. sym (append-nil _) }

pub loop-index-preserved : goal.loop-index-preserved
loop-index-preserved c =
    let index : ℕ = c.loop-index.index in
    let number : ℕ = c.in_ok-number.number in
    let same : number ≡ index = c.in_ok-number.ensures.number in
    let at = list_at_map (λ (states : Vec (Vec VEntry)). lists_of_states states.items)
    c.args.callers.now index c.index-callers-index.result
    (found c.args.callers.now c.args.callers.now index c.index-callers-index.result refl c.loop-index-test.true
    ∙ ap Some (sym c.index-callers-index.is)) in
    let entries : (lists : Lists) → caller_lists c.args.callers.now ≡ lists.callers →
    lists_of_states c.deref.result.now ≡ list_at lists.callers number = (λ lists callers.
    ap lists_of_states c.deref.ensures.value ∙ sym at ∙ ap (λ xs. list_at xs index) callers
    ∙ ap (λ n. list_at lists.callers n) (sym same)) in
    record {
      keys = λ lists callers. added_more (λ n. (caller_tells lists n).keys) index _ _ _
          (c.loop-index.invariant.keys lists callers)
          (subst (λ n. c.add_states.new.held.keys.items ≡ c.loop-index.held.keys.items ++ (caller_tells lists n).keys) same
          (c.in_ok-add_states.ensures.keys lists (entries lists callers)));
      rests = λ lists callers. added_more (λ n. (caller_tells lists n).rests) index _ _ _
          (c.loop-index.invariant.rests lists callers)
          (subst (λ n. c.add_states.new.held.rests.items ≡ c.loop-index.held.rests.items ++ (caller_tells lists n).rests) same
          (c.in_ok-add_states.ensures.rests lists (entries lists callers)));
    }

all_callers : (callers : List (Vec (Vec VEntry))) (lists : Lists) (index : ℕ) → caller_lists callers ≡ lists.callers →
    index ≡ length callers → index ≡ length lists.callers
all_callers callers lists index is all =
    let e = ap length is in
    let l = length-map callers (λ (states : Vec (Vec VEntry)). lists_of_states states.items) in
    omega (arith, e, l, all)

pub returns-clause-keys : goal.returns-clause-keys
returns-clause-keys c = λ lists callers.
    c.loop-index.invariant.keys lists callers
    ∙ ap (λ n. c.args.held.now.keys.items ++ listed_below n (λ i. (caller_tells lists i).keys))
    (all_callers c.args.callers.now lists c.loop-index.index callers (omega arith))

pub returns-clause-rests : goal.returns-clause-rests
returns-clause-rests c = λ lists callers.
    c.loop-index.invariant.rests lists callers
    ∙ ap (λ n. c.args.held.now.rests.items ++ listed_below n (λ i. (caller_tells lists i).rests))
    (all_callers c.args.callers.now lists c.loop-index.index callers (omega arith))
