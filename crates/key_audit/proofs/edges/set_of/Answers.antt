use Rattle.std.proofs.Common.{sym, subst, arith, List}
use Rattle.std.specs.Prelude.{◌↔◌, IsTrue, Contains}
use Rattle.std.specs.BTreeMap.{is_at}
use Rattle.std.specs.List.{list_any}
use Rattle.std.proofs.lemmas.List.{take_all}
use Rattle.key_names.specs.declared.names.KeyName.{KeyName}
use Rattle.key_names.specs.contracts.names.KeyNameOrd.TheImpl.{ghosts as names}
use Rattle.key_audit.proofs.Passes.{listed, one_more}
use Rattle.key_audit.proofs.edges.set_of.Goals as goal

pub loop-key-preserved : goal.loop-key-preserved
loop-key-preserved c = λ q.
    one_more q c.args.keys.now c.loop-key.key-index _ c.loop-key.set c.insert.new.self c.loop-key-test.true
    c.in_ok-insert.ensures.updates (c.loop-key.invariant q)

pub returns : goal.returns
returns c q =
    subst (λ b. (IsTrue b → Contains c.args.keys.now q) × (Contains c.args.keys.now q → IsTrue b)) (sym (c.loop-key.invariant q))
    (subst (λ (keys : List KeyName). IsTrue (list_any (λ k. is_at (names.cmp k) q) keys) ↔ Contains c.args.keys.now q)
    (sym (take_all c.loop-key.key-index c.args.keys.now (omega arith))) (listed q c.args.keys.now))
